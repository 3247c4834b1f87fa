use Rattle.std.proofs.Common.{suc, ◌<◌, ◌≤◌, length, sym, refl, ap, ◌∙◌, subst, arith}
use Rattle.jobs.specs.Calls.{Standing}
use Rattle.jobs.specs.Stands.{places}
use Rattle.sheets.specs.Told.{read_all, untold, goes_on, ended, broken}
use Rattle.sheets.specs.Faults.{number_of, layer_of, place_of}
use Rattle.sheets.specs.Notes.{told_of}
use Rattle.sheets.proofs.Rounds.{rest_start, rest_more, rest_ended, rest_broken, step_as}
use Rattle.sheets.proofs.reading.read_all.Goals as goal

pub loop-record-init : goal.loop-record-init
loop-record-init g c = (
  rest_start (places c.args.job.now) c.args.reader.now.sheet.now (told_of c.args.reader.now c.args.job.now c.args.notes.now) c.args.reader.now.at
      c.requires.start c.requires.stage c.requires.names c.requires.notes.0 (ap (λ (x : Standing). x.limits) c.requires.stands) c.requires.notes.1,
  refl,
  refl,
  omega arith,
  ap length c.requires.names ∙ sym (ap length c.requires.notes.0),
  ap (λ (x : Standing). x.parts) c.requires.stands ∙ sym (ap length c.requires.notes.0),
  λ _. ap (λ (x : Standing). length x.limits) c.requires.stands,
)

pub loop-record-preserved : goal.loop-record-preserved
loop-record-preserved g c =
    let sheet = c.args.reader.now.sheet.now in
    let total = read_all (suc (length sheet)) (places c.args.job.now) sheet 0 untold 0 in
    let was = told_of c.loop-record.reader c.loop-record.job c.loop-record.notes in
    let is = told_of c.read_one.new.reader c.read_one.new.job c.read_one.new.notes in
    let (rest, same_places, same_sheet, low, _, _, _) = c.loop-record.invariant in
    let given = c.in-Ok-GoesOn.ensures in
    let step = rw c.in-Ok-GoesOn.field-0-is at given.is in
    let less : c.loop-record.reader.at < c.read_one.new.reader.at = given.goes c.in-Ok-GoesOn.field-0-is in
    let same = given.sheet ∙ same_sheet in (
      rest_more (places c.args.job.now) sheet c.loop-record.record was c.loop-record.reader.at total is c.read_one.new.reader.at
          (step_as (places c.loop-record.job) (places c.args.job.now) c.loop-record.reader.sheet.now sheet was c.loop-record.reader.at (goes_on is c.read_one.new.reader.at) same_places same_sheet step) less
          (subst (λ x. c.read_one.new.reader.at ≤ length x) same c.read_one.new.reader.ok) rest,
      given.places ∙ same_places,
      same,
      omega (arith, low, less),
      given.names,
      given.parts,
      given.none,
    )

pub returns-in-Ok-Ended-clause-is : goal.returns-in-Ok-Ended-clause-is
returns-in-Ok-Ended-clause-is g c =
    let sheet = c.args.reader.now.sheet.now in
    let total = read_all (suc (length sheet)) (places c.args.job.now) sheet 0 untold 0 in
    let was = told_of c.loop-record.reader c.loop-record.job c.loop-record.notes in
    let is = told_of c.read_one.new.reader c.read_one.new.job c.read_one.new.notes in
    let (rest, same_places, same_sheet, _, _, _, _) = c.loop-record.invariant in
    let step = rw c.in-Ok-Ended.field-0-is at c.in-Ok-Ended.ensures.is in
    rest_ended (places c.args.job.now) sheet c.loop-record.record was c.loop-record.reader.at total is
    (step_as (places c.loop-record.job) (places c.args.job.now) c.loop-record.reader.sheet.now sheet was c.loop-record.reader.at (ended is) same_places same_sheet step) rest

pub returns-in-Err-clause-is : goal.returns-in-Err-clause-is
returns-in-Err-clause-is g c =
    let sheet = c.args.reader.now.sheet.now in
    let total = read_all (suc (length sheet)) (places c.args.job.now) sheet 0 untold 0 in
    let was = told_of c.loop-record.reader c.loop-record.job c.loop-record.notes in
    let fault = c.in-Err.fault in
    let (rest, same_places, same_sheet, _, _, _, _) = c.loop-record.invariant in
    rest_broken (places c.args.job.now) sheet c.loop-record.record was c.loop-record.reader.at total (number_of fault) (layer_of fault) (place_of fault)
    (step_as (places c.loop-record.job) (places c.args.job.now) c.loop-record.reader.sheet.now sheet was c.loop-record.reader.at (broken (number_of fault) (layer_of fault) (place_of fault)) same_places same_sheet c.in-Err.ensures.is) rest
