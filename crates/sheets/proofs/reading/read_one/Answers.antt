use Rattle.std.proofs.Common.{length, sym, ap, ◌∙◌}
use Rattle.fields.specs.Fields.{found}
use Rattle.records.specs.Sheets.{part_says, stage_after, names_after}
use Rattle.records.specs.Meanings.{said, held_names}
use Rattle.jobs.specs.Stands.{stands, places}
use Rattle.sheets.specs.Notes.{parts_of}
use Rattle.sheets.proofs.Onward.{begun_none, part_step}
use Rattle.sheets.proofs.reading.read_one.Goals as goal

pub returns-in-Part-clause-is : goal.returns-in-Part-clause-is
returns-in-Part-clause-is g c =
    let reader = c.args.reader.now in
    let part = c.in-Part.part in
    let read = c.in_ok-placed.ensures in
    let figures = c.into.result in
    let (mass, wait, price) = c.into.ensures in
    let as_read = read.0 ∙ ap (λ r. found (said r) c.next.new.self.at) c.in-Part.is in
    let by_mass = as_read ∙ ap (λ m. found (part_says part.name.now m part.wait part.price) c.next.new.self.at) (sym mass) in
    let by_wait = by_mass ∙ ap (λ w. found (part_says part.name.now figures.mass w part.price) c.next.new.self.at) (sym wait) in
    let is = by_wait ∙ ap (λ p. found (part_says part.name.now figures.mass figures.wait p) c.next.new.self.at) (sym price) in
    let stage = read.5 ∙ ap (λ r. stage_after reader.stage (said r)) c.in-Part.is in
    let names = read.6 ∙ ap (λ r. names_after (held_names reader) (said r)) c.in-Part.is in
    let none = begun_none (stands c.args.job.now) (length c.figures.result.now) c.begin.new.self.parts (stands c.begin.new.self).limits c.figures.ensures.few c.begin.ensures.stands in
    part_step (places c.args.job.now) reader.sheet.now reader.at c.next.new.self.at reader.stage c.next.new.self.stage (held_names reader) (held_names c.next.new.self) (parts_of c.args.notes.now) (parts_of c.push.new.self) (stands c.args.job.now).limits (stands c.begin.new.self).limits c.args.notes.now.goal c.push.new.self.goal part.name.now figures.mass figures.wait figures.price is stage names c.push.ensures.parts none c.push.ensures.goal c.requires.none
