use Rattle.std.proofs.Common.{◌≡◌, suc, ◌-◌, ◌≤◌, length}
use Rattle.records.specs.Meanings.{held_names}
use Rattle.jobs.specs.Stands.{stands, places}
use Rattle.sheets.specs.Told.{read_all, untold}
use Rattle.sheets.specs.Notes.{parts_of, told_of, NoneYet}
use Rattle.sheets.proofs.Rounds.{Rest}
use Rattle.sheets.proofs.reading.read_all.Given as goal

abbrev pub invariant-loop-record : goal.invariant-loop-record
invariant-loop-record g l =
    Rest (places l.initial.job) l.initial.reader.sheet.now l.record (told_of l.reader l.job l.notes) l.reader.at
    (read_all (suc (length l.initial.reader.sheet.now)) (places l.initial.job) l.initial.reader.sheet.now 0 untold 0)
    × (places l.job ≡ places l.initial.job)
    × (l.reader.sheet.now ≡ l.initial.reader.sheet.now)
    × (l.record ≤ l.reader.at)
    × (length (held_names l.reader) ≡ length (parts_of l.notes))
    × ((stands l.job).parts ≡ length (parts_of l.notes))
    × NoneYet l.reader.stage (stands l.job).limits

abbrev pub decreases-loop-record : goal.decreases-loop-record
decreases-loop-record g l = length l.reader.sheet.now - l.reader.at
