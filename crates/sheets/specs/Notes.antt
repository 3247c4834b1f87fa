-- What the types of the code mean.
use Rattle.std.specs.Prelude.{◌≡◌, ℕ, List, map, length, Ok, Err, Result}
use Rattle.limits.specs.declared.Limit.{Limit}
use Rattle.records.specs.declared.Stage.{Stage}
use Rattle.records.specs.declared.Stage.TheVariants.{Parts}
use Rattle.records.specs.declared.Reader.{Reader}
use Rattle.records.specs.Meanings.{held_names}
use Rattle.jobs.specs.declared.Job.{Job}
use Rattle.jobs.specs.Stands.{stands}
use Rattle.sheets.specs.Told.{Part, Told, Step, broken, ended, goes_on, Reading, whole, faulty}
use Rattle.sheets.specs.Faults.{number_of, layer_of, place_of}
use Rattle.sheets.specs.declared.Figures.{Figures}
use Rattle.sheets.specs.declared.Notes.{Notes}
use Rattle.sheets.specs.declared.Progress.{Progress}
use Rattle.sheets.specs.declared.Progress.TheVariants.{GoesOn, Ended}
use Rattle.sheets.specs.declared.faults.SheetFault.{SheetFault}
use Rattle.sheets.specs.declared.faults.RecordFault.{RecordFault}

abbrev pub part_of : Figures → Part
part_of f = record { mass = f.mass; wait = f.wait; price = f.price }

-- the parts that are noted
abbrev pub parts_of : Notes → List Part
parts_of d = map part_of d.figures.items

-- what the reader, the job and the notes tell together
abbrev pub told_of : Reader → Job → Notes → Told
told_of r j d = record { stage = r.stage; names = held_names r; parts = parts_of d; limits = (stands j).limits; goal = d.goal }

-- what reading one record came to, where so much is told after it and the next record stands at a place
abbrev pub came_to : Result Progress SheetFault → Told → ℕ → Step
came_to (Ok GoesOn) t at = goes_on t at
came_to (Ok Ended) t at = ended t
came_to (Err f) t at = broken (number_of f) (layer_of f) (place_of f)

-- while only parts have come, no limit stands
abbrev pub NoneYet : Stage → List Limit → Type 0
NoneYet stage ls = stage ≡ Parts → length ls ≡ 0

-- what reading all records came to, where so much is told after them
abbrev pub came_all : Result (Unit {0}) RecordFault → Told → Reading
came_all (Ok _) t = whole t
came_all (Err f) t = faulty (number_of f.fault) (layer_of f.fault) f.«record» (place_of f.fault)
