-- The numbers by which reasons and layers are known.
use Rattle.std.specs.Prelude.{ℕ}
use Rattle.fields.specs.declared.Reason.{Reason}
use Rattle.fields.specs.declared.Reason.TheVariants.{CutShort, NotShortest, BadKind, WrongLength, BadName, BadGoal, PartOutOfRange, PartNotRising, OutOfRange}
use Rattle.fields.specs.declared.Layer.{Layer}
use Rattle.fields.specs.declared.Layer.TheVariants.{Numbers, Records, Jobs}

abbrev pub reason_number : Reason → ℕ
reason_number CutShort = 1
reason_number NotShortest = 2
reason_number BadKind = 3
reason_number WrongLength = 4
reason_number BadName = 5
reason_number BadGoal = 6
reason_number PartOutOfRange = 7
reason_number PartNotRising = 8
reason_number OutOfRange = 9

abbrev pub layer_number : Layer → ℕ
layer_number Numbers = 1
layer_number Records = 2
layer_number Jobs = 3
