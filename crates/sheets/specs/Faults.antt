-- A fault's number, its layer and its place, each case by itself.
use Rattle.std.specs.Prelude.{ℕ}
use Rattle.limits.specs.Refusals.{number}
use Rattle.fields.specs.Faults.{reason_number, layer_number}
use Rattle.sheets.specs.declared.faults.SheetFault.{SheetFault}
use Rattle.sheets.specs.declared.faults.SheetFault.TheVariants.{Read, Limit}

abbrev pub number_of : SheetFault → ℕ
number_of (Read f) = reason_number f.reason
number_of (Limit refusal place) = number refusal

-- a limit that the job refuses is a fault of layer 3
abbrev pub layer_of : SheetFault → ℕ
layer_of (Read f) = layer_number f.layer
layer_of (Limit refusal place) = 3

abbrev pub place_of : SheetFault → ℕ
place_of (Read f) = f.place
place_of (Limit refusal place) = place
