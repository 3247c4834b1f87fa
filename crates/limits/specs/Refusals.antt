-- The numbers of the refusals, and a call's reply by them.
use Rattle.std.specs.Prelude.{ℕ, Ok, Err, Result}
use Rattle.limits.specs.declared.Refusal.{Refusal}
use Rattle.limits.specs.declared.Refusal.TheVariants.{PartOutOfRange, PartNotRising, OutOfRange, WrongCount, TooFewRows, NothingStands, TooManyLimits, TooFewPlaces}

abbrev pub number : Refusal → ℕ
number PartOutOfRange = 7
number PartNotRising = 8
number OutOfRange = 9
number WrongCount = 10
number TooFewRows = 11
number NothingStands = 12
number TooManyLimits = 14
number TooFewPlaces = 15

-- a call is done, or refused with a number
pub data Reply : Type 0 where
  done : Reply
  refused : ℕ → Reply

-- the reply that a result is
abbrev pub told : {A : Type 0} → Result A Refusal → Reply
told (Ok x) = done
told (Err e) = refused (number e)
