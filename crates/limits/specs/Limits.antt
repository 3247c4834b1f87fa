-- When a choice keeps limits.
use Rattle.std.specs.Prelude.{Bool, true, cond, ◌&&◌, List, [], ◌∷◌, ℤ, pos, ◌+ℤ◌, int_le}
use Rattle.limits.specs.declared.Limit.{Limit}
use Rattle.limits.specs.declared.Sense.{Sense}
use Rattle.limits.specs.declared.Sense.TheVariants.{AtMost, AtLeast}

-- the coefficients of the fitted parts, added up
abbrev pub sum : List ℤ → List Bool → ℤ
sum [] c = pos 0
sum (a ∷ rest) [] = pos 0
sum (a ∷ rest) (fitted ∷ c) = cond fitted a (pos 0) +ℤ sum rest c

-- whether a sum is at most, or at least, a bound
abbrev pub within : Sense → ℤ → ℤ → Bool
within AtMost s b = int_le s b
within AtLeast s b = int_le b s

-- whether a choice keeps a limit
abbrev pub keeps : Limit → List Bool → Bool
keeps l c = within l.sense (sum l.coefficients c) l.bound

-- whether it keeps each of them
abbrev pub keeps_all : List Limit → List Bool → Bool
keeps_all [] c = true
keeps_all (l ∷ ls) c = keeps l c && keeps_all ls c
