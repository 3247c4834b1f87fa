-- The comparison with a limit's bound.
use Rattle.std.proofs.Common.{◌≡◌, ◌^◌, ◌≤◌, Bool, List, ℤ, nat_abs, refl}
use Rattle.limits.specs.declared.Limit.{Limit}
use Rattle.limits.specs.declared.Sense.{Sense}
use Rattle.limits.specs.declared.Sense.TheVariants.{AtMost, AtLeast}
use Rattle.limits.specs.Limits.{sum, within, keeps}
use Rattle.diagrams.specs.Needs.{indicator}
use Rattle.diagrams.specs.Apply.{meaning, Fit}
use Rattle.diagrams.specs.Apply.{operation_of}

pub fit_sense : (s : Sense) (a b : ℤ) → nat_abs a ≤ 2 ^ 28 → nat_abs b ≤ 2 ^ 28 → Fit (operation_of s) a b
fit_sense AtMost a b h k = (h, k)
fit_sense AtLeast a b h k = (h, k)

-- the comparison with the bound is 1 where the limit is kept
pub meaning_kept : (l : Limit) (c : List Bool) → meaning (operation_of l.sense) (sum l.coefficients c) l.bound ≡ indicator (keeps l c)
meaning_kept l c = at l.sense
  where
    at : (s : Sense) → meaning (operation_of s) (sum l.coefficients c) l.bound ≡ indicator (within s (sum l.coefficients c) l.bound)
    at AtMost = refl
    at AtLeast = refl
