-- The needed functions in words.
use Rattle.std.specs.Prelude.{◌≡◌, ℕ, suc, ◌+◌, ◌≤◌, Bool, true, false, ◌≢◌, ◌↔◌, List, ◌∷◌, ◌++◌, length, replicate, ℤ, ◌-ℤ◌}
use Rattle.limits.specs.declared.Limit.{Limit}
use Rattle.diagrams.specs.Needs.{table, needed, needs}
use Rattle.diagrams.specs.Held.{In}

-- t is the table of a function that is needed for f, a function of n parts: the first parts are settled, the value with all
-- other parts left out is subtracted, and the result depends on the next part, as one choice of the later parts shows
pub record Needed (n : ℕ) (f : List Bool → ℤ) (t : List ℤ) : Type 0 where
  pub settled : List Bool
  pub later : ℕ
  pub parts : length settled + suc later ≡ n
  pub is : t ≡ table (suc later) (λ c. f (settled ++ c) -ℤ f (settled ++ replicate (suc later) false))
  pub shown_by : List Bool
  pub shown_size : length shown_by ≡ later
  pub differs : f (settled ++ (true ∷ shown_by)) ≢ f (settled ++ (false ∷ shown_by))

-- the computed list has the needed functions and no others
abbrev pub NeededAre : Type 0
NeededAre = (n : ℕ) (f : List Bool → ℤ) (t : List ℤ) → In t (needed n f) ↔ Needed n f t

-- more limits never need fewer nodes
abbrev pub MoreNeedNoFewer : Type 0
MoreNeedNoFewer = (n : ℕ) (ls more : List Limit) → needs n ls ≤ needs n (ls ++ more)
