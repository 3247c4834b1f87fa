-- What the rule's choice is among all choices.
use Rattle.std.specs.Prelude.{◌≡◌, ◌≤◌, Bool, true, false, not, List, [], ◌∷◌, length, Some, None, Option, ◌≢◌}
use Rattle.std.specs.List.{AllByRecursion}
use Rattle.grades.specs.Laws.{Kind}
use Rattle.grades.specs.Rule.{grade, best, chosen, answer, left_out, put_on}

-- c passes, and it ranks no later than any choice that passes
pub record First {G : Type 0} (K : Kind G) (ws : List G) (passes : List Bool → Bool) (c : List Bool) : Type 0 where
  pub sized : length c ≡ length ws
  pub kept : passes c ≡ true
  pub least : (d : List Bool) → length d ≡ length ws → passes d ≡ true → K.no_later (grade K ws c) (grade K ws d) ≡ true

-- no choice among the parts passes
abbrev pub NonePasses : {A : Type 0} → List A → (List Bool → Bool) → Type 0
NonePasses ws passes = (d : List Bool) → length d ≡ length ws → passes d ≢ true

-- an answer is the first choice, and none exactly where no choice passes
abbrev pub Answers : {G : Type 0} (K : Kind G) → List G → (List Bool → Bool) → Option (List Bool) → Type 0
Answers K ws passes None = NonePasses ws passes
Answers K ws passes (Some c) = First K ws passes c

-- what the rule answers is the first choice, and none exactly where no choice passes
abbrev pub RuleIsFirst : {G : Type 0} → Kind G → Type 0
RuleIsFirst {G} K = (ws : List G) (passes : List Bool → Bool) → Answers K ws passes (answer K ws passes)

-- o is the best grade of the choices that pass, missing where none does
abbrev pub Best : {G : Type 0} (K : Kind G) → List G → (List Bool → Bool) → Option G → Type 0
Best K ws passes None = NonePasses ws passes
Best K ws passes (Some g) =
    ((c : List Bool) × (length c ≡ length ws) × (passes c ≡ true) × (grade K ws c ≡ g))
    × ((d : List Bool) → length d ≡ length ws → passes d ≡ true → K.no_later g (grade K ws d) ≡ true)

-- the parts are settled as the rule says: the first is left out just if the best grade without it exists, and the best with it is missing or ranks no earlier
abbrev pub Settled : {G : Type 0} (K : Kind G) → List G → (List Bool → Bool) → List Bool → Type 0
Settled K [] passes [] = Unit {0}
Settled K [] passes (x ∷ c) = ⊥
Settled K (w ∷ ws) passes [] = ⊥
Settled {G = G} K (w ∷ ws) passes (x ∷ c) =
    ((a b : Option G) → Best K ws (λ d. passes (false ∷ d)) a → Best K ws (λ d. passes (true ∷ d)) b → x ≡ not (left_out K a (put_on K w b)))
    × Settled K ws (λ d. passes (x ∷ d)) c

-- the rule's choice is settled so
abbrev pub RuleSettles : {G : Type 0} → Kind G → Type 0
RuleSettles {G} K = (ws : List G) (passes : List Bool → Bool) → Settled K ws passes (chosen K ws passes)

-- the best grade that is computed is the best grade
abbrev pub BestIsBest : {G : Type 0} → Kind G → Type 0
BestIsBest {G} K = (ws : List G) (passes : List Bool → Bool) → Best K ws passes (best K ws passes)

-- the grade of a choice among at most 48 parts, with weights in range, has a size of at most 48,000,000
abbrev pub SizesStay : {G : Type 0} → Kind G → Type 0
SizesStay {G} K =
    (ws : List G) (c : List Bool) → length ws ≤ 48 → AllByRecursion (λ w. K.size w ≤ 1000000) ws → K.size (grade K ws c) ≤ 48000000
