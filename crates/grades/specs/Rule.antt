-- The grade of a choice, and which choice is returned. A choice `passes` where it keeps all limits; the weights are those of the parts left.
use Rattle.std.specs.Prelude.{Bool, true, false, cond, List, [], ◌∷◌, Some, None, Option}
use Rattle.grades.specs.Laws.{Kind}

module _ {G : Type 0} (K : Kind G) where
  -- g joined with the weights of the fitted parts, in rising order
  abbrev pub grade_from : G → List G → List Bool → G
  grade_from g [] c = g
  grade_from g (w ∷ ws) [] = g
  grade_from g (w ∷ ws) (fitted ∷ c) = grade_from (cond fitted (K.join g w) g) ws c

  -- the grade of a choice
  abbrev pub grade : List G → List Bool → G
  grade = grade_from K.empty

  -- w joined with a grade, missing where that is
  abbrev pub put_on : G → Option G → Option G
  put_on w None = None
  put_on w (Some g) = Some (K.join w g)

  -- a part is left out: a, the best without it, exists, and b, the best with it, is missing or ranks no earlier
  abbrev pub left_out : Option G → Option G → Bool
  left_out None b = false
  left_out (Some a) None = true
  left_out (Some a) (Some b) = K.no_later a b

  -- the better of two grades, the first where they rank alike
  abbrev pub better : Option G → Option G → Option G
  better a b = cond (left_out a b) a b

  -- the best grade of the choices that pass, missing where none does
  abbrev pub best : List G → (List Bool → Bool) → Option G
  best [] passes = cond (passes []) (Some K.empty) None
  best (w ∷ ws) passes =
      better (best ws (λ c. passes (false ∷ c))) (put_on w (best ws (λ c. passes (true ∷ c))))

  -- the choice, part by part
  abbrev pub chosen : List G → (List Bool → Bool) → List Bool
  chosen [] passes = []
  chosen (w ∷ ws) passes =
      let out : List Bool → Bool = λ c. passes (false ∷ c) in
      let fit : List Bool → Bool = λ c. passes (true ∷ c) in
      cond (left_out (best ws out) (put_on w (best ws fit))) (false ∷ chosen ws out) (true ∷ chosen ws fit)

  -- that choice, or none where no choice passes
  abbrev pub answer : List G → (List Bool → Bool) → Option (List Bool)
  answer ws passes = elim (best ws passes) [ None ↦ None | Some g ↦ Some (chosen ws passes) ]
