-- Sizes of the grades of choices.
use Rattle.std.proofs.Common.{◌+◌, ◌*◌, ◌≤◌, Bool, true, false, List, [], ◌∷◌, length, arith}
use Rattle.std.specs.List.{AllByRecursion}
use Rattle.grades.specs.Laws.{Kind, Laws}
use Rattle.grades.specs.Rule.{grade_from}
use Rattle.grades.specs.Optimal.{SizesStay}

module _ {G : Type 0} (K : Kind G) (laws : Laws K) where
  from_size : (g : G) (ws : List G) (c : List Bool) → AllByRecursion (λ w. K.size w ≤ 1000000) ws → K.size (grade_from K g ws c) ≤ K.size g + length ws * 1000000
  from_size g [] c a = omega arith
  from_size g (w ∷ ws) [] a = omega arith
  from_size g (w ∷ ws) (false ∷ c) a = let ih = from_size g ws c a.1 in omega arith
  from_size g (w ∷ ws) (true ∷ c) a =
      let ih = from_size (K.join g w) ws c a.1 in
      let j = laws.size_join g w in
      let s = a.0 in
      omega arith

  pub sizes_stay_lem : SizesStay K
  sizes_stay_lem ws c few a = let h = from_size K.empty ws c a in let z = laws.size_empty in omega arith
