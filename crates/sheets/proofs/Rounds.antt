-- The loop over a sheet's records is the definition's recursion.
use Rattle.std.proofs.Common.{◌≡◌, ℕ, zero, suc, ◌+◌, ◌-◌, ◌<◌, ◌≤◌, min, leb, List, [], length, sym, ap, ◌∙◌, arith, le-leb}
use Rattle.std.proofs.lemmas.Bool.{cond-true}
use Rattle.records.specs.declared.Goal.TheVariants.{Mass}
use Rattle.records.specs.declared.Stage.TheVariants.{Parts}
use Rattle.sheets.specs.Told.{Told, untold, Step, broken, ended, goes_on, one_step, Reading, whole, faulty, read_all, read_sheet}

-- from here on, reading comes to `total`
abbrev pub Rest : ℕ → List ℕ → ℕ → Told → ℕ → Reading → Type 0
Rest room sheet i t at total = (n : ℕ) × (length sheet - at < n) × (read_all n room sheet i t at ≡ total)

unfoldable on_step : ℕ → ℕ → List ℕ → ℕ → Step → Reading
on_step more room sheet i s =
    elim s [
      | broken n l p ↦ faulty n l i p
      | ended u ↦ whole u
      | goes_on u next ↦ read_all more room sheet (suc i) u next
    ]

read_suc : (more room : ℕ) (sheet : List ℕ) (i : ℕ) (t : Told) (at : ℕ) (s : Step) → s ≡ one_step room sheet t at → read_all (suc more) room sheet i t at ≡ on_step more room sheet i s
unfolding read_all on_step
read_suc more room sheet i t at s e = ap (on_step more room sheet i) (sym e)

pub rest_start : (room : ℕ) (sheet : List ℕ) (t : Told) (at : ℕ) → at ≡ 0 → t.stage ≡ Parts → t.names ≡ [] → t.parts ≡ [] → t.limits ≡ [] → t.goal ≡ Mass
    → Rest room sheet 0 t at (read_all (suc (length sheet)) room sheet 0 untold 0)
rest_start room sheet t at a b c d e f =
    let same : t ≡ untold =
    ap (λ x. record { stage = x; names = t.names; parts = t.parts; limits = t.limits; goal = t.goal }) b
    ∙ ap (λ x. record { stage = Parts; names = x; parts = t.parts; limits = t.limits; goal = t.goal }) c
    ∙ ap (λ x. record { stage = Parts; names = []; parts = x; limits = t.limits; goal = t.goal }) d
    ∙ ap (λ x. record { stage = Parts; names = []; parts = []; limits = x; goal = t.goal }) e
    ∙ ap (λ x. record { stage = Parts; names = []; parts = []; limits = []; goal = x }) f in
    (suc (length sheet), omega arith, ap (λ x. read_all (suc (length sheet)) room sheet 0 x at) same ∙ ap (λ i. read_all (suc (length sheet)) room sheet 0 untold i) a)

module _ (room : ℕ) (sheet : List ℕ) (i : ℕ) (t : Told) (at : ℕ) (total : Reading) where
  pub rest_more : (u : Told) (next : ℕ) → goes_on u next ≡ one_step room sheet t at → at < next → next ≤ length sheet → Rest room sheet i t at total → Rest room sheet (i + 1) u next total
  unfolding on_step
  rest_more u next e h k (zero, l, r) = absurd (omega arith)
  rest_more u next e h k (suc m, l, r) =
      let q : i + 1 ≡ suc i = omega arith in
      (m, omega arith, ap (λ j. read_all m room sheet j u next) q ∙ sym (read_suc m room sheet i t at (goes_on u next) e) ∙ r)

  pub rest_ended : (u : Told) → ended u ≡ one_step room sheet t at → Rest room sheet i t at total → whole u ≡ total
  unfolding on_step
  rest_ended u e (zero, l, r) = absurd (omega arith)
  rest_ended u e (suc m, l, r) = sym (read_suc m room sheet i t at (ended u) e) ∙ r

  pub rest_broken : (n l p : ℕ) → broken n l p ≡ one_step room sheet t at → Rest room sheet i t at total → faulty n l i p ≡ total
  unfolding on_step
  rest_broken n l p e (zero, h, r) = absurd (omega arith)
  rest_broken n l p e (suc m, h, r) = sym (read_suc m room sheet i t at (broken n l p) e) ∙ r

pub step_as : (room room' : ℕ) (sheet sheet' : List ℕ) (t : Told) (at : ℕ) (s : Step) → room ≡ room' → sheet ≡ sheet' → s ≡ one_step room sheet t at → s ≡ one_step room' sheet' t at
step_as room room' sheet sheet' t at s a b e = e ∙ ap (λ r. one_step r sheet t at) a ∙ ap (λ x. one_step room' x t at) b

pub sheet_small : (w : Reading) (room places : ℕ) (xs sheet : List ℕ) → xs ≡ sheet → room ≡ min places 60000 → length sheet ≤ 32768
    → w ≡ read_all (suc (length xs)) room xs 0 untold 0 → w ≡ read_sheet sheet places
sheet_small w room places xs sheet a b h e =
    e ∙ ap (λ x. read_all (suc (length x)) room x 0 untold 0) a ∙ ap (λ r. read_all (suc (length sheet)) r sheet 0 untold 0) b
    ∙ sym (cond-true (leb (length sheet) 32768) _ _ (le-leb (length sheet) 32768 h))
