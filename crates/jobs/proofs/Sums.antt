-- A limit's sum, part by part.
use Rattle.std.proofs.Common.{◌≡◌, ℕ, zero, suc, ◌+◌, ◌-◌, ◌*◌, ◌/◌, ◌%◌, ◌^◌, ◌<◌, ◌≤◌, Bool, true, false, cond, not, ltb, eqb, List, [], ◌∷◌, map, length, get_or, take, drop, ℤ, pos, ◌+ℤ◌, nat_abs, Some, None, sym, refl, ap, ◌∙◌, ap₂, add-one, arith, w64, SFits, to_z, of_z}
use lib.IntN.{+ℤ_idr, +ℤ_assoc}
use Rattle.std.proofs.lemmas.Int.{ints, to_z-of_z}
use Rattle.std.proofs.lemmas.Bool.{lt-ltb}
use Rattle.std.proofs.lemmas.Bool.Decides.{nat_tests}
use Rattle.std.specs.List.{position_or_len}
use Rattle.limits.specs.Limits.{sum, keeps}
use Rattle.limits.specs.Choices.{bits}
use Rattle.jobs.specs.Calls.{broken}
use Rattle.jobs.specs.declared.ledger.Record.{Record}

sum_at : (cs : List ℤ) (k : ℕ) (x : Bool) (c : List Bool) → sum (drop k cs) (x ∷ c) ≡ cond x (get_or cs k (pos 0)) (pos 0) +ℤ sum (drop (suc k) cs) c
sum_at [] zero true c = refl
sum_at [] zero false c = refl
sum_at [] (suc k) true c = refl
sum_at [] (suc k) false c = refl
sum_at (a ∷ cs) zero x c = refl
sum_at (a ∷ cs) (suc k) x c = sum_at cs k x c

pub again : (cs : List ℤ) (parts k rest : ℕ) (total add v : ℤ) → k < parts → total +ℤ sum (drop k cs) (bits (parts - k) rest) ≡ v → add ≡ cond (eqb (rest % 2) 1) (get_or cs k (pos 0)) (pos 0) → (total +ℤ add) +ℤ sum (drop (k + 1) cs) (bits (parts - (k + 1)) (rest / 2)) ≡ v
again cs parts k rest total add v h inv e =
    let left : parts - k ≡ suc (parts - (k + 1)) = omega arith in
    let more : bits (parts - k) rest ≡ eqb (rest % 2) 1 ∷ bits (parts - (k + 1)) (rest / 2) = ap (λ m. bits m rest) left in
    +ℤ_assoc total add _
    ∙ (ap (λ z. total +ℤ z) (ap₂ (λ a j. a +ℤ sum (drop j cs) (bits (parts - (k + 1)) (rest / 2))) e (add-one k) ∙ (sym (sum_at cs k (eqb (rest % 2) 1) (bits (parts - (k + 1)) (rest / 2))) ∙ ap (sum (drop k cs)) (sym more))) ∙ inv)

sum_empty : (cs : List ℤ) → sum cs [] ≡ pos 0
sum_empty [] = refl
sum_empty (a ∷ cs) = refl

pub finished : (cs : List ℤ) (parts k rest : ℕ) (total v : ℤ) → parts ≤ k → total +ℤ sum (drop k cs) (bits (parts - k) rest) ≡ v → total ≡ v
finished cs parts k rest total v h inv =
    let none : parts - k ≡ 0 = omega arith in
    sym (ap (λ z. total +ℤ z) (ap (λ m. sum (drop k cs) (bits m rest)) none ∙ sum_empty (drop k cs)) ∙ +ℤ_idr total) ∙ inv

-- the coefficients past the parts of a choice add nothing
pub sum_taken : (cs : List ℤ) (parts w : ℕ) → parts ≤ length cs → sum (take parts cs) (bits (length (take parts cs)) w) ≡ sum cs (bits parts w)
sum_taken cs zero w h = sym (sum_empty cs)
sum_taken [] (suc parts) w h = absurd (omega arith)
sum_taken (a ∷ cs) (suc parts) w h = ap (λ z. cond (eqb (w % 2) 1) a (pos 0) +ℤ z) (sum_taken cs parts (w / 2) (omega arith))

pub abs_sum : (k parts : ℕ) (total add : ℤ) → nat_abs total ≤ k * 2 ^ 31 → nat_abs add ≤ 2 ^ 31 → nat_abs (total +ℤ add) ≤ (k + 1) * 2 ^ 31
abs_sum k parts total add s t = omega (arith, ints)

pub fits_small : (z : ℤ) (n : ℕ) → n ≤ 2 ^ 46 → nat_abs z ≤ n → SFits w64 z
fits_small z n h e = omega (arith, ints)

module _ (i parts : ℕ) (z total add : ℤ) (e : z ≡ total) (s : nat_abs total ≤ i * 2 ^ 31) (t : nat_abs add ≤ 2 ^ 31) (h : i < parts) (k : parts ≤ 48) where
  add_is : to_z w64 (of_z w64 add) ≡ add
  add_is = to_z-of_z w64 add (fits_small add (2 ^ 31) (omega arith) t)

  sum_fits : SFits w64 (z +ℤ to_z w64 (of_z w64 add))
  sum_fits = rw (add_is, e) (fits_small (total +ℤ add) ((i + 1) * 2 ^ 31) (omega arith) (abs_sum i parts total add s t))

  pub sum_is : to_z w64 (of_z w64 (z +ℤ to_z w64 (of_z w64 add))) ≡ total +ℤ add
  sum_is = to_z-of_z w64 _ sum_fits ∙ rw (add_is, e)

  pub sum_small : nat_abs (to_z w64 (of_z w64 (z +ℤ to_z w64 (of_z w64 add)))) ≤ (i + 1) * 2 ^ 31
  sum_small = rw sum_is (abs_sum i parts total add s t)

-- one element more before the place, and one more in the list
next_test : (p n : ℕ) → ltb p n ≡ ltb (1 + p) (suc n)
next_test p n = grind (arith, nat_tests)

-- the first broken limit is the first record's whose limit the choice does not keep
pub broken_is : (i : ℕ) (rs : List Record) (c : List Bool) → broken i (map (λ (r : Record). r.limit) rs) c ≡ cond (ltb (position_or_len (λ (r : Record). not (keeps r.limit c)) rs) (length rs)) (Some (i + position_or_len (λ (r : Record). not (keeps r.limit c)) rs)) None
broken_is i [] c = refl
broken_is i (r ∷ rs) c = go (keeps r.limit c) (position_or_len (λ (r : Record). not (keeps r.limit c)) rs) (broken_is (suc i) rs c)
  where
    go : (b : Bool) (p : ℕ) → broken (suc i) (map (λ (r : Record). r.limit) rs) c ≡ cond (ltb p (length rs)) (Some (suc i + p)) None
        → cond b (broken (suc i) (map (λ (r : Record). r.limit) rs) c) (Some i) ≡ cond (ltb (cond (not (not b)) (1 + p) 0) (suc (length rs))) (Some (i + cond (not (not b)) (1 + p) 0)) None
    go true p e = e ∙ ap₂ (λ b n. cond b (Some n) None) (next_test p (length rs)) (omega arith)
    go false p e = ap Some (omega arith) ∙ sym (ap (λ b. cond b (Some (i + 0)) None) (lt-ltb 0 (suc (length rs)) (omega arith)))
