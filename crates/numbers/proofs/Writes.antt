use Rattle.std.proofs.Common.{◌≡◌, ℕ, zero, suc, ◌+◌, ◌-◌, ◌*◌, ◌/◌, ◌%◌, ◌^◌, ◌<◌, ◌≤◌, Bool, true, false, cond, ltb, List, [], ◌∷◌, ◌++◌, length, take, drop, set, sym, refl, ap, ◌∙◌, append_assoc, arith, ltb-false, le-ltb, lt-ltb}
use native.Mathlib.Nat.{pow-succ'}
use lib.Seq.{sets, sets-eq}
use Rattle.std.proofs.lemmas.List.{drop_at, length-take-le}
use Rattle.numbers.specs.Numbers.{read, rest_of_number, decode, groups, encode}
use Rattle.numbers.proofs.Steps.{ends}

pub groups_more : (left v : ℕ) → 0 < left → 128 ≤ v → groups left v ≡ (v % 128 + 128) ∷ groups (left - 1) (v / 128)
unfolding groups
groups_more zero v h k = absurd (omega arith)
groups_more (suc l) v h k = rw (le-ltb v 128 k) (ap (λ x. (v % 128 + 128) ∷ groups x (v / 128)) (omega arith))

pub groups_last : (left v : ℕ) → v < 128 → groups left v ≡ v ∷ []
unfolding groups
groups_last zero v h = refl
groups_last (suc l) v h = rw (lt-ltb v 128 h)

-- one group more, where the rest is read back
more_back : (l : ℕ) (f : Bool) (v : ℕ) (rest : List ℕ) → (v ≡ 0 → f ≡ true)
    → (128 ≤ v → rest_of_number l false (groups l (v / 128) ++ rest) ≡ read (v / 128) (length (groups l (v / 128))))
    → (t : Bool) → ltb v 128 ≡ t → rest_of_number (suc l) f (groups (suc l) v ++ rest) ≡ read v (length (groups (suc l) v))
unfolding rest_of_number groups
more_back l f v rest z ih true e = rw (e, e, ends f v z)
more_back l f v rest z ih false e =
    let big : 128 ≤ v = ltb-false v 128 e in
    let byte : ltb (v % 128 + 128) 128 ≡ false = le-ltb (v % 128 + 128) 128 (omega arith) in
    rw (e, byte, ih big) (ap (λ x. read x (1 + length (groups l (v / 128)))) (omega arith) ∙ ap (read v) (omega arith))

pub read_back : (left : ℕ) (f : Bool) (v : ℕ) (rest : List ℕ) → v < 16 * 128 ^ left → (v ≡ 0 → f ≡ true)
    → rest_of_number left f (groups left v ++ rest) ≡ read v (length (groups left v))
unfolding rest_of_number groups
read_back zero f v rest h z = let lt : ltb v 16 ≡ true = lt-ltb v 16 h in rw (lt, ends f v z)
read_back (suc l) f v rest h z =
    more_back l f v rest z (λ big. read_back l false (v / 128) rest (omega (arith, pow-succ' 128 l)) (λ e. absurd (omega arith)))
    (ltb v 128) refl

pub decode_encode : (v : ℕ) (rest : List ℕ) → v < 2 ^ 32 → decode (encode v ++ rest) ≡ read v (length (encode v))
decode_encode v rest h = read_back 4 true v rest h (λ _. refl)

pub decode_sets : (xs : List ℕ) (at v : ℕ) → v < 2 ^ 32 → at + length (encode v) ≤ length xs
    → decode (drop at (sets xs at (encode v))) ≡ read v (length (encode v))
decode_sets xs at v h k =
    let e = sets-eq (encode v) xs at k in
    let lt : at ≤ length xs = omega arith in
    ap (λ s. decode (drop at s)) (e ∙ append_assoc (take at xs) (encode v) (drop (at + length (encode v)) xs))
    ∙ ap decode (drop_at (take at xs) (encode v ++ drop (at + length (encode v)) xs) at (length-take-le at xs lt))
    ∙ decode_encode v (drop (at + length (encode v)) xs) h

pub length_more : (left l v : ℕ) → l ≡ left - 1 → 0 < left → 128 ≤ v → length (groups left v) ≡ 1 + length (groups l (v / 128))
length_more left l v e h k = ap length (groups_more left v h k) ∙ rw e (omega arith)

pub length_last : (left v : ℕ) → v < 128 → length (groups left v) ≡ 1
length_last left v h = ap length (groups_last left v h)

length_cases : (t : Bool) (l v : ℕ) → 0 < length (cond t (v ∷ []) ((v % 128 + 128) ∷ groups l (v / 128)))
length_cases true l v = omega arith
length_cases false l v = omega arith

pub length_some : (left v : ℕ) → 0 < length (groups left v)
unfolding groups
length_some zero v = omega arith
length_some (suc l) v = length_cases (ltb v 128) l v

pub sets_more : (xs : List ℕ) (i left l v b : ℕ) → b ≡ v % 128 + 128 → l ≡ left - 1 → 0 < left → 128 ≤ v
    → sets xs i (groups left v) ≡ sets (set xs i b) (i + 1) (groups l (v / 128))
sets_more xs i left l v b p e h k =
    ap (sets xs i) (groups_more left v h k)
    ∙ ap (λ j. sets (set xs i (v % 128 + 128)) j (groups (left - 1) (v / 128))) (omega arith)
    ∙ ap (λ n. sets (set xs i (v % 128 + 128)) (i + 1) (groups n (v / 128))) (sym e)
    ∙ ap (λ n. sets (set xs i n) (i + 1) (groups l (v / 128))) (sym p)

pub sets_last : (xs : List ℕ) (i left v : ℕ) → v < 128 → sets xs i (groups left v) ≡ set xs i v
sets_last xs i left v h = ap (sets xs i) (groups_last left v h)
