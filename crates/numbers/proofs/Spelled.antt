-- numbers among other bytes: what is spelled is read back, and what is read is spelled in one way
use Rattle.std.proofs.Common.{◌≡◌, ℕ, ◌+◌, ◌-◌, ◌*◌, ◌/◌, ◌%◌, ◌^◌, ◌<◌, Bool, true, false, cond, eqb, List, ◌++◌, length, take, drop, ℤ, pos, negsuc, sym, refl, ap, ◌∙◌, arith, take_at, eq-eqb}
use Rattle.std.proofs.lemmas.List.{drop-drop, drop_at, get_or-drop}
use Rattle.std.proofs.lemmas.Bool.{cond-true, cond-false, ne_eqb, eqb-true, eqb-false}
use Rattle.numbers.specs.Numbers.{Reading, read, unread, decode, from_place, read_number, signed_of, unsigned_of, signed_reading, read_signed, encode, encode_signed}
use Rattle.numbers.specs.Laws.{Bytes, ReadsBack, SignedReadsBack, OneSpelling, SignedOneSpelling}
use Rattle.numbers.proofs.Writes.{decode_encode}
use Rattle.numbers.proofs.Canon.{canon}

-- both ways between signed numbers and those that stand for them

pub signed_unsigned : (v : ℤ) → signed_of (unsigned_of v) ≡ v
signed_unsigned (pos n) = cond-true (eqb (2 * n % 2) 0) _ _ (eq-eqb (2 * n % 2) 0 (omega arith)) ∙ ap pos (omega arith)
signed_unsigned (negsuc n) = cond-false (eqb ((2 * n + 1) % 2) 0) _ _ (ne_eqb ((2 * n + 1) % 2) 0 (λ e. omega arith)) ∙ ap negsuc (omega arith)

unsigned_cases : (n : ℕ) (t : Bool) → eqb (n % 2) 0 ≡ t → unsigned_of (cond t (pos (n / 2)) (negsuc (n / 2))) ≡ n
unsigned_cases n true e = let z = eqb-true (n % 2) 0 e in omega arith
unsigned_cases n false e = let z : (n % 2 ≡ 0 → ⊥) = eqb-false (n % 2) 0 e in omega arith

pub unsigned_signed : (n : ℕ) → unsigned_of (signed_of n) ≡ n
unsigned_signed n = unsigned_cases n (eqb (n % 2) 0) refl

-- what is spelled at a place is read back there

pub number_back : (xs : List ℕ) (p v : ℕ) (rest : List ℕ) → v < 2 ^ 32 → drop p xs ≡ encode v ++ rest → read_number xs p ≡ read v (p + length (encode v))
number_back xs p v rest h e = ap (λ s. from_place p (decode s)) e ∙ ap (from_place p) (decode_encode v rest h)

pub signed_back : (xs : List ℕ) (p : ℕ) (v : ℤ) (rest : List ℕ) → unsigned_of v < 2 ^ 32 → drop p xs ≡ encode_signed v ++ rest
    → read_signed xs p ≡ read v (p + length (encode_signed v))
signed_back xs p v rest h e =
    ap signed_reading (number_back xs p (unsigned_of v) rest h e) ∙ ap (λ w. read w (p + length (encode_signed v))) (signed_unsigned v)

pub reads_back_lem : ReadsBack
reads_back_lem v before rest h =
    number_back (before ++ (encode v ++ rest)) (length before) v rest h (drop_at before (encode v ++ rest) (length before) refl)

pub signed_reads_back : SignedReadsBack
signed_reads_back v before rest h =
    signed_back (before ++ (encode_signed v ++ rest)) (length before) v rest h (drop_at before (encode_signed v ++ rest) (length before) refl)

-- bytes stand from one place to another
abbrev pub Stands : List ℕ → ℕ → ℕ → List ℕ → Type 0
Stands xs p q s = (drop p xs ≡ s ++ drop q xs) × (q ≡ p + length s)

pub standing : (xs : List ℕ) (p q : ℕ) (s : List ℕ) → Stands xs p q s → take (q - p) (drop p xs) ≡ s
standing xs p q s (a, b) = ap (take (q - p)) a ∙ take_at s (drop q xs) (q - p) (omega arith)

pub bytes_drop : (xs : List ℕ) (p : ℕ) → Bytes xs → Bytes (drop p xs)
bytes_drop xs p h i = rw get_or-drop (h (p + i))

read_from : (p v q : ℕ) (r : Reading ℕ) → from_place p r ≡ read v q → (n : ℕ) × (r ≡ read v n) × (q ≡ p + n)
read_from p v q (read w n) e = (n, cc, cc)
read_from p v q (unread e) h = let z : ◌≡◌ {A = ℕ} 0 1 = cc in absurd (omega arith)

-- what is read at a place is spelled there

pub number_stands : (xs : List ℕ) (p v q : ℕ) → Bytes xs → read_number xs p ≡ read v q → Stands xs p q (encode v)
number_stands xs p v q h e =
    let (n, d, s) = read_from p v q (decode (drop p xs)) e in
    let (a, b, _) = canon 4 true (drop p xs) v n (bytes_drop xs p h) d in
    (a ∙ ap (λ x. encode v ++ x) (drop-drop n p xs ∙ ap (λ i. drop i xs) (sym s)), omega arith)

signed_from : (v : ℤ) (q : ℕ) (r : Reading ℕ) → signed_reading r ≡ read v q → r ≡ read (unsigned_of v) q
signed_from v q (read w n) e =
    let s : signed_of w ≡ v = cc in
    let t : n ≡ q = cc in
    ap (λ x. read x n) (sym (unsigned_signed w) ∙ ap unsigned_of s) ∙ ap (read (unsigned_of v)) t
signed_from v q (unread e) h = let z : ◌≡◌ {A = ℕ} 0 1 = cc in absurd (omega arith)

pub signed_stands : (xs : List ℕ) (p : ℕ) (v : ℤ) (q : ℕ) → Bytes xs → read_signed xs p ≡ read v q → Stands xs p q (encode_signed v)
signed_stands xs p v q h e = number_stands xs p (unsigned_of v) q h (signed_from v q (read_number xs p) e)

pub one_spelling_lem : OneSpelling
one_spelling_lem v xs ys at end from to h k e f =
    standing xs at end (encode v) (number_stands xs at v end h e) ∙ sym (standing ys from to (encode v) (number_stands ys from v to k f))

pub signed_one_spelling : SignedOneSpelling
signed_one_spelling v xs ys at end from to h k e f =
    standing xs at end (encode_signed v) (signed_stands xs at v end h e) ∙ sym (standing ys from to (encode_signed v) (signed_stands ys from v to k f))
