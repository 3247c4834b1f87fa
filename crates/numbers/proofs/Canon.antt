-- what is read as a number is spelled as that number is
use Rattle.std.proofs.Common.{◌≡◌, ℕ, zero, suc, ◌+◌, ◌-◌, ◌*◌, ◌/◌, ◌%◌, ◌<◌, ◌≤◌, Bool, true, false, cond, eqb, ltb, List, [], ◌∷◌, ◌++◌, length, drop, sym, refl, ap, ◌∙◌, one-add, arith, ltb-false, ltb-true}
use Rattle.std.proofs.lemmas.Bool.{eqb-false}
use Rattle.numbers.specs.Numbers.{Reading, read, unread, carry, last_byte, rest_of_number, groups}
use Rattle.numbers.specs.Laws.{Bytes}
use Rattle.numbers.proofs.Writes.{groups_more, groups_last}

not_unread : {A : Type 0} (e v n : ℕ) → unread e ≡ read v n → A
not_unread e v n h = let z : ◌≡◌ {A = ℕ} 0 1 = cc in absurd (omega arith)

ends_cases : (b v n : ℕ) (t : Bool) → eqb b 0 ≡ t → cond t (unread 2) (read b 1) ≡ read v n → (v ≡ b) × (n ≡ 1) × (0 < v)
ends_cases b v n true e h = not_unread 2 v n h
ends_cases b v n false e h =
    let p : v ≡ b = cc in
    let z : (b ≡ 0 → ⊥) = eqb-false b 0 e in
    (p, cc, omega arith)

ends : (f : Bool) (b v n : ℕ) → last_byte f b ≡ read v n → (v ≡ b) × (n ≡ 1) × (f ≡ false → 0 < v)
ends true b v n h = (cc, cc, λ e. let z : ◌≡◌ {A = ℕ} 0 1 = cc in absurd (omega arith))
ends false b v n h = let (p, q, r) = ends_cases b v n (eqb b 0) refl h in (p, q, λ e. r)

uncarried : (c v n : ℕ) (r : Reading ℕ) → carry 128 c 1 r ≡ read v n → (w : ℕ) × (m : ℕ) × (r ≡ read w m) × (v ≡ c + 128 * w) × (n ≡ 1 + m)
uncarried c v n (read w m) h = (w, m, refl, cc, cc)
uncarried c v n (unread e) h = not_unread e v n h

-- the bytes that were read, how many they are, and that only a number's first byte may be all of it and 0
abbrev pub Canon : ℕ → Bool → List ℕ → ℕ → ℕ → Type 0
Canon left f bs v n = (bs ≡ groups left v ++ drop n bs) × (n ≡ length (groups left v)) × (f ≡ false → 0 < v)

last : (left : ℕ) (f : Bool) (b : ℕ) (bs : List ℕ) (v n : ℕ) → b < 128 → last_byte f b ≡ read v n → Canon left f (b ∷ bs) v n
last left f b bs v n h e =
    let (p, q, r) = ends f b v n e in
    let g : groups left v ≡ b ∷ [] = ap (groups left) p ∙ groups_last left b h in
    let d : drop n (b ∷ bs) ≡ bs = ap (λ k. drop k (b ∷ bs)) q in
    (sym (ap (λ s. s ++ drop n (b ∷ bs)) g ∙ ap (λ s. b ∷ s) d), q ∙ sym (ap length g), r)

more : (l : ℕ) (f : Bool) (b : ℕ) (bs : List ℕ) (v n w m : ℕ) → 128 ≤ b → b < 256 → v ≡ b - 128 + 128 * w → n ≡ 1 + m → Canon l false bs w m
    → Canon (suc l) f (b ∷ bs) v n
more l f b bs v n w m h k e g (x, y, z) =
    let pos : 0 < w = z refl in
    let digit : v % 128 + 128 ≡ b = omega arith in
    let rest : v / 128 ≡ w = omega arith in
    let less : suc l - 1 ≡ l = omega arith in
    let is : groups (suc l) v ≡ b ∷ groups l w = groups_more (suc l) v (omega arith) (omega arith) ∙ rw (digit, rest, less) in
    let d : drop n (b ∷ bs) ≡ drop m bs = ap (λ i. drop i (b ∷ bs)) (g ∙ one-add m) in (
      sym (ap (λ s. s ++ drop n (b ∷ bs)) is ∙ ap (λ s. b ∷ (groups l w ++ s)) d ∙ ap (λ s. b ∷ s) (sym x)),
      omega (arith, ap length is),
      λ _. omega arith,
    )

tail : (b : ℕ) (bs : List ℕ) → Bytes (b ∷ bs) → Bytes bs
tail b bs h i = h (suc i)

fifth : (f : Bool) (b : ℕ) (bs : List ℕ) (v n : ℕ) (t : Bool) → ltb b 16 ≡ t → cond t (last_byte f b) (unread 2) ≡ read v n → Canon 0 f (b ∷ bs) v n
fifth f b bs v n true e h = let lt = ltb-true b 16 e in last 0 f b bs v n (omega arith) h
fifth f b bs v n false e h = not_unread 2 v n h

earlier : (l : ℕ) (f : Bool) (b : ℕ) (bs : List ℕ) (v n : ℕ) (t : Bool) → b < 256 → ltb b 128 ≡ t
    → ((w m : ℕ) → rest_of_number l false bs ≡ read w m → Canon l false bs w m)
    → cond t (last_byte f b) (carry 128 (b - 128) 1 (rest_of_number l false bs)) ≡ read v n → Canon (suc l) f (b ∷ bs) v n
earlier l f b bs v n true k e ih h = last (suc l) f b bs v n (ltb-true b 128 e) h
earlier l f b bs v n false k e ih h =
    let (w, m, r, p, q) = uncarried (b - 128) v n (rest_of_number l false bs) h in
    more l f b bs v n w m (ltb-false b 128 e) k p q (ih w m r)

pub canon : (left : ℕ) (f : Bool) (bs : List ℕ) (v n : ℕ) → Bytes bs → rest_of_number left f bs ≡ read v n → Canon left f bs v n
unfolding rest_of_number
canon zero f [] v n k h = not_unread 1 v n h
canon zero f (b ∷ bs) v n k h = fifth f b bs v n (ltb b 16) refl h
canon (suc l) f [] v n k h = not_unread 1 v n h
canon (suc l) f (b ∷ bs) v n k h = earlier l f b bs v n (ltb b 128) (k 0) refl (λ w m. canon l false bs w m (tail b bs k)) h
