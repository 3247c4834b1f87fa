use Rattle.std.proofs.Common.{◌≡◌, ℕ, zero, suc, ◌+◌, ◌-◌, ◌*◌, ◌<◌, ◌≤◌, Bool, true, false, List, [], ◌∷◌, length, get_or, drop, sym, refl, ap, ◌∙◌, mul_assoc, mul-add, arith, le-ltb, lt-ltb}
use Rattle.std.proofs.lemmas.Bool.Decides.{nat_tests}
use Rattle.std.proofs.lemmas.List.{at_drop_more, drop_all}
use Rattle.numbers.specs.Numbers.{Reading, read, unread, carry, last_byte, rest_of_number, decode, from_place, read_number}

pub carry_carry : (w acc u c : ℕ) (r : Reading ℕ) → carry w acc u (carry 128 c 1 r) ≡ carry (w * 128) (acc + w * c) (u + 1) r
carry_carry w acc u c (read v n) =
    ap (λ x. read x (u + (1 + n))) (ap (λ x. acc + x) (mul-add w c (128 * v)) ∙ omega (arith, mul_assoc w 128 v))
    ∙ ap (λ x. read (acc + w * c + w * 128 * v) x) (omega arith)
carry_carry w acc u c (unread e) = refl

pub step_none : (left : ℕ) (f : Bool) → rest_of_number left f [] ≡ unread 1
unfolding rest_of_number
step_none zero f = refl
step_none (suc left) f = refl

pub step_on : (w acc u left b : ℕ) (f : Bool) (bs : List ℕ) → 0 < left → 128 ≤ b
    → carry w acc u (rest_of_number left f (b ∷ bs)) ≡ carry (w * 128) (acc + w * (b - 128)) (u + 1) (rest_of_number (left - 1) false bs)
unfolding rest_of_number
step_on w acc u zero b f bs h k = absurd (omega arith)
step_on w acc u (suc l) b f bs h k =
    rw (le-ltb b 128 k) (carry_carry w acc u (b - 128) (rest_of_number l false bs)
    ∙ ap (λ x. carry (w * 128) (acc + w * (b - 128)) (u + 1) (rest_of_number x false bs)) (omega arith))

pub ends : (f : Bool) (b : ℕ) → (b ≡ 0 → f ≡ true) → last_byte f b ≡ read b 1
ends true b h = refl
ends false zero h = absurd (let z : true ≡ false = sym (h refl) in let w : ◌≡◌ {A = ℕ} 0 1 = cc in omega arith)
ends false (suc b) h = grind (arith, nat_tests)

pub step_end : (w acc u left b : ℕ) (f : Bool) (bs : List ℕ) → b < 128 → (left ≡ 0 → b < 16) → (b ≡ 0 → f ≡ true)
    → carry w acc u (rest_of_number left f (b ∷ bs)) ≡ read (acc + w * b) (u + 1)
unfolding rest_of_number
step_end w acc u zero b f bs h k z = rw (lt-ltb b 16 (k refl), ends f b z)
step_end w acc u (suc l) b f bs h k z = rw (lt-ltb b 128 h, ends f b z)

pub step_zero : (left : ℕ) (bs : List ℕ) → rest_of_number left false (0 ∷ bs) ≡ unread 2
unfolding rest_of_number
step_zero zero bs = refl
step_zero (suc l) bs = refl

pub step_big : (f : Bool) (b : ℕ) (bs : List ℕ) → 16 ≤ b → rest_of_number 0 f (b ∷ bs) ≡ unread 2
unfolding rest_of_number
step_big f b bs h = rw (le-ltb b 16 h)

-- the same at a place of a list

pub big_at : (w acc u left : ℕ) (f : Bool) (xs : List ℕ) (i : ℕ) → i < length xs → left ≡ 0 → 16 ≤ get_or xs i 0
    → carry w acc u (rest_of_number left f (drop i xs)) ≡ unread 2
big_at w acc u left f xs i h z k =
    at_drop_more (λ s. carry w acc u (rest_of_number left f s)) xs i 0 h
    ∙ ap (λ n. carry w acc u (rest_of_number n f (get_or xs i 0 ∷ drop (i + 1) xs))) z
    ∙ ap (carry w acc u) (step_big f (get_or xs i 0) (drop (i + 1) xs) k)

pub zero_at : (w acc u left : ℕ) (f : Bool) (xs : List ℕ) (i : ℕ) → i < length xs → f ≡ false → get_or xs i 0 ≡ 0
    → carry w acc u (rest_of_number left f (drop i xs)) ≡ unread 2
zero_at w acc u left f xs i h z k =
    at_drop_more (λ s. carry w acc u (rest_of_number left f s)) xs i 0 h
    ∙ ap (λ n. carry w acc u (rest_of_number left n (get_or xs i 0 ∷ drop (i + 1) xs))) z
    ∙ ap (λ n. carry w acc u (rest_of_number left false (n ∷ drop (i + 1) xs))) k
    ∙ ap (carry w acc u) (step_zero left (drop (i + 1) xs))

pub end_at : (w acc u left : ℕ) (f : Bool) (xs : List ℕ) (i : ℕ) → i < length xs → get_or xs i 0 < 128
    → (left ≡ 0 → get_or xs i 0 < 16) → (get_or xs i 0 ≡ 0 → f ≡ true)
    → carry w acc u (rest_of_number left f (drop i xs)) ≡ read (acc + w * get_or xs i 0) (u + 1)
end_at w acc u left f xs i h k z t =
    at_drop_more (λ s. carry w acc u (rest_of_number left f s)) xs i 0 h
    ∙ step_end w acc u left (get_or xs i 0) f (drop (i + 1) xs) k z t

pub on_at : (w acc u left : ℕ) (f : Bool) (xs : List ℕ) (i : ℕ) → i < length xs → 0 < left → 128 ≤ get_or xs i 0
    → carry w acc u (rest_of_number left f (drop i xs))
    ≡ carry (w * 128) (acc + w * (get_or xs i 0 - 128)) (u + 1) (rest_of_number (left - 1) false (drop (i + 1) xs))
on_at w acc u left f xs i h k z =
    at_drop_more (λ s. carry w acc u (rest_of_number left f s)) xs i 0 h
    ∙ step_on w acc u left (get_or xs i 0) f (drop (i + 1) xs) k z

pub none_at : (w acc u left : ℕ) (f : Bool) (xs : List ℕ) (i : ℕ) → length xs ≤ i
    → carry w acc u (rest_of_number left f (drop i xs)) ≡ unread 1
none_at w acc u left f xs i h =
    ap (λ s. carry w acc u (rest_of_number left f s)) (drop_all i xs h) ∙ ap (carry w acc u) (step_none left f)

pub on_next : (w acc i left m d : ℕ) (f g : Bool) (xs : List ℕ) → i < length xs → 0 < left → 128 ≤ get_or xs i 0
    → d ≡ get_or xs i 0 - 128 → m ≡ left - 1 → g ≡ false
    → carry w acc i (rest_of_number left f (drop i xs)) ≡ carry (w * 128) (acc + w * d) (i + 1) (rest_of_number m g (drop (i + 1) xs))
on_next w acc i left m d f g xs h k z p q r = let on = on_at w acc i left f xs i h k z in cc

-- past the end of the bytes a number is cut short
pub past_end : (xs : List ℕ) (at : ℕ) → length xs ≤ at → read_number xs at ≡ unread 1
past_end xs at h = ap (λ s. from_place at (decode s)) (drop_all at xs h) ∙ ap (from_place at) (step_none 4 true)
