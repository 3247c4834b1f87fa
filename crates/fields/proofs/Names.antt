-- a name among others; names, byte by byte and one after another
use Rattle.std.proofs.Common.{◌≡◌, ℕ, ◌+◌, ◌<◌, ◌≤◌, Bool, true, false, ◌&&◌, ◌||◌, leb, List, [], ◌∷◌, map, length, get_or, drop, Decides, refl, ap, ◌∙◌, inl, inr, Bor}
use Rattle.std.specs.Str.{bytes_eq}
use Rattle.std.proofs.lemmas.Slice.Eq.{bytes_eq-Decides}
use Rattle.std.proofs.lemmas.List.{at_drop_more, at_drop_all}
use Rattle.std.proofs.lemmas.Bool.{le-leb, lt-leb, cases_Bool, both_ways}
use Rattle.std.specs.List.{list_any}
use Rattle.fields.specs.Fields.{plain, among}

pub any_among : (ns : List (Bor (List ℕ))) (name : List ℕ) → list_any (λ n. bytes_eq n.now name) ns ≡ among (map (λ n. n.now) ns) name
any_among [] name = refl
any_among (n ∷ ns) name = ap (λ t. bytes_eq n.now name || t) (any_among ns name)

pub plain_more : (xs : List ℕ) (i : ℕ) → i < length xs → 33 ≤ get_or xs i 0 → get_or xs i 0 ≤ 126 → plain (drop i xs) ≡ plain (drop (i + 1) xs)
plain_more xs i h a b =
    at_drop_more plain xs i 0 h ∙ rw (le-leb 33 (get_or xs i 0) a, le-leb (get_or xs i 0) 126 b)

pub plain_low : (xs : List ℕ) (i : ℕ) → i < length xs → get_or xs i 0 < 33 → plain (drop i xs) ≡ false
plain_low xs i h a = at_drop_more plain xs i 0 h ∙ rw (lt-leb 33 (get_or xs i 0) a)

plain_not : (a b : Bool) → b ≡ false → (a && b) ≡ false
plain_not true b e = e
plain_not false b e = refl

pub plain_high : (xs : List ℕ) (i : ℕ) → i < length xs → 126 < get_or xs i 0 → plain (drop i xs) ≡ false
plain_high xs i h a =
    at_drop_more plain xs i 0 h
    ∙ ap (λ t. t && plain (drop (i + 1) xs)) (plain_not (leb 33 (get_or xs i 0)) (leb (get_or xs i 0) 126) (lt-leb (get_or xs i 0) 126 a))

pub same_true : (x y : List ℕ) (r : Bool) → Decides r (x ≡ y) → r ≡ true → bytes_eq x y ≡ true
same_true x y r d e = (bytes_eq-Decides x y).1 (d.0 e)

pub same_false : (x y : List ℕ) (r : Bool) → Decides r (x ≡ y) → r ≡ false → bytes_eq x y ≡ false
same_false x y r d e =
    elim (cases_Bool (bytes_eq x y)) [ inl t ↦ absurd (both_ways r e (d.1 ((bytes_eq-Decides x y).0 t))) | inr f ↦ f ]

pub among_here : (xs : List (Bor (List ℕ))) (name : List ℕ) (d : Bor (List ℕ)) (i : ℕ) → i < length xs → bytes_eq (get_or xs i d).now name ≡ true
    → among (map (λ n. n.now) (drop i xs)) name ≡ true
among_here xs name d i h e = at_drop_more (λ s. among (map (λ n. n.now) s) name) xs i d h ∙ rw e

pub among_more : (xs : List (Bor (List ℕ))) (name : List ℕ) (d : Bor (List ℕ)) (i : ℕ) → i < length xs → bytes_eq (get_or xs i d).now name ≡ false
    → among (map (λ n. n.now) (drop i xs)) name ≡ among (map (λ n. n.now) (drop (i + 1) xs)) name
among_more xs name d i h e = at_drop_more (λ s. among (map (λ n. n.now) s) name) xs i d h ∙ rw e

pub among_none : (xs : List (Bor (List ℕ))) (name : List ℕ) (i : ℕ) → length xs ≤ i → among (map (λ n. n.now) (drop i xs)) name ≡ false
among_none xs name i h = at_drop_all (λ s. among (map (λ n. n.now) s) name) xs i h
