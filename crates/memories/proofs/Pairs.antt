-- What a write leaves among the pairs, and what a search finds.
use Rattle.std.proofs.Common.{◌≡◌, ℕ, ◌+◌, ◌<◌, ◌⊎◌, ◌≢◌, List, [], ◌∷◌, ◌++◌, length, drop, set, Bool, true, false, Some, None, Option, MatchOption, ap, ◌∙◌, sym, subst, arith}
use Rattle.std.specs.List.{All, AllPairs, AllWithin, Contains, HoldsAt}
use Rattle.std.specs.Bool.{then_some}
use Rattle.std.proofs.lemmas.Bool.{cases_eq, cases_order}
use Rattle.std.proofs.lemmas.Grind.{common_steps}
use Rattle.std.proofs.lemmas.List.{get_or_default, places}
use Rattle.std.proofs.lemmas.List.Elements.{All-drop, All-from_all_within}
use Rattle.std.proofs.lemmas.List.Quantifiers.{all_pairs_push}
use Rattle.diagrams.specs.declared.Edge.{Edge}
use Rattle.diagrams.specs.declared.Question.{Question}
use Rattle.memories.specs.declared.Remembered.{Remembered}
use Rattle.memories.specs.Held.{pair}

-- no two pairs have one question
abbrev pub Apart : List Remembered → Type 0
Apart xs = AllPairs (λ x y. x.question ≢ y.question) xs

-- a pair takes the place of its question
pub apart_set : (xs : List Remembered) (i : ℕ) (q : Question) (e : Edge) → i < length xs → HoldsAt (λ x. x.question ≡ q) xs i → Apart xs → Apart (set xs i (pair q e))
apart_set xs i q e l at apart j k d m n same = grind (arith, common_steps, places, cases_eq j i, cases_eq k i, at d, apart j k d)

apart_drop : (xs : List Remembered) (n : ℕ) → Apart xs → Apart (drop n xs)
apart_drop xs n apart i j d l m same = grind (arith, places, apart (n + i) (n + j) d)

-- a pair comes behind the others, of which the first n go
pub apart_push : (xs ys : List Remembered) (n : ℕ) (q : Question) (e : Edge) → ys ≡ drop n xs ++ pair q e ∷ [] → All (λ x. x.question ≢ q) xs → Apart xs → Apart ys
apart_push xs ys n q e is none apart =
    subst Apart (sym is) (all_pairs_push (λ x y. x.question ≢ y.question) (drop n xs) (pair q e) (apart_drop xs n apart) (All-drop (λ x. x.question ≢ q) n xs none))

-- what is held then was held before, or is that pair
pub contains_push : (xs ys : List Remembered) (n : ℕ) (q : Question) (e : Edge) → ys ≡ drop n xs ++ pair q e ∷ []
    → (p : Question) (f : Edge) → Contains ys (pair p f) → Contains xs (pair p f) ⊎ ((p ≡ q) × (f ≡ e))
contains_push xs ys n q e is p f h =
    let held = subst (λ zs. Contains zs (pair p f)) is h in
    grind (arith, common_steps, places)

-- a question has one result at most
pub one_edge : (xs : List Remembered) (q : Question) (e f : Edge) → Apart xs → Contains xs (pair q e) → Contains xs (pair q f) → e ≡ f
one_edge xs q e f apart (i, l, a) (j, m, b) = grind (arith, cases_order i j, get_or_default xs j (pair q e) (pair q f) m, apart i j (pair q e), apart j i (pair q e))

-- where a question stands first, or that it stands nowhere
pub placed : (q : Question) (xs : List Remembered) (r : Option ℕ)
    → MatchOption r (AllWithin (λ x. x.question ≢ q) xs 0 (length xs)) (λ i. (i < length xs) × HoldsAt (λ x. x.question ≡ q) xs i × AllWithin (λ x. x.question ≢ q) xs 0 i)
    → MatchOption r (All (λ x. x.question ≢ q) xs) (λ i. (i < length xs) × HoldsAt (λ x. x.question ≡ q) xs i)
placed q xs None none = All-from_all_within (λ x. x.question ≢ q) xs none
placed q xs (Some i) at = (at.0, at.1)

-- what passes the test stands in the slot
pub passed : (q : Question) (x : Option Remembered) (r : Remembered) (Says : Remembered → Bool → Type 0)
    → ((y : Remembered) → Says y true → y.question ≡ q)
    → MatchOption x (Some r ≡ None) (λ y. (b : Bool) × Says y b × (Some r ≡ then_some b y))
    → x ≡ Some (pair q r.edge)
passed q None r Says same h = cc
passed q (Some y) r Says same (true, t, h) = let e : r ≡ y = cc in ap (λ z. Some (pair z y.edge)) (same y t) ∙ ap (λ z. Some (pair q z.edge)) (sym e)
passed q (Some y) r Says same (false, t, h) = cc
