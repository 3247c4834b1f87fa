-- The lines of fitted parts, one after another, and pieces of text.
use Rattle.std.proofs.Common.{◌≡◌, ℕ, ◌+◌, ◌/◌, ◌%◌, ◌<◌, ◌≤◌, List, [], ◌∷◌, ◌++◌, length, get_or, drop, sym, ap, ◌∙◌, subst, arith, length-append, Bor, eq-eqb}
use lib.Seq.{sets, sets-eq}
use Rattle.std.proofs.lemmas.List.{at_drop_more, at_drop_all}
use Rattle.std.proofs.lemmas.Bool.{ne_eqb}
use Rattle.limits.specs.Choices.{bits}
use Rattle.numbers.specs.declared.cursors.Cursor.{Cursor}
use Rattle.numbers.specs.Cursors.{HasRoom, Puts}
use Rattle.numbers.proofs.Chains.{puts_then}
use Rattle.listings.specs.Listings.{fit_line, fit_lines, contents, fitted}

pub fit_length : (name : List ℕ) → length (fit_line name) ≡ 5 + length name
fit_length name = let l = length-append name (10 ∷ []) in omega arith

abbrev pub unread : Bor (List ℕ)
unread = record { ref_ptr = (0, 0); now = [] }

-- the lines of the parts that a word fits
abbrev pub chosen : List (Bor (List ℕ)) → ℕ → List ℕ
chosen ns w = fit_lines (fitted (contents ns) (bits (length ns) w))

pub chosen_in : (ns : List (Bor (List ℕ))) (i w : ℕ) → i < length ns → w % 2 ≡ 1
    → chosen (drop i ns) w ≡ fit_line (get_or ns i unread).now ++ chosen (drop (i + 1) ns) (w / 2)
chosen_in ns i w h e = at_drop_more (λ s. chosen s w) ns i unread h ∙ rw (eq-eqb (w % 2) 1 e)

pub chosen_out : (ns : List (Bor (List ℕ))) (i w : ℕ) → i < length ns → (w % 2 ≡ 1 → ⊥) → chosen (drop i ns) w ≡ chosen (drop (i + 1) ns) (w / 2)
chosen_out ns i w h e = at_drop_more (λ s. chosen s w) ns i unread h ∙ rw (ne_eqb (w % 2) 1 e)

pub chosen_none : (ns : List (Bor (List ℕ))) (i w : ℕ) → length ns ≤ i → chosen (drop i ns) w ≡ []
chosen_none ns i w h = at_drop_all (λ s. chosen s w) ns i h

pub chosen_length : (ns : List (Bor (List ℕ))) (i w : ℕ) → i < length ns → w % 2 ≡ 1
    → length (chosen (drop i ns) w) ≡ 5 + length (get_or ns i unread).now + length (chosen (drop (i + 1) ns) (w / 2))
chosen_length ns i w h e =
    let f = fit_length (get_or ns i unread).now in
    let l = ap length (chosen_in ns i w h e) ∙ length-append (fit_line (get_or ns i unread).now) (chosen (drop (i + 1) ns) (w / 2)) in omega arith

-- a fitted part's line, and then the lines that are left
module _ (ns : List (Bor (List ℕ))) (i w : ℕ) (h : i < length ns) (e : w % 2 ≡ 1) (was next : Cursor) (p : Puts (fit_line (get_or ns i unread).now) was next) where
  pub room_after : HasRoom (chosen (drop i ns) w) was → HasRoom (chosen (drop (i + 1) ns) (w / 2)) next
  room_after room = omega (arith, room, p.at, p.size, chosen_length ns i w h e, fit_length (get_or ns i unread).now)

  pub puts_line : (end : Cursor) → Puts (chosen (drop (i + 1) ns) (w / 2)) next end → Puts (chosen (drop i ns) w) was end
  puts_line end rest = subst (λ s. Puts s was end) (sym (chosen_in ns i w h e)) (puts_then _ _ was next end p rest)

-- what is put at the start of a slice, and then after it, stands before the rest of the slice
pub from_start : (o s t : List ℕ) (was next is : Cursor) → was.at ≡ 0 → was.out.now ≡ o → Puts s was next → Puts t next is → length (s ++ t) ≤ length o
    → is.out.now ≡ (s ++ t) ++ drop (length (s ++ t)) o
from_start o s t was next is e f p q h =
    (puts_then s t was next is p q).out ∙ (ap (λ a. sets was.out.now a (s ++ t)) e ∙ (ap (λ xs. sets xs 0 (s ++ t)) f
    ∙ (sets-eq (s ++ t) o 0 (omega arith) ∙ ap (λ n. (s ++ t) ++ drop n o) (omega arith))))
