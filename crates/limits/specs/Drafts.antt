-- What a term does to a draft.
use Rattle.std.specs.Prelude.{◌≡◌, ℕ, Bool, true, cond, List, [], ◌∷◌, replicate, ℤ, pos, Some, None, Option, nat_le, nat_lt, slice_set, unsigned_abs}
use Rattle.std.specs.Iterator.Runs.{WholeRun}
use Rattle.limits.specs.declared.drafts.Term.{Term}
use Rattle.limits.specs.Refusals.{Reply, done, refused}

-- the part is above the highest one named before
abbrev pub rises : Option ℕ → ℕ → Bool
rises None part = true
rises (Some before) part = nat_lt before part

-- the tests of a term, in their order: its part is above 47 (7), does not rise (8), its coefficient is out of range (9)
abbrev pub tested : Option ℕ → ℕ → ℤ → Reply
tested last part a = cond (nat_le part 47) (cond (rises last part) (cond (nat_le (unsigned_abs a) 1000000) done (refused 9)) (refused 8)) (refused 7)

-- the coefficients after a term, as they were where it is refused
abbrev pub coefficients_after : Reply → List ℤ → ℕ → ℤ → List ℤ
coefficients_after done cs part a = slice_set cs part a
coefficients_after (refused n) cs part a = cs

-- the highest part named after a term, whatever its coefficient
abbrev pub last_after : Reply → Option ℕ → ℕ → Option ℕ
last_after done last part = Some part
last_after (refused n) last part = last

-- a draft: its coefficients, and the highest part that a term names
pub record Drafted : Type 0 where
  pub coefficients : List ℤ
  pub last : Option ℕ

-- the draft of these coefficients and this highest part
abbrev pub drafted : List ℤ → Option ℕ → Drafted
drafted cs last = record { coefficients = cs; last = last }

-- a draft that is just opened
abbrev pub opened : Drafted
opened = drafted (replicate 48 (pos 0)) None

-- a draft after a term; a refused term leaves it as it was
abbrev pub with_term : Drafted → Term → Drafted
with_term d t = drafted
    (coefficients_after (tested d.last t.part t.coefficient) d.coefficients t.part t.coefficient)
    (last_after (tested d.last t.part t.coefficient) d.last t.part)

-- a draft after terms, one by one
abbrev pub with_terms : Drafted → List Term → Drafted
with_terms d [] = d
with_terms d (t ∷ ts) = with_terms (with_term d t) ts

-- the draft of the terms that an iterator gives until it gives none
abbrev pub DraftOf : {I : Type 0} → (I → Option Term → I → Type 0) → I → List ℤ → Option ℕ → Type 0
DraftOf gives it coefficients last = WholeRun gives it (λ p. with_terms opened p.items ≡ drafted coefficients last)
