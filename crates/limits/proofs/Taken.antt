-- A draft that takes one term more.
use Rattle.std.proofs.Common.{◌≡◌, ℕ, List, [], ◌∷◌, ◌++◌, ℤ, Option, refl, sym, ◌∙◌, ap, ap₂}
use Rattle.limits.specs.declared.drafts.Term.{Term}
use Rattle.limits.specs.Drafts.{Drafted, drafted, opened, with_term, with_terms}

taken_after : (d : Drafted) (ts : List Term) (t : Term) → with_terms d (ts ++ t ∷ []) ≡ with_term (with_terms d ts) t
taken_after d [] t = refl
taken_after d (s ∷ ts) t = taken_after (with_term d s) ts t

-- the draft of some terms, and what it holds after one more
pub takes_one : (ts : List Term) (t : Term) (cs ds : List ℤ) (o p : Option ℕ)
    → ds ≡ (with_term (drafted cs o) t).coefficients → p ≡ (with_term (drafted cs o) t).last
    → with_terms opened ts ≡ drafted cs o → with_terms opened (ts ++ t ∷ []) ≡ drafted ds p
takes_one ts t cs ds o p e f inv = taken_after opened ts t ∙ (ap (λ d. with_term d t) inv ∙ sym (ap₂ drafted e f))
