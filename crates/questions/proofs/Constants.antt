-- Comparisons of two numbers, and of two constants.
use Rattle.std.proofs.Common.{◌≡◌, Bool, ℤ, Some, None, Option, MatchOption, ap, sym, ◌∙◌, subst}
use lib.Signed.{le_z}
use Rattle.std.specs.Option.{IsSomeAnd}
use Rattle.diagrams.specs.declared.Child.TheVariants.{Terminal}
use Rattle.diagrams.specs.declared.Edge.{Edge}
use Rattle.diagrams.specs.declared.Operation.{Operation}
use Rattle.diagrams.specs.declared.Operation.TheVariants.{AtMost, AtLeast, Times}
use Rattle.diagrams.specs.declared.Question.{Question}
use Rattle.diagrams.specs.Needs.{indicator}
use Rattle.diagrams.specs.Apply.{meaning, Bit, Known, Answers, Open, constant_edge}
use Rattle.diagrams.proofs.Settle.{compared as both_constant, times_left, times_open}
use Rattle.questions.specs.Comparisons.{compared}

pub told : (o : Operation) (a b : ℤ) (k : Bool) → compared o a b ≡ Some k → meaning o a b ≡ indicator k
told AtMost a b k h = let e : le_z a b ≡ k = cc in ap indicator e
told AtLeast a b k h = let e : le_z b a ≡ k = cc in ap indicator e
told Times a b k h = cc

none_told : (o : Operation) (a b : ℤ) → compared o a b ≡ None → o ≡ Times
none_told AtMost a b h = cc
none_told AtLeast a b h = cc
none_told Times a b h = cc

pub constants : (q : Question) (o : Option Bool) (r : Option Edge) → q.left.child ≡ Terminal → q.right.child ≡ Terminal → (q.operation ≡ Times → ⊥) → o ≡ compared q.operation q.left.constant q.right.constant → MatchOption o (r ≡ None) (λ k. IsSomeAnd r (λ e. e ≡ constant_edge k)) → MatchOption r (Open q) (λ e. Answers q e)
constants q None r l t n is h = absurd (n (none_told q.operation q.left.constant q.right.constant (sym is)))
constants q (Some k) None l t n is h = absurd h
constants q (Some k) (Some e) l t n is h = both_constant q e l t (ap (λ z. z.child) h) (ap (λ z. z.constant) h ∙ sym (told q.operation q.left.constant q.right.constant k (sym is)))

-- a product, where the second factor is looked at if the first is no known constant
pub products : (q : Question) (l r : Option Edge) (Second : Type 0) → q.operation ≡ Times
    → MatchOption l (q.left.child ≡ Terminal → Bit q.left.constant → ⊥) (λ e. Known q.left q.right e)
    → MatchOption l Second (λ e. r ≡ Some e)
    → (Second → MatchOption r (q.right.child ≡ Terminal → Bit q.right.constant → ⊥) (λ e. Known q.right q.left e))
    → MatchOption r (Open q) (λ e. Answers q e)
products q None r Second times h k told = times_open q times r h (told k)
products q (Some e) None Second times h k told = cc
products q (Some e) (Some f) Second times h k told = let is : e ≡ f = cc in subst (Answers q) is (times_left q e times h)
