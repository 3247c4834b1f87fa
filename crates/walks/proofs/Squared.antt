-- The product of an edge with itself.
use Rattle.std.proofs.Common.{◌≡◌, ℕ, zero, suc, ◌+◌, ◌-◌, ◌≤◌, Bool, List, [], ◌∷◌, length, ℤ, ◌+ℤ◌, ◌*ℤ◌, sym, ap, ◌∙◌, subst, inl, inr, ⊎_elim, arith}
use Rattle.std.proofs.lemmas.Bool.{cases_lt}
use Rattle.diagrams.specs.declared.Edge.{Edge}
use Rattle.diagrams.specs.declared.Node.{Node}
use Rattle.diagrams.specs.declared.Operation.TheVariants.{Times}
use Rattle.diagrams.specs.declared.Question.{Question}
use Rattle.diagrams.specs.Nodes.{From}
use Rattle.diagrams.specs.Apply.{meaning, edge_at, Bit, Fit, Asked, Right}
use Rattle.diagrams.proofs.Steps.{value_up, from_lower, asked_up}
use Rattle.questions.specs.Products.{Squares}

bit_square : (z : ℤ) → Bit z → z ≡ z *ℤ z
bit_square z (inl e) = e ∙ ap (λ x. x *ℤ x) (sym e)
bit_square z (inr e) = e ∙ ap (λ x. x *ℤ x) (sym e)

-- an edge whose values from part j up are 0 and 1, at an earlier part
bits_down : (parts : ℕ) (ns : List Node) (e : Edge) (d i j : ℕ) → i + d ≡ j → From ns j e.child → ((c : List Bool) → j + length c ≡ parts → Bit (edge_at ns j e c)) → (c : List Bool) → i + length c ≡ parts → j ≤ parts → Bit (edge_at ns i e c)
bits_down parts ns e zero i j h f all c k low = let z : j ≡ i = omega arith in subst (λ y. (c : List Bool) → y + length c ≡ parts → Bit (edge_at ns y e c)) z all c k
bits_down parts ns e (suc d) i j h f all [] k low = absurd (omega arith)
bits_down parts ns e (suc d) i j h f all (x ∷ c) k low =
    subst (λ v. Bit (e.constant +ℤ v)) (sym (value_up ns i e.child x c (from_lower ns (suc i) j e.child (omega arith) f))) (bits_down parts ns e d (suc i) j (omega arith) f all c (omega arith) low)

module _ (parts : ℕ) (ns : List Node) (ts : List (List ℤ)) (j : ℕ) (q : Question) (a : Asked parts ns ts j q) (times : q.operation ≡ Times) where
  bit_at : (i : ℕ) → From ns i q.left.child → From ns i q.right.child → (c : List Bool) → i + length c ≡ parts → Bit (edge_at ns i q.left c)
  bit_at i fl fr c k =
      ⊎_elim
      (λ h. first (edge_at ns i q.left c) (edge_at ns i q.right c) ((asked_up (i - j) parts ns ts j i q (omega arith) (omega arith) fl fr a).fit c k))
      (λ h. bits_down parts ns q.left (j - i) i j (omega arith) a.left_in (λ d l. first (edge_at ns j q.left d) (edge_at ns j q.right d) (a.fit d l)) c k a.low)
      (cases_lt j i)
    where
      first : (y z : ℤ) → Fit q.operation y z → Bit y
      first y z f = (subst (λ o. Fit o y z) times f).0

pub squared : (parts : ℕ) (ns : List Node) (ts : List (List ℤ)) (j : ℕ) (q : Question) → Asked parts ns ts j q → (e : Edge) → Squares q e → Right parts ns q e
squared parts ns ts j q a e s = record {
  left_in = from_lower ns 0 j _ (omega arith) a.left_in;
  right_in = from_lower ns 0 j _ (omega arith) a.right_in;
  right = λ i fl fr. record {
    from = subst (λ x. From ns i x.child) (sym s.is) fl;
    equal = λ c k.
        ap (λ x. edge_at ns i x c) s.is
        ∙ (bit_square (edge_at ns i q.left c) (bit_at parts ns ts j q a s.times i fl fr c k)
        ∙ (ap (λ x. edge_at ns i q.left c *ℤ edge_at ns i x c) s.same
        ∙ ap (λ o. meaning o (edge_at ns i q.left c) (edge_at ns i q.right c)) (sym s.times)));
  };
}
