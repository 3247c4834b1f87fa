-- A part settled, the least part, and the questions that constants answer.
use Rattle.std.proofs.Common.{◌≡◌, ℕ, suc, ◌<◌, ◌≤◌, Bool, true, false, eqb, ◌⊎◌, List, [], ◌∷◌, ℤ, pos, ◌+ℤ◌, ◌*ℤ◌, Some, None, Option, sym, refl, ap, ◌∙◌, subst, ap₂, inl, inr, ⊎_elim, arith, MatchOption}
use lib.IntN.{+ℤ_idr, +ℤ_assoc, zero-*ℤ, *ℤ-zero, *ℤ-one}
use Rattle.std.proofs.lemmas.Bool.{cond-true, eq-eqb}
use Rattle.std.proofs.lemmas.Int.{ints}
use Rattle.std.specs.List.{slice_get}
use Rattle.diagrams.specs.declared.Child.{Child}
use Rattle.diagrams.specs.declared.Child.TheVariants.{Terminal, Place}
use Rattle.diagrams.specs.declared.Node.{Node}
use Rattle.diagrams.specs.declared.Edge.{Edge}
use Rattle.diagrams.specs.declared.Operation.TheVariants.{Times}
use Rattle.diagrams.specs.declared.Question.{Question}
use Rattle.diagrams.specs.Nodes.{if_part, here, value, From, Sound}
use Rattle.diagrams.specs.Apply.{meaning, edge_at, Bit, Fit, RightAt, Right, Cofactor, Answers, Known, Open, Asked, Settled, question, Makes, Joined, Top}
use Rattle.diagrams.proofs.Canonical.{value_fit, value_leave}
use Rattle.diagrams.proofs.Steps.{asked_settled, answer_bit, bit_small, allows_joined, right_top, right_joined}

at_node : (ns : List Node) (i k : ℕ) (n : Node) → slice_get ns k ≡ Some n → n.part ≡ i → here ns i (Place k) ≡ Some n
at_node ns i k n f e = ap (if_part i) f ∙ cond-true (eqb n.part i) (Some n) None (eq-eqb n.part i e)

pub cofactor_fit : (parts : ℕ) (ns : List Node) → Sound parts ns → (i k : ℕ) (n : Node) (e : Edge) → e.child ≡ Place k → slice_get ns k ≡ Some n → n.part ≡ i → Cofactor ns i e true (record { constant = e.constant +ℤ n.value; child = n.left })
cofactor_fit parts ns sound i k n e at f p = record {
  from = subst (λ h. From ns (suc h) n.left) p (sound.left_higher k n f);
  equal = λ c. ap (λ z. e.constant +ℤ z) (value_fit ns i e.child n c (ap (here ns i) at ∙ at_node ns i k n f p)) ∙ sym (+ℤ_assoc e.constant n.value (value ns (suc i) n.left c));
}

pub cofactor_out : (parts : ℕ) (ns : List Node) → Sound parts ns → (i k : ℕ) (n : Node) (e : Edge) → e.child ≡ Place k → slice_get ns k ≡ Some n → n.part ≡ i → Cofactor ns i e false (record { constant = e.constant; child = n.right })
cofactor_out parts ns sound i k n e at f p = record {
  from = subst (λ h. From ns (suc h) n.right) p (sound.right_higher k n f);
  equal = λ c. ap (λ z. e.constant +ℤ z) (value_leave ns i e.child n c (ap (here ns i) at ∙ at_node ns i k n f p));
}

pub from_next : (ns : List Node) (i k : ℕ) (r : Child) (n : Node) → r ≡ Place k → slice_get ns k ≡ Some n → (n.part ≡ i → ⊥) → From ns i r → From ns (suc i) r
from_next ns i k Terminal n at f p h = tt
from_next ns i k (Place j) n at f p h =
    let g = h.1 in
    let e : h.0 ≡ n = cc in
    let q : h.0.part ≡ n.part = ap (λ z. z.part) e in
    let l = h.2 in
    (h.0, h.1, ⊎_elim (λ z. absurd (p (omega arith))) (λ z. z) (less h.0.part i l))
  where
    less : (a b : ℕ) → b ≤ a → (a ≡ b) ⊎ (suc b ≤ a)
    less a b h = ⊎_elim (λ e. inl e) (⊎_elim (λ e. absurd (omega arith)) (λ e. inr e)) (Rattle.std.proofs.lemmas.Bool.cases_order a b)

pub value_terminal : (ns : List Node) (i : ℕ) (c : List Bool) → value ns i Terminal c ≡ pos 0
value_terminal ns i [] = refl
value_terminal ns i (x ∷ c) = value_terminal ns (suc i) c

pub edge_constant : (ns : List Node) (i : ℕ) (e : Edge) (c : List Bool) → e.child ≡ Terminal → edge_at ns i e c ≡ e.constant
edge_constant ns i e c t = ap (λ r. e.constant +ℤ value ns i r c) t ∙ (ap (λ z. e.constant +ℤ z) (value_terminal ns i c) ∙ +ℤ_idr e.constant)

from_terminal : (ns : List Node) (i : ℕ) (r : Child) → r ≡ Terminal → From ns i r
from_terminal ns i r e = subst (From ns i) (sym e) tt

-- both constant
pub compared : (q : Question) (e : Edge) → q.left.child ≡ Terminal → q.right.child ≡ Terminal → e.child ≡ Terminal → e.constant ≡ meaning q.operation q.left.constant q.right.constant → Answers q e
compared q e l r t v parts ns fl fr = record {
  left_in = fl;
  right_in = fr;
  right = λ i gl gr. record {
    from = from_terminal ns i e.child t;
    equal = λ c h. edge_constant ns i e c t ∙ (v ∙ ap₂ (meaning q.operation) (sym (edge_constant ns i q.left c l)) (sym (edge_constant ns i q.right c r)));
  };
}

one_times : (z : ℤ) → pos 1 *ℤ z ≡ z
one_times z = omega (arith, ints)

by_left : (a b e : Edge) (ns : List Node) (i : ℕ) (c : List Bool) → Known a b e → edge_at ns i e c ≡ edge_at ns i a c *ℤ edge_at ns i b c
by_left a b e ns i c (t, inl (v, w)) = ap (λ z. edge_at ns i z c) w ∙ (edge_constant ns i a c t ∙ (v ∙ (sym (zero-*ℤ (edge_at ns i b c)) ∙ ap (λ z. z *ℤ edge_at ns i b c) (sym (edge_constant ns i a c t ∙ v)))))
by_left a b e ns i c (t, inr (v, w)) = ap (λ z. edge_at ns i z c) w ∙ (sym (one_times (edge_at ns i b c)) ∙ ap (λ z. z *ℤ edge_at ns i b c) (sym (edge_constant ns i a c t ∙ v)))

by_right : (a b e : Edge) (ns : List Node) (i : ℕ) (c : List Bool) → Known b a e → edge_at ns i e c ≡ edge_at ns i a c *ℤ edge_at ns i b c
unfolding lib.IntN.one
by_right a b e ns i c (t, inl (v, w)) = ap (λ z. edge_at ns i z c) w ∙ (edge_constant ns i b c t ∙ (v ∙ (sym (*ℤ-zero (edge_at ns i a c)) ∙ ap (λ z. edge_at ns i a c *ℤ z) (sym (edge_constant ns i b c t ∙ v)))))
by_right a b e ns i c (t, inr (v, w)) = ap (λ z. edge_at ns i z c) w ∙ (sym (*ℤ-one (edge_at ns i a c)) ∙ ap (λ z. edge_at ns i a c *ℤ z) (sym (edge_constant ns i b c t ∙ v)))

known_from : (a b e : Edge) (ns : List Node) (i : ℕ) → From ns i a.child → From ns i b.child → Known a b e → From ns i e.child
known_from a b e ns i fa fb (t, inl (v, w)) = subst (λ z. From ns i z.child) (sym w) fa
known_from a b e ns i fa fb (t, inr (v, w)) = subst (λ z. From ns i z.child) (sym w) fb

pub times_left : (q : Question) (e : Edge) → q.operation ≡ Times → Known q.left q.right e → Answers q e
times_left q e o k parts ns fl fr = record {
  left_in = fl;
  right_in = fr;
  right = λ i gl gr. record { from = known_from q.left q.right e ns i gl gr k; equal = λ c h. by_left q.left q.right e ns i c k ∙ ap (λ z. meaning z (edge_at ns i q.left c) (edge_at ns i q.right c)) (sym o) };
}

pub times_right : (q : Question) (e : Edge) → q.operation ≡ Times → Known q.right q.left e → Answers q e
times_right q e o k parts ns fl fr = record {
  left_in = fl;
  right_in = fr;
  right = λ i gl gr. record { from = known_from q.right q.left e ns i gr gl k; equal = λ c h. by_right q.left q.right e ns i c k ∙ ap (λ z. meaning z (edge_at ns i q.left c) (edge_at ns i q.right c)) (sym o) };
}

pub times_open : (q : Question) → q.operation ≡ Times → (r : Option Edge) → (q.left.child ≡ Terminal → Bit q.left.constant → ⊥) → MatchOption r (q.right.child ≡ Terminal → Bit q.right.constant → ⊥) (λ e. Known q.right q.left e) → MatchOption r (Open q) (λ e. Answers q e)
times_open q o None l h = λ a b f. l a (subst (λ z. Fit z q.left.constant q.right.constant) o f).0
times_open q o (Some e) l h = times_right q e o h

settled_eq : (q r : Question) → r.operation ≡ q.operation → question q.operation r.left r.right ≡ r
settled_eq q r e i = record { operation = sym e i; left = r.left; right = r.right }

module _ (parts : ℕ) (ns : List Node) (i : ℕ) (q : Question) (low : i < parts) where
  pub ask_settled_lem : (ts : List (List ℤ)) (x : Bool) (r : Question) → Asked parts ns ts i q → Settled ns i q x r → Asked parts ns ts (suc i) r
  ask_settled_lem ts x r a s = subst (Asked parts ns ts (suc i)) (settled_eq q r s.operation_is) (asked_settled parts ns ts i q x r.left r.right low a s.left s.right)

  answer_of : (x : Bool) (r : Question) (e : Edge) → Settled ns i q x r → Right parts ns r e → RightAt parts ns (suc i) (question q.operation r.left r.right) e
  answer_of x r e s a = subst (λ z. RightAt parts ns (suc i) z e) (sym (settled_eq q r s.operation_is)) (a.right (suc i) s.left.from s.right.from)

  module _ (q₁ q₀ : Question) (s₁ : Settled ns i q true q₁) (s₀ : Settled ns i q false q₀) (fit out : Edge) (a₁ : Right parts ns q₁ fit) (a₀ : Right parts ns q₀ out) where
    -- the node of the two answers may be made
    pub may_make : (ts : List (List ℤ)) → Asked parts ns ts i q → Makes parts ns ts i fit out
    may_make ts a =
        let r₁ = a₁.right (suc i) s₁.left.from s₁.right.from in
        let r₀ = a₀.right (suc i) s₀.left.from s₀.right.from in
        record {
          low = low;
          fit_in = r₁.from;
          out_in = r₀.from;
          fit_small = bit_small fit.constant (answer_bit parts ns ts (suc i) q₁ fit (ask_settled_lem ts true q₁ a s₁) r₁);
          out_small = bit_small out.constant (answer_bit parts ns ts (suc i) q₀ out (ask_settled_lem ts false q₀ a s₀) r₀);
          allowed = allows_joined parts ns ts i q q₁.left q₁.right q₀.left q₀.right fit out low s₁.left s₁.right s₀.left s₀.right (answer_of true q₁ fit s₁ a₁) (answer_of false q₀ out s₀ a₀) a;
        }

    -- and answers the question
    pub answered : (e : Edge) → Joined ns i fit out e → Top parts ns q i → Right parts ns q e
    answered e j t = right_top parts ns q e i t (right_joined parts ns i q q₁.left q₁.right q₀.left q₀.right fit out e low s₁.left s₁.right s₀.left s₀.right (answer_of true q₁ fit s₁ a₁) (answer_of false q₀ out s₀ a₀) j)
