-- The sum that is left as parts are settled, and comparisons that its range decides.
use Rattle.std.proofs.Common.{◌≡◌, ℕ, zero, suc, ◌+◌, ◌-◌, ◌<◌, ◌≤◌, Bool, false, cond, List, [], ◌∷◌, length, get_or, drop, replicate, ℤ, pos, ◌+ℤ◌, ◌≤ℤ◌, sym, ap, ◌∙◌, subst, arith, drop-cons}
use lib.ListN.{length-replicate}
use lib.IntN.{+ℤ_idl}
use Rattle.std.proofs.lemmas.Int.{ints}
use Rattle.diagrams.specs.declared.Child.{Child}
use Rattle.diagrams.specs.declared.Node.{Node}
use Rattle.diagrams.specs.declared.Edge.{Edge}
use Rattle.diagrams.specs.declared.Operation.TheVariants.{Times}
use Rattle.diagrams.specs.declared.Question.{Question}
use Rattle.limits.specs.Limits.{sum}
use Rattle.diagrams.specs.Nodes.{value, From, Sound}
use Rattle.diagrams.specs.Apply.{meaning, edge_at, Right, Settled, Grown, Sums, Tail, Decides}
use Rattle.diagrams.proofs.Canonical.{value_out}
use Rattle.diagrams.proofs.Steps.{value_up, from_lower}
use Rattle.diagrams.proofs.Settle.{edge_constant}
use Rattle.diagrams.proofs.Grow.{value_grown}
use Rattle.diagrams.proofs.Chain.{sum_out, sums_constant}

pub sum_at : (ws : List ℤ) (i : ℕ) (x : Bool) (c : List Bool) → i < length ws → sum (drop i ws) (x ∷ c) ≡ cond x (get_or ws i (pos 0)) (pos 0) +ℤ sum (drop (suc i) ws) c
sum_at ws i x c h = ap (λ z. sum z (x ∷ c)) (drop-cons ws i (pos 0) h)

module _ (parts : ℕ) (ns : List Node) (ws : List ℤ) (long : parts ≤ length ws) where
  pub tail_up : (d i j : ℕ) (q : Question) → i + d ≡ j → j ≤ parts → From ns j q.left.child → Tail parts ns ws i q → Tail parts ns ws j q
  tail_up zero i j q e h f t = let k : i ≡ j = omega arith in subst (λ z. Tail parts ns ws z q) k t
  tail_up (suc d) i j q e h f t =
      tail_up d (suc i) j q (omega arith) h f
      (λ o c k. sym (value_up ns i q.left.child false c (from_lower ns (suc i) j q.left.child (omega arith) f)) ∙ (t o (false ∷ c) (omega arith) ∙ (sum_at ws i false c (omega arith) ∙ +ℤ_idl _)))

  -- both are 0 where all parts are left out
  apart : (a b x v s v₀ s₀ : ℤ) → a +ℤ (x +ℤ s) ≡ b +ℤ v → a +ℤ (x +ℤ s₀) ≡ b +ℤ v₀ → v₀ ≡ pos 0 → s₀ ≡ pos 0 → v ≡ s
  apart a b x v s v₀ s₀ e f g h = omega (arith, ints)

  pub tail_settled : (i : ℕ) (q : Question) (x : Bool) (r : Question) → i < parts → Settled ns i q x r → Tail parts ns ws i q → Tail parts ns ws (suc i) r
  tail_settled i q x r low s t o c k =
      let o' : q.operation ≡ Times → ⊥ = λ z. o (s.operation_is ∙ z) in
      let c₀ : List Bool = replicate (parts - suc i) false in
      let l : length c₀ ≡ parts - suc i = length-replicate (parts - suc i) false in
      apart q.left.constant r.left.constant (cond x (get_or ws i (pos 0)) (pos 0)) _ _ (value ns (suc i) r.left.child c₀) (sum (drop (suc i) ws) c₀)
      (at o' c k) (at o' c₀ (omega arith)) (value_out ns (parts - suc i) (suc i) r.left.child) (sum_out (drop (suc i) ws) (parts - suc i))
    where
      at : (q.operation ≡ Times → ⊥) → (d : List Bool) → suc i + length d ≡ parts → q.left.constant +ℤ (cond x (get_or ws i (pos 0)) (pos 0) +ℤ sum (drop (suc i) ws) d) ≡ r.left.constant +ℤ value ns (suc i) r.left.child d
      at o' d h = ap (λ z. q.left.constant +ℤ z) (sym (t o' (x ∷ d) (omega arith) ∙ sum_at ws i x d (omega arith))) ∙ s.left.equal d

pub tail_grown : (parts : ℕ) {a b : List Node} → Sound parts a → Grown a b → (ws : List ℤ) (i : ℕ) (q : Question) → From a i q.left.child → Tail parts a ws i q → Tail parts b ws i q
tail_grown parts sound g ws i q f t o c k = value_grown parts sound g i q.left.child c f ∙ t o c k

-- the sum that chain makes
pub tail_sum : (parts : ℕ) (ns : List Node) (ws : List ℤ) (i : ℕ) (q : Question) → i ≤ parts → Sums parts ns ws i q.left → Tail parts ns ws i q
tail_sum parts ns ws i q low s o c k = let z = sums_constant parts ns ws i q.left low s in sym (+ℤ_idl _) ∙ (ap (λ y. y +ℤ value ns i q.left.child c) (sym z) ∙ s.equal c k)

values_down : (P : ℤ → Type 0) (parts : ℕ) (ns : List Node) (r : Child) (d i p : ℕ) → i + d ≡ p → p ≤ parts → From ns p r → ((c : List Bool) → p + length c ≡ parts → P (value ns p r c)) → (c : List Bool) → i + length c ≡ parts → P (value ns i r c)
values_down P parts ns r zero i p e h f all c k = let z : p ≡ i = omega arith in subst (λ y. (c : List Bool) → y + length c ≡ parts → P (value ns y r c)) z all c k
values_down P parts ns r (suc d) i p e h f all [] k = absurd (omega arith)
values_down P parts ns r (suc d) i p e h f all (x ∷ c) k = subst P (sym (value_up ns i r x c (from_lower ns (suc i) p r (omega arith) f))) (values_down P parts ns r d (suc i) p (omega arith) h f all c (omega arith))

-- p is the part of the left edge's node
pub decided : (parts : ℕ) (ns : List Node) (q : Question) (e : Edge) (low high : ℤ) (p : ℕ) → p ≤ parts → From ns p q.left.child → ((i : ℕ) → From ns i q.left.child → i ≤ p) → ((c : List Bool) → p + length c ≡ parts → (low ≤ℤ value ns p q.left.child c) × (value ns p q.left.child c ≤ℤ high)) → Decides q low high e → Right parts ns q e
decided parts ns q e low high p h f most all d = record {
  left_in = from_lower ns 0 p q.left.child (omega arith) f;
  right_in = subst (From ns 0) (sym d.right_is) tt;
  right = λ i fl fr. record {
    from = subst (From ns i) (sym d.child_is) tt;
    equal = λ c k.
        let l = most i fl in
        let b = values_down (λ v. (low ≤ℤ v) × (v ≤ℤ high)) parts ns q.left.child (p - i) i p (omega arith) h f all c k in
        edge_constant ns i e c d.child_is ∙ (d.equal (value ns i q.left.child c) b.0 b.1 ∙ ap (meaning q.operation (edge_at ns i q.left c)) (sym (edge_constant ns i q.right c d.right_is)));
  };
}
