-- What stays as nodes are added, and the node that is made of two answers.
use Rattle.std.proofs.Common.{◌≡◌, ℕ, suc, ◌+◌, ◌-◌, ◌^◌, ◌≤◌, Bool, true, false, eqb, ◌⊎◌, List, [], ◌∷◌, ◌++◌, length, ℤ, pos, ◌+ℤ◌, ◌-ℤ◌, nat_abs, Some, None, sym, refl, ap, ◌∙◌, subst, ap₂, ⊎_elim, append_assoc, arith, length-append}
use Rattle.std.proofs.lemmas.Bool.{cond-true, eq-eqb}
use Rattle.std.proofs.lemmas.Int.{ints}
use Rattle.std.specs.List.{slice_get}
use Rattle.diagrams.specs.declared.Child.{Child}
use Rattle.diagrams.specs.declared.Child.TheVariants.{Terminal, Place}
use Rattle.diagrams.specs.declared.Node.{Node}
use Rattle.diagrams.specs.declared.Edge.{Edge}
use Rattle.diagrams.specs.declared.Question.{Question}
use Rattle.diagrams.specs.Needs.{needed, once}
use Rattle.diagrams.specs.Nodes.{if_part, here, value, From, Sound}
use Rattle.diagrams.specs.Held.{In, node_table}
use Rattle.diagrams.specs.Apply.{meaning, edge_at, target, Fit, Right, Asked, AllRight, Grown, Good, Cofactor, joined, Joined, node_of, Makes, Top, edge_to, Settled, Sums}
use Rattle.diagrams.proofs.Tables.{table_ext}
use Rattle.diagrams.proofs.Canonical.{value_fit, value_leave, Stands}
use Rattle.diagrams.proofs.Extend.{nth_more, value_more, sound_push, nth_push, ordered_push}
use Rattle.diagrams.proofs.Reached.{Denotes, stands_depends, own_table, in_own_part}
use Rattle.diagrams.proofs.Held.{AtMost}
use Rattle.diagrams.proofs.Steps.{allows_ext, from_lower, cofactor_skip}

pub grown_none : (ns : List Node) → Grown ns ns
grown_none ns = record { more = []; is = sym (append_nil ns) }
  where
    append_nil : (xs : List Node) → xs ++ [] ≡ xs
    append_nil [] = refl
    append_nil (x ∷ xs) = ap (λ ys. x ∷ ys) (append_nil xs)

pub grown_on : {a b c : List Node} → Grown a b → Grown b c → Grown a c
grown_on {a} g h = record { more = g.more ++ h.more; is = h.is ∙ ap (λ xs. xs ++ h.more) g.is ∙ append_assoc a g.more h.more }

pub nth_grown : {a b : List Node} → Grown a b → (k : ℕ) (n : Node) → slice_get a k ≡ Some n → slice_get b k ≡ Some n
nth_grown {a} g k n e = ap (λ xs. slice_get xs k) g.is ∙ nth_more a g.more k n e

pub from_grown : {a b : List Node} → Grown a b → (i : ℕ) (r : Child) → From a i r → From b i r
from_grown g i Terminal f = tt
from_grown g i (Place k) f = (f.0, nth_grown g k f.0 f.1, f.2)

pub from_back : {a b : List Node} → Grown a b → (i : ℕ) (r : Child) → From a 0 r → From b i r → From a i r
from_back g i Terminal f h = tt
from_back g i (Place k) f h =
    let p = nth_grown g k f.0 f.1 in
    let q = h.1 in
    let e : h.0 ≡ f.0 = cc in
    (f.0, f.1, subst (λ n. i ≤ n.part) e h.2)

pub value_grown : (parts : ℕ) {a b : List Node} → Sound parts a → Grown a b → (i : ℕ) (r : Child) (c : List Bool) → From a i r → value b i r c ≡ value a i r c
value_grown parts {a} sound g i r c f = ap (λ xs. value xs i r c) g.is ∙ value_more parts a g.more sound c i r f

module _ (parts : ℕ) {a b : List Node} (sound : Sound parts a) (g : Grown a b) where
  pub edge_grown : (i : ℕ) (e : Edge) (c : List Bool) → From a i e.child → edge_at b i e c ≡ edge_at a i e c
  edge_grown i e c f = ap (λ z. e.constant +ℤ z) (value_grown parts sound g i e.child c f)

  target_grown : (i : ℕ) (q : Question) (c : List Bool) → From a i q.left.child → From a i q.right.child → target b i q c ≡ target a i q c
  target_grown i q c fl fr = ap₂ (meaning q.operation) (edge_grown i q.left c fl) (edge_grown i q.right c fr)

  pub asked_grown : (ts : List (List ℤ)) (i : ℕ) (q : Question) → Asked parts a ts i q → Asked parts b ts i q
  asked_grown ts i q k = record {
    low = k.low;
    left_in = from_grown g i _ k.left_in;
    right_in = from_grown g i _ k.right_in;
    fit = λ c e. subst (λ z. Fit q.operation z (edge_at b i q.right c)) (sym (edge_grown i q.left c k.left_in)) (subst (λ z. Fit q.operation (edge_at a i q.left c) z) (sym (edge_grown i q.right c k.right_in)) (k.fit c e));
    allowed = allows_ext ts (parts - i) (target a i q) (target b i q) (λ c l. sym (target_grown i q c k.left_in k.right_in)) k.allowed;
  }

  pub right_grown : (q : Question) (e : Edge) → Right parts a q e → Right parts b q e
  right_grown q e r = record {
    left_in = from_grown g 0 _ r.left_in;
    right_in = from_grown g 0 _ r.right_in;
    right = λ i fl fr.
        let gl = from_back g i _ r.left_in fl in
        let gr = from_back g i _ r.right_in fr in
        let at = r.right i gl gr in
        record { from = from_grown g i _ at.from; equal = λ c l. edge_grown i e c at.from ∙ (at.equal c l ∙ sym (target_grown i q c gl gr)) };
  }

  pub cofactor_grown : (i : ℕ) (e : Edge) (x : Bool) (r : Edge) → From a i e.child → Cofactor a i e x r → Cofactor b i e x r
  cofactor_grown i e x r f c = record { from = from_grown g (suc i) _ c.from; equal = λ d. edge_grown i e (x ∷ d) f ∙ (c.equal d ∙ sym (edge_grown (suc i) r d c.from)) }

  pub all_right_grown : {S : Type 0} (holds : S → Question → Edge → Type 0) (s : S) → AllRight holds s parts a → AllRight holds s parts b
  all_right_grown holds s all p f h = right_grown p f (all p f h)

  pub top_grown : (q : Question) (j : ℕ) → Top parts a q j → Top parts b q j
  top_grown q j t = record {
    low = t.low;
    left_in = from_grown g j _ t.left_in;
    right_in = from_grown g j _ t.right_in;
    most = λ i fl fr. t.most i (from_back g i _ (from_lower a 0 j _ (omega arith) t.left_in) fl) (from_back g i _ (from_lower a 0 j _ (omega arith) t.right_in) fr);
  }

pub all_right_noted : {S : Type 0} (holds : S → Question → Edge → Type 0) (s s' : S) (parts : ℕ) (ns : List Node) (q : Question) (e : Edge) → AllRight holds s parts ns → Right parts ns q e → ((p : Question) (f : Edge) → holds s' p f → holds s p f ⊎ ((p ≡ q) × (f ≡ e))) → AllRight holds s' parts ns
all_right_noted holds s s' parts ns q e sound right held p f h =
    ⊎_elim (sound p f) (λ new. subst (λ x. Right parts ns x f) (sym new.0) (subst (Right parts ns q) (sym new.1) right)) (held p f h)

edge_path : (a b : Edge) → a.constant ≡ b.constant → a.child ≡ b.child → a ≡ b
edge_path a b p q i = record { constant = p i; child = q i }

nth_last : (ns : List Node) (n : Node) → slice_get (ns ++ (n ∷ [])) (length ns) ≡ Some n
nth_last [] n = refl
nth_last (p ∷ ns) n = nth_last ns n

there : (a b v : ℤ) → b +ℤ ((a -ℤ b) +ℤ v) ≡ a +ℤ v
there a b v = omega (arith, ints)

zero_apart : (a b : ℤ) → a -ℤ b ≡ pos 0 → a ≡ b
zero_apart a b e = omega (arith, ints)

apart_small : (a b : ℤ) → nat_abs a ≤ 2 ^ 28 → nat_abs b ≤ 2 ^ 28 → nat_abs (a -ℤ b) ≤ 2 ^ 29
apart_small a b h k = omega (arith, ints)

-- a node of these two children stands at k
pub joined_at : (ns : List Node) (i : ℕ) (fit out : Edge) (k : ℕ) → slice_get ns k ≡ Some (node_of i fit out) → Joined ns i fit out (edge_to out k)
joined_at ns i fit out k e =
    let n : Node = node_of i fit out in
    let stands : here ns i (Place k) ≡ Some n = ap (if_part i) e ∙ cond-true (eqb i i) (Some n) None (eq-eqb i i refl) in
    record {
      from = (n, e, omega arith);
      fitted = λ c. ap (λ z. out.constant +ℤ z) (value_fit ns i (Place k) n c stands) ∙ there fit.constant out.constant (value ns (suc i) fit.child c);
      left_out = λ c. ap (λ z. out.constant +ℤ z) (value_leave ns i (Place k) n c stands);
    }

module _ (parts : ℕ) (ns : List Node) (ts : List (List ℤ)) (good : Good parts ns ts) (i : ℕ) (fit out : Edge) (m : Makes parts ns ts i fit out) (differ : fit ≡ out → ⊥) (new : (k : ℕ) → slice_get ns k ≡ Some (node_of i fit out) → ⊥) where
  abbrev n : Node
  n = node_of i fit out

  abbrev after : List Node
  after = ns ++ (n ∷ [])

  grown : Grown ns after
  grown = record { more = n ∷ []; is = refl }

  sound_after : Sound parts after
  sound_after = sound_push parts ns n good.sound m.low m.fit_in m.out_in (λ e v. differ (edge_path fit out (zero_apart _ _ v) e)) new

  pub joined_new : Joined after i fit out (edge_to out (length ns))
  joined_new = joined_at after i fit out (length ns) (nth_last ns n)

  denotes : (d : ℕ) → Denotes parts after sound_after (suc d) i out.constant (Place (length ns)) (joined ns i fit out)
  denotes d [] l = absurd (omega arith)
  denotes d (true ∷ c) l = joined_new.fitted c ∙ edge_grown parts good.sound grown (suc i) fit c m.fit_in
  denotes d (false ∷ c) l = joined_new.left_out c ∙ edge_grown parts good.sound grown (suc i) out c m.out_in

  stands : Stands after i (Place (length ns)) n
  stands = record { k = length ns; is = refl; found = nth_last ns n; part_is = refl; stands = ap (if_part i) (nth_last ns n) ∙ cond-true (eqb i i) (Some n) None (eq-eqb i i refl) }

  new_within : In (node_table parts after (length ns) n) ts
  unfolding stands
  new_within =
      let low = m.low in
      let d : ℕ = parts - suc i in
      let e : i + suc d ≡ parts = omega arith in
      let s : suc d ≡ parts - i = omega arith in
      let f : List Bool → ℤ = joined ns i fit out in
      m.allowed _ (subst (λ z. In (node_table parts after (length ns) n) (needed z f)) s
      (in_own_part parts after sound_after d f _ (stands_depends parts after sound_after d i e out.constant (Place (length ns)) f n stands (denotes d)) (own_table parts after sound_after d i e out.constant (Place (length ns)) f n stands (denotes d))))

  old_within : (k : ℕ) (q : Node) → slice_get ns k ≡ Some q → In (node_table parts after k q) ts
  old_within k q e =
      subst (λ t. In t ts) (sym (table_ext (parts - q.part) (value after q.part (Place k)) (value ns q.part (Place k)) (λ c l. value_grown parts good.sound grown q.part (Place k) c (q, e, omega arith)))) (good.within k q e)

  pub good_new : Good parts after ts
  good_new = record {
    sound = sound_after;
    ordered = ordered_push parts ns n good.ordered m.low m.fit_in m.out_in;
    small = λ k q e. ⊎_elim (λ h. good.small k q h) (λ h. subst (λ z. nat_abs z.value ≤ 2 ^ 29) (sym h.1) (apart_small fit.constant out.constant m.fit_small m.out_small)) (nth_push ns n q k e);
    within = λ k q e. ⊎_elim (λ h. old_within k q h) (λ h. subst (λ z. In (node_table parts after k z) ts) (sym h.1) (subst (λ z. In (node_table parts after z n) ts) (sym h.0) new_within)) (nth_push ns n q k e);
  }

  -- one more is wanted than the table has
  pub one_more : suc (length ns) ≤ length (once ts)
  one_more =
      let h = AtMost parts after sound_after ts (λ k q e. good_new.within k q e) in
      let l = length-append ns (n ∷ []) in
      omega arith

pub settled_grown : (parts : ℕ) {a b : List Node} → Sound parts a → Grown a b → (i : ℕ) (q : Question) (x : Bool) (r : Question) → From a i q.left.child → From a i q.right.child → Settled a i q x r → Settled b i q x r
settled_grown parts sound g i q x r fl fr s = record { operation_is = s.operation_is; left = cofactor_grown parts sound g i q.left x r.left fl s.left; right = cofactor_grown parts sound g i q.right x r.right fr s.right }

pub sums_grown : (parts : ℕ) {a b : List Node} → Sound parts a → Grown a b → (ws : List ℤ) (i : ℕ) (e : Edge) → Sums parts a ws i e → Sums parts b ws i e
sums_grown parts sound g ws i e s = record { from = from_grown g i _ s.from; equal = λ c h. edge_grown parts sound g i e c s.from ∙ s.equal c h }

-- equal edges are joined without a node
pub joined_same : (ns : List Node) (i : ℕ) (fit out : Edge) → fit ≡ out → From ns (suc i) fit.child → Joined ns i fit out fit
joined_same ns i fit out e f = record {
  from = from_lower ns i (suc i) _ (omega arith) f;
  fitted = (cofactor_skip ns i fit true f).equal;
  left_out = λ c. (cofactor_skip ns i fit false f).equal c ∙ ap (λ z. edge_at ns (suc i) z c) e;
}
