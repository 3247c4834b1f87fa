-- More nodes leave what the older ones denote, and a sound table takes a new node.
use Rattle.std.proofs.Common.{◌≡◌, ℕ, zero, suc, ◌<◌, Bool, true, false, cond, eqb, ◌⊎◌, List, [], ◌∷◌, ◌++◌, length, ℤ, pos, ◌+ℤ◌, Some, sym, refl, ap, ◌∙◌, subst, inl, inr, ⊎_elim, arith}
use Rattle.std.specs.List.{slice_get}
use Rattle.std.proofs.lemmas.Bool.{ne_eqb}
use Rattle.std.proofs.lemmas.Option.{slice_get_within}
use Rattle.diagrams.specs.declared.Child.{Child}
use Rattle.diagrams.specs.declared.Child.TheVariants.{Terminal, Place}
use Rattle.diagrams.specs.declared.Node.{Node}
use Rattle.diagrams.specs.Nodes.{if_part, here, turn, value, From, Sound, Under, Ordered}
use Rattle.diagrams.proofs.Canonical.{view, View}

pub nth_more : (ns more : List Node) (k : ℕ) (n : Node) → slice_get ns k ≡ Some n → slice_get (ns ++ more) k ≡ Some n
nth_more [] more k n e = let z : ◌≡◌ {A = ℕ} 0 1 = cc in absurd (omega arith)
nth_more (q ∷ ns) more zero n e = e
nth_more (q ∷ ns) more (suc k) n e = nth_more ns more k n e

pub from_more : (ns more : List Node) (i : ℕ) (r : Child) → From ns i r → From (ns ++ more) i r
from_more ns more i Terminal f = tt
from_more ns more i (Place k) f = (f.0, nth_more ns more k f.0 f.1, f.2)

module _ (parts : ℕ) (ns more : List Node) (sound : Sound parts ns) where
  here_more : (i : ℕ) (r : Child) → From ns i r → here (ns ++ more) i r ≡ here ns i r
  here_more i Terminal f = refl
  here_more i (Place k) f = ap (if_part i) (nth_more ns more k f.0 f.1 ∙ sym f.1)

  pub value_more : (c : List Bool) (i : ℕ) (r : Child) → From ns i r → value (ns ++ more) i r c ≡ value ns i r c
  value_more [] i r f = refl
  value_more (x ∷ c) i r f = ap (λ o. turn o r (λ s. value (ns ++ more) (suc i) s c) x) (here_more i r f) ∙ at x (view ns i r f) (value_more c (suc i))
    where
      at : (y : Bool) → View ns i r → ((s : Child) → From ns (suc i) s → value (ns ++ more) (suc i) s c ≡ value ns (suc i) s c) → turn (here ns i r) r (λ s. value (ns ++ more) (suc i) s c) y ≡ turn (here ns i r) r (λ s. value ns (suc i) s c) y
      at y (inl s) ih = rw s.0 (ih r s.1)
      at true (inr s) ih = let st = s.1 in rw st.stands (ap (λ z. s.0.value +ℤ z) (ih s.0.left (subst (λ h. From ns (suc h) s.0.left) st.part_is (sound.left_higher st.k s.0 st.found))))
      at false (inr s) ih = let st = s.1 in rw st.stands (ih s.0.right (subst (λ h. From ns (suc h) s.0.right) st.part_is (sound.right_higher st.k s.0 st.found)))

pub nth_push : (ns : List Node) (n q : Node) (k : ℕ) → slice_get (ns ++ (n ∷ [])) k ≡ Some q → (slice_get ns k ≡ Some q) ⊎ ((k ≡ length ns) × (q ≡ n))
nth_push [] n q zero e = inr (refl, cc)
nth_push [] n q (suc k) e = let z : ◌≡◌ {A = ℕ} 0 1 = cc in absurd (omega arith)
nth_push (p ∷ ns) n q zero e = inl e
nth_push (p ∷ ns) n q (suc k) e = ⊎_elim (λ h. inl h) (λ h. inr (ap suc h.0, h.1)) (nth_push ns n q k e)

-- a new node, with children in the table
pub sound_push : (parts : ℕ) (ns : List Node) (n : Node) → Sound parts ns → n.part < parts → From ns (suc n.part) n.left → From ns (suc n.part) n.right → (n.left ≡ n.right → n.value ≡ pos 0 → ⊥) → ((k : ℕ) → slice_get ns k ≡ Some n → ⊥) → Sound parts (ns ++ (n ∷ []))
sound_push parts ns n sound low l r red new = record {
  below = λ k q e. ⊎_elim (λ h. sound.below k q h) (λ h. subst (λ z. z.part < parts) (sym h.1) low) (nth_push ns n q k e);
  left_higher = λ k q e. ⊎_elim (λ h. from_more ns _ _ _ (sound.left_higher k q h)) (λ h. from_more ns _ _ _ (subst (λ z. From ns (suc z.part) z.left) (sym h.1) l)) (nth_push ns n q k e);
  right_higher = λ k q e. ⊎_elim (λ h. from_more ns _ _ _ (sound.right_higher k q h)) (λ h. from_more ns _ _ _ (subst (λ z. From ns (suc z.part) z.right) (sym h.1) r)) (nth_push ns n q k e);
  reduced = λ k q e. ⊎_elim (λ h. sound.reduced k q h) (λ h. subst (λ z. z.left ≡ z.right → z.value ≡ pos 0 → ⊥) (sym h.1) red) (nth_push ns n q k e);
  unique = λ j k q e f. uniq j k q (nth_push ns n q j e) (nth_push ns n q k f);
}
  where
    uniq : (j k : ℕ) (q : Node) → (slice_get ns j ≡ Some q) ⊎ ((j ≡ length ns) × (q ≡ n)) → (slice_get ns k ≡ Some q) ⊎ ((k ≡ length ns) × (q ≡ n)) → j ≡ k
    uniq j k q (inl a) (inl b) = sound.unique j k q a b
    uniq j k q (inl a) (inr b) = absurd (new j (a ∙ ap Some b.1))
    uniq j k q (inr a) (inl b) = absurd (new k (b ∙ ap Some a.1))
    uniq j k q (inr a) (inr b) = a.0 ∙ sym b.0

under_more : (ns more : List Node) (i lim : ℕ) (r : Child) → Under ns i lim r → Under (ns ++ more) i lim r
under_more ns more i lim Terminal u = tt
under_more ns more i lim (Place k) u = (u.0, nth_more ns more k u.0 u.1, u.2, u.3)

-- what stands in the table stands below its end
under_end : (ns more : List Node) (i : ℕ) (r : Child) → From ns i r → Under (ns ++ more) i (length ns) r
under_end ns more i Terminal f = tt
under_end ns more i (Place k) f = (f.0, nth_more ns more k f.0 f.1, f.2, slice_get_within ns k f.0 f.1)

-- the new node stands above its children
pub ordered_push : (parts : ℕ) (ns : List Node) (n : Node) → Ordered parts ns → n.part < parts → From ns (suc n.part) n.left → From ns (suc n.part) n.right → Ordered parts (ns ++ (n ∷ []))
ordered_push parts ns n ordered low l r = record {
  below = λ k q e. ⊎_elim (λ h. ordered.below k q h) (λ h. subst (λ z. z.part < parts) (sym h.1) low) (nth_push ns n q k e);
  left = λ k q e. ⊎_elim (λ h. under_more ns _ _ _ _ (ordered.left k q h)) (λ h. subst (λ j. Under (ns ++ (n ∷ [])) (suc q.part) j q.left) (sym h.0) (under_end ns _ _ _ (subst (λ z. From ns (suc z.part) z.left) (sym h.1) l))) (nth_push ns n q k e);
  right = λ k q e. ⊎_elim (λ h. under_more ns _ _ _ _ (ordered.right k q h)) (λ h. subst (λ j. Under (ns ++ (n ∷ [])) (suc q.part) j q.right) (sym h.0) (under_end ns _ _ _ (subst (λ z. From ns (suc z.part) z.right) (sym h.1) r))) (nth_push ns n q k e);
}

-- a table without nodes is ordered
pub ordered_none : (parts : ℕ) → Ordered parts []
ordered_none parts = record { below = λ k n e. none k n e; left = λ k n e. none k n e; right = λ k n e. none k n e }
  where
    none : {A : Type 0} (k : ℕ) (n : Node) → slice_get [] k ≡ Some n → A
    none k n e = let z : ◌≡◌ {A = ℕ} 0 1 = cc in absurd (omega arith)

-- the other shape: newest first, an older table is a tail, and x says which parts are fitted
abbrev pub value₁ : List Node → Child → (ℕ → Bool) → ℤ
value₁ [] r x = pos 0
value₁ (n ∷ older) Terminal x = pos 0
value₁ (n ∷ older) (Place k) x =
    cond (eqb k (length older)) (cond (x n.part) (n.value +ℤ value₁ older n.left x) (value₁ older n.right x)) (value₁ older (Place k) x)

value₁_more : (n : Node) (older : List Node) (k : ℕ) (x : ℕ → Bool) → k < length older → value₁ (n ∷ older) (Place k) x ≡ value₁ older (Place k) x
value₁_more n older k x h = rw (ne_eqb k (length older) (λ e. omega arith))
