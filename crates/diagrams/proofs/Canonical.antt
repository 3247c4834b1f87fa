-- Two edges that denote one function are one edge.
use Rattle.std.proofs.Common.{◌≡◌, ℕ, zero, suc, ◌+◌, Bool, true, false, eqb, ◌⊎◌, List, ◌∷◌, length, replicate, ℤ, pos, ◌+ℤ◌, Some, None, Option, sym, refl, ap, ◌∙◌, subst, inl, inr, ⊎_elim, arith}
use lib.ListN.{length-replicate}
use lib.IntN.{+ℤ_idr, +ℤ_idl}
use Rattle.std.specs.List.{slice_get}
use Rattle.std.proofs.lemmas.Bool.{eq-eqb, ne_eqb, cond-true, cond-false, cases_eq}
use Rattle.std.proofs.lemmas.Int.{ints}
use Rattle.diagrams.specs.declared.Child.{Child}
use Rattle.diagrams.specs.declared.Child.TheVariants.{Terminal, Place}
use Rattle.diagrams.specs.declared.Node.{Node}
use Rattle.diagrams.specs.Nodes.{if_part, here, turn, value, From, Sound, Canonical}

turn_out : (o : Option Node) (r : Child) (f : Child → ℤ) → ((s : Child) → f s ≡ pos 0) → turn o r f false ≡ pos 0
turn_out None r f h = h r
turn_out (Some n) r f h = h n.right

-- with all parts left out
pub value_out : (ns : List Node) (m i : ℕ) (r : Child) → value ns i r (replicate m false) ≡ pos 0
value_out ns zero i r = refl
value_out ns (suc m) i r = turn_out (here ns i r) r (λ s. value ns (suc i) s (replicate m false)) (value_out ns m (suc i))

-- a node of part i, or a higher one
pub record Stands (ns : List Node) (i : ℕ) (r : Child) (n : Node) : Type 0 where
  pub k : ℕ
  pub is : r ≡ Place k
  pub found : slice_get ns k ≡ Some n
  pub part_is : n.part ≡ i
  pub stands : here ns i r ≡ Some n

abbrev pub View : List Node → ℕ → Child → Type 0
View ns i r = ((here ns i r ≡ None) × From ns (suc i) r) ⊎ ((n : Node) × Stands ns i r n)

pub view : (ns : List Node) (i : ℕ) (r : Child) → From ns i r → View ns i r
view ns i Terminal f = inl (refl, tt)
view ns i (Place k) f = ⊎_elim same other (cases_eq f.0.part i)
  where
    same : f.0.part ≡ i → View ns i (Place k)
    same e = inr (
      f.0,
      record {
        k = k;
        is = refl;
        found = f.1;
        part_is = e;
        stands = ap (if_part i) f.1 ∙ cond-true (eqb f.0.part i) (Some f.0) None (eq-eqb f.0.part i e);
      },
    )

    other : (f.0.part ≡ i → ⊥) → View ns i (Place k)
    other e = inl (ap (if_part i) f.1 ∙ cond-false (eqb f.0.part i) (Some f.0) None (ne_eqb f.0.part i e), (f.0, f.1, omega arith))

-- the value at a part, by what stands there
pub value_skip : (ns : List Node) (i : ℕ) (r : Child) (x : Bool) (c : List Bool) → here ns i r ≡ None → value ns i r (x ∷ c) ≡ value ns (suc i) r c
value_skip ns i r x c e = ap (λ o. turn o r (λ s. value ns (suc i) s c) x) e

pub value_fit : (ns : List Node) (i : ℕ) (r : Child) (n : Node) (c : List Bool) → here ns i r ≡ Some n → value ns i r (true ∷ c) ≡ n.value +ℤ value ns (suc i) n.left c
value_fit ns i r n c e = ap (λ o. turn o r (λ s. value ns (suc i) s c) true) e

pub value_leave : (ns : List Node) (i : ℕ) (r : Child) (n : Node) (c : List Bool) → here ns i r ≡ Some n → value ns i r (false ∷ c) ≡ value ns (suc i) n.right c
value_leave ns i r n c e = ap (λ o. turn o r (λ s. value ns (suc i) s c) false) e

-- an offset between two functions that are 0 with all parts left out is 0
same_offset : (a b p q : ℤ) → p ≡ pos 0 → q ≡ pos 0 → a +ℤ p ≡ b +ℤ q → a ≡ b
same_offset a b p q hp hq e = sym (+ℤ_idr a) ∙ (ap (λ z. a +ℤ z) (sym hp) ∙ (e ∙ (ap (λ z. b +ℤ z) hq ∙ +ℤ_idr b)))

cancel : (a b p q : ℤ) → a ≡ b → a +ℤ p ≡ b +ℤ q → p ≡ q
cancel a b p q h e = omega (arith, ints)

node_path : (n k : Node) → n.part ≡ k.part → n.value ≡ k.value → n.left ≡ k.left → n.right ≡ k.right → n ≡ k
node_path n k p v l r i = record { part = p i; value = v i; left = l i; right = r i }

module _ (parts : ℕ) (ns : List Node) (sound : Sound parts ns) where
  abbrev pub Same : ℕ → ℕ → Child → Child → Type 0
  Same m i r s = (c : List Bool) → length c ≡ m → value ns i r c ≡ value ns i s c

  -- the edges of constants a and b
  abbrev pub SameEdge : ℕ → ℕ → ℤ → Child → ℤ → Child → Type 0
  SameEdge m i a r b s = (c : List Bool) → length c ≡ m → a +ℤ value ns i r c ≡ b +ℤ value ns i s c

  pub offsets : (m i : ℕ) (a b : ℤ) (r s : Child) → SameEdge m i a r b s → (a ≡ b) × Same m i r s
  offsets m i a b r s e =
      let h : a ≡ b = same_offset a b _ _ (value_out ns m i r) (value_out ns m i s) (e (replicate m false) (length-replicate m false)) in
      (h, λ c l. cancel a b (value ns i r c) (value ns i s c) h (e c l))

  pub only_terminal : (r : Child) → From ns parts r → r ≡ Terminal
  only_terminal Terminal f = refl
  only_terminal (Place k) f = let h = sound.below k f.0 f.1 in absurd (omega arith)

  -- a node of part i and one that skips it differ
  one_stands : (m i : ℕ) (r s : Child) (n : Node) → Stands ns i r n → here ns i s ≡ None → Same (suc m) i r s → ((t u : Child) → From ns (suc i) t → From ns (suc i) u → Same m (suc i) t u → t ≡ u) → ⊥
  one_stands m i r s n st skip same ih =
      let edge : SameEdge m (suc i) n.value n.left (pos 0) n.right = λ c l.
      sym (value_fit ns i r n c st.stands)
      ∙ (same (true ∷ c) (ap suc l)
      ∙ (value_skip ns i s true c skip
      ∙ (sym (value_skip ns i s false c skip)
      ∙ (sym (same (false ∷ c) (ap suc l))
      ∙ (value_leave ns i r n c st.stands ∙ sym (+ℤ_idl _)))))) in
      let both = offsets m (suc i) n.value (pos 0) n.left n.right edge in
      let up_left : From ns (suc i) n.left = subst (λ j. From ns (suc j) n.left) st.part_is (sound.left_higher st.k n st.found) in
      let up_right : From ns (suc i) n.right = subst (λ j. From ns (suc j) n.right) st.part_is (sound.right_higher st.k n st.found) in
      sound.reduced st.k n st.found (ih n.left n.right up_left up_right both.1) both.0

  both_stand : (m i : ℕ) (r s : Child) (n k : Node) → Stands ns i r n → Stands ns i s k → Same (suc m) i r s → ((t u : Child) → From ns (suc i) t → From ns (suc i) u → Same m (suc i) t u → t ≡ u) → r ≡ s
  both_stand m i r s n k st su same ih =
      let edge : SameEdge m (suc i) n.value n.left k.value k.left = λ c l.
      sym (value_fit ns i r n c st.stands) ∙ (same (true ∷ c) (ap suc l) ∙ value_fit ns i s k c su.stands) in
      let rest : Same m (suc i) n.right k.right = λ c l.
      sym (value_leave ns i r n c st.stands) ∙ (same (false ∷ c) (ap suc l) ∙ value_leave ns i s k c su.stands) in
      let both = offsets m (suc i) n.value k.value n.left k.left edge in
      let up : (j : ℕ) (q : Node) → slice_get ns j ≡ Some q → q.part ≡ i → From ns (suc i) q.left × From ns (suc i) q.right = λ j q f e.
      (subst (λ h. From ns (suc h) q.left) e (sound.left_higher j q f), subst (λ h. From ns (suc h) q.right) e (sound.right_higher j q f)) in
      let un = up st.k n st.found st.part_is in
      let uk = up su.k k su.found su.part_is in
      let equal : k ≡ n = node_path k n (su.part_is ∙ sym st.part_is) (sym both.0) (sym (ih n.left k.left un.0 uk.0 both.1)) (sym (ih n.right k.right un.1 uk.1 rest)) in
      st.is ∙ (ap Place (sound.unique st.k su.k n st.found (su.found ∙ ap Some equal)) ∙ sym su.is)

  abbrev pub Below : ℕ → ℕ → Type 0
  Below m i = (t u : Child) → From ns i t → From ns i u → Same m i t u → t ≡ u

  ways : (m i : ℕ) (r s : Child) → Same (suc m) i r s → Below m (suc i) → View ns i r → View ns i s → r ≡ s
  ways m i r s same ih (inl a) (inl b) =
      ih r s a.1 b.1 (λ c l. sym (value_skip ns i r false c a.0) ∙ (same (false ∷ c) (ap suc l) ∙ value_skip ns i s false c b.0))
  ways m i r s same ih (inl a) (inr b) = absurd (one_stands m i s r b.0 b.1 a.0 (λ c l. sym (same c l)) ih)
  ways m i r s same ih (inr a) (inl b) = absurd (one_stands m i r s a.0 a.1 b.0 same ih)
  ways m i r s same ih (inr a) (inr b) = both_stand m i r s a.0 b.0 a.1 b.1 same ih

  pub same_ref : (m i : ℕ) → i + m ≡ parts → Below m i
  same_ref zero i e r s f g same =
      let h : i ≡ parts = omega arith in
      only_terminal r (subst (λ j. From ns j r) h f) ∙ sym (only_terminal s (subst (λ j. From ns j s) h g))
  same_ref (suc m) i e r s f g same = ways m i r s same (same_ref m (suc i) (omega arith)) (view ns i r f) (view ns i s g)

pub canonical : Canonical
canonical parts ns sound a b r s f g e =
    let both = offsets parts ns sound parts 0 a b r s e in
    (both.0, same_ref parts ns sound parts 0 (omega arith) r s f g both.1)
