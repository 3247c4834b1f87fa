-- The nodes below an edge are the needed functions of what the edge denotes.
use Rattle.std.proofs.Common.{◌≡◌, ℕ, zero, suc, ◌+◌, ◌-◌, Bool, true, false, cond, ◌⊎◌, List, [], ◌∷◌, ◌++◌, length, replicate, ℤ, pos, ◌+ℤ◌, ◌-ℤ◌, Some, None, sym, refl, ap, ◌∙◌, subst, ap₂, inl, inr, ⊎_elim, arith}
use lib.ListN.{length-replicate}
use lib.IntN.{+ℤ_assoc}
use Rattle.std.proofs.lemmas.Bool.{both_ways, cases_Bool, not_from_true, not_from_false}
use Rattle.std.proofs.lemmas.Int.{ints}
use Rattle.std.specs.List.{slice_get}
use Rattle.diagrams.specs.Needs.{table, less, depends, needed, same_table}
use Rattle.diagrams.specs.declared.Child.{Child}
use Rattle.diagrams.specs.declared.Child.TheVariants.{Terminal, Place}
use Rattle.diagrams.specs.declared.Node.{Node}
use Rattle.diagrams.specs.Nodes.{here, value, From, Sound}
use Rattle.diagrams.specs.Held.{In, node_table}
use Rattle.diagrams.proofs.Tables.{table_ext, table_same, same_table_eq, same_table_true, in_left, in_right, in_either}
use Rattle.diagrams.proofs.Canonical.{same_ref, only_terminal, offsets, value_out, value_skip, value_fit, value_leave, view, View, Stands, SameEdge}

-- the node at k is r or below it
pub data Reach (ns : List Node) (k : ℕ) : Child → Type 0 where
  here_it : Reach ns k (Place k)
  on_left : {j : ℕ} (n : Node) → slice_get ns j ≡ Some n → Reach ns k n.left → Reach ns k (Place j)
  on_right : {j : ℕ} (n : Node) → slice_get ns j ≡ Some n → Reach ns k n.right → Reach ns k (Place j)

no_reach : (ns : List Node) (k : ℕ) (r : Child) → r ≡ Terminal → Reach ns k r → ⊥
no_reach ns k r e here_it = let z : ◌≡◌ {A = ℕ} 0 1 = cc in omega arith
no_reach ns k r e (on_left q g h) = let z : ◌≡◌ {A = ℕ} 0 1 = cc in omega arith
no_reach ns k r e (on_right q g h) = let z : ◌≡◌ {A = ℕ} 0 1 = cc in omega arith

less_is : (a p q f g : ℤ) → p ≡ pos 0 → a +ℤ q ≡ f → a +ℤ p ≡ g → f -ℤ g ≡ q
less_is a p q f g e h k = omega (arith, ints)

no_value : (a v : ℤ) → a +ℤ v ≡ a → v ≡ pos 0
no_value a v e = omega (arith, ints)

module _ (parts : ℕ) (ns : List Node) (sound : Sound parts ns) where
  abbrev pub Denotes : ℕ → ℕ → ℤ → Child → (List Bool → ℤ) → Type 0
  Denotes m i a r f = (c : List Bool) → length c ≡ m → a +ℤ value ns i r c ≡ f c

  abbrev pub NodeOf : List ℤ → Type 0
  NodeOf t = (k : ℕ) × (n : Node) × (slice_get ns k ≡ Some n) × (t ≡ node_table parts ns k n)

  up : (i k : ℕ) (n : Node) → slice_get ns k ≡ Some n → n.part ≡ i → From ns (suc i) n.left × From ns (suc i) n.right
  up i k n f e = (subst (λ h. From ns (suc h) n.left) e (sound.left_higher k n f), subst (λ h. From ns (suc h) n.right) e (sound.right_higher k n f))

  skip_denotes : (m i : ℕ) (a : ℤ) (r : Child) (f : List Bool → ℤ) (x : Bool) → here ns i r ≡ None → Denotes (suc m) i a r f → Denotes m (suc i) a r (λ c. f (x ∷ c))
  skip_denotes m i a r f x e d c l = ap (λ z. a +ℤ z) (sym (value_skip ns i r x c e)) ∙ d (x ∷ c) (ap suc l)

  left_denotes : (m i : ℕ) (a : ℤ) (r : Child) (f : List Bool → ℤ) (n : Node) → here ns i r ≡ Some n → Denotes (suc m) i a r f → Denotes m (suc i) (a +ℤ n.value) n.left (λ c. f (true ∷ c))
  left_denotes m i a r f n e d c l = +ℤ_assoc a n.value _ ∙ (ap (λ z. a +ℤ z) (sym (value_fit ns i r n c e)) ∙ d (true ∷ c) (ap suc l))

  right_denotes : (m i : ℕ) (a : ℤ) (r : Child) (f : List Bool → ℤ) (n : Node) → here ns i r ≡ Some n → Denotes (suc m) i a r f → Denotes m (suc i) a n.right (λ c. f (false ∷ c))
  right_denotes m i a r f n e d c l = ap (λ z. a +ℤ z) (sym (value_leave ns i r n c e)) ∙ d (false ∷ c) (ap suc l)

  -- less its value with all parts left out, what an edge denotes is what its node denotes
  less_table : (m i : ℕ) (a : ℤ) (r : Child) (f : List Bool → ℤ) → Denotes m i a r f → table m (less m f) ≡ table m (value ns i r)
  less_table m i a r f d = table_ext m (less m f) (value ns i r) (λ c l. less_is a (value ns i r (replicate m false)) (value ns i r c) (f c) (f (replicate m false)) (value_out ns m i r) (d c l) (d (replicate m false) (length-replicate m false)))

  pub own_table : (m i : ℕ) → i + suc m ≡ parts → (a : ℤ) (r : Child) (f : List Bool → ℤ) (n : Node) (st : Stands ns i r n) → Denotes (suc m) i a r f → table (suc m) (less (suc m) f) ≡ node_table parts ns st.k n
  own_table m i e a r f n st d =
      let ep = st.part_is in
      let size : suc m ≡ parts - n.part = omega arith in
      less_table (suc m) i a r f d ∙ (ap (λ q. table (suc m) (value ns i q)) st.is ∙ (ap (λ p. table (suc m) (value ns p (Place st.k))) (sym ep) ∙ ap (λ q. table q (value ns n.part (Place st.k))) size))

  in_own : (b : Bool) (t u : List ℤ) → In t (cond b (u ∷ []) []) → (b ≡ true) × (t ≡ u)
  in_own true t u (inl e) = (refl, e)
  in_own true t u (inr m) = absurd m
  in_own false t u m = absurd m

  own_in : (b : Bool) (t : List ℤ) → b ≡ true → In t (cond b (t ∷ []) [])
  own_in true t e = inl refl
  own_in false t e = absurd (both_ways false refl e)

  skip_not : (m i : ℕ) (a : ℤ) (r : Child) (f : List Bool → ℤ) → here ns i r ≡ None → Denotes (suc m) i a r f → depends m f ≡ false
  skip_not m i a r f e d = not_from_true _ (same_table_eq _ _ (table_ext m (λ c. f (false ∷ c)) (λ c. f (true ∷ c)) (λ c l. sym (skip_denotes m i a r f false e d c l) ∙ skip_denotes m i a r f true e d c l)))

  abbrev Covered : ℕ → ℕ → Type 0
  Covered m i = (a : ℤ) (r : Child) (f : List Bool → ℤ) → From ns i r → Denotes m i a r f → (t : List ℤ) → In t (needed m f) → NodeOf t

  cover_step : (m i : ℕ) → i + suc m ≡ parts → Covered m (suc i) → (a : ℤ) (r : Child) (f : List Bool → ℤ) → Denotes (suc m) i a r f → (t : List ℤ)
      → View ns i r → In t (cond (depends m f) (table (suc m) (less (suc m) f) ∷ []) []) ⊎ (In t (needed m (λ c. f (false ∷ c))) ⊎ In t (needed m (λ c. f (true ∷ c)))) → NodeOf t
  cover_step m i e ih a r f d t (inl s) (inl h) = absurd (both_ways (depends m f) (skip_not m i a r f s.0 d) (in_own (depends m f) t _ h).0)
  cover_step m i e ih a r f d t (inl s) (inr (inl h)) = ih a r (λ c. f (false ∷ c)) s.1 (skip_denotes m i a r f false s.0 d) t h
  cover_step m i e ih a r f d t (inl s) (inr (inr h)) = ih a r (λ c. f (true ∷ c)) s.1 (skip_denotes m i a r f true s.0 d) t h
  cover_step m i e ih a r f d t (inr s) (inl h) =
      let st = s.1 in
      (st.k, s.0, st.found, (in_own (depends m f) t _ h).1 ∙ own_table m i e a r f s.0 st d)
  cover_step m i e ih a r f d t (inr s) (inr (inl h)) =
      let st = s.1 in
      ih a s.0.right (λ c. f (false ∷ c)) (up i st.k s.0 st.found st.part_is).1 (right_denotes m i a r f s.0 st.stands d) t h
  cover_step m i e ih a r f d t (inr s) (inr (inr h)) =
      let st = s.1 in
      ih (a +ℤ s.0.value) s.0.left (λ c. f (true ∷ c)) (up i st.k s.0 st.found st.part_is).0 (left_denotes m i a r f s.0 st.stands d) t h

  in_three : (t : List ℤ) (x y z : List (List ℤ)) → In t (x ++ (y ++ z)) → In t x ⊎ (In t y ⊎ In t z)
  in_three t x y z m = ⊎_elim (λ h. inl h) (λ h. inr (in_either t y z h)) (in_either t x (y ++ z) m)

  -- every needed function of f is a node's
  pub cover : (m i : ℕ) → i + m ≡ parts → Covered m i
  cover zero i e a r f fr d t m = absurd m
  cover (suc m) i e a r f fr d t mem =
      cover_step m i e (cover m (suc i) (omega arith)) a r f d t (view ns i r fr) (in_three t (cond (depends m f) (table (suc m) (less (suc m) f) ∷ []) []) (needed m (λ c. f (false ∷ c))) (needed m (λ c. f (true ∷ c))) mem)

  -- a node's function depends on its part
  pub stands_depends : (m i : ℕ) → i + suc m ≡ parts → (a : ℤ) (r : Child) (f : List Bool → ℤ) (n : Node) (st : Stands ns i r n) → Denotes (suc m) i a r f → depends m f ≡ true
  stands_depends m i e a r f n st d = not_from_false _ (⊎_elim (λ h. absurd (no h)) (λ h. h) (cases_Bool _))
    where
      no : same_table (table m (λ c. f (false ∷ c))) (table m (λ c. f (true ∷ c))) ≡ true → ⊥
      no h =
          let equal = table_same m (λ c. f (false ∷ c)) (λ c. f (true ∷ c)) (same_table_true _ _ h) in
          let edge : SameEdge parts ns sound m (suc i) (a +ℤ n.value) n.left a n.right = λ c l.
          left_denotes m i a r f n st.stands d c l ∙ (sym (equal c l) ∙ sym (right_denotes m i a r f n st.stands d c l)) in
          let both = offsets parts ns sound m (suc i) (a +ℤ n.value) a n.left n.right edge in
          let us = up i st.k n st.found st.part_is in
          let zero-value : n.value ≡ pos 0 = no_value a n.value both.0 in
          sound.reduced st.k n st.found (same_ref parts ns sound m (suc i) (omega arith) n.left n.right us.0 us.1 both.1) zero-value

  abbrev Only : ℕ → ℕ → Type 0
  Only m i = (a : ℤ) (r : Child) (f : List Bool → ℤ) → From ns i r → Denotes m i a r f → (k : ℕ) (n : Node) → slice_get ns k ≡ Some n → Reach ns k r → In (node_table parts ns k n) (needed m f)

  pub in_own_part : (m : ℕ) (f : List Bool → ℤ) (t : List ℤ) → depends m f ≡ true → table (suc m) (less (suc m) f) ≡ t → In t (needed (suc m) f)
  in_own_part m f t e h = in_left t (cond (depends m f) (table (suc m) (less (suc m) f) ∷ []) []) _ (subst (λ u. In u (cond (depends m f) (table (suc m) (less (suc m) f) ∷ []) [])) h (own_in (depends m f) _ e))

  pub in_out_part : (m : ℕ) (f : List Bool → ℤ) (t : List ℤ) → In t (needed m (λ c. f (false ∷ c))) → In t (needed (suc m) f)
  in_out_part m f t h = in_right t (cond (depends m f) (table (suc m) (less (suc m) f) ∷ []) []) _ (in_left t (needed m (λ c. f (false ∷ c))) _ h)

  pub in_fit_part : (m : ℕ) (f : List Bool → ℤ) (t : List ℤ) → In t (needed m (λ c. f (true ∷ c))) → In t (needed (suc m) f)
  in_fit_part m f t h = in_right t (cond (depends m f) (table (suc m) (less (suc m) f) ∷ []) []) _ (in_right t (needed m (λ c. f (false ∷ c))) _ h)

  -- what is reached from a node: itself, or from a child
  abbrev Reached : ℕ → Node → ℕ → Type 0
  Reached j n k = (k ≡ j) ⊎ (Reach ns k n.left ⊎ Reach ns k n.right)

  reached : (j k : ℕ) (r : Child) (n : Node) → r ≡ Place j → slice_get ns j ≡ Some n → Reach ns k r → Reached j n k
  reached j k r n e f here_it = inl (cc)
  reached j k r n e f (on_left q g h) = let p : q ≡ n = cc in inr (inl (subst (λ z. Reach ns k z.left) p h))
  reached j k r n e f (on_right q g h) = let p : q ≡ n = cc in inr (inr (subst (λ z. Reach ns k z.right) p h))

  only_step : (m i : ℕ) → i + suc m ≡ parts → Only m (suc i) → (a : ℤ) (r : Child) (f : List Bool → ℤ) → Denotes (suc m) i a r f → (k : ℕ) (n : Node) → slice_get ns k ≡ Some n → Reach ns k r → View ns i r → In (node_table parts ns k n) (needed (suc m) f)
  only_step m i e ih a r f d k n fk re (inl s) = in_out_part m f _ (ih a r (λ c. f (false ∷ c)) s.1 (skip_denotes m i a r f false s.0 d) k n fk re)
  only_step m i e ih a r f d k n fk re (inr s) = at (reached st.k k r s.0 st.is st.found re)
    where
      st : Stands ns i r s.0
      st = s.1

      at : Reached st.k s.0 k → In (node_table parts ns k n) (needed (suc m) f)
      at (inl h) =
          let found = st.found in
          let p : s.0 ≡ n = cc in
          in_own_part m f _ (stands_depends m i e a r f s.0 st d) (own_table m i e a r f s.0 st d ∙ ap₂ (node_table parts ns) (sym h) p)
      at (inr (inl h)) = in_fit_part m f _ (ih (a +ℤ s.0.value) s.0.left (λ c. f (true ∷ c)) (up i st.k s.0 st.found st.part_is).0 (left_denotes m i a r f s.0 st.stands d) k n fk h)
      at (inr (inr h)) = in_out_part m f _ (ih a s.0.right (λ c. f (false ∷ c)) (up i st.k s.0 st.found st.part_is).1 (right_denotes m i a r f s.0 st.stands d) k n fk h)

  -- every node that is reached is a needed function of f
  pub only : (m i : ℕ) → i + m ≡ parts → Only m i
  only zero i e a r f fr d k n fk re =
      let h : i ≡ parts = omega arith in
      absurd (no_reach ns k r (only_terminal parts ns sound r (subst (λ j. From ns j r) h fr)) re)
  only (suc m) i e a r f fr d k n fk re = only_step m i e (only m (suc i) (omega arith)) a r f d k n fk re (view ns i r fr)
