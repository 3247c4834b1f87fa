-- The computed needed functions are the needed functions.
use Rattle.std.proofs.Common.{◌≡◌, ℕ, zero, suc, ◌+◌, ◌≤◌, Bool, true, false, cond, ◌≢◌, ◌⊎◌, List, [], ◌∷◌, ◌++◌, length, replicate, ℤ, pos, ◌-ℤ◌, ◌*ℤ◌, sym, refl, ap, ◌∙◌, subst, ap₂, inl, inr, ⊎_elim, append_assoc, arith}
use Rattle.std.proofs.lemmas.Bool.{both_ways, cases_Bool, not-true, not-false}
use Rattle.limits.specs.declared.Limit.{Limit}
use Rattle.limits.specs.Limits.{sum, keeps}
use Rattle.diagrams.specs.Needs.{table, less, depends, needed, needed_all, built, once, indicator, same_table}
use Rattle.diagrams.specs.Held.{In}
use Rattle.diagrams.specs.Needed.{Needed, NeededAre, MoreNeedNoFewer}
use Rattle.diagrams.proofs.Tables.{table_same, same_table_eq, same_table_true, in_left, in_right, in_either, no_more, once_in, in_once, once_apart}

abbrev Differ : ℕ → (List Bool → ℤ) → (List Bool → ℤ) → Type 0
Differ m f g = (c : List Bool) × (length c ≡ m) × (f c ≢ g c)

differ : (m : ℕ) (f g : List Bool → ℤ) → same_table (table m f) (table m g) ≡ false → Differ m f g
differ zero f g e = ([], refl, λ h. both_ways _ e (same_table_eq _ _ (ap (λ z. z ∷ []) h)))
differ (suc m) f g e = at (cases_Bool _) (differ m (λ c. f (false ∷ c)) (λ c. g (false ∷ c))) (cases_Bool _) (differ m (λ c. f (true ∷ c)) (λ c. g (true ∷ c)))
  where
    at : (same_table (table m (λ c. f (false ∷ c))) (table m (λ c. g (false ∷ c))) ≡ true) ⊎ (same_table (table m (λ c. f (false ∷ c))) (table m (λ c. g (false ∷ c))) ≡ false)
        → (same_table (table m (λ c. f (false ∷ c))) (table m (λ c. g (false ∷ c))) ≡ false → Differ m (λ c. f (false ∷ c)) (λ c. g (false ∷ c)))
        → (same_table (table m (λ c. f (true ∷ c))) (table m (λ c. g (true ∷ c))) ≡ true) ⊎ (same_table (table m (λ c. f (true ∷ c))) (table m (λ c. g (true ∷ c))) ≡ false)
        → (same_table (table m (λ c. f (true ∷ c))) (table m (λ c. g (true ∷ c))) ≡ false → Differ m (λ c. f (true ∷ c)) (λ c. g (true ∷ c)))
        → Differ (suc m) f g
    at (inr a) ih b ih2 = let d = ih a in (false ∷ d.0, ap suc d.1, d.2)
    at (inl a) ih (inr b) ih2 = let d = ih2 b in (true ∷ d.0, ap suc d.1, d.2)
    at (inl a) ih (inl b) ih2 =
        let p : table m (λ c. f (false ∷ c)) ≡ table m (λ c. g (false ∷ c)) = same_table_true (table m (λ c. f (false ∷ c))) (table m (λ c. g (false ∷ c))) a in
        let q : table m (λ c. f (true ∷ c)) ≡ table m (λ c. g (true ∷ c)) = same_table_true (table m (λ c. f (true ∷ c))) (table m (λ c. g (true ∷ c))) b in
        let whole : table (suc m) f ≡ table (suc m) g = ap₂ ◌++◌ p q in
        absurd (both_ways (same_table (table (suc m) f) (table (suc m) g)) e (same_table_eq (table (suc m) f) (table (suc m) g) whole))

needed_to : (n : ℕ) (f : List Bool → ℤ) (t : List ℤ) → In t (needed n f) → Needed n f t
needed_to zero f t m = absurd m
needed_to (suc n) f t m = at (in_either t own _ m) (needed_to n (λ c. f (false ∷ c)) t) (needed_to n (λ c. f (true ∷ c)) t)
  where
    own : List (List ℤ)
    own = cond (depends n f) (table (suc n) (less (suc n) f) ∷ []) []

    by_own : (b : Bool) → depends n f ≡ b → In t (cond b (table (suc n) (less (suc n) f) ∷ []) []) → Needed (suc n) f t
    by_own true e (inl h) =
        let d = differ n (λ c. f (false ∷ c)) (λ c. f (true ∷ c)) (not-true _ e) in
        record { settled = []; later = n; parts = omega arith; is = h; shown_by = d.0; shown_size = d.1; differs = λ q. d.2 (sym q) }
    by_own true e (inr h) = absurd h
    by_own false e h = absurd h

    more : (x : Bool) → Needed n (λ c. f (x ∷ c)) t → Needed (suc n) f t
    more x d = record { settled = x ∷ d.settled; later = d.later; parts = let e = d.parts in omega arith; is = d.is; shown_by = d.shown_by; shown_size = d.shown_size; differs = d.differs }

    at : In t own ⊎ In t (needed n (λ c. f (false ∷ c)) ++ needed n (λ c. f (true ∷ c))) → (In t (needed n (λ c. f (false ∷ c))) → Needed n (λ c. f (false ∷ c)) t) → (In t (needed n (λ c. f (true ∷ c))) → Needed n (λ c. f (true ∷ c)) t) → Needed (suc n) f t
    at (inl h) out fit = by_own (depends n f) refl h
    at (inr h) out fit = ⊎_elim (λ k. more false (out k)) (λ k. more true (fit k)) (in_either t (needed n (λ c. f (false ∷ c))) _ h)

own_in : (n : ℕ) (f : List Bool → ℤ) (w : List Bool) → length w ≡ n → f (true ∷ w) ≢ f (false ∷ w) → In (table (suc n) (less (suc n) f)) (needed (suc n) f)
own_in n f w l d = in_left (table (suc n) (less (suc n) f)) (cond (depends n f) (table (suc n) (less (suc n) f) ∷ []) []) _ (by (depends n f) refl)
  where
    no : depends n f ≡ false → ⊥
    no e = d (sym (table_same n (λ c. f (false ∷ c)) (λ c. f (true ∷ c)) (same_table_true (table n (λ c. f (false ∷ c))) (table n (λ c. f (true ∷ c))) (not-false (same_table (table n (λ c. f (false ∷ c))) (table n (λ c. f (true ∷ c)))) e)) w l))

    by : (b : Bool) → depends n f ≡ b → In (table (suc n) (less (suc n) f)) (cond b (table (suc n) (less (suc n) f) ∷ []) [])
    by true e = inl refl
    by false e = absurd (no e)

needed_in : (p : List Bool) (n m : ℕ) (f : List Bool → ℤ) (w : List Bool) → length p + suc m ≡ n → length w ≡ m → f (p ++ (true ∷ w)) ≢ f (p ++ (false ∷ w)) → In (table (suc m) (λ c. f (p ++ c) -ℤ f (p ++ replicate (suc m) false))) (needed n f)
needed_in p zero m f w e l d = omega arith
needed_in [] (suc n) m f w e l d = let h : n ≡ m = omega arith in subst (λ k. In (table (suc k) (λ c. f c -ℤ f (replicate (suc k) false))) (needed (suc n) f)) h (own_in n f w (omega arith) d)
needed_in (false ∷ p) (suc n) m f w e l d = in_right _ (cond (depends n f) (table (suc n) (less (suc n) f) ∷ []) []) _ (in_left _ (needed n (λ c. f (false ∷ c))) _ (needed_in p n m (λ c. f (false ∷ c)) w (omega arith) l d))
needed_in (true ∷ p) (suc n) m f w e l d = in_right _ (cond (depends n f) (table (suc n) (less (suc n) f) ∷ []) []) _ (in_right _ (needed n (λ c. f (false ∷ c))) _ (needed_in p n m (λ c. f (true ∷ c)) w (omega arith) l d))

pub needed_are : NeededAre
needed_are n f t = (needed_to n f t, λ d. subst (λ u. In u (needed n f)) (sym d.is) (needed_in d.settled n d.later f d.shown_by d.parts d.shown_size d.differs))

-- the product of the limits, times f
unfoldable pub product_from : List Limit → (List Bool → ℤ) → List Bool → ℤ
product_from [] f = f
product_from (l ∷ ls) f = product_from ls (λ c. f c *ℤ indicator (keeps l c))

pub built_more : (ls more : List Limit) (f : List Bool → ℤ) → built (ls ++ more) f ≡ built ls f ++ built more (product_from ls f)
unfolding product_from
built_more [] more f = refl
built_more (l ∷ ls) more f = ap (λ fs. sum l.coefficients ∷ ((λ c. indicator (keeps l c)) ∷ ((λ c. f c *ℤ indicator (keeps l c)) ∷ fs))) (built_more ls more (λ c. f c *ℤ indicator (keeps l c)))

pub needed_more : (n : ℕ) (fs gs : List (List Bool → ℤ)) → needed_all n (fs ++ gs) ≡ needed_all n fs ++ needed_all n gs
needed_more n [] gs = refl
needed_more n (f ∷ fs) gs = ap (λ ts. needed n f ++ ts) (needed_more n fs gs) ∙ sym (append_assoc (needed n f) (needed_all n fs) (needed_all n gs))

pub once_less : (ts us : List (List ℤ)) → ((t : List ℤ) → In t ts → In t us) → length (once ts) ≤ length (once us)
once_less ts us h = no_more (once ts) (once us) (once_apart ts) (λ t m. in_once us t (h t (once_in ts t m)))

pub more_need_no_fewer_lem : MoreNeedNoFewer
more_need_no_fewer_lem n ls more =
    let all = ap (needed_all n) (built_more ls more (λ c. pos 1)) ∙ needed_more n (built ls (λ c. pos 1)) (built more (product_from ls (λ c. pos 1))) in
    once_less (needed_all n (built ls (λ c. pos 1))) (needed_all n (built (ls ++ more) (λ c. pos 1))) (λ t m. subst (In t) (sym all) (in_left t (needed_all n (built ls (λ c. pos 1))) _ m))
