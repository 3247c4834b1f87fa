-- From what the walk does with one limit's three functions to what a job's table holds.
use Rattle.std.proofs.Common.{◌≡◌, ℕ, zero, suc, ◌+◌, ◌-◌, ◌<◌, Bool, true, false, ◌&&◌, List, [], ◌∷◌, ◌++◌, length, ℤ, pos, ◌+ℤ◌, ◌*ℤ◌, Some, sym, refl, ap, ◌∙◌, subst, inl, inr, ⊎_elim, append-nil, add-zero, zero-add, arith}
use Rattle.std.specs.List.{slice_get}
use Rattle.std.proofs.lemmas.Bool.{cases_lt}
use Rattle.limits.specs.declared.Limit.{Limit}
use Rattle.limits.specs.Limits.{sum, keeps, keeps_all}
use Rattle.diagrams.specs.declared.Node.{Node}
use Rattle.diagrams.specs.declared.Edge.{Edge}
use Rattle.diagrams.specs.declared.Child.{Child}
use Rattle.diagrams.specs.declared.Child.TheVariants.{Terminal, Place}
use Rattle.diagrams.specs.Needs.{needed, needed_all, built, needs, indicator}
use Rattle.diagrams.specs.Nodes.{value, From, Under}
use Rattle.diagrams.specs.Held.{In, node_table}
use Rattle.diagrams.proofs.Tables.{table_ext, in_left, in_right, in_either}
use Rattle.diagrams.proofs.Grow.{nth_grown, value_grown}
use Rattle.diagrams.proofs.Needed.{product_from, built_more, needed_more, once_less}
use Rattle.diagrams.proofs.Steps.{needed_ext}
use Rattle.tables.specs.declared.NodeTable.{NodeTable}
use Rattle.tables.specs.Chains.{made, room}
use Rattle.std.proofs.lemmas.Option.{slice_get_within}
use Rattle.walks.specs.Extended.{tables_from, limit_needs, all_needs, Extended, Refused}
use Rattle.jobs.specs.Books.{Held}

times : (x y : Bool) → indicator x *ℤ indicator y ≡ indicator (x && y)
times true true = refl
times true false = refl
times false true = refl
times false false = refl

and_assoc : (x y z : Bool) → (x && y) && z ≡ x && (y && z)
and_assoc true y z = refl
and_assoc false y z = refl

and_true : (x : Bool) → x && true ≡ x
and_true true = refl
and_true false = refl

keeps_push : (ls : List Limit) (l : Limit) (c : List Bool) → keeps_all (ls ++ (l ∷ [])) c ≡ keeps_all ls c && keeps l c
keeps_push [] l c = and_true (keeps l c)
keeps_push (m ∷ ls) l c = ap (λ b. keeps m c && b) (keeps_push ls l c) ∙ sym (and_assoc (keeps m c) (keeps_all ls c) (keeps l c))

product_is : (ls : List Limit) (f : List Bool → ℤ) (b : Bool) (c : List Bool) → f c ≡ indicator b → product_from ls f c ≡ indicator (b && keeps_all ls c)
unfolding product_from
product_is [] f b c e = e ∙ ap indicator (sym (and_true b))
product_is (l ∷ ls) f b c e = product_is ls (λ d. f d *ℤ indicator (keeps l d)) (b && keeps l c) c (ap (λ z. z *ℤ indicator (keeps l c)) e ∙ times b (keeps l c)) ∙ ap indicator (and_assoc b (keeps l c) (keeps_all ls c))

under_from : (ns : List Node) (r : Child) → From ns 0 r → Under ns 0 (length ns) r
under_from ns Terminal f = tt
under_from ns (Place k) f = (f.0, f.1, omega arith, slice_get_within ns k f.0 f.1)

-- a function of the old nodes is that of one of them
old_node : (parts : ℕ) (ns : List Node) (k : ℕ) (rest : List Node) (u : List ℤ) → In u (tables_from parts ns k rest) → (j : ℕ) × (n : Node) × (slice_get rest j ≡ Some n) × (u ≡ node_table parts ns (k + j) n)
old_node parts ns k [] u m = absurd m
old_node parts ns k (n ∷ rest) u (inl e) = (0, n, refl, rw add-zero e)
old_node parts ns k (n ∷ rest) u (inr m) = let h = old_node parts ns (suc k) rest u m in (suc h.0, h.1, h.2, h.3 ∙ ap (λ j. node_table parts ns j h.1) (omega arith))

front : (ns more : List Node) (k : ℕ) → k < length ns → slice_get (ns ++ more) k ≡ slice_get ns k
front [] more k h = absurd (omega arith)
front (n ∷ ns) more zero h = refl
front (n ∷ ns) more (suc k) h = front ns more k (omega arith)

module _ (parts : ℕ) (ls : List Limit) (l : Limit) (t : NodeTable) (p : Edge) (held : Held parts ls (made t) p) where
  abbrev before : List (List ℤ)
  before = needed_all parts (built ls (λ c. pos 1))

  all_needed : needed_all parts (built (ls ++ (l ∷ [])) (λ c. pos 1)) ≡ before ++ limit_needs parts t p l
  all_needed =
      let third : needed parts (λ c. product_from ls (λ d. pos 1) c *ℤ indicator (keeps l c)) ≡ needed parts (λ c. (p.constant +ℤ value (made t) 0 p.child c) *ℤ indicator (keeps l c)) =
      needed_ext parts _ _ (λ c e. ap (λ z. z *ℤ indicator (keeps l c)) (product_is ls (λ d. pos 1) true c refl ∙ sym (held.denotes c e))) in
      ap (needed_all parts) (built_more ls (l ∷ []) (λ c. pos 1))
      ∙ (needed_more parts (built ls (λ c. pos 1)) (built (l ∷ []) (product_from ls (λ c. pos 1)))
      ∙ ap (λ u. before ++ (needed parts (sum l.coefficients) ++ (needed parts (λ c. indicator (keeps l c)) ++ u))) (append-nil _ ∙ third))

  -- each function of an old node is one that the old limits need
  in_all : (u : List ℤ) → In u (all_needs parts t p l) → In u (needed_all parts (built (ls ++ (l ∷ [])) (λ c. pos 1)))
  in_all u m = subst (In u) (sym all_needed) (⊎_elim
      (λ o. let h = old_node parts (made t) 0 (made t) u o in
      in_left u before _ (subst (λ z. In z before) (sym (h.3 ∙ ap (λ j. node_table parts (made t) j h.1) (zero-add h.0))) (held.holds.no_other h.0 h.1 h.2)))
      (λ w. in_right u before _ w)
      (in_either u (tables_from parts (made t) 0 (made t)) (limit_needs parts t p l) m))

  pub refused_needs : (t' : NodeTable) → Refused parts t t' p l → room t < needs parts (ls ++ (l ∷ []))
  refused_needs t' r =
      let more = r.more_needed in
      let less = once_less (all_needs parts t p l) (needed_all parts (built (ls ++ (l ∷ [])) (λ c. pos 1))) in_all in
      omega arith

  module _ (t' : NodeTable) (e : Edge) (x : Extended parts t t' p l e) where
    same_table_of : (k : ℕ) (n : Node) → slice_get (made t) k ≡ Some n → node_table parts (made t') k n ≡ node_table parts (made t) k n
    same_table_of k n f = table_ext (parts - n.part) (value (made t') n.part (Place k)) (value (made t) n.part (Place k)) (λ c z. value_grown parts held.holds.sound x.grown n.part (Place k) c (n, f, omega arith))

    pub more_held : Held parts (ls ++ (l ∷ [])) (made t') e
    more_held = record {
      holds = record {
        sound = x.table.sound;
        no_other = λ k n f. subst (In (node_table parts (made t') k n)) (sym all_needed) (⊎_elim
            (λ h. let o : slice_get (made t) k ≡ Some n = sym (front (made t) x.grown.more k h) ∙ (ap (λ ns. slice_get ns k) (sym x.grown.is) ∙ f) in
            in_left _ before _ (subst (λ z. In z before) (sym (same_table_of k n o)) (held.holds.no_other k n o)))
            (λ h. in_right _ before _ (x.needed_only k n f h))
            (cases_lt k (length (made t))));
        each = λ u m. ⊎_elim
            (λ o. let h = held.holds.each u o in (h.0, h.1, nth_grown x.grown h.0 h.1 h.2, h.3 ∙ sym (same_table_of h.0 h.1 h.2)))
            (λ w. x.denotes.each u w)
            (in_either u before (limit_needs parts t p l) (subst (In u) all_needed m));
      };
      ordered = x.table.ordered;
      small = x.table.small;
      under = under_from (made t') e.child x.denotes.from;
      denotes = λ c q. x.denotes.equal c q ∙ (ap (λ z. z *ℤ indicator (keeps l c)) (held.denotes c q) ∙ (times (keeps_all ls c) (keeps l c) ∙ ap indicator (sym (keeps_push ls l c))));
    }
