-- The table after one limit more.
use Rattle.std.proofs.Common.{◌≡◌, ℕ, ◌-◌, ◌≤◌, List, ◌++◌, length, take, ℤ, true, false, Some, None, Option, MatchOption, sym, ap, ◌∙◌, ⊎_elim, zero-add, arith, length-append, take_all}
use lib.Seq.{take-append-le}
use Rattle.std.specs.List.{slice_get}
use Rattle.std.specs.Option.{is_some}
use Rattle.diagrams.specs.declared.Child.TheVariants.{Place}
use Rattle.diagrams.specs.declared.Node.{Node}
use Rattle.diagrams.specs.declared.Edge.{Edge}
use Rattle.limits.specs.Limits.{sum}
use Rattle.diagrams.specs.Needs.{needed, once}
use Rattle.diagrams.specs.Nodes.{value}
use Rattle.diagrams.specs.Held.{In, node_table}
use Rattle.diagrams.proofs.Tables.{table_ext, in_left, in_right, in_either}
use Rattle.diagrams.proofs.Held.{node_once, in_tables, made_at, AtMost, at_least}
use Rattle.diagrams.proofs.Grow.{value_grown, nth_grown}
use Rattle.tables.specs.declared.NodeTable.{NodeTable}
use Rattle.limits.specs.declared.Limit.{Limit}
use Rattle.tables.specs.Places.{made, room}
use Rattle.walks.specs.Extended.{kept, Builds, Built, tables_from, limit_needs, all_needs, SoundTable, Extended, Refused, HasNode}
use Rattle.std.proofs.lemmas.Option.{slice_get_within}
use Rattle.tables.proofs.Tables.{made_length}

module _ {parts : ℕ} {t : NodeTable} (product : Edge) (l : Limit) (s : SoundTable parts t) where
  pub builds : Builds parts (all_needs parts t product l) t product l
  builds = record {
    table = record { sound = s.sound; ordered = s.ordered; small = s.small; within = λ k n e. in_left _ (tables_from parts (made t) 0 (made t)) _ (rw zero-add at (in_tables parts (made t) 0 k (made t) n e)) };
    sums = λ u h. in_right u (tables_from parts (made t) 0 (made t)) _ (in_left u (needed parts (sum l.coefficients)) _ h);
    keeps = λ u h. in_right u (tables_from parts (made t) 0 (made t)) _ (in_right u (needed parts (sum l.coefficients)) _ (in_left u (needed parts (kept l)) _ h));
    products = λ u h. in_right u (tables_from parts (made t) 0 (made t)) _ (in_right u (needed parts (sum l.coefficients)) _ (in_right u (needed parts (kept l)) _ h));
  }

  extended : (t' : NodeTable) (e : Edge) → Built parts (all_needs parts t product l) t t' product l (Some e) → Extended parts t t' product l e
  extended t' e b = record {
    table = record { sound = b.grew.good.sound; ordered = b.grew.good.ordered; small = b.grew.good.small };
    places = b.grew.places;
    grown = b.grew.grown;
    denotes = b.edge;
    needed_only = λ k n f h. ⊎_elim (λ m. absurd (old k n f h m)) (λ m. m) (in_either (node_table parts (made t') k n) (tables_from parts (made t) 0 (made t)) (limit_needs parts t product l) (b.grew.good.within k n f));
    count = counted;
  }
    where
      old_node : (u : List ℤ) → In u (tables_from parts (made t) 0 (made t)) → HasNode parts (made t') u
      old_node u m =
          let o = made_at parts (made t) 0 (made t) u m in
          (o.0, o.1, nth_grown b.grew.grown o.0 o.1 o.2, o.3 ∙ (ap (λ i. node_table parts (made t) i o.1) (zero-add o.0) ∙ kept_table o.0 o.1 o.2))
        where
          kept_table : (j : ℕ) (q : Node) → slice_get (made t) j ≡ Some q → node_table parts (made t) j q ≡ node_table parts (made t') j q
          kept_table j q f = sym (table_ext (parts - q.part) (value (made t') q.part (Place j)) (value (made t) q.part (Place j)) (λ c z. value_grown parts s.sound b.grew.grown q.part (Place j) c (q, f, omega arith)))

      counted : t'.used ≡ length (once (all_needs parts t product l))
      counted =
          let n = made_length t' in
          let up = AtMost parts (made t') b.grew.good.sound (all_needs parts t product l) b.grew.good.within in
          let down = at_least parts (made t') b.grew.good.sound (all_needs parts t product l) (λ u m. ⊎_elim (old_node u) (b.edge.each u) (in_either u (tables_from parts (made t) 0 (made t)) (limit_needs parts t product l) m)) in
          omega arith

      old : (k : ℕ) (n : Node) → slice_get (made t') k ≡ Some n → length (made t) ≤ k → In (node_table parts (made t') k n) (tables_from parts (made t) 0 (made t)) → ⊥
      old k n f h m =
          let o = made_at parts (made t) 0 (made t) (node_table parts (made t') k n) m in
          let j = o.0 in
          let q = o.1 in
          let g : slice_get (made t') j ≡ Some q = nth_grown b.grew.grown j q o.2 in
          let below = slice_get_within (made t) j q o.2 in
          let same : node_table parts (made t) j q ≡ node_table parts (made t') j q = sym (table_ext (parts - q.part) (value (made t') q.part (Place j)) (value (made t) q.part (Place j)) (λ c z. value_grown parts s.sound b.grew.grown q.part (Place j) c (q, o.2, omega arith))) in
          let e' : node_table parts (made t') k n ≡ node_table parts (made t') j q = o.3 ∙ (ap (λ i. node_table parts (made t) i q) (zero-add j) ∙ same) in
          let z : k ≡ j = node_once parts (made t') b.grew.good.sound k j n q f g e' in
          omega arith

  refused : (t' t'' : NodeTable) → Built parts (all_needs parts t product l) t t' product l None → room t'' ≡ room t' → made t'' ≡ take t.used (made t') → Refused parts t t'' product l
  refused t' t'' b places is =
      let g = b.grew.grown in
      let n = made_length t in
      let few = b.edge in
      let p = b.grew.places in
      let back : take t.used (made t ++ g.more) ≡ made t = take-append-le t.used (made t) g.more (omega arith) ∙ take_all t.used (made t) (omega arith) in
      record {
        places = places ∙ p;
        same = is ∙ (ap (take t.used) g.is ∙ back);
        more_needed = omega arith;
      }

  -- what build leaves stays where it answers an edge, and is cut back where it answers none
  pub stays : {t' : NodeTable} (r : Option Edge) → is_some r ≡ true → Built parts (all_needs parts t product l) t t' product l r → MatchOption r (Refused parts t t' product l) (λ e. Extended parts t t' product l e)
  stays None h b = cc
  stays {t'} (Some e) h b = extended t' e b

  pub cut_back : {t' : NodeTable} (t'' : NodeTable) (r : Option Edge) → is_some r ≡ false → Built parts (all_needs parts t product l) t t' product l r → room t'' ≡ room t' → made t'' ≡ take t.used (made t') → MatchOption r (Refused parts t t'' product l) (λ e. Extended parts t t'' product l e)
  cut_back {t'} t'' None h b places is = refused t' t'' b places is
  cut_back t'' (Some e) h b places is = cc

  pub used_grows : {t' : NodeTable} {r : Option Edge} → Built parts (all_needs parts t product l) t t' product l r → t.used ≤ t'.used
  used_grows {t'} b =
      let g = b.grew.grown in
      let n = made_length t in
      let n' = made_length t' in
      let e = ap length g.is in
      let a = length-append (made t) g.more in
      omega arith
