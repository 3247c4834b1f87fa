-- An edge that goes on by one part, and the part settled there.
use Rattle.std.proofs.Common.{◌≡◌, ℕ, suc, ◌+◌, ◌<◌, ◌≤◌, Bool, true, false, cond, eqb, List, ◌∷◌, length, drop, pos, ◌+ℤ◌, Some, None, Option, sym, ap, ◌∙◌, subst, ap₂, add-one, arith}
use mathlib.Core.Path.{fun_ext}
use lib.IntN.{+ℤ_assoc}
use Rattle.std.specs.List.{slice_get, AllByRecursion}
use Rattle.std.proofs.lemmas.Bool.{eq-eqb, cond-true}
use Rattle.grades.specs.Laws.{Kind, Laws}
use Rattle.grades.specs.Rule.{best, put_on, left_out, chosen}
use Rattle.diagrams.specs.Apply.{Bit}
use Rattle.diagrams.specs.Needs.{same, indicator}
use Rattle.diagrams.specs.Nodes.{here, if_part, value, Under, Ordered}
use Rattle.diagrams.specs.declared.Node.{Node}
use Rattle.diagrams.specs.declared.Child.{Child}
use Rattle.diagrams.specs.declared.Child.TheVariants.{Place}
use Rattle.diagrams.proofs.Canonical.{value_fit}
use Rattle.rows.specs.Ones.{ones, Bits}
use Rattle.rows.specs.Bests.{mapped, Put, IsBest, Tells}
use Rattle.rows.specs.declared.Row.{Row}
use Rattle.rows.specs.declared.BitEdge.{BitEdge}
use Rattle.rows.proofs.Values.{under_up, bit_of, bits_fit}
use Rattle.rows.proofs.Steps.{drop_nth, small_from, few_from, put_best}
use Rattle.solving.specs.Settling.{Filled, StandsAt, Turns, Settles}

module _ (ns : List Node) (i : ℕ) (b : Bool) (r : Child) (x : Bool) (kk : ℕ) (n : Node) (er : r ≡ Place kk) (en : slice_get ns kk ≡ Some n) where
  module _ (e : n.part ≡ i) where
    stands : here ns i r ≡ Some n
    stands = ap (here ns i) er ∙ (ap (if_part i) en ∙ cond-true (eqb n.part i) (Some n) None (eq-eqb n.part i e))

    child_under : (q : Child) (lim : ℕ) → Under ns (suc n.part) kk q → Under ns i lim r → Under ns (suc i) lim q
    child_under q lim h u =
        let v : Under ns i lim (Place kk) = subst (λ s. Under ns i lim s) er u in
        under_up ns (suc i) kk lim q (omega (arith, v.3)) (subst (λ j. Under ns (suc j) kk q) e h)

    pub turns_fit : (s : Bool) (q : Child) → x ≡ true → q ≡ n.left → (Bit (indicator b +ℤ n.value) → indicator s ≡ indicator b +ℤ n.value) → Turns ns i b r x s q
    turns_fit s q ex eq flips = record {
      under = λ parts lim ord u. child_under q lim (subst (λ p. Under ns (suc n.part) kk p) (sym eq) (ord.left kk n en)) u;
      follows = λ parts low bits c.
          let const : indicator s ≡ indicator b +ℤ n.value = flips (bit_of ns parts (indicator b +ℤ n.value) (suc i) n.left low (bits_fit ns parts (indicator b) i r n stands bits)) in
          ap (λ z. indicator b +ℤ z) (ap (λ y. value ns i r (y ∷ c)) ex ∙ value_fit ns i r n c stands)
          ∙ (sym (+ℤ_assoc (indicator b) n.value _) ∙ ap₂ (λ z p. z +ℤ value ns (suc i) p c) (sym const) (sym eq));
    }

module _ (ns : List Node) (parts i : ℕ) (b : Bool) (r : Child) (x : Bool) (s : Bool) (q : Child) (low : i < parts) (ord : Ordered parts ns) (turn : Turns ns i b r x s q) (at : StandsAt ns parts i b r) where
  pub turns_stands : StandsAt ns parts (i + 1) s q
  turns_stands =
      let u : Under ns (suc i) (length ns) q = turn.under parts (length ns) ord at.under in
      let h : Bits ns parts (suc i) s q = λ c l. subst Bit (turn.follows parts low at.bits c) (at.bits (x ∷ c) (omega arith)) in
      record { under = subst (λ j. Under ns j (length ns) q) (sym (add-one i)) u; bits = subst (λ j. Bits ns parts j s q) (sym (add-one i)) h }

  turns_ones : ◌≡◌ {A = List Bool → Bool} (λ c. ones ns i b r (x ∷ c)) (ones ns (i + 1) s q)
  turns_ones = fun_ext (λ c. ap (λ z. same z (pos 1)) (turn.follows parts low at.bits c ∙ ap (λ j. indicator s +ℤ value ns j q c) (sym (add-one i))))

module _ {V G : Type 0} {k : Kind V} (laws : Laws k) (means : G → V) (vs : List V) (ns : List Node) (rows : List (Row G)) (filled : Filled k means vs ns rows) (i : ℕ) (b : Bool) (r : Child) (low : i < length vs) (at : StandsAt ns (length vs) i b r) where
  -- the best grades of the later parts can be read
  pub turns_under : (x s : Bool) (q : Child) → Turns ns i b r x s q → Under ns (i + 1) (length rows) q
  turns_under x s q turn =
      under_up ns (i + 1) (length ns) (length rows) q filled.enough (turns_stands ns (length vs) i b r x s q low filled.ready.ordered turn at).under

  module _ (v : V) (out fit : BitEdge) (o f w : Option G) (read : slice_get vs i ≡ Some v) (turn_out : Turns ns i b r false out.one out.child) (turn-fit : Turns ns i b r true fit.one fit.child)
      (told-out : Tells k means vs ns rows (i + 1) out.one out.child o) (told_fit : Tells k means vs ns rows (i + 1) fit.one fit.child f) (put : Put k means v f w) where
    stands_out : StandsAt ns (length vs) (i + 1) out.one out.child
    stands_out = turns_stands ns (length vs) i b r false out.one out.child low filled.ready.ordered turn_out at

    stands_fit : StandsAt ns (length vs) (i + 1) fit.one fit.child
    stands_fit = turns_stands ns (length vs) i b r true fit.one fit.child low filled.ready.ordered turn-fit at

    chosen_step : (x : Bool) → x ≡ left_out k (mapped means o) (mapped means w)
        → chosen k (drop i vs) (ones ns i b r) ≡ cond x (false ∷ chosen k (drop (i + 1) vs) (ones ns (i + 1) out.one out.child)) (true ∷ chosen k (drop (i + 1) vs) (ones ns (i + 1) fit.one fit.child))
    chosen_step x is =
        let us : List V = drop (i + 1) vs in
        let next : drop (suc i) vs ≡ us = ap (λ j. drop j vs) (sym (add-one i)) in
        let more : drop i vs ≡ v ∷ us = drop_nth vs i v read ∙ ap (λ xs. v ∷ xs) next in
        let smalls : AllByRecursion (λ y. k.size y ≤ 1000000) (v ∷ us) = subst (λ xs. AllByRecursion (λ y. k.size y ≤ 1000000) (v ∷ xs)) next (small_from laws means vs filled.ready.weighed i v read) in
        let fews : length us < 48 = subst (λ xs. length xs < 48) next (few_from laws means vs filled.ready.weighed i v read) in
        let out-ones : ◌≡◌ {A = List Bool → Bool} (λ c. ones ns i b r (false ∷ c)) (ones ns (i + 1) out.one out.child) = turns_ones ns (length vs) i b r false out.one out.child low filled.ready.ordered turn_out at in
        let fit-ones : ◌≡◌ {A = List Bool → Bool} (λ c. ones ns i b r (true ∷ c)) (ones ns (i + 1) fit.one fit.child) = turns_ones ns (length vs) i b r true fit.one fit.child low filled.ready.ordered turn-fit at in
        let best-out : IsBest k means vs ns (i + 1) out.one out.child o = told-out (length ns) filled.right stands_out.under stands_out.bits in
        let best-fit : IsBest k means vs ns (i + 1) fit.one fit.child f = told_fit (length ns) filled.right stands_fit.under stands_fit.bits in
        let test : left_out k (mapped means o) (mapped means w) ≡ left_out k (best k us (ones ns (i + 1) out.one out.child)) (put_on k v (best k us (ones ns (i + 1) fit.one fit.child))) =
        ap₂ (left_out k) best-out (put_best laws means v us (ones ns (i + 1) fit.one fit.child) f w smalls fews best-fit put) in
        ap (λ xs. chosen k xs (ones ns i b r)) more
        ∙ (ap₂ (λ p q. cond (left_out k (best k us p) (put_on k v (best k us q))) (false ∷ chosen k us p) (true ∷ chosen k us q)) out-ones fit-ones
        ∙ ap (λ t. cond t (false ∷ chosen k us (ones ns (i + 1) out.one out.child)) (true ∷ chosen k us (ones ns (i + 1) fit.one fit.child))) (sym (is ∙ test)))

    pub settles_out : (x : Bool) → x ≡ left_out k (mapped means o) (mapped means w) → x ≡ true → Settles k vs ns i b r (record { fitted = false; next = out })
    settles_out x is e = record { chosen_is = chosen_step true (sym e ∙ is); stands = stands_out }

    pub settles_fit : (x : Bool) → x ≡ left_out k (mapped means o) (mapped means w) → x ≡ false → Settles k vs ns i b r (record { fitted = true; next = fit })
    settles_fit x is e = record { chosen_is = chosen_step false (sym e ∙ is); stands = stands_fit }
