-- The best grade, part by part over the diagram.
use Rattle.std.proofs.Common.{◌≡◌, ℕ, suc, ◌+◌, ◌-◌, ◌*◌, ◌<◌, ◌≤◌, Bool, true, false, cond, List, [], ◌∷◌, map, length, get_or, drop, pos, ◌+ℤ◌, Some, None, Option, sym, refl, ap, ◌∙◌, subst, ap₂, add-one, arith}
use mathlib.Core.Path.{fun_ext}
use lib.IntN.{+ℤ_assoc}
use Rattle.std.specs.List.{slice_get, AllByRecursion}
use Rattle.std.proofs.lemmas.Option.{slice_get_within, get_or_from_slice_get}
use Rattle.std.proofs.lemmas.List.{drop_more, get_or-map, length-map, length-drop, get_or_default}
use Rattle.std.proofs.ByRecursion.{All-drop, All-get_or}
use Rattle.grades.specs.Laws.{Kind, Laws}
use Rattle.grades.specs.Rule.{best, better, put_on, left_out}
use Rattle.diagrams.specs.Apply.{Bit}
use Rattle.diagrams.specs.Needs.{same, indicator}
use Rattle.diagrams.specs.Nodes.{here, value, Under, Ordered}
use Rattle.diagrams.specs.declared.Node.{Node}
use Rattle.diagrams.specs.declared.Child.{Child}
use Rattle.diagrams.specs.declared.Child.TheVariants.{Place}
use Rattle.diagrams.proofs.Canonical.{value_skip, value_fit, value_leave}
use Rattle.rows.specs.Ones.{ones, Bits, BitsOf}
use Rattle.rows.specs.Bests.{mapped, better_of, Put, Weighed, no_row, row_at, IsBest, Tells, Lifts, Tops, NodeBest, RowBest}
use Rattle.rows.specs.declared.Row.{Row}
use Rattle.rows.specs.declared.Top.{Top}
use Rattle.rows.proofs.Values.{under_down, stands_place, skips_at, above_at, bits_to, bits_fit, bits_leave, bit_of}

-- what is left of a list from an element on
pub drop_nth : {X : Type 0} (xs : List X) (j : ℕ) (x : X) → slice_get xs j ≡ Some x → drop j xs ≡ x ∷ drop (suc j) xs
drop_nth xs j x e = drop_more xs j x (slice_get_within xs j x e) ∙ ap₂ (λ y n. y ∷ drop n xs) (get_or_from_slice_get xs j x x e) (add-one j)

-- what holds of each meaning holds of the one read
pub all_map_at : {X Y : Type 0} (P : Y → Type 0) (f : X → Y) (xs : List X) (i : ℕ) (x : X) → i < length xs → x ≡ get_or xs i x → AllByRecursion P (map f xs) → P (f x)
all_map_at P f xs i x h e all = subst P (get_or-map f xs i x (f x) h ∙ ap f (sym e)) (All-get_or P (map f xs) i (f x) (omega (arith, length-map xs f)) all)

module _ {V G : Type 0} {k : Kind V} (laws : Laws k) (means : G → V) where
  mapped_cond : (t : Bool) (a b : Option G) → mapped means (cond t a b) ≡ cond t (mapped means a) (mapped means b)
  mapped_cond true a b = refl
  mapped_cond false a b = refl

  mapped_better : (a b : Option G) → mapped means (better_of k means a b) ≡ better k (mapped means a) (mapped means b)
  mapped_better None b = refl
  mapped_better (Some x) None = refl
  mapped_better (Some x) (Some y) = mapped_cond (k.no_later (means x) (means y)) (Some x) (Some y)

  abbrev Sized : ℕ → Option V → Type 0
  Sized m None = Unit {0}
  Sized m (Some v) = k.size v ≤ m

  sized_cond : (m : ℕ) (t : Bool) (a b : Option V) → Sized m a → Sized m b → Sized m (cond t a b)
  sized_cond m true a b h l = h
  sized_cond m false a b h l = l

  sized_up : (m n : ℕ) (a : Option V) → m ≤ n → Sized m a → Sized n a
  sized_up m n None h l = tt
  sized_up m n (Some v) h l = omega arith

  sized_put : (m : ℕ) (w : V) (a : Option V) → k.size w ≤ 1000000 → Sized m a → Sized (1000000 + m) (put_on k w a)
  sized_put m w None h l = tt
  sized_put m w (Some v) h l = omega (arith, laws.size_join w v)

  sized_best : (vs : List V) (p : List Bool → Bool) → AllByRecursion (λ v. k.size v ≤ 1000000) vs → Sized (1000000 * length vs) (best k vs p)
  sized_best [] p small = sized_cond (1000000 * 0) (p []) (Some k.empty) None (omega (arith, laws.size_empty)) tt
  sized_best (w ∷ vs) p small =
      let out : Option V = best k vs (λ c. p (false ∷ c)) in
      let fit : Option V = best k vs (λ c. p (true ∷ c)) in
      sized_cond (1000000 * suc (length vs)) (left_out k out (put_on k w fit)) out (put_on k w fit)
      (sized_up (1000000 * length vs) (1000000 * suc (length vs)) out (omega arith) (sized_best vs (λ c. p (false ∷ c)) small.1))
      (sized_up (1000000 + 1000000 * length vs) (1000000 * suc (length vs)) (put_on k w fit) (omega arith) (sized_put (1000000 * length vs) w fit small.0 (sized_best vs (λ c. p (true ∷ c)) small.1)))

  put_is : (w : V) (vs : List V) (p : List Bool → Bool) (o r : Option G) → AllByRecursion (λ v. k.size v ≤ 1000000) (w ∷ vs) → length vs < 48 → mapped means o ≡ best k vs p → Put k means w o r → mapped means r ≡ put_on k w (mapped means o)
  put_is w vs p None None small few is put = refl
  put_is w vs p None (Some g) small few is put = absurd put
  put_is w vs p (Some b) None small few is put = absurd put
  put_is w vs p (Some b) (Some g) small few is put =
      let s : k.size (means b) ≤ 1000000 * length vs = subst (Sized (1000000 * length vs)) (sym is) (sized_best vs p small.1) in
      ap Some (put (omega (arith, small.0)))

  -- both ways at a part
  join_best : (w : V) (vs : List V) (p q : List Bool → Bool) (o f r : Option G) → AllByRecursion (λ v. k.size v ≤ 1000000) (w ∷ vs) → length vs < 48 → mapped means o ≡ best k vs p → mapped means f ≡ best k vs q → Put k means w f r → mapped means (better_of k means o r) ≡ better k (best k vs p) (put_on k w (best k vs q))
  join_best w vs p q o f r small few ho hf put = mapped_better o r ∙ ap₂ (better k) ho (put_is w vs q f r small few hf put ∙ ap (put_on k w) hf)

  pub put_best : (w : V) (vs : List V) (q : List Bool → Bool) (f r : Option G) → AllByRecursion (λ v. k.size v ≤ 1000000) (w ∷ vs) → length vs < 48 → mapped means f ≡ best k vs q → Put k means w f r → mapped means r ≡ put_on k w (best k vs q)
  put_best w vs q f r small few hf put = put_is w vs q f r small few hf put ∙ ap (put_on k w) hf

  module _ (vs : List V) (weighed : Weighed k vs) (j : ℕ) (v : V) (read : slice_get vs j ≡ Some v) where
    pub small_from : AllByRecursion (λ x. k.size x ≤ 1000000) (v ∷ drop (suc j) vs)
    small_from = subst (AllByRecursion (λ x. k.size x ≤ 1000000)) (drop_nth vs j v read) (All-drop (λ x. k.size x ≤ 1000000) j vs weighed.small)

    pub few_from : length (drop (suc j) vs) < 48
    few_from = omega (arith, length-drop (suc j) vs, weighed.few, slice_get_within vs j v read)

    -- a part that the diagram skips is still weighed
    lift : (ns : List Node) (b : Bool) (r : Child) (o with_it : Option G) → here ns j r ≡ None → IsBest k means vs ns (suc j) b r o → Put k means v o with_it → IsBest k means vs ns j b r (better_of k means o with_it)
    lift ns b r o with_it e is put =
        let us : List V = drop (suc j) vs in
        let under : (x : Bool) → (λ c. ones ns j b r (x ∷ c)) ≡ ones ns (suc j) b r = λ x. fun_ext (λ c. ap (λ z. same (indicator b +ℤ z) (pos 1)) (value_skip ns j r x c e)) in
        join_best v us (ones ns (suc j) b r) (ones ns (suc j) b r) o o with_it small_from few_from is is put
        ∙ sym (ap (λ xs. best k xs (ones ns j b r)) (drop_nth vs j v read) ∙ ap₂ (λ p q. better k (best k us p) (put_on k v (best k us q))) (under false) (under true))

    -- at a node of part j
    at_node : (ns : List Node) (b s : Bool) (r : Child) (n : Node) (o f with_it : Option G) → here ns j r ≡ Some n → indicator s ≡ indicator b +ℤ n.value → IsBest k means vs ns (suc j) b n.right o → IsBest k means vs ns (suc j) s n.left f → Put k means v f with_it → IsBest k means vs ns j b r (better_of k means o with_it)
    at_node ns b s r n o f with_it e const ho hf put =
        let us : List V = drop (suc j) vs in
        let out : (λ c. ones ns j b r (false ∷ c)) ≡ ones ns (suc j) b n.right = fun_ext (λ c. ap (λ z. same (indicator b +ℤ z) (pos 1)) (value_leave ns j r n c e)) in
        let fit : (λ c. ones ns j b r (true ∷ c)) ≡ ones ns (suc j) s n.left = fun_ext (λ c. ap (λ z. same z (pos 1)) (ap (λ z. indicator b +ℤ z) (value_fit ns j r n c e) ∙ (sym (+ℤ_assoc (indicator b) n.value _) ∙ ap (λ z. z +ℤ value ns (suc j) n.left c) (sym const)))) in
        join_best v us (ones ns (suc j) b n.right) (ones ns (suc j) s n.left) o f with_it small_from few_from ho hf put
        ∙ sym (ap (λ xs. best k xs (ones ns j b r)) (drop_nth vs j v read) ∙ ap₂ (λ p q. better k (best k us p) (put_on k v (best k us q))) out fit)

  -- one part more is weighed
  pub lift_step : (vs : List V) (weighed : Weighed k vs) (from j : ℕ) (v : V) (first o with_it r : Option G) → 0 < j → j ≤ from → slice_get vs (j - 1) ≡ Some v → Put k means v o with_it → r ≡ better_of k means o with_it → Lifts k means vs from j first o → Lifts k means vs from (j - 1) first r
  lift_step vs weighed from j v first o with_it r some low read put is before ns b s skip at_first =
      let e : j ≡ suc (j - 1) = omega arith in
      ap (mapped means) is
      ∙ lift vs weighed (j - 1) v read ns b s o with_it (skip (j - 1) (omega arith)) (subst (λ m. IsBest k means vs ns m b s o) e (before ns b s skip at_first)) put

  module _ (vs : List V) (ns : List Node) (rows : List (Row G)) where
    -- at a node its row is read
    pub tops_place : (b : Bool) (r : Child) (kk : ℕ) (n : Node) (row : Row G) (o : Option G) → Ordered (length vs) ns → r ≡ Place kk → slice_get ns kk ≡ Some n → row ≡ get_or rows kk row → kk < length rows → o ≡ row_at row b → Tops k means vs ns rows b r (record { part = n.part; best = o })
    tops_place b r kk n row o ordered er en read inside is = record {
      part = (let low = ordered.below kk n en in omega arith);
      above = λ i lim u h. above_at ns i lim kk n r er en u;
      skips = λ j h. skips_at ns j kk n r er en h;
      tells = λ lim right u bits.
          let low : kk < lim = (subst (λ s. Under ns 0 lim s) er u).3 in
          let told : IsBest k means vs ns n.part b (Place kk) (row_at (get_or rows kk no_row) b) = right kk n b low en (subst (λ s. Bits ns (length vs) n.part b s) er bits) in
          ap (mapped means) is ∙ (ap (λ (x : Row G). mapped means (row_at x b)) (read ∙ get_or_default rows kk row no_row inside) ∙ (told ∙ ap (λ s. best k (drop n.part vs) (ones ns n.part b s)) (sym er)));
    }

    -- from the node's part down to i
    pub told : (b : Bool) (r : Child) (t : Top G) (i : ℕ) (o : Option G) → i ≤ length vs → Tops k means vs ns rows b r t → Lifts k means vs t.part i t.best o → Tells k means vs ns rows i b r o
    told b r t i o low tops lifts lim right u bits =
        lifts ns b r tops.skips
        (tops.tells lim right (under_down ns i 0 lim r (omega arith) u) (bits_to ns (length vs) (indicator b) t.part i r (tops.above i lim u low) tops.skips bits))

    module _ (weighed : Weighed k vs) (ord : Ordered (length vs) ns) where
      pub node_step : (n : Node) (b s : Bool) (at : Child) (v : V) (o f r res : Option G)
          → n.part < length vs → slice_get vs n.part ≡ Some v → at ≡ n.left → (Bit (indicator b +ℤ n.value) → indicator s ≡ indicator b +ℤ n.value)
          → Tells k means vs ns rows (n.part + 1) b n.right o → Tells k means vs ns rows (n.part + 1) s at f
          → Put k means v f r → res ≡ better_of k means o r → NodeBest k means vs ns rows n b res
      node_step n b s at v o f r res low read at-is flips told-out told_fit put is kk en right bits =
          let stands : here ns n.part (Place kk) ≡ Some n = stands_place ns kk n en in
          let next : suc n.part ≡ n.part + 1 = sym (add-one n.part) in
          let left-bits : BitsOf ns (length vs) (suc n.part) (indicator b +ℤ n.value) n.left = bits_fit ns (length vs) (indicator b) n.part (Place kk) n stands bits in
          let const : indicator s ≡ indicator b +ℤ n.value = flips (bit_of ns (length vs) (indicator b +ℤ n.value) (suc n.part) n.left (omega arith) left-bits) in
          let out : IsBest k means vs ns (n.part + 1) b n.right o =
          told-out kk right (subst (λ j. Under ns j kk n.right) next (ord.right kk n en))
          (subst (λ j. Bits ns (length vs) j b n.right) next (bits_leave ns (length vs) (indicator b) n.part (Place kk) n stands bits)) in
          let fit : IsBest k means vs ns (n.part + 1) s at f =
          told_fit kk right (subst (λ j. Under ns j kk at) next (subst (λ c. Under ns (suc n.part) kk c) (sym at-is) (ord.left kk n en)))
          (subst (λ j. Bits ns (length vs) j s at) next (subst (λ c. Bits ns (length vs) (suc n.part) s c) (sym at-is) (subst (λ z. BitsOf ns (length vs) (suc n.part) z n.left) (sym const) left-bits))) in
          ap (mapped means) is
          ∙ at_node vs weighed n.part v read ns b s (Place kk) n o f r stands const
          (subst (λ j. IsBest k means vs ns j b n.right o) (sym next) out)
          (subst (λ c. IsBest k means vs ns (suc n.part) s c f) at-is (subst (λ j. IsBest k means vs ns j s at f) (sym next) fit))
          put

  -- the row of the node n
  pub row_is : (vs : List V) (ns : List Node) (rows : List (Row G)) (kk : ℕ) (n : Node) (row : Row G) → slice_get ns kk ≡ Some n → NodeBest k means vs ns rows n false row.zero → NodeBest k means vs ns rows n true row.one → RowBest k means vs ns rows kk row
  row_is vs ns rows kk n row en hz ho m b em = subst (λ q. NodeBest k means vs ns rows q b (row_at row b)) same_node (both b)
    where
      same_node : n ≡ m
      same_node = cc (en, em)

      both : (x : Bool) → NodeBest k means vs ns rows n x (row_at row x)
      both true = ho
      both false = hz
