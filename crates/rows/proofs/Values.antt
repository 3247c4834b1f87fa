-- Nodes at a part, and edges that denote 0 or 1 over the parts from there up.
use Rattle.std.proofs.Common.{◌≡◌, ℕ, zero, suc, ◌-◌, ◌<◌, ◌≤◌, true, false, eqb, List, ◌∷◌, length, replicate, ℤ, ◌+ℤ◌, Some, None, sym, refl, ap, ◌∙◌, subst, ⊎_elim, arith}
use lib.ListN.{length-replicate}
use lib.IntN.{+ℤ_assoc, +ℤ_idr}
use Rattle.std.specs.List.{slice_get}
use Rattle.std.proofs.lemmas.Option.{slice_get_within}
use Rattle.std.proofs.lemmas.Bool.{cases_eq, ne_eqb, eq-eqb, cond-false, cond-true}
use Rattle.diagrams.specs.Apply.{Bit}
use Rattle.diagrams.specs.Nodes.{here, if_part, Under}
use Rattle.diagrams.specs.declared.Node.{Node}
use Rattle.diagrams.specs.declared.Child.{Child}
use Rattle.diagrams.specs.declared.Child.TheVariants.{Terminal, Place}
use Rattle.diagrams.proofs.Canonical.{value_skip, value_fit, value_leave, value_out}
use Rattle.rows.specs.Ones.{BitsOf}

-- what stands at a part
pub skips_place : (ns : List Node) (j k : ℕ) (n : Node) → slice_get ns k ≡ Some n → j < n.part → here ns j (Place k) ≡ None
skips_place ns j k n e h = ap (if_part j) e ∙ cond-false (eqb n.part j) (Some n) None (ne_eqb n.part j (λ q. omega arith))

pub stands_place : (ns : List Node) (k : ℕ) (n : Node) → slice_get ns k ≡ Some n → here ns n.part (Place k) ≡ Some n
stands_place ns k n e = ap (if_part n.part) e ∙ cond-true (eqb n.part n.part) (Some n) None (eq-eqb n.part n.part refl)

pub under_up : (ns : List Node) (i lim more : ℕ) (r : Child) → lim ≤ more → Under ns i lim r → Under ns i more r
under_up ns i lim more Terminal h u = tt
under_up ns i lim more (Place k) h u = (u.0, u.1, u.2, omega (arith, u.3))

pub under_down : (ns : List Node) (i j lim : ℕ) (r : Child) → j ≤ i → Under ns i lim r → Under ns j lim r
under_down ns i j lim Terminal h u = tt
under_down ns i j lim (Place k) h u = (u.0, u.1, omega (arith, u.2), u.3)

module _ (ns : List Node) (parts : ℕ) (a : ℤ) where
  bits_skip : (i : ℕ) (r : Child) → here ns i r ≡ None → BitsOf ns parts i a r → BitsOf ns parts (suc i) a r
  bits_skip i r e h c l = subst (λ z. Bit (a +ℤ z)) (value_skip ns i r false c e) (h (false ∷ c) (omega arith))

  pub bits_to : (p i : ℕ) (r : Child) → i ≤ p → ((j : ℕ) → j < p → here ns j r ≡ None) → BitsOf ns parts i a r → BitsOf ns parts p a r
  bits_to zero i r h skip b = subst (λ j. BitsOf ns parts j a r) (omega arith) b
  bits_to (suc p) i r h skip b = ⊎_elim
      (λ e. subst (λ j. BitsOf ns parts j a r) e b)
      (λ e. bits_skip p r (skip p (omega arith)) (bits_to p i r (omega arith) (λ j l. skip j (omega arith)) b))
      (cases_eq i (suc p))

  pub bits_fit : (i : ℕ) (r : Child) (n : Node) → here ns i r ≡ Some n → BitsOf ns parts i a r → BitsOf ns parts (suc i) (a +ℤ n.value) n.left
  bits_fit i r n e h c l = subst Bit (ap (λ z. a +ℤ z) (value_fit ns i r n c e) ∙ sym (+ℤ_assoc a n.value _)) (h (true ∷ c) (omega arith))

  pub bits_leave : (i : ℕ) (r : Child) (n : Node) → here ns i r ≡ Some n → BitsOf ns parts i a r → BitsOf ns parts (suc i) a n.right
  bits_leave i r n e h c l = subst (λ z. Bit (a +ℤ z)) (value_leave ns i r n c e) (h (false ∷ c) (omega arith))

  pub bit_of : (i : ℕ) (r : Child) → i ≤ parts → BitsOf ns parts i a r → Bit a
  bit_of i r l h =
      let d : ℕ = parts - i in
      subst Bit (ap (λ z. a +ℤ z) (value_out ns d i r) ∙ +ℤ_idr a) (h (replicate d false) (omega (arith, length-replicate d false)))

pub skips_at : (ns : List Node) (j kk : ℕ) (n : Node) (r : Child) → r ≡ Place kk → slice_get ns kk ≡ Some n → j < n.part → here ns j r ≡ None
skips_at ns j kk n r er en h = ap (here ns j) er ∙ skips_place ns j kk n en h

pub above_at : (ns : List Node) (i lim kk : ℕ) (n : Node) (r : Child) → r ≡ Place kk → slice_get ns kk ≡ Some n → Under ns i lim r → i ≤ n.part
above_at ns i lim kk n r er en u =
    let v : Under ns i lim (Place kk) = subst (λ s. Under ns i lim s) er u in
    let same_node : v.0 ≡ n = cc (v.1, en) in
    subst (λ (m : Node). i ≤ m.part) same_node v.2

pub inside_at : (ns : List Node) (i lim kk : ℕ) (r : Child) → r ≡ Place kk → Under ns i lim r → (kk < length ns) × (kk < lim)
inside_at ns i lim kk r er u =
    let v : Under ns i lim (Place kk) = subst (λ s. Under ns i lim s) er u in
    (slice_get_within ns kk v.0 v.1, v.3)
