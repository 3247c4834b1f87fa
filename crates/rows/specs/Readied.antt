-- A table with its weights is ready in one way at most, so that a struct can keep that it is.
use Rattle.std.specs.Prelude.{◌≡◌, ℕ, suc, ◌<◌, ◌≤◌, List, length, Some, None, Option}
use Rattle.std.specs.List.{AllByRecursion-prop, slice_get}
use Rattle.std.specs.Option.{IsSomeAnd, IsSomeAnd-prop}
use Rattle.std.specs.Coded.{×_prop, Π_prop, Unit-prop, le_prop}
use mathlib.Core.Path.{refl, sym, ap, ◌∙◌, subst⁻¹, subst⁻¹_refl, path_j'}
use Rattle.grades.specs.Laws.{Kind}
use Rattle.diagrams.specs.declared.Node.{Node}
use Rattle.diagrams.specs.declared.Child.{Child}
use Rattle.diagrams.specs.declared.Child.TheVariants.{Terminal, Place}
use Rattle.diagrams.specs.Nodes.{Under, Ordered}
use Rattle.rows.specs.Bests.{Ready}

-- an option is Some of one value at most
module _ {A : Type 0} (P Q : A → Type 0) (p : (x : A) → IsProp (P x)) (q : (x : A) → IsProp (Q x)) where
  abbrev There : Option A → Type 0
  There o = (x : A) × (o ≡ Some x) × P x × Q x

  abbrev Known : Option A → Type 0
  Known o = IsSomeAnd o (λ x. P x × Q x)

  abbrev known : (o : Option A) → There o → Known o
  known o w = subst⁻¹ Known w.1 (w.2, w.3)

  abbrev there : (o : Option A) → Known o → There o
  there None h = absurd h
  there (Some x) h = (x, refl, h.0, h.1)

  back : (o : Option A) (w : There o) → there o (known o w) ≡ w
  back o w = path_j' (λ o e. (h : Known (Some w.0)) → ◌≡◌ {A = There o} (there o (subst⁻¹ Known e h)) (w.0, e, h.0, h.1))
      (λ h. ap (λ g. (w.0, refl, g.0, g.1)) (subst⁻¹_refl Known {x = Some w.0} h)) w.1 (w.2, w.3)

  there_prop : (o : Option A) → IsProp (There o)
  there_prop o v w = sym (back o v) ∙ ap (there o) (IsSomeAnd-prop o (λ x. P x × Q x) (λ x. ×_prop (p x) (q x)) (known o v) (known o w)) ∙ back o w

pub under_prop : (ns : List Node) (i lim : ℕ) (r : Child) → IsProp (Under ns i lim r)
under_prop ns i lim Terminal = Unit-prop
under_prop ns i lim (Place k) = there_prop (λ (n : Node). i ≤ n.part) (λ n. k < lim) (λ n. le_prop) (λ n. le_prop) (slice_get ns k)

ordered_prop : (parts : ℕ) (ns : List Node) → IsProp (Ordered parts ns)
ordered_prop parts ns x y i = record {
  below = Π_prop (λ k. Π_prop (λ n. Π_prop (λ e. le_prop))) x.below y.below i;
  left = Π_prop (λ k. Π_prop (λ (n : Node). Π_prop (λ e. under_prop ns (suc n.part) k n.left))) x.left y.left i;
  right = Π_prop (λ k. Π_prop (λ (n : Node). Π_prop (λ e. under_prop ns (suc n.part) k n.right))) x.right y.right i;
}

pub ready_prop : {V : Type 0} (k : Kind V) (vs : List V) (ns : List Node) → IsProp (Ready k vs ns)
ready_prop k vs ns x y i = record {
  weighed = record {
    few = le_prop x.weighed.few y.weighed.few i;
    small = AllByRecursion-prop (λ v. k.size v ≤ 1000000) (λ v. le_prop) vs x.weighed.small y.weighed.small i;
  };
  ordered = ordered_prop (length vs) ns x.ordered y.ordered i;
}
