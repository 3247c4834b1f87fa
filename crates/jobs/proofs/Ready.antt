-- What the walk and a solve need of a job's books. The books are known to be kept, not how; so what is taken from them has one proof.
use Rattle.std.proofs.Common.{◌≡◌, ℕ, suc, ◌^◌, ◌<◌, ◌≤◌, Bool, true, false, ◌&&◌, leb, List, [], ◌∷◌, length, get_or, pos, nat_abs, Some, None, Option, sym, refl, ap, ◌∙◌, subst, inl, inr, arith}
use mathlib.Core.Logic.{∥∥₁_elim}
use mathlib.Core.HLevel.{Π_prop, ×_prop}
use native.Mathlib.Nat.{ℕ_set}
use native.Mathlib.Bridge.{le_prop}
use lib.IntN.{ℤ_set}
use Rattle.std.specs.List.{AllByRecursion, slice_get}
use Rattle.std.proofs.lemmas.Bool.{leb-true}
use Rattle.limits.specs.declared.Limit.{Limit}
use Rattle.limits.specs.Limits.{keeps_all}
use Rattle.grades.specs.Laws.{Kind}
use Rattle.grades.specs.Rule.{answer}
use Rattle.grades.proofs.Optimal.{answer_ext}
use Rattle.diagrams.specs.declared.Node.{Node}
use Rattle.diagrams.specs.declared.Edge.{Edge}
use Rattle.diagrams.specs.declared.Child.{Child}
use Rattle.diagrams.specs.declared.Child.TheVariants.{Terminal, Place}
use Rattle.diagrams.specs.Apply.{Bit}
use Rattle.diagrams.specs.Needs.{indicator, same}
use Rattle.diagrams.specs.Nodes.{From, Sound, Ordered, Under}
use Rattle.tables.specs.declared.NodeTable.{NodeTable}
use Rattle.tables.specs.Chains.{made}
use Rattle.walks.specs.Extended.{Begins, SoundTable}
use Rattle.rows.specs.Ones.{BitsOf, ones_of}
use Rattle.rows.specs.Bests.{Ready}
use Rattle.rows.specs.Readied.{under_prop}
use Rattle.solving.specs.Settling.{Solved}
use Rattle.solving.specs.declared.Answer.{Answer}
use Rattle.jobs.specs.Books.{Denotes, Held, limits_of, product_of, Books}
use Rattle.jobs.specs.Calls.{all_in_range}
use Rattle.jobs.specs.declared.ledger.Record.{Record}
use Rattle.jobs.proofs.Kept.{top_held}

from_under : (ns : List Node) (i lim : ℕ) (r : Child) → Under ns i lim r → From ns i r
from_under ns i lim Terminal u = tt
from_under ns i lim (Place k) u = (u.0, u.1, u.2)

-- what is taken from the books
abbrev Facts : ℕ → List Limit → List Node → Edge → Type 0
Facts parts ls ns e =
    ((k : ℕ) (n : Node) → slice_get ns k ≡ Some n → (n.part < parts) × (Under ns (suc n.part) k n.left × (Under ns (suc n.part) k n.right × (nat_abs n.value ≤ 2 ^ 29))))
    × (((k : ℕ) (n : Node) → slice_get ns k ≡ Some n → n.left ≡ n.right → n.value ≡ pos 0 → ⊥)
    × (((j k : ℕ) (n : Node) → slice_get ns j ≡ Some n → slice_get ns k ≡ Some n → j ≡ k)
    × (Under ns 0 (length ns) e.child × Denotes parts ls ns e)))

none_prop : (x y : ⊥) → x ≡ y
none_prop x y = absurd x

facts_prop : (parts : ℕ) (ls : List Limit) (ns : List Node) (e : Edge) (x y : Facts parts ls ns e) → x ≡ y
facts_prop parts ls ns e = ×_prop
    (Π_prop (λ k. Π_prop (λ n. Π_prop (λ h. ×_prop le_prop (×_prop (under_prop ns (suc n.part) k n.left) (×_prop (under_prop ns (suc n.part) k n.right) le_prop))))))
    (×_prop (Π_prop (λ k. Π_prop (λ n. Π_prop (λ h. Π_prop (λ a. Π_prop (λ b. none_prop))))))
    (×_prop (Π_prop (λ j. Π_prop (λ k. Π_prop (λ n. Π_prop (λ a. Π_prop (λ b. ℕ_set _ _))))))
    (×_prop (under_prop ns 0 (length ns) e.child) (Π_prop (λ c. Π_prop (λ l. ℤ_set _ _))))))

facts_of : (parts : ℕ) (ls : List Limit) (ns : List Node) (e : Edge) → Held parts ls ns e → Facts parts ls ns e
facts_of parts ls ns e h = (
  λ k n q. (h.ordered.below k n q, (h.ordered.left k n q, (h.ordered.right k n q, h.small k n q))),
  (h.holds.sound.reduced, (h.holds.sound.unique, (h.under, h.denotes))),
)

bit_indicator : (b : Bool) → Bit (indicator b)
bit_indicator true = inr refl
bit_indicator false = inl refl

same_one : (b : Bool) → same (indicator b) (pos 1) ≡ b
same_one true = refl
same_one false = refl

module _ (parts : ℕ) (ns : List Node) (rs : List Record) (count : ℕ) (e : Edge) (books : ∥ Books parts ns rs count ∥₁) (e-is : e ≡ product_of rs count) where
  facts : Facts parts (limits_of rs count) ns e
  facts = ∥∥₁_elim books (facts_prop parts (limits_of rs count) ns e) (λ b.
      facts_of parts (limits_of rs count) ns e (subst (λ (x : Edge). Held parts (limits_of rs count) ns x) (sym e-is) (top_held parts ns rs count b)))

  pub is_ordered : Ordered parts ns
  is_ordered = record {
    below = λ k n q. (facts.0 k n q).0;
    left = λ k n q. (facts.0 k n q).1.0;
    right = λ k n q. (facts.0 k n q).1.1.0;
  }

  is_sound : Sound parts ns
  is_sound = record {
    below = λ k n q. (facts.0 k n q).0;
    left_higher = λ k n q. from_under ns (suc n.part) k n.left (is_ordered.left k n q);
    right_higher = λ k n q. from_under ns (suc n.part) k n.right (is_ordered.right k n q);
    reduced = facts.1.0;
    unique = facts.1.1.0;
  }

  is_small : (k : ℕ) (n : Node) → slice_get ns k ≡ Some n → nat_abs n.value ≤ 2 ^ 29
  is_small k n q = (facts.0 k n q).1.1.1

  pub is_under : Under ns 0 (length ns) e.child
  is_under = facts.1.1.1.0

  pub is_product : Denotes parts (limits_of rs count) ns e
  is_product = facts.1.1.1.1

  pub are_bits : (size : ℕ) → size ≡ parts → BitsOf ns size 0 e.constant e.child
  are_bits size s c l = subst Bit (sym (is_product c (omega arith))) (bit_indicator (keeps_all (limits_of rs count) c))

  pub table_ready : (t : NodeTable) → made t ≡ ns → SoundTable parts t
  table_ready t is = record {
    sound = subst (Sound parts) (sym is) is_sound;
    ordered = subst (Ordered parts) (sym is) is_ordered;
    small = subst (λ xs. (k : ℕ) (n : Node) → slice_get xs k ≡ Some n → nat_abs n.value ≤ 2 ^ 29) (sym is) is_small;
  }

  -- the choices at which the product is 1 are those that keep all limits
  pub solved_by_lem : {V G : Type 0} (k : Kind V) (means : G → V) (vs : List V) (r : Option (Answer G)) → length vs ≡ parts → Solved k means vs (ones_of ns 0 e.constant e.child) r → Solved k means vs (keeps_all (limits_of rs count)) r
  solved_by_lem {V} {G} k means vs r size h = by r h
    where
      same_answer : answer k vs (ones_of ns 0 e.constant e.child) ≡ answer k vs (keeps_all (limits_of rs count))
      same_answer = answer_ext k vs (ones_of ns 0 e.constant e.child) (keeps_all (limits_of rs count)) (λ c l. ap (λ z. same z (pos 1)) (is_product c (l ∙ size)) ∙ same_one (keeps_all (limits_of rs count) c))

      by : (r : Option (Answer G)) → Solved k means vs (ones_of ns 0 e.constant e.child) r → Solved k means vs (keeps_all (limits_of rs count)) r
      by None x = sym same_answer ∙ x
      by (Some a) x = (x.0, sym same_answer ∙ x.1, x.2, x.3)

pub begins : (parts : ℕ) (t : NodeTable) (rs : List Record) (count : ℕ) (e : Edge) (l : Limit) → ∥ Books parts (made t) rs count ∥₁ → e ≡ product_of rs count → parts ≤ 48 → ((i : ℕ) → nat_abs (get_or l.coefficients i (pos 0)) ≤ 1000000) → nat_abs l.bound ≤ 100000000 → Begins parts t e l
begins parts t rs count e l books e-is few small bound = record {
  few = few;
  product_in = from_under (made t) 0 (length (made t)) e.child (is_under parts (made t) rs count e books e-is);
  product_bit = λ c q. are_bits parts (made t) rs count e books e-is parts refl c (omega arith);
  coefficients = small;
  bound = bound;
}

range_small : {V : Type 0} (k : Kind V) (vs : List V) → all_in_range k vs ≡ true → AllByRecursion (λ v. k.size v ≤ 1000000) vs
range_small k [] h = tt
range_small k (v ∷ vs) h = go (leb (k.size v) 1000000) refl h (range_small k vs)
  where
    go : (b : Bool) → leb (k.size v) 1000000 ≡ b → b && all_in_range k vs ≡ true → (all_in_range k vs ≡ true → AllByRecursion (λ v. k.size v ≤ 1000000) vs) → AllByRecursion (λ v. k.size v ≤ 1000000) (v ∷ vs)
    go true e q rest = (leb-true (k.size v) 1000000 e, rest q)
    go false e q rest = let z : ◌≡◌ {A = ℕ} 0 1 = cc in absurd (omega arith)

pub ready : {V : Type 0} (k : Kind V) (vs : List V) (parts : ℕ) (ns : List Node) → length vs ≡ parts → parts ≤ 48 → all_in_range k vs ≡ true → Ordered parts ns → Ready k vs ns
ready k vs parts ns size few range ordered = record {
  weighed = record { few = omega arith; small = range_small k vs range };
  ordered = subst (λ n. Ordered n ns) (sym size) ordered;
}
