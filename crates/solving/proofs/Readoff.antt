-- The choice as a word, read off from part 0 up, and what a solve answers by it.
use Rattle.std.proofs.Common.{◌≡◌, ℕ, ◌+◌, ◌*◌, ◌%◌, ◌^◌, ◌<◌, ◌≤◌, Bool, true, false, cond, List, ◌∷◌, length, ℤ, pos, Some, None, Option, sym, ap, ◌∙◌, subst, ap₂, mul_assoc, mul-add, inl, inr, arith, pow-add}
use Rattle.std.proofs.lemmas.Nat.{one_shl, or_comm, or_shifted}
use Rattle.std.specs.Int.RustNames.{bit_or}
use Rattle.limits.specs.Choices.{word}
use Rattle.grades.specs.Laws.{Kind, Laws}
use Rattle.grades.specs.Rule.{best, chosen}
use Rattle.grades.proofs.Optimal.{Ends, Found, ends}
use Rattle.diagrams.specs.Apply.{Bit}
use Rattle.diagrams.specs.Needs.{same, indicator}
use Rattle.diagrams.specs.Nodes.{Under}
use Rattle.diagrams.specs.declared.Node.{Node}
use Rattle.diagrams.specs.declared.Edge.{Edge}
use Rattle.rows.specs.Ones.{Bits, BitsOf, ones, ones_of, bit_edge}
use Rattle.rows.specs.Bests.{mapped, Ready, RightRows, Tells}
use Rattle.rows.specs.declared.Row.{Row}
use Rattle.rows.specs.declared.BitEdge.{BitEdge}
use Rattle.rows.proofs.Values.{bit_of}
use Rattle.solving.specs.Settling.{Solved, Filled, StandsAt}
use Rattle.solving.specs.declared.Answer.{Answer}

pub word_step : (all choice next i : ℕ) (x : Bool) (c d : List Bool) → all ≡ choice + 2 ^ i * word c → c ≡ x ∷ d → next ≡ choice + 2 ^ i * cond x 1 0 → all ≡ next + 2 ^ (i + 1) * word d
word_step all choice next i x c d h e n =
    let p : 2 ^ i * word c ≡ 2 ^ i * cond x 1 0 + 2 ^ i * (2 * word d) = ap (λ z. 2 ^ i * word z) e ∙ mul-add (2 ^ i) (cond x 1 0) (2 * word d) in
    let q : 2 ^ (i + 1) * word d ≡ 2 ^ i * (2 * word d) = ap (λ z. z * word d) (pow-add 2 i 1) ∙ mul_assoc (2 ^ i) 2 (word d) in
    omega arith

-- a word below the bit of part i, with that bit
pub word_bit : (choice i : ℕ) (x : Bool) → i < 64 → choice < 2 ^ i → x ≡ true → bit_or choice (1 * 2 ^ i % 2 ^ 64) ≡ choice + 2 ^ i * cond x 1 0
word_bit choice i x low below is =
    let joined : bit_or (1 * 2 ^ i) choice ≡ 1 * 2 ^ i + choice = or_shifted 1 i choice below in
    let once : 1 * 2 ^ i ≡ 2 ^ i = omega arith in
    let sum : 2 ^ i + choice ≡ choice + 2 ^ i * cond true 1 0 = omega arith in
    ap (bit_or choice) (one_shl i 64 low)
    ∙ (or_comm choice (2 ^ i) ∙ (subst (λ n. bit_or n choice ≡ n + choice) once joined ∙ (sum ∙ ap (λ y. choice + 2 ^ i * cond y 1 0) (sym is))))

pub word_small : (choice next i : ℕ) (x : Bool) → choice < 2 ^ i → next ≡ choice + 2 ^ i * cond x 1 0 → next < 2 ^ (i + 1)
word_small choice next i true h n = let p = pow-add 2 i 1 in omega arith
word_small choice next i false h n = let p = pow-add 2 i 1 in omega arith

bit_same : (a : ℤ) → Bit a → indicator (same a (pos 1)) ≡ a
bit_same a (inl e) = ap (λ z. indicator (same z (pos 1))) e ∙ sym e
bit_same a (inr e) = ap (λ z. indicator (same z (pos 1))) e ∙ sym e

-- the root with its constant as a truth
module _ (ns : List Node) (parts : ℕ) (root : Edge) (e : BitEdge) (is : e ≡ bit_edge root) (bits : BitsOf ns parts 0 root.constant root.child) where
  start_const : indicator e.one ≡ root.constant
  start_const = ap (λ (x : BitEdge). indicator x.one) is ∙ bit_same root.constant (bit_of ns parts root.constant 0 root.child (omega arith) bits)

  start_child : e.child ≡ root.child
  start_child = ap (λ (x : BitEdge). x.child) is

  pub start_stands : Under ns 0 (length ns) root.child → StandsAt ns parts 0 e.one e.child
  start_stands u = record {
    under = subst (λ c. Under ns 0 (length ns) c) (sym start_child) u;
    bits = subst (λ c. Bits ns parts 0 e.one c) (sym start_child) (subst (λ z. BitsOf ns parts 0 z root.child) (sym start_const) bits);
  }

  start_ones : ones ns 0 e.one e.child ≡ ones_of ns 0 root.constant root.child
  start_ones = ap₂ (λ z c. ones_of ns 0 z c) start_const start_child

module _ {V G : Type 0} {k : Kind V} (laws : Laws k) (means : G → V) (vs : List V) where
  solved_some : (passes : List Bool → Bool) (a : Answer G) → Some (means a.grade) ≡ best k vs passes → a.choice.0 ≡ word (chosen k vs passes) → Solved k means vs passes (Some a)
  solved_some passes a e h =
      let f : Found k laws vs passes (means a.grade) (chosen k vs passes) = subst (λ o. Ends k laws vs passes o (chosen k vs passes)) (sym e) (ends k laws vs passes) in
      (chosen k vs passes, ap (λ (o : Option V). elim o as (λ _. Option (List Bool)) [ None ↦ None | Some v ↦ Some (chosen k vs passes) ]) (sym e), h, sym f.graded)

  solved_none : (passes : List Bool → Bool) → None ≡ best k vs passes → Solved {G = G} k means vs passes None
  solved_none passes e = ap (λ (o : Option V). elim o as (λ _. Option (List Bool)) [ None ↦ None | Some v ↦ Some (chosen k vs passes) ]) (sym e)

-- the whole solve, where the rows are right and the root denotes 0 or 1
module _ {V G : Type 0} {k : Kind V} (laws : Laws k) (means : G → V) (vs : List V) (ns : List Node) (root : Edge) (e : BitEdge) (is : e ≡ bit_edge root) (bits : BitsOf ns (length vs) 0 root.constant root.child) (under : Under ns 0 (length ns) root.child)
    (rows read : List (Row G)) (same_rows : read ≡ rows) (right : RightRows k means vs ns rows (length ns)) where
  pub filled_now : Ready k vs ns → length ns ≤ length rows → Filled k means vs ns read
  filled_now ready enough = record {
    ready = ready;
    enough = subst (λ rs. length ns ≤ length rs) (sym same_rows) enough;
    right = subst (λ rs. RightRows k means vs ns rs (length ns)) (sym same_rows) right;
  }

  root_best : (o : Option G) → Tells k means vs ns read 0 e.one e.child o → mapped means o ≡ best k vs (ones_of ns 0 root.constant root.child)
  root_best o tells =
      let at : StandsAt ns (length vs) 0 e.one e.child = start_stands ns (length vs) root e is bits under in
      tells (length ns) (subst (λ rs. RightRows k means vs ns rs (length ns)) (sym same_rows) right) at.under at.bits
      ∙ ap (best k vs) (start_ones ns (length vs) root e is bits)

  pub solve_some : (o : Option G) (x : Answer G) → Tells k means vs ns read 0 e.one e.child o → o ≡ Some x.grade → x.choice.0 ≡ word (chosen k vs (ones ns 0 e.one e.child)) → Solved k means vs (ones_of ns 0 root.constant root.child) (Some x)
  solve_some o x tells is_some w =
      solved_some laws means vs (ones_of ns 0 root.constant root.child) x (ap (mapped means) (sym is_some) ∙ root_best o tells)
      (w ∙ ap (λ p. word (chosen k vs p)) (start_ones ns (length vs) root e is bits))

  pub solve_none : (o : Option G) → Tells k means vs ns read 0 e.one e.child o → o ≡ None → Solved {G = G} k means vs (ones_of ns 0 root.constant root.child) None
  solve_none o tells is_none = solved_none laws means vs (ones_of ns 0 root.constant root.child) (ap (mapped means) (sym is_none) ∙ root_best o tells)
