-- One question from its two settled ones.
use Rattle.std.proofs.Common.{◌≡◌, ℕ, ◌-◌, ◌≤◌, min, true, false, List, ℤ, sym, ◌∙◌, subst, arith}
use Rattle.diagrams.specs.declared.Edge.{Edge}
use Rattle.diagrams.specs.declared.Question.{Question}
use Rattle.diagrams.specs.Nodes.{From}
use Rattle.diagrams.specs.Apply.{Makes, Joined, Top, Open, Asked, Settled, Right}
use Rattle.diagrams.proofs.Grow.{grown_on, asked_grown, right_grown, settled_grown, top_grown}
use Rattle.diagrams.proofs.Settle.{may_make, answered}
use Rattle.diagrams.proofs.Steps.{from_lower, asked_up, asked_constants, asked_small}
use Rattle.tables.specs.declared.NodeTable.{NodeTable}
use Rattle.walks.specs.Stack.{Opening}
use Rattle.tables.specs.Places.{made, Grew, Table, part_at, CanSettle}
use Rattle.tables.proofs.Tables.{top_is}

pub table_of : {parts : ℕ} {ts : List (List ℤ)} {t t' : NodeTable} → Grew parts ts t t' → Table parts ts t'
table_of g = g.good

pub grew_on : {parts : ℕ} {ts : List (List ℤ)} {t t₁ t₂ : NodeTable} → Grew parts ts t t₁ → Grew parts ts t₁ t₂ → Grew parts ts t t₂
grew_on g h = record { places = h.places ∙ g.places; grown = grown_on g.grown h.grown; good = h.good }

module _ (parts : ℕ) (ts : List (List ℤ)) (t : NodeTable) (table : Table parts ts t) (q : Question) where
  pub asked_from : (from : ℕ) → Asked parts (made t) ts from q → From (made t) 0 q.left.child × From (made t) 0 q.right.child
  asked_from from a = (from_lower (made t) 0 from _ (omega arith) a.left_in, from_lower (made t) 0 from _ (omega arith) a.right_in)

  pub top_of : parts ≤ 48 → (from : ℕ) → Asked parts (made t) ts from q → Open q → (j : ℕ) → j ≡ min (part_at (made t) q.left.child) (part_at (made t) q.right.child) → Top parts (made t) q j
  top_of few from a o j e = subst (Top parts (made t) q) (sym e) (top_is parts (made t) table.sound few q (asked_from from a).0 (asked_from from a).1 o (asked_constants parts (made t) ts from q a))

  pub asked_top : (from : ℕ) → Asked parts (made t) ts from q → (j : ℕ) → Top parts (made t) q j → Asked parts (made t) ts j q
  asked_top from a j top =
      let h = top.most from a.left_in a.right_in in
      let l = top.low in
      asked_up (j - from) parts (made t) ts from j q (omega arith) (omega arith) top.left_in top.right_in a

pub opening : (parts : ℕ) (ts : List (List ℤ)) (t : NodeTable) (q : Question) (from j : ℕ) → parts ≤ 48 → Table parts ts t → Asked parts (made t) ts from q → Open q → j ≡ min (part_at (made t) q.left.child) (part_at (made t) q.right.child) → Opening parts ts t q j
opening parts ts t q from j few table a o e =
    let top = top_of parts ts t table q few from a o j e in
    record { table = table; top = top; asked = asked_top parts ts t table q from a j top }

module _ {parts : ℕ} {ts : List (List ℤ)} {t : NodeTable} {q : Question} {j : ℕ} (o : Opening parts ts t q j) where
  pub can_left : CanSettle t q.left j
  can_left = (parts, ts, o.table, o.asked.left_in, (asked_small parts (made t) ts j q o.asked).0)

  pub can_right : CanSettle t q.right j
  can_right = (parts, ts, o.table, o.asked.right_in, (asked_small parts (made t) ts j q o.asked).1)

  module _ {q₁ q₀ : Question} (s₁ : Settled (made t) j q true q₁) (s₀ : Settled (made t) j q false q₀) {t₁ t₂ : NodeTable} (g₁ : Grew parts ts t t₁) (g₂ : Grew parts ts t₁ t₂) {fit out : Edge} (a₁ : Right parts (made t₁) q₁ fit) (a₀ : Right parts (made t₂) q₀ out) where
    g : Grew parts ts t t₂
    g = grew_on g₁ g₂

    pub makes : Makes parts (made t₂) ts j fit out
    makes = may_make parts (made t₂) j q o.top.low q₁ q₀
        (settled_grown parts o.table.sound g.grown j q true q₁ o.asked.left_in o.asked.right_in s₁)
        (settled_grown parts o.table.sound g.grown j q false q₀ o.asked.left_in o.asked.right_in s₀)
        fit out (right_grown parts g₁.good.sound g₂.grown q₁ fit a₁) a₀ ts (asked_grown parts o.table.sound g.grown ts j q o.asked)

    pub finish : {t₃ : NodeTable} {e : Edge} → Grew parts ts t₂ t₃ → Joined (made t₃) j fit out e → Right parts (made t₃) q e
    finish {t₃} {e} g₃ joint =
        let h : Grew parts ts t t₃ = grew_on (grew_on g₁ g₂) g₃ in
        answered parts (made t₃) j q o.top.low q₁ q₀
        (settled_grown parts o.table.sound h.grown j q true q₁ o.asked.left_in o.asked.right_in s₁)
        (settled_grown parts o.table.sound h.grown j q false q₀ o.asked.left_in o.asked.right_in s₀)
        fit out (right_grown parts g₁.good.sound (grew_on g₂ g₃).grown q₁ fit a₁) (right_grown parts g₂.good.sound g₃.grown q₀ out a₀)
        e joint (top_grown parts o.table.sound h.grown q j o.top)
