-- The turns of the walk.
use Rattle.std.proofs.Common.{◌≡◌, ℕ, zero, suc, ◌+◌, ◌-◌, ◌<◌, ◌≤◌, min, Bool, true, false, ◌⊎◌, List, [], ◌∷◌, length, ℤ, IfSome, Some, None, Option, sym, subst, ⊎_elim, arith}
use Rattle.std.specs.Option.{is_some}
use Rattle.diagrams.specs.declared.Edge.{Edge}
use Rattle.diagrams.specs.declared.Question.{Question}
use Rattle.diagrams.specs.Apply.{Settled, Right, Answers, Open, Makes}
use Rattle.diagrams.proofs.Grow.{asked_grown, right_grown, settled_grown, top_grown}
use Rattle.diagrams.proofs.Settle.{ask_settled_lem}
use Rattle.tables.specs.declared.NodeTable.{NodeTable}
use Rattle.walks.specs.declared.Frame.{Frame}
use Rattle.tables.specs.Places.{made, Grew, part_at, Made}
use Rattle.walks.specs.Walked.{Walked}
use Rattle.walks.specs.Stack.{Opening, new_frame}
use Rattle.walks.proofs.Paths.{level, awaits, FitHeld, Path, Walking, cost, left_to_do}
use Rattle.questions.specs.Products.{Squares}
use Rattle.tables.proofs.Tables.{grew_none}
use Rattle.walks.proofs.Squared.{squared}
use Rattle.walks.proofs.Once.{table_of, grew_on, opening, asked_from, makes, finish}

level_deep : (parts : ℕ) (ts : List (List ℤ)) (t : NodeTable) (root : Question) (fs : List Frame) (q : Question) → Path parts ts t root fs q → length fs ≤ level fs
level_deep parts ts t root [] q p = omega arith
level_deep parts ts t root (f ∷ fs) q p = let d = p.0.deep in omega arith

module _ {parts : ℕ} {ts : List (List ℤ)} {t₀ t : NodeTable} {root : Question} {fs : List Frame} {q : Question} (w : Walking parts ts t₀ t root fs q None) where
  pub turn_known : (e : Edge) → Answers q e ⊎ Right parts (made t) q e → Walking parts ts t₀ t root fs q (Some e)
  turn_known e a = record {
    grew = w.grew;
    path = w.path;
    state = ⊎_elim (λ k. let f = asked_from parts ts t (table_of w.grew) q (level fs) w.state in k parts (made t) f.0 f.1) (λ r. r) a;
  }

  pub turn_squared : (e : Edge) → Squares q e → Right parts (made t) q e
  turn_squared e d = squared parts (made t) ts (level fs) q w.state e d

  pub turn_opening : parts ≤ 48 → Open q → (j : ℕ) → j ≡ min (part_at (made t) q.left.child) (part_at (made t) q.right.child) → Opening parts ts t q j
  turn_opening few o j e = opening parts ts t q (level fs) j few (table_of w.grew) w.state o e

  pub turn_above : (j : ℕ) → Opening parts ts t q j → level fs ≤ j
  turn_above j o = o.top.most (level fs) w.state.left_in w.state.right_in

  pub turn_deep : (j : ℕ) → Opening parts ts t q j → length fs ≤ j
  turn_deep j o = let a = turn_above j o in let d = level_deep parts ts t root fs q w.path in omega arith

  pub turn_open : (j : ℕ) → Opening parts ts t q j → (r : Question) → Settled (made t) j q true r → (gs : List Frame) → gs ≡ new_frame q j None ∷ fs → Walking parts ts t₀ t root gs r None
  turn_open j o r s gs e = subst (λ z. Walking parts ts t₀ t root z r None) (sym e) (record {
    grew = w.grew;
    path = (record { opened = o; deep = turn_deep j o; above = turn_above j o; settled = s; fit_held = tt }, w.path);
    state = ask_settled_lem parts (made t) j q o.top.low ts true r o.asked s;
  })

module _ (parts : ℕ) (ts : List (List ℤ)) (t t' : NodeTable) (g : Grew parts ts t t') where
  opening_grown : (q : Question) (j : ℕ) → Opening parts ts t q j → Opening parts ts t' q j
  opening_grown q j o = record {
    table = table_of g;
    top = top_grown parts o.table.sound g.grown q j o.top;
    asked = asked_grown parts o.table.sound g.grown ts j q o.asked;
  }

  settled_on : (f : Frame) (x : Bool) (q : Question) → Opening parts ts t f.question f.part → Settled (made t) f.part f.question x q → Settled (made t') f.part f.question x q
  settled_on f x q o s = settled_grown parts o.table.sound g.grown f.part f.question x q o.asked.left_in o.asked.right_in s

  fit_grown : (f : Frame) → Opening parts ts t f.question f.part → FitHeld parts t f → FitHeld parts t' f
  fit_grown f o h = at f.fit h
    where
      at : (m : Option Edge) → IfSome m (λ e. (q : Question) × Settled (made t) f.part f.question true q × Right parts (made t) q e) → IfSome m (λ e. (q : Question) × Settled (made t') f.part f.question true q × Right parts (made t') q e)
      at None k = tt
      at (Some e) k = (k.0, settled_on f true k.0 o k.1, right_grown parts o.table.sound g.grown k.0 e k.2)

  pub path_grown : (root : Question) (fs : List Frame) (q : Question) → Path parts ts t root fs q → Path parts ts t' root fs q
  path_grown root [] q p = p
  path_grown root (f ∷ fs) q p = (
    record {
      opened = opening_grown f.question f.part p.0.opened;
      deep = p.0.deep;
      above = p.0.above;
      settled = settled_on f (awaits f.fit) q p.0.opened p.0.settled;
      fit_held = fit_grown f p.0.opened p.0.fit_held;
    },
    path_grown root fs f.question p.1,
  )

module _ {parts : ℕ} {ts : List (List ℤ)} {t₀ t : NodeTable} {root : Question} {all : List Frame} {q : Question} {e : Edge} (w : Walking parts ts t₀ t root all q (Some e)) where
  pub turn_last : all ≡ [] → Walked parts ts t₀ t root (Some e)
  turn_last n =
      let p : Path parts ts t root [] q = subst (λ z. Path parts ts t root z q) n w.path in
      record { grew = w.grew; answer = subst (λ z. Right parts (made t) z e) p w.state }

  module _ (f : Frame) (fs : List Frame) (n : all ≡ f ∷ fs) where
    pub newest : Path parts ts t root (f ∷ fs) q
    newest = subst (λ z. Path parts ts t root z q) n w.path

    pub turn_second : f.fit ≡ None → (r : Question) → Settled (made t) f.part f.question false r → (gs : List Frame) → gs ≡ new_frame f.question f.part (Some e) ∷ fs → Walking parts ts t₀ t root gs r None
    turn_second none r s gs is = subst (λ z. Walking parts ts t₀ t root z r None) (sym is) (record {
      grew = w.grew;
      path = (record { opened = newest.0.opened; deep = newest.0.deep; above = newest.0.above; settled = s; fit_held = (q, subst (λ m. Settled (made t) f.part f.question (awaits m) q) none newest.0.settled, w.state) }, newest.1);
      state = ask_settled_lem parts (made t) f.part f.question newest.0.opened.top.low ts false r newest.0.opened.asked s;
    })

    module _ (fit : Edge) (some : f.fit ≡ Some fit) where
      held : (q₁ : Question) × Settled (made t) f.part f.question true q₁ × Right parts (made t) q₁ fit
      held = subst (λ m. IfSome m (λ d. (q₁ : Question) × Settled (made t) f.part f.question true q₁ × Right parts (made t) q₁ d)) some newest.0.fit_held

      second : Settled (made t) f.part f.question false q
      second = subst (λ m. Settled (made t) f.part f.question (awaits m) q) some newest.0.settled

      same : Grew parts ts t t
      same = grew_none parts ts t (table_of w.grew)

      pub turn_makes : Makes parts (made t) ts f.part fit e
      turn_makes = makes newest.0.opened held.1 second same same held.2 w.state

      pub turn_right : (t' : NodeTable) (r : Edge) → Made parts ts t t' f.part fit e (Some r) → Right parts (made t') f.question r
      turn_right t' r m = finish newest.0.opened held.1 second same same held.2 w.state m.grew m.edge

      pub turn_made : (t' : NodeTable) (r : Edge) → Made parts ts t t' f.part fit e (Some r) → Walking parts ts t₀ t' root fs f.question (Some r)
      turn_made t' r m = record { grew = grew_on w.grew m.grew; path = path_grown parts ts t t' m.grew root fs f.question newest.1; state = turn_right t' r m }

      pub turn_full : (t' : NodeTable) → Made parts ts t t' f.part fit e None → Walked parts ts t₀ t' root None
      turn_full t' m = record { grew = grew_on w.grew m.grew; answer = m.edge }

cost_more : (d r : ℕ) → cost r ≤ cost (d + r)
cost_more zero r = subst (λ z. cost r ≤ cost z) (omega_zero r) (omega arith)
  where
    omega_zero : (r : ℕ) → r ≡ 0 + r
    omega_zero r = omega arith
cost_more (suc d) r = let h = cost_more d r in let e : suc (d + r) ≡ suc d + r = omega arith in subst (λ z. cost r ≤ cost z) e (omega arith)

cost_pos : (r : ℕ) → 0 < cost r
cost_pos zero = omega arith
cost_pos (suc r) = omega arith

cost_mono : (a b : ℕ) → a ≤ b → cost a ≤ cost b
cost_mono a b h = let e : (b - a) + a ≡ b = omega arith in subst (λ z. cost a ≤ cost z) e (cost_more (b - a) a)

pub falls_open : (parts : ℕ) (fs gs : List Frame) (q : Question) (j : ℕ) → gs ≡ new_frame q j None ∷ fs → level fs ≤ j → j < parts → left_to_do parts gs None < left_to_do parts fs None
falls_open parts fs gs q j e above low =
    let h : cost (suc (parts - suc j)) ≤ cost (parts - level fs) = cost_mono (suc (parts - suc j)) (parts - level fs) (omega arith) in
    subst (λ z. left_to_do parts z None < left_to_do parts fs None) (sym e) (omega arith)

pub in_state : {parts : ℕ} {ts : List (List ℤ)} {t₀ t : NodeTable} {root : Question} {fs : List Frame} {q : Question} {a b : Option Edge} → Walking parts ts t₀ t root fs q a → a ≡ b → Walking parts ts t₀ t root fs q b
in_state {parts} {ts} {t₀} {t} {root} {fs} {q} w e = subst (Walking parts ts t₀ t root fs q) e w

pub falls_in : (parts : ℕ) (fs gs : List Frame) (a b a' b' : Option Edge) → a ≡ a' → b ≡ b' → left_to_do parts gs b' < left_to_do parts fs a' → left_to_do parts gs b < left_to_do parts fs a
falls_in parts fs gs a b a' b' p q h = subst (λ z. left_to_do parts gs z < left_to_do parts fs a) (sym q) (subst (λ z. left_to_do parts gs b' < left_to_do parts fs z) (sym p) h)

pub falls_found : (parts : ℕ) (fs : List Frame) (a b : Option Edge) → a ≡ None → is_some b ≡ true → left_to_do parts fs b < left_to_do parts fs a
falls_found parts fs a None e h = cc
falls_found parts fs a (Some x) e h = subst (λ z. left_to_do parts fs (Some x) < left_to_do parts fs z) (sym e) (let p = cost_pos (parts - level fs) in omega arith)
