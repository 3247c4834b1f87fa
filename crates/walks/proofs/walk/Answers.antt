use Rattle.std.proofs.Common.{◌≡◌, ℕ, min, None, true, false, sym, refl, ap, subst, inl, inr, ⊎_elim, reverse, rules, arith}
use Rattle.std.specs.Option.{is_some}
use Rattle.std.proofs.lemmas.List.{length-reverse, nil_from_length}
use Rattle.diagrams.proofs.Grow.{all_right_grown, all_right_noted}
use Rattle.tables.specs.Places.{made, part_at}
use Rattle.walks.specs.Walked.{Walked}
use Rattle.walks.proofs.Frames.{on_top}
use Rattle.walks.proofs.Once.{table_of, can_left, can_right}
use Rattle.walks.proofs.Looked.{nothing_found, turn_found}
use Rattle.walks.proofs.Turns.{turn_squared, turn_opening, turn_above, turn_deep, turn_open, turn_last, newest, turn_second, turn_makes, turn_right, turn_made, turn_full, falls_open, falls_in, falls_found, in_state}
use Rattle.walks.proofs.Ranged.{can_look, turn_ranged}
use Rattle.walks.proofs.walk.Goals as goal

pub look_up-answer-requires : goal.look_up-answer-requires
look_up-answer-requires g c = can_look (in_state (c.loop-answer.invariant.walking c.requires.can.0 c.requires.can.1 c.requires.can.2) c.in_default.is) c.args.ranges.now c.requires.ranged

pub open_question-q-requires : goal.open_question-q-requires
open_question-q-requires g c =
    let w = in_state (c.loop-answer.invariant.walking c.requires.can.0 c.requires.can.1 c.requires.can.2) c.in_default.is in
    let none : is_some c.look_up-answer.result ≡ false = search rules in
    let j : ℕ = min (part_at (made c.loop-answer.table) c.loop-answer.q.left.child) (part_at (made c.loop-answer.table) c.loop-answer.q.right.child) in
    let o = turn_opening w c.requires.few (nothing_found _ _ _ c.look_up-answer.ensures none).1 j refl in
    let d = turn_deep w j o in
    let l = length-reverse c.loop-answer.stack.items in
    let few = c.requires.few in
    let low = o.top.low in
    (c.args.parts, c.requires.can.0, j, o, omega arith, refl)

pub loop-answer-smaller-then-is_none : goal.loop-answer-smaller-then-is_none
loop-answer-smaller-then-is_none g c =
    let w = in_state (c.loop-answer.invariant.walking c.requires.can.0 c.requires.can.1 c.requires.can.2) c.in_default.is in
    let none : is_some c.look_up-answer.result ≡ false = search rules in
    let n = nothing_found _ _ _ c.look_up-answer.ensures none in
    let j : ℕ = c.open_question-q.ensures.part in
    let o = turn_opening w c.requires.few n.1 j c.open_question-q.ensures.part_is in
    falls_in c.args.parts (reverse c.loop-answer.stack.items) (reverse c.open_question-q.new.stack.items) c.loop-answer.answer c.look_up-answer.result None None c.in_default.is n.0
    (falls_open c.args.parts (reverse c.loop-answer.stack.items) (reverse c.open_question-q.new.stack.items) c.loop-answer.q j (on_top _ _ _ c.open_question-q.ensures.frames) (turn_above w j o) o.top.low)

pub loop-answer-smaller-else-is_none : goal.loop-answer-smaller-else-is_none
loop-answer-smaller-else-is_none g c =
    let some : is_some c.look_up-answer.result ≡ true = search rules in
    falls_found c.args.parts (reverse c.loop-answer.stack.items) c.loop-answer.answer c.look_up-answer.result c.in_default.is some

pub loop-answer-preserved-then-is_none : goal.loop-answer-preserved-then-is_none
loop-answer-preserved-then-is_none g c =
    let none : is_some c.look_up-answer.result ≡ false = search rules in
    let n = nothing_found _ _ _ c.look_up-answer.ensures none in
    let j : ℕ = c.open_question-q.ensures.part in
    record {
      right = c.loop-answer.invariant.right;
      walking = λ ts table a.
          let w = in_state (c.loop-answer.invariant.walking ts table a) c.in_default.is in
          let o = turn_opening w c.requires.few n.1 j c.open_question-q.ensures.part_is in
          in_state (turn_open w j o c.open_question-q.result c.open_question-q.ensures.settled (reverse c.open_question-q.new.stack.items) (on_top _ _ _ c.open_question-q.ensures.frames)) (sym n.0);
    }

pub loop-answer-preserved-else-is_none : goal.loop-answer-preserved-else-is_none
loop-answer-preserved-else-is_none g c =
    let some : is_some c.look_up-answer.result ≡ true = search rules in
    record {
      right = c.loop-answer.invariant.right;
      walking = λ ts table a.
          let w = in_state (c.loop-answer.invariant.walking ts table a) c.in_default.is in
          turn_found w _ (λ e. ⊎_elim (λ k. inl k) (⊎_elim (λ d. inr (turn_squared w e d)) (⊎_elim (λ h. inr (c.loop-answer.invariant.right c.loop-answer.q e h)) (λ b. inr (turn_ranged w c.args.ranges.now c.requires.ranged table a.left_in e b))))) c.look_up-answer.result c.look_up-answer.ensures some;
    }

pub returns-in_default-pop-clause-done : goal.returns-in_default-pop-clause-done
returns-in_default-pop-clause-done g c = λ ts table a. turn_last (in_state (c.loop-answer.invariant.walking ts table a) c.in-Some.is) (ap reverse (nil_from_length c.loop-answer.stack.items (search rules)))

pub settled-q-requires : goal.settled-q-requires
settled-q-requires g c =
    let w = in_state (c.loop-answer.invariant.walking c.requires.can.0 c.requires.can.1 c.requires.can.2) c.in-Some.is in
    let o = (newest w c.in-Some-pop.f (reverse c.pop.new.self.items) (on_top _ _ _ c.in-Some-pop.ensures.items)).0.opened in
    (can_left o, can_right o)

pub push-requires : goal.push-requires
push-requires g c =
    let w = in_state (c.loop-answer.invariant.walking c.requires.can.0 c.requires.can.1 c.requires.can.2) c.in-Some.is in
    let n = (newest w c.in-Some-pop.f (reverse c.pop.new.self.items) (on_top _ _ _ c.in-Some-pop.ensures.items)).0 in
    let d = n.deep in
    let low = n.opened.top.low in
    let l = length-reverse c.pop.new.self.items in
    let few = c.requires.few in
    (omega arith, omega arith)

pub loop-answer-preserved-in_default-fit : goal.loop-answer-preserved-in_default-fit
loop-answer-preserved-in_default-fit g c = record {
  right = c.loop-answer.invariant.right;
  walking = λ ts table a. turn_second (in_state (c.loop-answer.invariant.walking ts table a) c.in-Some.is) c.in-Some-pop.f (reverse c.pop.new.self.items) (on_top _ _ _ c.in-Some-pop.ensures.items) c.in_default-fit.is c.settled-q.result c.settled-q.ensures (reverse c.push.new.self.items) (on_top _ _ _ c.push.ensures.items);
}

pub make-requires : goal.make-requires
make-requires g c =
    let w = in_state (c.loop-answer.invariant.walking c.requires.can.0 c.requires.can.1 c.requires.can.2) c.in-Some.is in
    (c.args.parts, c.requires.can.0, table_of w.grew, turn_makes w c.in-Some-pop.f (reverse c.pop.new.self.items) (on_top _ _ _ c.in-Some-pop.ensures.items) c.in-Some-fit.fit c.in-Some-fit.is)

pub returns-in_err-made : goal.returns-in_err-made
returns-in_err-made g c =
    let f = c.in-Some-pop.f in
    let below = reverse c.pop.new.self.items in
    let top = on_top _ _ _ c.in-Some-pop.ensures.items in
    let w₀ = in_state (c.loop-answer.invariant.walking c.requires.can.0 c.requires.can.1 c.requires.can.2) c.in-Some.is in
    let m₀ = c.in_err-made.ensures c.args.parts c.requires.can.0 (table_of w₀.grew) (turn_makes w₀ f below top c.in-Some-fit.fit c.in-Some-fit.is) in
    record {
      done = λ ts table a.
          let w = in_state (c.loop-answer.invariant.walking ts table a) c.in-Some.is in
          let m = c.in_err-made.ensures c.args.parts ts (table_of w.grew) (turn_makes w f below top c.in-Some-fit.fit c.in-Some-fit.is) in
          subst (Walked c.args.parts ts c.args.table.now c.make.new.self c.args.root) (sym c.from_residual.ensures) (turn_full w f below top c.in-Some-fit.fit c.in-Some-fit.is c.make.new.self m);
      right = all_right_grown c.args.parts w₀.grew.good.sound m₀.grew.grown g.M.Memory.holds c.loop-answer.memory c.loop-answer.invariant.right;
    }

pub loop-answer-preserved : goal.loop-answer-preserved
loop-answer-preserved g c =
    let f = c.in-Some-pop.f in
    let below = reverse c.pop.new.self.items in
    let top = on_top _ _ _ c.in-Some-pop.ensures.items in
    let w₀ = in_state (c.loop-answer.invariant.walking c.requires.can.0 c.requires.can.1 c.requires.can.2) c.in-Some.is in
    let m₀ = c.in_ok-made.ensures c.args.parts c.requires.can.0 (table_of w₀.grew) (turn_makes w₀ f below top c.in-Some-fit.fit c.in-Some-fit.is) in
    let r = turn_right w₀ f below top c.in-Some-fit.fit c.in-Some-fit.is c.make.new.self c.in_ok-made.made m₀ in
    record {
      right = all_right_noted g.M.Memory.holds _ _ c.args.parts _ f.question _ (all_right_grown c.args.parts w₀.grew.good.sound m₀.grew.grown g.M.Memory.holds c.loop-answer.memory c.loop-answer.invariant.right) r c.note.ensures.old;
      walking = λ ts table a.
          let w = in_state (c.loop-answer.invariant.walking ts table a) c.in-Some.is in
          turn_made w f below top c.in-Some-fit.fit c.in-Some-fit.is c.make.new.self c.in_ok-made.made
          (c.in_ok-made.ensures c.args.parts ts (table_of w.grew) (turn_makes w f below top c.in-Some-fit.fit c.in-Some-fit.is));
    }
