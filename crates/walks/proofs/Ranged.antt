-- Comparisons that the ranges of the sum decide on the walk.
use Rattle.std.proofs.Common.{ℕ, ◌-◌, ◌<◌, ◌≤◌, List, [], ◌∷◌, length, get_or, drop, ℤ, None, sym, subst, arith}
use Rattle.limits.specs.Limits.{sum}
use Rattle.diagrams.specs.declared.Edge.{Edge}
use Rattle.diagrams.specs.declared.Question.{Question}
use Rattle.diagrams.specs.Nodes.{From}
use Rattle.diagrams.specs.Apply.{Right, Tail}
use Rattle.diagrams.proofs.Steps.{asked_small}
use Rattle.diagrams.proofs.Tail.{tail_up, tail_settled, tail_grown, decided}
use Rattle.questions.specs.declared.Range.{Range}
use Rattle.questions.specs.Ranges.{no_range}
use Rattle.questions.proofs.Ranged.{Holds, range_holds, ranges_small}
use Rattle.tables.specs.declared.NodeTable.{NodeTable}
use Rattle.tables.specs.Places.{made, Table, part_at}
use Rattle.tables.proofs.Tables.{from_part, most_part, part_low}
use Rattle.walks.specs.declared.Frame.{Frame}
use Rattle.walks.proofs.Paths.{level, awaits, Path, Walking}
use Rattle.walks.specs.Looks.{Ranged, CanLook, ByRange}
use Rattle.walks.proofs.Once.{table_of, asked_from}

-- the sum that is left, along the open questions
tail_path : (parts : ℕ) (ts : List (List ℤ)) (t : NodeTable) (ws : List ℤ) → parts ≤ length ws → (root : Question) → Tail parts (made t) ws 0 root → (fs : List Frame) (q : Question) → Path parts ts t root fs q → Tail parts (made t) ws (level fs) q
tail_path parts ts t ws long root h [] q p = subst (Tail parts (made t) ws 0) (sym p) h
tail_path parts ts t ws long root h (f ∷ fs) q p =
    let a = p.0 in
    let l = a.above in
    let low = a.opened.top.low in
    tail_settled parts (made t) ws long f.part f.question (awaits f.fit) q low a.settled
    (tail_up parts (made t) ws long (f.part - level fs) (level fs) f.part f.question (omega arith) (omega arith) a.opened.top.left_in (tail_path parts ts t ws long root h fs f.question p.1))

module _ {parts : ℕ} {ts : List (List ℤ)} {t₀ t : NodeTable} {root : Question} {fs : List Frame} {q : Question} (w : Walking parts ts t₀ t root fs q None) (rs : List Range) (r : Ranged parts (made t₀) rs root) where
  pub can_look : CanLook t rs q
  can_look = record {
    parts = parts;
    ts = ts;
    table = table_of w.grew;
    from = (asked_from parts ts t (table_of w.grew) q (level fs) w.state).0;
    small = (asked_small parts (made t) ts (level fs) q w.state).0;
    room = let f = r.can.few in let l = r.room in omega arith;
    small_ranges = λ i h. ranges_small parts r.ws r.can rs 0 i r.each (omega arith) h;
  }

  pub turn_ranged : Table parts ts t₀ → From (made t₀) 0 root.left.child → (e : Edge) → ByRange t rs q e → Right parts (made t) q e
  turn_ranged table₀ from₀ e b =
      let table = table_of w.grew in
      let from = (asked_from parts ts t table q (level fs) w.state).0 in
      let p : ℕ = part_at (made t) q.left.child in
      let low : p < parts = subst (λ z. part_at (made t) z < parts) (sym b.place) (part_low parts (made t) table.sound b.k (subst (From (made t) 0) b.place from)) in
      let most : (i : ℕ) → From (made t) i q.left.child → i ≤ p = λ i f. subst (λ z. i ≤ part_at (made t) z) (sym b.place) (most_part (made t) b.k i (subst (From (made t) i) b.place f)) in
      let here : From (made t) p q.left.child = from_part (made t) q.left.child from in
      let l = most (level fs) w.state.left_in in
      let long = r.can.long in
      let root-tail = tail_grown parts table₀.sound w.grew.grown r.ws 0 root from₀ r.tail in
      let tail = tail_up parts (made t) r.ws long (p - level fs) (level fs) p q (omega arith) (omega arith) here (tail_path parts ts t r.ws long root root-tail fs q w.path) in
      let g : Range = get_or rs p no_range in
      decided parts (made t) q e g.low g.high p (omega arith) here most
      (λ c k. subst (Holds g) (sym (tail b.decides.compares c k)) (subst (λ z. Holds z (sum (drop p r.ws) c)) (sym (r.each p (omega arith) (omega arith))) (range_holds r.ws (parts - p) p (omega arith) c (omega arith))))
      b.decides
