-- Nodes as the code reads them.
use Rattle.std.proofs.Common.{◌≡◌, ℕ, ◌<◌, ◌≤◌, min, List, [], ◌∷◌, ◌++◌, length, get_or, take, ℤ, Some, None, sym, refl, ap, ◌∙◌, subst, arith}
use Rattle.std.specs.List.{slice_get}
use Rattle.std.proofs.lemmas.List.{get_or-map, get_or-take, length-map, length-take-le}
use Rattle.std.proofs.lemmas.Option.{slice_get-get_or, slice_get_within}
use Rattle.diagrams.specs.declared.Child.{Child}
use Rattle.diagrams.specs.declared.Child.TheVariants.{Terminal, Place}
use Rattle.diagrams.specs.declared.Node.{Node}
use Rattle.diagrams.specs.declared.Edge.{Edge}
use Rattle.diagrams.specs.declared.Question.{Question}
use Rattle.diagrams.specs.Nodes.{From, Sound}
use Rattle.diagrams.specs.Apply.{edge_at, Good, Grown, Makes, Joined, node_of, Top, Open, Fit, edge_to}
use Rattle.diagrams.proofs.Canonical.{canonical}
use Rattle.diagrams.proofs.Grow.{grown_none, joined_at, good_new, joined_new, one_more}
use Rattle.diagrams.proofs.Steps.{from_lower}
use Rattle.tables.specs.declared.NodeTable.{NodeTable}
use Rattle.tables.specs.Buckets.{none, node_at}
use Rattle.tables.specs.Places.{made, room, blank, Grew, Table, part_at, Made, OneFunction}

module _ (t : NodeTable) where
  pub used_below : t.used ≤ length t.places.now
  used_below = let l = t.fits.low in omega arith

  taken_length : length (take t.used t.places.now) ≡ t.used
  taken_length = length-take-le t.used t.places.now used_below

  pub made_length : length (made t) ≡ t.used
  made_length = length-map (take t.used t.places.now) (λ p. p.node) ∙ taken_length

  node_made : (k : ℕ) → k < t.used → get_or (made t) k blank ≡ node_at t.places.now k
  node_made k h =
      get_or-map (λ p. p.node) (take t.used t.places.now) k none blank (omega (arith, taken_length))
      ∙ ap (λ p. p.node) (get_or-take t.used t.places.now k none h)

  pub nth_made : (k : ℕ) → k < t.used → slice_get (made t) k ≡ Some (node_at t.places.now k)
  nth_made k h = slice_get-get_or (made t) k blank (omega (arith, made_length)) ∙ ap Some (node_made k h)

  place_below : (i k : ℕ) (r : Child) → r ≡ Place k → From (made t) i r → k < t.used
  place_below i k r e f =
      let g : From (made t) i (Place k) = subst (From (made t) i) e f in
      omega (arith, slice_get_within (made t) k g.0 g.1, made_length)

  pub node_found : (i k : ℕ) (r : Child) → r ≡ Place k → From (made t) i r → slice_get (made t) k ≡ Some (node_at t.places.now k)
  node_found i k r e f = nth_made k (place_below i k r e f)

  pub part_is : (i k : ℕ) (r : Child) → r ≡ Place k → From (made t) i r → (node_at t.places.now k).part ≡ part_at (made t) r
  part_is i k r e f = sym (ap (λ n. n.part) (node_made k (place_below i k r e f))) ∙ ap (part_at (made t)) (sym e)

-- the least part of two nodes, not both the terminal
pub from_part : (ns : List Node) (r : Child) → From ns 0 r → From ns (part_at ns r) r
from_part ns Terminal f = tt
from_part ns (Place k) f = let h = slice_get-get_or ns k blank (slice_get_within ns k f.0 f.1) in (get_or ns k blank, h, omega arith)

pub most_part : (ns : List Node) (k i : ℕ) → From ns i (Place k) → i ≤ part_at ns (Place k)
most_part ns k i f =
    let h = slice_get-get_or ns k blank (slice_get_within ns k f.0 f.1) in
    let g = f.1 in
    let e : f.0 ≡ get_or ns k blank = cc in
    subst (λ n. i ≤ n.part) e f.2

pub part_low : (parts : ℕ) (ns : List Node) → Sound parts ns → (k : ℕ) → From ns 0 (Place k) → part_at ns (Place k) < parts
part_low parts ns sound k f = sound.below k (get_or ns k blank) (slice_get-get_or ns k blank (slice_get_within ns k f.0 f.1))

pub top_is : (parts : ℕ) (ns : List Node) → Sound parts ns → parts ≤ 48 → (q : Question) → From ns 0 q.left.child → From ns 0 q.right.child → Open q → Fit q.operation q.left.constant q.right.constant → Top parts ns q (min (part_at ns q.left.child) (part_at ns q.right.child))
top_is parts ns sound few q fl fr opened fit = at q.left.child q.right.child refl refl fl fr
  where
    build : (l r : Child) → q.left.child ≡ l → q.right.child ≡ r → From ns 0 l → From ns 0 r → min (part_at ns l) (part_at ns r) < parts → ((i : ℕ) → From ns i l → From ns i r → i ≤ min (part_at ns l) (part_at ns r)) → Top parts ns q (min (part_at ns q.left.child) (part_at ns q.right.child))
    build l r el er gl gr low most =
        let j : ℕ = min (part_at ns l) (part_at ns r) in
        let e : j ≡ min (part_at ns q.left.child) (part_at ns q.right.child) = ap (λ z. min (part_at ns z) (part_at ns r)) (sym el) ∙ ap (λ z. min (part_at ns q.left.child) (part_at ns z)) (sym er) in
        subst (Top parts ns q) e (record {
          low = low;
          left_in = subst (From ns j) (sym el) (from_lower ns j (part_at ns l) l (omega arith) (from_part ns l gl));
          right_in = subst (From ns j) (sym er) (from_lower ns j (part_at ns r) r (omega arith) (from_part ns r gr));
          most = λ i a b. most i (subst (From ns i) el a) (subst (From ns i) er b);
        })

    at : (l r : Child) → q.left.child ≡ l → q.right.child ≡ r → From ns 0 l → From ns 0 r → Top parts ns q (min (part_at ns q.left.child) (part_at ns q.right.child))
    at Terminal Terminal el er gl gr = absurd (opened el er fit)
    at Terminal (Place k) el er gl gr = let h = part_low parts ns sound k gr in build Terminal (Place k) el er gl gr (omega arith) (λ i a b. let m = most_part ns k i b in omega arith)
    at (Place j) Terminal el er gl gr = let h = part_low parts ns sound j gl in build (Place j) Terminal el er gl gr (omega arith) (λ i a b. let m = most_part ns j i a in omega arith)
    at (Place j) (Place k) el er gl gr = let h = part_low parts ns sound j gl in build (Place j) (Place k) el er gl gr (omega arith) (λ i a b. let m = most_part ns j i a in let o = most_part ns k i b in omega arith)

pub grew_none : (parts : ℕ) (ts : List (List ℤ)) (t : NodeTable) → Table parts ts t → Grew parts ts t t
grew_none parts ts t h = record { places = refl; grown = grown_none (made t); good = h }

module _ (parts : ℕ) (ts : List (List ℤ)) (t : NodeTable) (table : Table parts ts t) (i : ℕ) (fit out : Edge) (m : Makes parts (made t) ts i fit out) where
  pub make_found : (k : ℕ) (n : Node) → node_of i fit out ≡ n → k < t.used → node_at t.places.now k ≡ n → (e : Edge) → edge_to out k ≡ e → Made parts ts t t i fit out (Some e)
  make_found k n en h f e ee = record {
    grew = grew_none parts ts t table;
    edge = subst (Joined (made t) i fit out) ee (joined_at (made t) i fit out k (nth_made t k h ∙ ap Some (f ∙ sym en)));
  }

  absent : (n : Node) → node_of i fit out ≡ n → ((k : ℕ) → k < t.used → node_at t.places.now k ≡ n → ⊥) → (k : ℕ) → slice_get (made t) k ≡ Some (node_of i fit out) → ⊥
  absent n en lacks k e =
      let l = made_length t in
      let b = slice_get_within (made t) k (node_of i fit out) e in
      let h : k < t.used = omega arith in
      let f = nth_made t k h in
      let g : node_at t.places.now k ≡ n = cc in
      lacks k h g

  pub make_full : (n : Node) → node_of i fit out ≡ n → (fit ≡ out → ⊥) → ((k : ℕ) → k < t.used → node_at t.places.now k ≡ n → ⊥) → (t' : NodeTable) → room t' ≡ room t → t.used ≡ room t → made t' ≡ made t → Made parts ts t t' i fit out None
  make_full n en d lacks t' places full same =
      let l = made_length t in
      let h = one_more parts (made t) ts table i fit out m d (absent n en lacks) in
      record {
        grew = record { places = places; grown = subst (Grown (made t)) (sym same) (grown_none (made t)); good = subst (λ z. Good parts z ts) (sym same) table };
        edge = omega arith;
      }

  pub make_new : (n : Node) → node_of i fit out ≡ n → (fit ≡ out → ⊥) → ((k : ℕ) → k < t.used → node_at t.places.now k ≡ n → ⊥) → (t' : NodeTable) → room t' ≡ room t → (k : ℕ) → k ≡ t.used → made t' ≡ made t ++ (n ∷ []) → (e : Edge) → edge_to out k ≡ e → Made parts ts t t' i fit out (Some e)
  make_new n en d lacks t' places k ek is e ee =
      let l = made_length t in
      let is' : made t' ≡ made t ++ (node_of i fit out ∷ []) = is ∙ ap (λ z. made t ++ (z ∷ [])) (sym en) in
      let at : length (made t) ≡ k = omega arith in
      record {
        grew = record { places = places; grown = record { more = node_of i fit out ∷ []; is = is' }; good = subst (λ z. Good parts z ts) (sym is') (good_new parts (made t) ts table i fit out m d (absent n en lacks)) };
        edge = subst (Joined (made t') i fit out) ee (subst (λ z. Joined (made t') i fit out (edge_to out z)) at (subst (λ z. Joined z i fit out (edge_to out (length (made t)))) (sym is') (joined_new parts (made t) ts table i fit out m d (absent n en lacks))));
      }

pub one_function : (parts : ℕ) (ns : List Node) (a b : Edge) → a ≡ b → OneFunction parts ns a b
one_function parts ns a b e c l = ap (λ x. edge_at ns 0 x c) e

pub one_edge : (parts : ℕ) (ns : List Node) → Sound parts ns → (a b : Edge) → From ns 0 a.child → From ns 0 b.child → OneFunction parts ns a b → a ≡ b
one_edge parts ns sound a b fa fb h = let e = canonical parts ns sound a.constant b.constant a.child b.child fa fb h in path e.0 e.1
  where
    path : a.constant ≡ b.constant → a.child ≡ b.child → a ≡ b
    path p q i = record { constant = p i; child = q i }
