-- Places written, and a walk along a chain.
use Rattle.std.proofs.Common.{◌≡◌, ℕ, ◌+◌, ◌-◌, ◌<◌, ◌≤◌, min, List, [], ◌∷◌, ◌++◌, length, get_or, take, set, sym, refl, ap, ◌∙◌, subst, inl, inr, arith, length-set}
use Rattle.std.proofs.lemmas.List.{get_or-set_same, get_or-set_other, take-map, take-take, take_more_set, map_push}
use Rattle.std.proofs.Math.Seq.{map-set_same}
use Rattle.std.proofs.lemmas.Bool.{cases_order, cases_eq}
use Rattle.diagrams.specs.declared.Node.{Node}
use Rattle.tables.specs.declared.Place.{Place}
use Rattle.tables.specs.Buckets.{hashed, none, node_at, next_at, head_at, nodes_of, with_node, with_head, Chains, Chained, PlacesFit}
use Rattle.tables.proofs.Keeps.{More, more_chains, Fewer, fewer_chains}

-- a walk along the chain of n, at the link v: nothing from there on is n
abbrev pub Walk : List Place → ℕ → Node → ℕ → Type 0
Walk xs len n v =
    (v ≤ len) × (0 < v → hashed (length xs) (node_at xs (v - 1)) ≡ hashed (length xs) n) × ((k : ℕ) → v ≤ k → k < len → node_at xs k ≡ n → ⊥)

-- what a write does not change
kept : {A : Type 0} (f : Place → A) (xs : List Place) (k : ℕ) (p : Place) → k < length xs → f p ≡ f (get_or xs k none) → (j : ℕ) → f (get_or (set xs k p) j none) ≡ f (get_or xs j none)
kept f xs k p h e j = elim (cases_eq j k) [
  | inl q ↦ ap (λ i. f (get_or (set xs k p) i none)) q ∙ (ap f (get_or-set_same xs k p none h) ∙ (e ∙ ap (λ i. f (get_or xs i none)) (sym q)))
  | inr n ↦ ap f (get_or-set_other xs k j p none n)
]

-- one link on, where the place k is not n
pub walk_more : (xs : List Place) (len : ℕ) (n : Node) (v k : ℕ) → Chained xs len → Walk xs len n v → (1 ≤ v) × (k ≡ v - 1) → (node_at xs k ≡ n → ⊥) → Walk xs len n (next_at xs k)
walk_more xs len n v k c w at differs =
    let lt : k < len = omega (arith, w.0, at.0, at.1) in
    let lo : next_at xs k ≤ k = c.nlow k lt in
    let h : hashed (length xs) (node_at xs k) ≡ hashed (length xs) n = ap (λ j. hashed (length xs) (node_at xs j)) at.1 ∙ w.1 (omega (arith, at.0)) in (
      omega arith,
      λ p. c.nhit k lt p ∙ h,
      λ j ge jl is. elim (cases_order j k) [
        | inl q ↦ differs (ap (node_at xs) (sym q) ∙ is)
        | inr o ↦ elim o [
          | inl less ↦ (let b : j < next_at xs k = c.nlast j k lt (less, ap (hashed (length xs)) is ∙ sym h) in omega arith)
          | inr more ↦ w.2 j (omega (arith, at.0, at.1, more)) jl is
        ]
      ],
    )

-- a bucket's head is set
module _ (xs : List Place) (h v : ℕ) (l : h < length xs) where
  abbrev headed : Place
  headed = record { node = node_at xs h; next = next_at xs h; head = v }

  pub head_node : (k : ℕ) → node_at (with_head xs h v) k ≡ node_at xs k
  head_node k = kept (λ p. p.node) xs h headed l refl k

  pub head_next : (k : ℕ) → next_at (with_head xs h v) k ≡ next_at xs k
  head_next k = kept (λ p. p.next) xs h headed l refl k

  pub head_new : head_at (with_head xs h v) h ≡ v
  head_new = ap (λ p. p.head) (get_or-set_same xs h headed none l)

  pub head_old : (g : ℕ) → (g ≡ h → ⊥) → head_at (with_head xs h v) g ≡ head_at xs g
  head_old g ne = ap (λ p. p.head) (get_or-set_other xs h g headed none ne)

-- a node more
module _ (xs : List Place) (len h : ℕ) (n : Node) (left : len < min (length xs) 60000) (lh : h < length xs) (eh : h ≡ hashed (length xs) n) (fits : PlacesFit xs len) where
  abbrev written : Place
  written = record { node = n; next = head_at xs h; head = (get_or xs len none).head }

  abbrev ys : List Place
  ys = with_node xs len n (head_at xs h)

  abbrev zs : List Place
  zs = with_head ys h (len + 1)

  inside : len < length xs
  inside = omega (arith, left)

  ly : h < length ys
  ly = let e : length ys ≡ length xs = length-set xs len written in omega (arith, e, lh)

  size : length zs ≡ length xs
  size = length-set ys h _ ∙ length-set xs len written

  old : (k : ℕ) → k < len → get_or ys k none ≡ get_or xs k none
  old k kl = get_or-set_other xs len k written none (λ e. omega arith)

  new : get_or ys len none ≡ written
  new = get_or-set_same xs len written none inside

  more : More (length xs) len h (head_at xs) (head_at zs) (λ k. hashed (length xs) (node_at xs k)) (λ k. hashed (length xs) (node_at zs k)) (next_at xs) (next_at zs)
  more = record {
    was = fits.chained;
    small = lh;
    old_n = λ k kl. ap (hashed (length xs)) (head_node ys h (len + 1) ly k ∙ ap (λ p. p.node) (old k kl));
    old_x = λ k kl. head_next ys h (len + 1) ly k ∙ ap (λ p. p.next) (old k kl);
    new_n = ap (hashed (length xs)) (head_node ys h (len + 1) ly len ∙ ap (λ p. p.node) new) ∙ sym eh;
    new_x = head_next ys h (len + 1) ly len ∙ ap (λ p. p.next) new;
    new_h = head_new ys h (len + 1) ly;
    old_h = λ g ne. head_old ys h (len + 1) ly g ne ∙ kept (λ p. p.head) xs len written inside refl g;
  }

  pub pushed : PlacesFit zs (len + 1)
  pushed = record {
    low = omega (arith, size, left);
    chained = subst (λ m. Chains m (len + 1) (head_at zs) (λ k. hashed m (node_at zs k)) (next_at zs)) (sym size) (more_chains (length xs) len h _ _ _ _ _ _ more);
  }

-- the last goes
module _ (xs : List Place) (len h : ℕ) (lh : h < length xs) (eh : h ≡ hashed (length xs) (node_at xs len)) (fits : PlacesFit xs (len + 1)) where
  abbrev less : List Place
  less = with_head xs h (next_at xs len)

  less_size : length less ≡ length xs
  less_size = length-set xs h _

  fewer : Fewer (length xs) len (head_at xs) (head_at less) (λ k. hashed (length xs) (node_at xs k)) (λ k. hashed (length xs) (node_at less k)) (next_at xs) (next_at less)
  fewer = record {
    was = fits.chained;
    old_n = λ k kl. ap (hashed (length xs)) (head_node xs h (next_at xs len) lh k);
    old_x = λ k kl. head_next xs h (next_at xs len) lh k;
    new_h = ap (head_at less) (sym eh) ∙ head_new xs h (next_at xs len) lh;
    old_h = λ g ne. head_old xs h (next_at xs len) lh g (λ e. ne (e ∙ eh));
  }

  pub popped : PlacesFit less len
  popped = record {
    low = omega (arith, less_size, fits.low);
    chained = subst (λ m. Chains m len (head_at less) (λ k. hashed m (node_at less k)) (next_at less)) (sym less_size) (fewer_chains (length xs) len _ _ _ _ _ _ fewer);
  }

-- a bucket's head is no part of the nodes
pub nodes_head : (xs : List Place) (h v : ℕ) → nodes_of (with_head xs h v) ≡ nodes_of xs
nodes_head xs h v = map-set_same (λ p. p.node) xs h _ none refl

-- the first nodes of places that have the same nodes
taken : (xs ys : List Place) (k : ℕ) → nodes_of ys ≡ nodes_of xs → nodes_of (take k ys) ≡ nodes_of (take k xs)
taken xs ys k same = sym (take-map (λ p. p.node) k ys) ∙ (ap (take k) same ∙ take-map (λ p. p.node) k xs)

pub made_push : (xs : List Place) (len : ℕ) (n : Node) (x h v : ℕ) → len < length xs → nodes_of (take (len + 1) (with_head (with_node xs len n x) h v)) ≡ nodes_of (take len xs) ++ (n ∷ [])
made_push xs len n x h v l =
    taken (with_node xs len n x) (with_head (with_node xs len n x) h v) (len + 1) (nodes_head (with_node xs len n x) h v)
    ∙ (ap nodes_of (take_more_set xs len _ l) ∙ map_push (λ p. p.node) (take len xs) _)

pub made_less : (xs ys : List Place) (j k : ℕ) → j ≤ k → nodes_of ys ≡ nodes_of xs → nodes_of (take j ys) ≡ take j (nodes_of (take k xs))
made_less xs ys j k l same =
    taken xs ys j same ∙ (ap nodes_of (sym (take-take j k xs l)) ∙ sym (take-map (λ p. p.node) j (take k xs)))
