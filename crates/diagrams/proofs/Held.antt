-- A table that holds one node for each needed function and no other has as many nodes as are needed.
use Rattle.std.proofs.Common.{◌≡◌, ℕ, zero, suc, ◌+◌, ◌-◌, ◌^◌, ◌<◌, ◌≤◌, Bool, true, false, List, [], ◌∷◌, length, ℤ, pos, Some, sym, refl, ap, ◌∙◌, subst, ap₂, inl, inr, ⊎_elim, add-zero, zero-add, arith, length-append}
use lib.Pow.{pow-lt}
use Rattle.std.proofs.lemmas.Bool.{cases_order}
use Rattle.std.specs.List.{slice_get}
use Rattle.diagrams.specs.Needs.{table, needed_all, built, once}
use Rattle.diagrams.specs.declared.Child.TheVariants.{Place}
use Rattle.diagrams.specs.declared.Node.{Node}
use Rattle.diagrams.specs.Nodes.{value, Sound}
use Rattle.diagrams.specs.Held.{In, node_table, tables_from, HeldCount}
use Rattle.diagrams.proofs.Tables.{table_same, Apart, no_more, once_in, in_once, once_apart}
use Rattle.diagrams.proofs.Canonical.{same_ref}

table_size : (m : ℕ) (f : List Bool → ℤ) → length (table m f) ≡ 2 ^ m
table_size zero f = refl
table_size (suc m) f = length-append (table m (λ c. f (false ∷ c))) (table m (λ c. f (true ∷ c))) ∙ (ap₂ ◌+◌ (table_size m (λ c. f (false ∷ c))) (table_size m (λ c. f (true ∷ c))) ∙ omega arith)

same_power : (a b : ℕ) → 2 ^ a ≡ 2 ^ b → a ≡ b
same_power a b e = ⊎_elim (λ h. h) (⊎_elim (λ h. let l : 2 ^ a < 2 ^ b = pow-lt h in absurd (omega arith)) (λ h. let l : 2 ^ b < 2 ^ a = pow-lt h in absurd (omega arith))) (cases_order a b)

place_path : (j k : ℕ) → Place j ≡ Place k → j ≡ k
place_path j k e = cc

-- a node's function is among theirs
pub in_tables : (parts : ℕ) (ns : List Node) (k j : ℕ) (rest : List Node) (n : Node) → slice_get rest j ≡ Some n → In (node_table parts ns (k + j) n) (tables_from parts ns k rest)
in_tables parts ns k j [] n e = let z : ◌≡◌ {A = ℕ} 0 1 = cc in absurd (omega arith)
in_tables parts ns k zero (q ∷ rest) n e = let h : n ≡ q = cc in inl (rw add-zero (ap (node_table parts ns k) h))
in_tables parts ns k (suc j) (q ∷ rest) n e = let z : suc k + j ≡ k + suc j = omega arith in inr (subst (λ i. In (node_table parts ns i n) (tables_from parts ns (suc k) rest)) z (in_tables parts ns (suc k) j rest n e))

-- a node of the list has the function t
abbrev pub MadeAt : ℕ → List Node → ℕ → List Node → List ℤ → Type 0
MadeAt parts ns k rest t = (j : ℕ) × (n : Node) × (slice_get rest j ≡ Some n) × (t ≡ node_table parts ns (k + j) n)

pub made_at : (parts : ℕ) (ns : List Node) (k : ℕ) (rest : List Node) (t : List ℤ) → In t (tables_from parts ns k rest) → MadeAt parts ns k rest t
made_at parts ns k [] t m = absurd m
made_at parts ns k (n ∷ rest) t (inl e) = (0, n, refl, rw add-zero e)
made_at parts ns k (n ∷ rest) t (inr m) = let h = made_at parts ns (suc k) rest t m in let z : suc k + h.0 ≡ k + suc h.0 = omega arith in (suc h.0, h.1, h.2, h.3 ∙ ap (λ j. node_table parts ns j h.1) z)

module _ (parts : ℕ) (ns : List Node) (sound : Sound parts ns) where
  pub node_once : (j k : ℕ) (n q : Node) → slice_get ns j ≡ Some n → slice_get ns k ≡ Some q → node_table parts ns j n ≡ node_table parts ns k q → j ≡ k
  node_once j k n q fn fq e =
      let bn = sound.below j n fn in
      let bq = sound.below k q fq in
      let level : parts - n.part ≡ parts - q.part = same_power _ _ (sym (table_size (parts - n.part) (value ns n.part (Place j))) ∙ (ap length e ∙ table_size (parts - q.part) (value ns q.part (Place k)))) in
      let part : q.part ≡ n.part = omega arith in
      let e' : table (parts - n.part) (value ns n.part (Place j)) ≡ table (parts - n.part) (value ns n.part (Place k)) = e ∙ ap (λ p. table (parts - p) (value ns p (Place k))) part in
      place_path j k (same_ref parts ns sound (parts - n.part) n.part (omega arith) (Place j) (Place k) (n, fn, omega arith) (q, fq, omega arith) (table_same (parts - n.part) (value ns n.part (Place j)) (value ns n.part (Place k)) e'))

  tables_length : (k : ℕ) (rest : List Node) → length (tables_from parts ns k rest) ≡ length rest
  tables_length k [] = refl
  tables_length k (n ∷ rest) = ap suc (tables_length (suc k) rest)

  tables_apart : (k : ℕ) (rest : List Node) → ((j : ℕ) (n : Node) → slice_get rest j ≡ Some n → slice_get ns (k + j) ≡ Some n) → Apart (tables_from parts ns k rest)
  tables_apart k [] link = tt
  tables_apart k (n ∷ rest) link = (
    λ m. let h = made_at parts ns (suc k) rest _ m in
        let e : k ≡ suc k + h.0 = node_once k (suc k + h.0) n h.1 (rw add-zero at (link 0 n refl)) (subst (λ i. slice_get ns i ≡ Some h.1) (omega arith) (link (suc h.0) h.1 h.2)) h.3 in
        omega arith,
    tables_apart (suc k) rest (λ j q f. subst (λ i. slice_get ns i ≡ Some q) (omega arith) (link (suc j) q f)),
  )

  -- nodes of needed functions are no more than are needed: so where a new one is wanted and the table is full, too many are needed
  pub AtMost : (ts : List (List ℤ)) → ((k : ℕ) (n : Node) → slice_get ns k ≡ Some n → In (node_table parts ns k n) ts) → length ns ≤ length (once ts)
  AtMost ts in-ts =
      let low : length (tables_from parts ns 0 ns) ≤ length (once ts) = no_more (tables_from parts ns 0 ns) (once ts) (tables_apart 0 ns (λ j n f. rw zero-add f)) (λ t m. let h = made_at parts ns 0 ns t m in
      let e : t ≡ node_table parts ns h.0 h.1 = rw zero-add at h.3 in
      in_once ts t (subst (λ z. In z ts) (sym e) (in-ts h.0 h.1 h.2))) in
      let l = tables_length 0 ns in
      omega arith

  pub at_least : (ts : List (List ℤ)) → ((t : List ℤ) → In t ts → (k : ℕ) × (n : Node) × (slice_get ns k ≡ Some n) × (t ≡ node_table parts ns k n)) → length (once ts) ≤ length ns
  at_least ts each =
      let high : length (once ts) ≤ length (tables_from parts ns 0 ns) = no_more (once ts) (tables_from parts ns 0 ns) (once_apart ts) (λ t m. let h = each t (once_in ts t m) in
      subst (λ z. In z (tables_from parts ns 0 ns)) (sym h.3) (rw zero-add at (in_tables parts ns 0 h.0 ns h.1 h.2))) in
      let l = tables_length 0 ns in
      omega arith

pub held_count : HeldCount
held_count parts ns ls holds =
    let low = AtMost parts ns holds.sound (needed_all parts (built ls (λ c. pos 1))) holds.no_other in
    let high = at_least parts ns holds.sound (needed_all parts (built ls (λ c. pos 1))) holds.each in
    omega arith
