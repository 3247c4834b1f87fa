-- From part to part: what is asked, what is answered, and what may be built.
use Rattle.std.proofs.Common.{◌≡◌, ℕ, zero, suc, ◌+◌, ◌-◌, ◌^◌, ◌<◌, ◌≤◌, Bool, true, false, cond, not, eqb, List, [], ◌∷◌, ◌++◌, length, replicate, ℤ, ◌+ℤ◌, ◌-ℤ◌, ◌*ℤ◌, nat_abs, Some, None, sym, refl, ap, ◌∙◌, subst, ap₂, inl, inr, arith}
use lib.ListN.{length-replicate}
use lib.IntN.{+ℤ_idr}
use lib.Signed.{le_z}
use Rattle.std.proofs.lemmas.Bool.{cond-false, ne_eqb}
use Rattle.diagrams.specs.declared.Child.{Child}
use Rattle.diagrams.specs.declared.Child.TheVariants.{Terminal, Place}
use Rattle.diagrams.specs.declared.Node.{Node}
use Rattle.diagrams.specs.declared.Edge.{Edge}
use Rattle.diagrams.specs.declared.Operation.{Operation}
use Rattle.diagrams.specs.declared.Operation.TheVariants.{AtMost, AtLeast, Times}
use Rattle.diagrams.specs.declared.Question.{Question}
use Rattle.diagrams.specs.Needs.{table, less, depends, needed, indicator, same_table}
use Rattle.diagrams.specs.Nodes.{if_part, here, value, From}
use Rattle.diagrams.specs.Held.{In}
use Rattle.diagrams.specs.Apply.{meaning, edge_at, target, Bit, Fit, RightAt, Right, Asked, Cofactor, joined, Joined, question, Allows, Top}
use Rattle.diagrams.proofs.Tables.{table_ext, in_left, in_right}
use Rattle.diagrams.proofs.Canonical.{value_skip, value_out}

-- equal functions need the same
pub needed_ext : (m : ℕ) (f g : List Bool → ℤ) → ((c : List Bool) → length c ≡ m → f c ≡ g c) → needed m f ≡ needed m g
needed_ext zero f g h = refl
needed_ext (suc m) f g h =
    let out : (c : List Bool) → length c ≡ m → f (false ∷ c) ≡ g (false ∷ c) = λ c l. h (false ∷ c) (ap suc l) in
    let fit : (c : List Bool) → length c ≡ m → f (true ∷ c) ≡ g (true ∷ c) = λ c l. h (true ∷ c) (ap suc l) in
    let d : depends m f ≡ depends m g = ap₂ (λ s t. not (same_table s t)) (table_ext m (λ c. f (false ∷ c)) (λ c. g (false ∷ c)) out) (table_ext m (λ c. f (true ∷ c)) (λ c. g (true ∷ c)) fit) in
    let t : table (suc m) (less (suc m) f) ≡ table (suc m) (less (suc m) g) = table_ext (suc m) (less (suc m) f) (less (suc m) g) (λ c l. ap₂ ◌-ℤ◌ (h c l) (h (replicate (suc m) false) (length-replicate (suc m) false))) in
    ap₂ ◌++◌ (ap₂ (λ b u. cond b (u ∷ []) []) d t) (ap₂ ◌++◌ (needed_ext m (λ c. f (false ∷ c)) (λ c. g (false ∷ c)) out) (needed_ext m (λ c. f (true ∷ c)) (λ c. g (true ∷ c)) fit))

-- what a settled function needs, the function needs
pub needed_settled : (m : ℕ) (f : List Bool → ℤ) (x : Bool) (t : List ℤ) → In t (needed m (λ c. f (x ∷ c))) → In t (needed (suc m) f)
needed_settled m f false t h = in_right t (cond (depends m f) (table (suc m) (less (suc m) f) ∷ []) []) _ (in_left t (needed m (λ c. f (false ∷ c))) _ h)
needed_settled m f true t h = in_right t (cond (depends m f) (table (suc m) (less (suc m) f) ∷ []) []) _ (in_right t (needed m (λ c. f (false ∷ c))) _ h)

pub allows_settled : (ts : List (List ℤ)) (parts i : ℕ) (f g : List Bool → ℤ) (x : Bool) → i < parts → ((c : List Bool) → suc i + length c ≡ parts → f (x ∷ c) ≡ g c) → Allows ts (parts - i) f → Allows ts (parts - suc i) g
allows_settled ts parts i f g x low e h t m =
    let d : suc (parts - suc i) ≡ parts - i = omega arith in
    h t (subst (λ k. In t (needed k f)) d (needed_settled (parts - suc i) f x t (subst (In t) (sym (needed_ext (parts - suc i) (λ c. f (x ∷ c)) g (λ c l. e c (omega arith)))) m)))

pub allows_ext : (ts : List (List ℤ)) (m : ℕ) (f g : List Bool → ℤ) → ((c : List Bool) → length c ≡ m → f c ≡ g c) → Allows ts m f → Allows ts m g
allows_ext ts m f g e h t k = h t (subst (In t) (sym (needed_ext m f g e)) k)

pub from_lower : (ns : List Node) (i j : ℕ) (r : Child) → i ≤ j → From ns j r → From ns i r
from_lower ns i j Terminal h f = tt
from_lower ns i j (Place k) h f = (f.0, f.1, let g = f.2 in omega arith)

skips : (ns : List Node) (i : ℕ) (r : Child) → From ns (suc i) r → here ns i r ≡ None
skips ns i Terminal f = refl
skips ns i (Place k) f = let g = f.2 in ap (if_part i) f.1 ∙ cond-false (eqb f.0.part i) (Some f.0) None (ne_eqb f.0.part i (λ e. omega arith))

pub value_up : (ns : List Node) (i : ℕ) (r : Child) (x : Bool) (c : List Bool) → From ns (suc i) r → value ns i r (x ∷ c) ≡ value ns (suc i) r c
value_up ns i r x c f = value_skip ns i r x c (skips ns i r f)

pub cofactor_skip : (ns : List Node) (i : ℕ) (e : Edge) (x : Bool) → From ns (suc i) e.child → Cofactor ns i e x e
cofactor_skip ns i e x f = record { from = f; equal = λ c. ap (λ z. e.constant +ℤ z) (value_up ns i e.child x c f) }

target_settled : (ns : List Node) (i : ℕ) (q : Question) (x : Bool) (l r : Edge) (c : List Bool) → Cofactor ns i q.left x l → Cofactor ns i q.right x r → target ns i q (x ∷ c) ≡ target ns (suc i) (question q.operation l r) c
target_settled ns i q x l r c cl cr = ap₂ (meaning q.operation) (cl.equal c) (cr.equal c)

pub asked_settled : (parts : ℕ) (ns : List Node) (ts : List (List ℤ)) (i : ℕ) (q : Question) (x : Bool) (l r : Edge) → i < parts → Asked parts ns ts i q → Cofactor ns i q.left x l → Cofactor ns i q.right x r → Asked parts ns ts (suc i) (question q.operation l r)
asked_settled parts ns ts i q x l r low a cl cr = record {
  low = omega arith;
  left_in = cl.from;
  right_in = cr.from;
  fit = λ c e. subst (λ z. Fit q.operation z (edge_at ns (suc i) r c)) (cl.equal c) (subst (λ z. Fit q.operation (edge_at ns i q.left (x ∷ c)) z) (cr.equal c) (a.fit (x ∷ c) (omega arith)));
  allowed = allows_settled ts parts i (target ns i q) (target ns (suc i) (question q.operation l r)) x low (λ c e. target_settled ns i q x l r c cl cr) a.allowed;
}

-- a question whose nodes skip parts may be asked further up
pub asked_up : (d : ℕ) (parts : ℕ) (ns : List Node) (ts : List (List ℤ)) (i j : ℕ) (q : Question) → i + d ≡ j → j ≤ parts → From ns j q.left.child → From ns j q.right.child → Asked parts ns ts i q → Asked parts ns ts j q
asked_up zero parts ns ts i j q e h fl fr a = let k : i ≡ j = omega arith in subst (λ z. Asked parts ns ts z q) k a
asked_up (suc d) parts ns ts i j q e h fl fr a =
    asked_up d parts ns ts (suc i) j q (omega arith) h fl fr
    (asked_settled parts ns ts i q false q.left q.right (omega arith) a
    (cofactor_skip ns i q.left false (from_lower ns (suc i) j q.left.child (omega arith) fl))
    (cofactor_skip ns i q.right false (from_lower ns (suc i) j q.right.child (omega arith) fr)))

-- and an answer there is one further down
right_below : (parts : ℕ) (ns : List Node) (i : ℕ) (q : Question) (e : Edge) → i < parts → From ns (suc i) q.left.child → From ns (suc i) q.right.child → RightAt parts ns (suc i) q e → RightAt parts ns i q e
right_below parts ns i q e low fl fr r = record { from = from_lower ns i (suc i) e.child (omega arith) r.from; equal = at }
  where
    at : (c : List Bool) → i + length c ≡ parts → edge_at ns i e c ≡ target ns i q c
    at [] h = absurd (omega arith)
    at (x ∷ c) h =
        (cofactor_skip ns i e x r.from).equal c
        ∙ (r.equal c (omega arith)
        ∙ sym (target_settled ns i q x q.left q.right c (cofactor_skip ns i q.left x fl) (cofactor_skip ns i q.right x fr)))

pub right_down : (d : ℕ) (parts : ℕ) (ns : List Node) (i j : ℕ) (q : Question) (e : Edge) → i + d ≡ j → j ≤ parts → From ns j q.left.child → From ns j q.right.child → RightAt parts ns j q e → RightAt parts ns i q e
right_down zero parts ns i j q e h low fl fr r = let k : j ≡ i = omega arith in subst (λ z. RightAt parts ns z q e) k r
right_down (suc d) parts ns i j q e h low fl fr r =
    right_below parts ns i q e (omega arith) (from_lower ns (suc i) j _ (omega arith) fl) (from_lower ns (suc i) j _ (omega arith) fr) (right_down d parts ns (suc i) j q e (omega arith) low fl fr r)

pub right_top : (parts : ℕ) (ns : List Node) (q : Question) (e : Edge) (j : ℕ) → Top parts ns q j → RightAt parts ns j q e → Right parts ns q e
right_top parts ns q e j top r = record {
  left_in = from_lower ns 0 j _ (omega arith) top.left_in;
  right_in = from_lower ns 0 j _ (omega arith) top.right_in;
  right = λ i fl fr. let k = top.most i fl fr in let l = top.low in right_down (j - i) parts ns i j q e (omega arith) (omega arith) top.left_in top.right_in r;
}

pub right_joined : (parts : ℕ) (ns : List Node) (i : ℕ) (q : Question) (l₁ r₁ l₀ r₀ fit out e : Edge) → i < parts
    → Cofactor ns i q.left true l₁ → Cofactor ns i q.right true r₁ → Cofactor ns i q.left false l₀ → Cofactor ns i q.right false r₀
    → RightAt parts ns (suc i) (question q.operation l₁ r₁) fit → RightAt parts ns (suc i) (question q.operation l₀ r₀) out → Joined ns i fit out e → RightAt parts ns i q e
right_joined parts ns i q l₁ r₁ l₀ r₀ fit out e low cl₁ cr₁ cl₀ cr₀ rf ro j = record { from = j.from; equal = at }
  where
    at : (c : List Bool) → i + length c ≡ parts → edge_at ns i e c ≡ target ns i q c
    at [] h = absurd (omega arith)
    at (true ∷ c) h = j.fitted c ∙ (rf.equal c (omega arith) ∙ sym (target_settled ns i q true l₁ r₁ c cl₁ cr₁))
    at (false ∷ c) h = j.left_out c ∙ (ro.equal c (omega arith) ∙ sym (target_settled ns i q false l₀ r₀ c cl₀ cr₀))

-- what the two answers make is what the question asks, so it may be built
pub allows_joined : (parts : ℕ) (ns : List Node) (ts : List (List ℤ)) (i : ℕ) (q : Question) (l₁ r₁ l₀ r₀ fit out : Edge) → i < parts
    → Cofactor ns i q.left true l₁ → Cofactor ns i q.right true r₁ → Cofactor ns i q.left false l₀ → Cofactor ns i q.right false r₀
    → RightAt parts ns (suc i) (question q.operation l₁ r₁) fit → RightAt parts ns (suc i) (question q.operation l₀ r₀) out → Asked parts ns ts i q → Allows ts (parts - i) (joined ns i fit out)
allows_joined parts ns ts i q l₁ r₁ l₀ r₀ fit out low cl₁ cr₁ cl₀ cr₀ rf ro a = allows_ext ts (parts - i) (target ns i q) (joined ns i fit out) at a.allowed
  where
    at : (c : List Bool) → length c ≡ parts - i → target ns i q c ≡ joined ns i fit out c
    at [] h = absurd (omega arith)
    at (true ∷ c) h = target_settled ns i q true l₁ r₁ c cl₁ cr₁ ∙ sym (rf.equal c (omega arith))
    at (false ∷ c) h = target_settled ns i q false l₀ r₀ c cl₀ cr₀ ∙ sym (ro.equal c (omega arith))

-- the constant of an edge is its value with all parts left out
pub constant_is : (ns : List Node) (m i : ℕ) (e : Edge) → edge_at ns i e (replicate m false) ≡ e.constant
constant_is ns m i e = ap (λ z. e.constant +ℤ z) (value_out ns m i e.child) ∙ +ℤ_idr e.constant

pub bit_meaning : (op : Operation) (a b : ℤ) → Fit op a b → Bit (meaning op a b)
bit_meaning AtMost a b f = bit (le_z a b)
  where
    bit : (x : Bool) → Bit (indicator x)
    bit true = inr refl
    bit false = inl refl
bit_meaning AtLeast a b f = bit (le_z b a)
  where
    bit : (x : Bool) → Bit (indicator x)
    bit true = inr refl
    bit false = inl refl
bit_meaning Times a b f = times f.0 f.1
  where
    times : Bit a → Bit b → Bit (a *ℤ b)
    times (inl p) (inl q) = inl (ap₂ ◌*ℤ◌ p q)
    times (inl p) (inr q) = inl (ap₂ ◌*ℤ◌ p q)
    times (inr p) (inl q) = inl (ap₂ ◌*ℤ◌ p q)
    times (inr p) (inr q) = inr (ap₂ ◌*ℤ◌ p q)

pub answer_bit : (parts : ℕ) (ns : List Node) (ts : List (List ℤ)) (i : ℕ) (q : Question) (e : Edge) → Asked parts ns ts i q → RightAt parts ns i q e → Bit e.constant
answer_bit parts ns ts i q e a r =
    let low = a.low in
    let c : List Bool = replicate (parts - i) false in
    let l : length c ≡ parts - i = length-replicate (parts - i) false in
    subst Bit (sym (r.equal c (omega arith)) ∙ constant_is ns (parts - i) i e) (bit_meaning q.operation _ _ (a.fit c (omega arith)))

pub bit_small : (z : ℤ) → Bit z → nat_abs z ≤ 2 ^ 28
bit_small z (inl e) = subst (λ y. nat_abs y ≤ 2 ^ 28) (sym e) (omega arith)
bit_small z (inr e) = subst (λ y. nat_abs y ≤ 2 ^ 28) (sym e) (omega arith)

fit_small : (op : Operation) (a b : ℤ) → Fit op a b → (nat_abs a ≤ 2 ^ 28) × (nat_abs b ≤ 2 ^ 28)
fit_small AtMost a b f = f
fit_small AtLeast a b f = f
fit_small Times a b f = (bit_small a f.0, bit_small b f.1)

pub asked_constants : (parts : ℕ) (ns : List Node) (ts : List (List ℤ)) (i : ℕ) (q : Question) → Asked parts ns ts i q → Fit q.operation q.left.constant q.right.constant
asked_constants parts ns ts i q a =
    let low = a.low in
    let c : List Bool = replicate (parts - i) false in
    let l : length c ≡ parts - i = length-replicate (parts - i) false in
    subst (λ z. Fit q.operation z q.right.constant) (constant_is ns (parts - i) i q.left) (subst (λ z. Fit q.operation (edge_at ns i q.left c) z) (constant_is ns (parts - i) i q.right) (a.fit c (omega arith)))

pub asked_small : (parts : ℕ) (ns : List Node) (ts : List (List ℤ)) (i : ℕ) (q : Question) → Asked parts ns ts i q → (nat_abs q.left.constant ≤ 2 ^ 28) × (nat_abs q.right.constant ≤ 2 ^ 28)
asked_small parts ns ts i q a = fit_small q.operation _ _ (asked_constants parts ns ts i q a)
