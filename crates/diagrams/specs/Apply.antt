-- What a question asks, which answers are right, and what may be built.
use Rattle.std.specs.Prelude.{◌≡◌, ℕ, suc, ◌+◌, ◌-◌, ◌^◌, ◌<◌, ◌≤◌, Bool, true, false, cond, ◌⊎◌, List, [], ◌∷◌, ◌++◌, length, drop, ℤ, pos, ◌+ℤ◌, ◌-ℤ◌, ◌*ℤ◌, ◌≤ℤ◌, Some, ◌≢◌, int_le, unsigned_abs}
use Rattle.std.specs.List.{slice_get}
use Rattle.limits.specs.declared.Sense.{Sense}
use Rattle.limits.specs.declared.Sense.TheVariants as sense
use Rattle.diagrams.specs.declared.Child.{Child}
use Rattle.diagrams.specs.declared.Child.TheVariants.{Terminal, Place}
use Rattle.diagrams.specs.declared.Node.{Node}
use Rattle.diagrams.specs.declared.Edge.{Edge}
use Rattle.diagrams.specs.declared.Operation.{Operation}
use Rattle.diagrams.specs.declared.Operation.TheVariants.{AtMost, AtLeast, Times}
use Rattle.diagrams.specs.declared.Question.{Question}
use Rattle.limits.specs.Limits.{sum}
use Rattle.diagrams.specs.Needs.{needed, indicator}
use Rattle.diagrams.specs.Nodes.{value, From, Sound, Ordered}
use Rattle.diagrams.specs.Held.{In, node_table}

-- what an operation makes of two numbers: 1 or 0 for a comparison, the product for times
abbrev pub meaning : Operation → ℤ → ℤ → ℤ
meaning AtMost a b = indicator (int_le a b)
meaning AtLeast a b = indicator (int_le b a)
meaning Times a b = a *ℤ b

-- the operation that compares with a bound
abbrev pub operation_of : Sense → Operation
operation_of sense.AtMost = AtMost
operation_of sense.AtLeast = AtLeast

-- a child as a number: 0 for the terminal
abbrev pub child_number : Child → ℕ
child_number Terminal = 0
child_number (Place k) = k + 1

-- what an edge denotes, over the choices of the parts from i up
abbrev pub edge_at : List Node → ℕ → Edge → List Bool → ℤ
edge_at ns i e c = e.constant +ℤ value ns i e.child c

-- what a question asks for, at each choice of the parts from i up
abbrev pub target : List Node → ℕ → Question → List Bool → ℤ
target ns i q c = meaning q.operation (edge_at ns i q.left c) (edge_at ns i q.right c)

-- a number is 0 or 1
abbrev pub Bit : ℤ → Type 0
Bit z = (z ≡ pos 0) ⊎ (z ≡ pos 1)

-- what may be asked about
abbrev pub Fit : Operation → ℤ → ℤ → Type 0
Fit AtMost a b = (unsigned_abs a ≤ 2 ^ 28) × (unsigned_abs b ≤ 2 ^ 28)
Fit AtLeast a b = (unsigned_abs a ≤ 2 ^ 28) × (unsigned_abs b ≤ 2 ^ 28)
Fit Times a b = Bit a × Bit b

-- the edge e answers q at part i: it stands there, and denotes what is asked for at each choice
pub record RightAt (parts : ℕ) (ns : List Node) (i : ℕ) (q : Question) (e : Edge) : Type 0 where
  pub from : From ns i e.child
  pub equal : (c : List Bool) → i + length c ≡ parts → edge_at ns i e c ≡ target ns i q c

-- the edge e answers q, whatever part one starts at
pub record Right (parts : ℕ) (ns : List Node) (q : Question) (e : Edge) : Type 0 where
  pub left_in : From ns 0 q.left.child
  pub right_in : From ns 0 q.right.child
  pub right : (i : ℕ) → From ns i q.left.child → From ns i q.right.child → RightAt parts ns i q e

-- q may be asked at part i, where nodes of the functions ts may be made
pub record Asked (parts : ℕ) (ns : List Node) (ts : List (List ℤ)) (i : ℕ) (q : Question) : Type 0 where
  pub low : i ≤ parts
  pub left_in : From ns i q.left.child
  pub right_in : From ns i q.right.child
  pub fit : (c : List Bool) → i + length c ≡ parts → Fit q.operation (edge_at ns i q.left c) (edge_at ns i q.right c)
  pub allowed : (t : List ℤ) → In t (needed (parts - i) (target ns i q)) → In t ts

-- each answer that a remembering table holds is right over these nodes
abbrev pub AllRight : {S : Type 0} → (S → Question → Edge → Type 0) → S → ℕ → List Node → Type 0
AllRight holds s parts ns = (p : Question) (f : Edge) → holds s p f → Right parts ns p f

-- the table new is the table old with more nodes after it
pub record Grown (old new : List Node) : Type 0 where
  pub more : List Node
  pub is : new ≡ old ++ more

-- a sound table of small values, children before their parents, with nodes of the functions ts only
pub record Good (parts : ℕ) (ns : List Node) (ts : List (List ℤ)) : Type 0 where
  pub sound : Sound parts ns
  pub ordered : Ordered parts ns
  pub small : (k : ℕ) (n : Node) → slice_get ns k ≡ Some n → unsigned_abs n.value ≤ 2 ^ 29
  pub within : (k : ℕ) (n : Node) → slice_get ns k ≡ Some n → In (node_table parts ns k n) ts

-- r is what is left of e when part i is settled
pub record Cofactor (ns : List Node) (i : ℕ) (e : Edge) (x : Bool) (r : Edge) : Type 0 where
  pub from : From ns (suc i) r.child
  pub equal : (c : List Bool) → edge_at ns i e (x ∷ c) ≡ edge_at ns (suc i) r c

-- the function that is one edge where part i is fitted, and another where it is left out
abbrev pub joined : List Node → ℕ → Edge → Edge → List Bool → ℤ
joined ns i fit out [] = pos 0
joined ns i fit out (x ∷ c) = cond x (edge_at ns (suc i) fit c) (edge_at ns (suc i) out c)

-- the edge e denotes one edge where part i is fitted, and another where it is left out
pub record Joined (ns : List Node) (i : ℕ) (fit out e : Edge) : Type 0 where
  pub from : From ns i e.child
  pub fitted : (c : List Bool) → edge_at ns i e (true ∷ c) ≡ edge_at ns (suc i) fit c
  pub left_out : (c : List Bool) → edge_at ns i e (false ∷ c) ≡ edge_at ns (suc i) out c

-- the question of an operation and two edges
abbrev pub question : Operation → Edge → Edge → Question
question op l r = record { operation = op; left = l; right = r }

-- each function that is needed for f, a function of m parts, is among ts
abbrev pub Allows : List (List ℤ) → ℕ → (List Bool → ℤ) → Type 0
Allows ts m f = (t : List ℤ) → In t (needed m f) → In t ts

-- the node of part i whose branches are two edges; the constant of the one left out moves to the edge that leads here
abbrev pub node_of : ℕ → Edge → Edge → Node
node_of i fit out = record { part = i; value = fit.constant -ℤ out.constant; left = fit.child; right = out.child }

-- j is the least part of the question's nodes
pub record Top (parts : ℕ) (ns : List Node) (q : Question) (j : ℕ) : Type 0 where
  pub low : j < parts
  pub left_in : From ns j q.left.child
  pub right_in : From ns j q.right.child
  pub most : (i : ℕ) → From ns i q.left.child → From ns i q.right.child → i ≤ j

-- a node of part i may be made of two edges
pub record Makes (parts : ℕ) (ns : List Node) (ts : List (List ℤ)) (i : ℕ) (fit out : Edge) : Type 0 where
  pub low : i < parts
  pub fit_in : From ns (suc i) fit.child
  pub out_in : From ns (suc i) out.child
  pub fit_small : unsigned_abs fit.constant ≤ 2 ^ 28
  pub out_small : unsigned_abs out.constant ≤ 2 ^ 28
  pub allowed : Allows ts (parts - i) (joined ns i fit out)

-- e answers q in every table that has its nodes
abbrev pub Answers : Question → Edge → Type 0
Answers q e = (parts : ℕ) (ns : List Node) → From ns 0 q.left.child → From ns 0 q.right.child → Right parts ns q e

-- q is not settled by its constants
abbrev pub Open : Question → Type 0
Open q = q.left.child ≡ Terminal → q.right.child ≡ Terminal → Fit q.operation q.left.constant q.right.constant → ⊥

-- the edge that is 1 or 0 at every choice
abbrev pub constant_edge : Bool → Edge
constant_edge b = record { constant = indicator b; child = Terminal }

-- times a constant 0 or 1, which is e
abbrev pub Known : Edge → Edge → Edge → Type 0
Known a b e = (a.child ≡ Terminal) × (((a.constant ≡ pos 0) × (e ≡ a)) ⊎ ((a.constant ≡ pos 1) × (e ≡ b)))

-- the edge to a new node at the place k, with the constant of the branch that leaves the part out
abbrev pub edge_to : Edge → ℕ → Edge
edge_to out k = record { constant = out.constant; child = Place k }

-- what is left of an edge to the node n where its part is fitted
abbrev pub fitted_edge : Edge → Node → Edge
fitted_edge e n = record { constant = e.constant +ℤ n.value; child = n.left }

-- what is left of an edge to the node n where its part is left out
abbrev pub left_out_edge : Edge → Node → Edge
left_out_edge e n = record { constant = e.constant; child = n.right }

-- r asks what q asks when part i is settled
pub record Settled (ns : List Node) (i : ℕ) (q : Question) (x : Bool) (r : Question) : Type 0 where
  pub operation_is : r.operation ≡ q.operation
  pub left : Cofactor ns i q.left x r.left
  pub right : Cofactor ns i q.right x r.right

-- an edge with a added to its constant
abbrev pub plus_edge : Edge → ℤ → Edge
plus_edge e a = record { constant = e.constant +ℤ a; child = e.child }

-- e is the sum of the parts from i up
pub record Sums (parts : ℕ) (ns : List Node) (ws : List ℤ) (i : ℕ) (e : Edge) : Type 0 where
  pub from : From ns i e.child
  pub equal : (c : List Bool) → i + length c ≡ parts → edge_at ns i e c ≡ sum (drop i ws) c

-- the node of a comparison's left edge is the sum of the parts from i up
abbrev pub Tail : ℕ → List Node → List ℤ → ℕ → Question → Type 0
Tail parts ns ws i q = (q.operation ≢ Times) → (c : List Bool) → i + length c ≡ parts → value ns i q.left.child c ≡ sum (drop i ws) c

-- e answers a comparison whose left edge's node has a value from low to high
pub record Decides (q : Question) (low high : ℤ) (e : Edge) : Type 0 where
  pub compares : q.operation ≡ Times → ⊥
  pub right_is : q.right.child ≡ Terminal
  pub child_is : e.child ≡ Terminal
  pub equal : (v : ℤ) → low ≤ℤ v → v ≤ℤ high → e.constant ≡ meaning q.operation (q.left.constant +ℤ v) q.right.constant
