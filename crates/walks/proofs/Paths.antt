-- What holds between two turns of the walk and of the sum, and how much is left to do.
use Rattle.std.proofs.Common.{◌≡◌, ℕ, zero, suc, ◌+◌, ◌-◌, ◌*◌, ◌≤◌, Bool, true, false, List, [], ◌∷◌, length, ℤ, IfSome, Some, None, Option, MatchOption}
use Rattle.diagrams.specs.declared.Edge.{Edge}
use Rattle.diagrams.specs.declared.Question.{Question}
use Rattle.diagrams.specs.Apply.{Asked, Settled, Right, Sums}
use Rattle.tables.specs.declared.NodeTable.{NodeTable}
use Rattle.tables.specs.Places.{made, Grew}
use Rattle.walks.specs.declared.Frame.{Frame}
use Rattle.walks.specs.Stack.{Opening}

-- the part of the question that is asked next, at least
abbrev pub level : List Frame → ℕ
level [] = 0
level (f ∷ fs) = suc f.part

-- whether the part is fitted in the question that is awaited
abbrev pub awaits : Option Edge → Bool
awaits None = true
awaits (Some e) = false

-- what a frame has of the question with its part fitted
abbrev pub FitHeld : ℕ → NodeTable → Frame → Type 0
FitHeld parts t f = IfSome f.fit (λ e. (q : Question) × Settled (made t) f.part f.question true q × Right parts (made t) q e)

-- the open question f, above those below it, awaits the answer to q
pub record Awaits (parts : ℕ) (ts : List (List ℤ)) (t : NodeTable) (below : List Frame) (f : Frame) (q : Question) : Type 0 where
  pub opened : Opening parts ts t f.question f.part
  pub deep : length below ≤ f.part
  pub above : level below ≤ f.part
  pub settled : Settled (made t) f.part f.question (awaits f.fit) q
  pub fit_held : FitHeld parts t f

-- each open question awaits the one above it, and the newest awaits q
abbrev pub Path : ℕ → List (List ℤ) → NodeTable → Question → List Frame → Question → Type 0
Path parts ts t root [] q = q ≡ root
Path parts ts t root (f ∷ fs) q = Awaits parts ts t fs f q × Path parts ts t root fs f.question

-- between two turns of the walk from root: what is open, what is asked, and its answer if it is there
pub record Walking (parts : ℕ) (ts : List (List ℤ)) (t₀ t : NodeTable) (root : Question) (fs : List Frame) (q : Question) (answer : Option Edge) : Type 0 where
  pub grew : Grew parts ts t₀ t
  pub path : Path parts ts t root fs q
  pub state : MatchOption answer (Asked parts (made t) ts (level fs) q) (λ e. Right parts (made t) q e)

-- turns that a question of r parts takes at most
abbrev pub cost : ℕ → ℕ
cost zero = 1
cost (suc r) = 3 + 2 * cost r

-- turns that an open question takes yet
abbrev pub rest : ℕ → Frame → ℕ
rest parts f = elim f.fit [ None ↦ 2 + cost (parts - suc f.part) | Some e ↦ 1 ]

abbrev pub rests : ℕ → List Frame → ℕ
rests parts [] = 0
rests parts (f ∷ fs) = rest parts f + rests parts fs

-- turns that are left at most
abbrev pub left_to_do : ℕ → List Frame → Option Edge → ℕ
left_to_do parts fs answer = elim answer [ None ↦ cost (parts - level fs) | Some e ↦ 0 ] + rests parts fs

-- the table grew, and has the sum of the parts from i up
pub record Summing (parts : ℕ) (ts : List (List ℤ)) (t t' : NodeTable) (ws : List ℤ) (i : ℕ) (e : Edge) : Type 0 where
  pub low : i ≤ parts
  pub grew : Grew parts ts t t'
  pub edge : Sums parts (made t') ws i e
