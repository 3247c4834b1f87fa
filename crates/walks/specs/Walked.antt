-- What may be asked of a table, and what the walk and the sum leave.
use Rattle.std.specs.Prelude.{ℕ, ◌≤◌, List, length, ℤ, pos, Option, MatchOption, slice_index_or, unsigned_abs}
use Rattle.limits.specs.Limits.{sum}
use Rattle.diagrams.specs.declared.Edge.{Edge}
use Rattle.diagrams.specs.declared.Question.{Question}
use Rattle.diagrams.specs.Apply.{Asked, Right, Sums, Allows}
use Rattle.tables.specs.declared.NodeTable.{NodeTable}
use Rattle.tables.specs.Places.{made, Grew, Table, TooFew}

-- q may be asked of the table at part i
abbrev pub CanAsk : ℕ → NodeTable → ℕ → Question → Type 0
CanAsk parts t i q = (ts : List (List ℤ)) × Table parts ts t × Asked parts (made t) ts i q

-- the table grew, and has the answer to q or too few places
pub record Walked (parts : ℕ) (ts : List (List ℤ)) (t t' : NodeTable) (q : Question) (r : Option Edge) : Type 0 where
  pub grew : Grew parts ts t t'
  pub answer : MatchOption r (TooFew ts t') (λ e. Right parts (made t') q e)

-- the sum of these coefficients may be made
pub record CanSum (parts : ℕ) (t : NodeTable) (ws : List ℤ) : Type 0 where
  pub few : parts ≤ length ws
  pub small : (i : ℕ) → unsigned_abs (slice_index_or ws i (pos 0)) ≤ 1000000
  pub ts : List (List ℤ)
  pub table : Table parts ts t
  pub allows : Allows ts parts (sum ws)

-- the table grew, and has the sum or too few places
pub record Summed (parts : ℕ) (ts : List (List ℤ)) (t t' : NodeTable) (ws : List ℤ) (r : Option Edge) : Type 0 where
  pub grew : Grew parts ts t t'
  pub edge : MatchOption r (TooFew ts t') (λ e. Sums parts (made t') ws 0 e)
