-- The least and the greatest sum of the parts from each up.
use Rattle.std.specs.Prelude.{◌≡◌, ℕ, zero, suc, ◌-◌, ◌^◌, ◌≤◌, cond, List, length, ℤ, pos, ◌+ℤ◌, int_lt, slice_index_or, unsigned_abs}
use Rattle.questions.specs.declared.Range.{Range}

-- the range of the sum of no part
abbrev pub no_range : Range
no_range = record { low = pos 0; high = pos 0 }

-- with one coefficient more
abbrev pub wider : Range → ℤ → Range
wider g a = cond (int_lt a (pos 0)) (record { low = g.low +ℤ a; high = g.high }) (record { low = g.low; high = g.high +ℤ a })

-- the range of the sum of n parts from i up
abbrev pub range_from : List ℤ → ℕ → ℕ → Range
range_from ws i zero = no_range
range_from ws i (suc n) = wider (range_from ws (suc i) n) (slice_index_or ws i (pos 0))

-- the ranges from i up are those of the sums
abbrev pub RangesAre : ℕ → List ℤ → ℕ → List Range → Type 0
RangesAre parts ws i rs = (j : ℕ) → i ≤ j → j ≤ parts → slice_index_or rs j no_range ≡ range_from ws j (parts - j)

-- the ranges of these coefficients may be made
pub record CanRange (parts : ℕ) (ws : List ℤ) : Type 0 where
  pub few : parts ≤ 48
  pub long : parts ≤ length ws
  pub small : (i : ℕ) → unsigned_abs (slice_index_or ws i (pos 0)) ≤ 1000000

-- both ends are small
abbrev pub SmallRange : Range → Type 0
SmallRange g = (unsigned_abs g.low ≤ 2 ^ 28) × (unsigned_abs g.high ≤ 2 ^ 28)
