-- A kind of grade of a maker's own: costs added up, and the longest wait to settle between equal costs.
use Rattle.std.specs.Prelude.{ℕ, ◌+◌, max, Bool, ◌&&◌, ◌||◌, nat_le, nat_lt}
use Rattle.grades.specs.Laws.{Kind}

-- a cost, and the days until the last part comes
pub record Bought : Type 0 where
  pub cents : ℕ
  pub days : ℕ

-- so many cents and days
abbrev pub bought : ℕ → ℕ → Bought
bought c d = record { cents = c; days = d }

-- the costs are added up, and the longer wait stays
abbrev pub bought_join : Bought → Bought → Bought
bought_join x y = bought (x.cents + y.cents) (max x.days y.days)

-- by cost, and by days among equal costs
abbrev pub bought_no_later : Bought → Bought → Bool
bought_no_later x y = nat_lt x.cents y.cents || (nat_le x.cents y.cents && nat_le x.days y.days)

-- the larger of the cost and the days
abbrev pub bought_size : Bought → ℕ
bought_size x = max x.cents x.days

-- the kind: cost first, then the wait
abbrev pub cost_wait_kind : Kind Bought
cost_wait_kind = record { empty = bought 0 0; join = bought_join; no_later = bought_no_later; size = bought_size }
