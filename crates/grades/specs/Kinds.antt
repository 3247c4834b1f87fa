-- The three kinds of grade: mass, wait, and mass with price.
use Rattle.std.specs.Prelude.{ℕ, ◌+◌, max, Bool, ◌&&◌, ◌||◌, ℤ, pos, ◌+ℤ◌, int_le, int_lt, nat_le, unsigned_abs}
use Rattle.grades.specs.Laws.{Kind}

-- signed grams and a price
pub record Priced : Type 0 where
  pub grams : ℤ
  pub price : ℕ

-- so many grams at such a price
abbrev pub priced : ℤ → ℕ → Priced
priced g p = record { grams = g; price = p }

-- added place by place
abbrev pub priced_join : Priced → Priced → Priced
priced_join x y = priced (x.grams +ℤ y.grams) (x.price + y.price)

-- by grams, and by price among equal grams
abbrev pub priced_no_later : Priced → Priced → Bool
priced_no_later x y = int_lt x.grams y.grams || (int_le x.grams y.grams && nat_le x.price y.price)

-- the larger of the absolute grams and the price
abbrev pub priced_size : Priced → ℕ
priced_size x = max (unsigned_abs x.grams) x.price

-- mass: signed grams, joined by addition; the size is the absolute value
abbrev pub mass_kind : Kind ℤ
mass_kind = record { empty = pos 0; join = ◌+ℤ◌; no_later = int_le; size = unsigned_abs }

-- wait: days from 0, joined by taking the larger; the size is the days
abbrev pub wait_kind : Kind ℕ
wait_kind = record { empty = 0; join = max; no_later = nat_le; size = λ n. n }

-- mass with price
abbrev pub mass_price_kind : Kind Priced
mass_price_kind = record { empty = priced (pos 0) 0; join = priced_join; no_later = priced_no_later; size = priced_size }
