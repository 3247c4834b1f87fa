-- What a kind of grade is, and the laws that it keeps.
use Rattle.std.specs.Prelude.{◌≡◌, ℕ, ◌+◌, ◌≤◌, Bool, true, false}

-- a kind of grade over the grades G: the empty grade, the join, whether one ranks no later than another, and the size
pub record Kind (G : Type 0) : Type 0 where
  pub empty : G
  pub join : G → G → G
  pub no_later : G → G → Bool
  pub size : G → ℕ

-- the laws of a kind, for all its grades
pub record Laws {G : Type 0} (K : Kind G) : Type 0 where
  -- of two grades one ranks no later than the other
  pub total : (x y : G) → K.no_later x y ≡ false → K.no_later y x ≡ true
  -- what ranks no later than a grade ranks no later than all that follow it
  pub transitive : (x y z : G) → K.no_later x y ≡ true → K.no_later y z ≡ true → K.no_later x z ≡ true
  -- two grades that each rank no later than the other are equal
  pub equal : (x y : G) → K.no_later x y ≡ true → K.no_later y x ≡ true → x ≡ y
  -- the join is associative
  pub associative : (x y z : G) → K.join (K.join x y) z ≡ K.join x (K.join y z)
  -- joining the empty grade on the left alters nothing
  pub empty_left : (x : G) → K.join K.empty x ≡ x
  -- nor on the right
  pub empty_right : (x : G) → K.join x K.empty ≡ x
  -- joining z on the left of both keeps the order
  pub join_left : (z x y : G) → K.no_later x y ≡ true → K.no_later (K.join z x) (K.join z y) ≡ true
  -- and so does joining z on the right of both
  pub join_right : (x y z : G) → K.no_later x y ≡ true → K.no_later (K.join x z) (K.join y z) ≡ true
  -- the empty grade has size 0
  pub size_empty : K.size K.empty ≡ 0
  -- a join's size is at most the two sizes added up
  pub size_join : (x y : G) → K.size (K.join x y) ≤ K.size x + K.size y
