-- The limit that a close's terms make.
use Rattle.std.specs.Prelude.{ℕ, Bool, ◌&&◌, List, Option, nat_le, unsigned_abs}
use Rattle.limits.specs.declared.Limit.{Limit}
use Rattle.limits.specs.declared.drafts.Term.{Term}
use Rattle.limits.specs.declared.drafts.Side.{Side}
use Rattle.limits.specs.Drafts.{opened, with_terms}
use Rattle.jobs.specs.Calls.{named_below}

-- the highest part that the draft of these terms names
abbrev pub named : List Term → Option ℕ
named ts = (with_terms opened ts).last

-- the limit that the draft of these terms becomes
abbrev pub limit_of : List Term → Side → Limit
limit_of ts side = record { coefficients = (with_terms opened ts).coefficients; sense = side.sense; bound = side.bound }

-- a limit is sound among so many parts: its bound is in range, and no term names a part that is not there, whatever its coefficient
abbrev pub sound : ℕ → List Term → Side → Bool
sound parts ts side = nat_le (unsigned_abs side.bound) 100000000 && named_below (named ts) parts
