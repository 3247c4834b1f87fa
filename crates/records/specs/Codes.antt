-- The codes of goals and of kinds.
use Rattle.std.specs.Prelude.{◌≡◌, ℕ, zero, suc, ◌<◌, Result, MatchResult}
use Rattle.limits.specs.declared.Sense.TheVariants.{AtMost, AtLeast}
use Rattle.records.specs.declared.Goal.{Goal}
use Rattle.records.specs.declared.Goal.TheVariants.{Mass, Wait, MassPrice}
use Rattle.records.specs.declared.UnknownCode.{UnknownCode}
use Rattle.records.specs.declared.Kind.{Kind}
use Rattle.records.specs.declared.Kind.TheVariants.{End, Part, Limit, Goal as GoalKind}

abbrev pub goal_code : Goal → ℕ
goal_code Mass = 0
goal_code Wait = 1
goal_code MassPrice = 2

-- the goal of a code, which is at most 2
abbrev pub goal_of : ℕ → Goal
goal_of zero = Mass
goal_of (suc zero) = Wait
goal_of (suc (suc n)) = MassPrice

abbrev pub kind_code : Kind → ℕ
kind_code End = 0
kind_code Part = 1
kind_code (Limit AtMost) = 2
kind_code (Limit AtLeast) = 3
kind_code GoalKind = 4

-- the result is the goal of the code, or the code names none
abbrev pub GoalOf : ℕ → Result Goal UnknownCode → Type 0
GoalOf code r = MatchResult r (λ g. (goal_code g ≡ code) × (g ≡ goal_of code)) (λ e. (2 < code) × (e.0 ≡ code))

-- the result is the kind that has the code, or the code names none
abbrev pub KindOf : ℕ → Result Kind UnknownCode → Type 0
KindOf code r = MatchResult r (λ k. kind_code k ≡ code) (λ e. (4 < code) × (e.0 ≡ code))
