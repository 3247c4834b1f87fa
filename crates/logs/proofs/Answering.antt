-- Why the answers of a log are right.
use Rattle.std.proofs.Common.{◌≡◌, ℕ, Bool, List, Some, None, Option, subst, arith}
use Rattle.limits.specs.declared.Limit.{Limit}
use Rattle.limits.specs.Limits.{keeps_all}
use Rattle.grades.specs.Laws.{Kind, Laws}
use Rattle.grades.specs.Rule.{best, chosen}
use Rattle.grades.specs.Optimal.{Answers, Settled}
use Rattle.grades.proofs.Optimal.{rule_is_first_lem, rule_settles_lem}
use Rattle.solving.specs.Settling as settling
use Rattle.solving.specs.declared.Answer.{Answer}
use Rattle.logs.specs.Logs.{Finds}

module _ {V G : Type 0} (k : Kind V) (laws : Laws k) (means : G → V) (vs : List V) (ls : List Limit) where
  chosen_is : (c : List Bool) (o : Option V) → elim o as (λ _. Option (List Bool)) [ None ↦ None | Some g ↦ Some (chosen k vs (keeps_all ls)) ] ≡ Some c → chosen k vs (keeps_all ls) ≡ c
  chosen_is c None e = let z : ◌≡◌ {A = ℕ} 0 1 = cc in absurd (omega arith)
  chosen_is c (Some g) e = cc

  -- what the rule answers is first among the choices that keep all limits, and settled
  pub finds : (o : Option (Answer G)) → settling.Solved k means vs (keeps_all ls) o → Finds k means vs ls o
  finds None h = subst (Answers k vs (keeps_all ls)) h (rule_is_first_lem k laws vs (keeps_all ls))
  finds (Some a) (c, e, w, g) = (
    c,
    subst (Answers k vs (keeps_all ls)) e (rule_is_first_lem k laws vs (keeps_all ls)),
    subst (Settled k vs (keeps_all ls)) (chosen_is c (best k vs (keeps_all ls)) e) (rule_settles_lem k laws vs (keeps_all ls)),
    w,
    g,
  )
