-- What a sheet says. Each definition here can be computed.
use Rattle.std.specs.Prelude.{ℕ, zero, suc, min, cond, List, [], ◌∷◌, ◌++◌, map, length, replicate, ℤ, pos, Some, None, Option, nat_le, slice_set}
use Rattle.limits.specs.declared.Limit.{Limit}
use Rattle.limits.specs.declared.Sense.{Sense}
use Rattle.limits.specs.declared.drafts.Term.{Term}
use Rattle.limits.specs.Refusals.{Reply, done, refused}
use Rattle.grades.specs.Kinds.{Priced, priced}
use Rattle.records.specs.declared.Goal.{Goal}
use Rattle.records.specs.declared.Goal.TheVariants.{Mass}
use Rattle.records.specs.declared.Stage.{Stage}
use Rattle.records.specs.declared.Stage.TheVariants.{Parts}
use Rattle.fields.specs.Fields.{Answer, found, fault}
use Rattle.records.specs.Sheets.{Saying, part_says, limit_says, goal_says, end_says, read_record, stage_after, names_after}
use Rattle.jobs.specs.Calls.{standing, closed}

-- a part, but for its name
pub record Part : Type 0 where
  pub mass : ℤ
  pub wait : ℕ
  pub price : ℕ

-- the weights of parts by mass, by wait, and by mass with price
abbrev pub masses_of : List Part → List ℤ
masses_of ps = map (λ (p : Part). p.mass) ps

abbrev pub waits_of : List Part → List ℕ
waits_of ps = map (λ (p : Part). p.wait) ps

abbrev pub costs_of : List Part → List Priced
costs_of ps = map (λ (p : Part). priced p.mass p.price) ps

-- what the records read so far say
pub record Told : Type 0 where
  pub stage : Stage
  pub names : List (List ℕ)
  pub parts : List Part
  pub limits : List Limit
  pub goal : Goal

-- before any record; without a goal record the goal is mass
abbrev pub untold : Told
untold = record { stage = Parts; names = []; parts = []; limits = []; goal = Mass }

-- a limit's coefficients: those that its terms name
abbrev pub filled : List ℤ → List Term → List ℤ
filled cs [] = cs
filled cs (t ∷ ts) = filled (slice_set cs t.part t.coefficient) ts

-- the highest part that a term names, whatever its coefficient: as parts rise, the last
abbrev pub highest : Option ℕ → List Term → Option ℕ
highest o [] = o
highest o (t ∷ ts) = highest (Some t.part) ts

-- the limit that a record says: 0 for each part that no term names
abbrev pub limit_of : Sense → ℤ → List Term → Limit
limit_of sense bound ts = record { coefficients = filled (replicate 48 (pos 0)) ts; sense = sense; bound = bound }

-- the limit is closed among the parts of the sheet so far, after the limits before it
abbrev pub close_reply : ℕ → Told → Sense → ℤ → List Term → Reply
close_reply room t sense bound ts =
    closed room (standing (length t.parts) t.limits) (highest None ts) (limit_of sense bound ts)

-- what is said once a record is read
abbrev pub after_record : Told → Saying → Told
after_record t (part_says name mass wait price) =
    record { stage = stage_after t.stage (part_says name mass wait price); names = names_after t.names (part_says name mass wait price); parts = t.parts ++ (record { mass = mass; wait = wait; price = price } ∷ []); limits = t.limits; goal = t.goal }
after_record t (limit_says sense bound ts) =
    record { stage = stage_after t.stage (limit_says sense bound ts); names = names_after t.names (limit_says sense bound ts); parts = t.parts; limits = t.limits ++ (limit_of sense bound ts ∷ []); goal = t.goal }
after_record t (goal_says goal) =
    record { stage = stage_after t.stage (goal_says goal); names = names_after t.names (goal_says goal); parts = t.parts; limits = t.limits; goal = goal }
after_record t end_says = t

-- what reading one record comes to: a fault's number, layer and place, all that the sheet says, or that it goes on at a place
pub data Step : Type 0 where
  broken : ℕ → ℕ → ℕ → Step
  ended : Told → Step
  goes_on : Told → ℕ → Step

abbrev pub on_reply : Reply → ℕ → Step → Step
on_reply done at s = s
on_reply (refused n) at s = broken n 3 at

-- a limit is closed at once, and a refusal is a fault of layer 3 at the record's first byte
abbrev pub on_record : ℕ → Told → ℕ → Answer Saying → Step
on_record room t at (fault n l p) = broken n l p
on_record room t at (found (part_says name mass wait price) next) = goes_on (after_record t (part_says name mass wait price)) next
on_record room t at (found (limit_says sense bound ts) next) =
    on_reply (close_reply room t sense bound ts) at (goes_on (after_record t (limit_says sense bound ts)) next)
on_record room t at (found (goal_says goal) next) = goes_on (after_record t (goal_says goal)) next
on_record room t at (found end_says next) = ended (after_record t end_says)

abbrev pub one_step : ℕ → List ℕ → Told → ℕ → Step
one_step room sheet t at = on_record room t at (read_record t.stage t.names sheet at)

-- what reading all records comes to: all that the sheet says, or its first fault with its number, layer, record and place
pub data Reading : Type 0 where
  whole : Told → Reading
  faulty : ℕ → ℕ → ℕ → ℕ → Reading

-- records are counted by i. A record takes a byte or more, so more turns than bytes are enough
unfoldable pub read_all : ℕ → ℕ → List ℕ → ℕ → Told → ℕ → Reading
read_all zero room sheet i t at = faulty 1 1 i at
read_all (suc more) room sheet i t at =
    elim (one_step room sheet t at) [
      | broken n l p ↦ faulty n l i p
      | ended u ↦ whole u
      | goes_on u next ↦ read_all more room sheet (suc i) u next
    ]

-- all that a sheet says, where the node table has so many places, of which the first 60,000 count. 16 is tested first
abbrev pub read_sheet : List ℕ → ℕ → Reading
read_sheet sheet places =
    cond (nat_le (length sheet) 32768) (read_all (suc (length sheet)) (min places 60000) sheet 0 untold 0) (faulty 16 3 0 0)
