-- How a sheet is read, one record at a place. Each definition here can be computed.
use Rattle.std.specs.Prelude.{ℕ, zero, suc, ◌+◌, ◌-◌, Bool, cond, not, ◌&&◌, List, [], ◌∷◌, ◌++◌, length, take, ℤ, ◌==◌, nat_le, nat_lt}
use Rattle.limits.specs.declared.Sense.{Sense}
use Rattle.limits.specs.declared.Sense.TheVariants.{AtMost, AtLeast}
use Rattle.limits.specs.declared.drafts.Term.{Term}
use Rattle.fields.specs.Fields.{Answer, found, fault, and_then, number_at, signed_at, read_name, read_mass, read_amount, read_term}
use Rattle.records.specs.declared.Stage.{Stage}
use Rattle.records.specs.declared.Stage.TheVariants.{Parts, Limits, End}
use Rattle.records.specs.declared.Goal.{Goal}
use Rattle.records.specs.Codes.{goal_of}

-- what a record says
pub data Saying : Type 0 where
  part_says : List ℕ → ℤ → ℕ → ℕ → Saying
  limit_says : Sense → ℤ → List Term → Saying
  goal_says : Goal → Saying
  end_says : Saying

-- Below, `body` is the sheet up to the end of the record's payload, `at` the place of the record's first byte,
-- and `p` the place that is read.

-- the record ends where its payload does
abbrev pub ended : List ℕ → ℕ → Saying → ℕ → Answer Saying
ended body at s p = cond (p == length body) (found s p) (fault 4 2 at)

-- a part's mass, wait and price, after its name
abbrev pub read_named_part : List ℕ → List ℕ → ℕ → ℕ → Answer Saying
read_named_part name body at p =
    and_then (read_mass body at p) (λ mass p₁.
    and_then (read_amount body at p₁) (λ wait p₂.
    and_then (read_amount body at p₂) (λ price p₃.
    ended body at (part_says name mass wait price) p₃)))

-- a part is not the forty-ninth (7)
abbrev pub read_part : List (List ℕ) → List ℕ → ℕ → ℕ → Answer Saying
read_part names body at p =
    cond (nat_lt (length names) 48) (and_then (read_name names body at p) (λ name q. read_named_part name body at q)) (fault 7 2 at)

-- terms to the payload's end; a term takes a byte or more, so as many as there are bytes is enough
unfoldable pub read_terms : ℕ → List ℕ → ℕ → ℕ → ℕ → Answer (List Term)
read_terms zero body at least p = found [] p
read_terms (suc more) body at least p =
    cond (nat_lt p (length body))
    (and_then (read_term body at least p) (λ t q.
    and_then (read_terms more body at (t.part + 1) q) (λ ts r. found (t ∷ ts) r)))
    (found [] p)

-- a limit's bound is read and not judged
abbrev pub read_limit : Sense → List ℕ → ℕ → ℕ → Answer Saying
read_limit sense body at p =
    and_then (signed_at body p) (λ v q.
    and_then (read_terms (length body - q) body at 0 q) (λ ts r. found (limit_says sense v ts) r))

abbrev pub read_goal : List ℕ → ℕ → ℕ → Answer Saying
read_goal body at p =
    and_then (number_at body p) (λ v q. cond (nat_le v 2) (ended body at (goal_says (goal_of v)) q) (fault 6 2 at))

-- kinds: 0 the end, 1 a part, 2 a limit at most, 3 a limit at least, 4 a goal
abbrev pub sense_of : ℕ → Sense
sense_of kind = cond (kind == 3) AtLeast AtMost

-- parts come first, then limits, then at most one goal, then the end
abbrev pub allowed : Stage → ℕ → Bool
allowed Parts kind = nat_lt kind 5
allowed Limits kind = nat_lt kind 5 && not (kind == 1)
allowed End kind = kind == 0

-- bytes after the end record are left over in that record, so it is the sheet's end that ends it
abbrev pub read_payload : ℕ → List (List ℕ) → List ℕ → List ℕ → ℕ → ℕ → Answer Saying
read_payload kind names sheet body at p =
    cond (kind == 0) (ended sheet at end_says p)
    (cond (kind == 1) (read_part names body at p)
    (cond (kind == 4) (read_goal body at p)
    (read_limit (sense_of kind) body at p)))

-- a record's kind is one that may come (3)
abbrev pub read_kind : Stage → List ℕ → ℕ → Answer ℕ
read_kind stage sheet at = and_then (number_at sheet at) (λ kind p. cond (allowed stage kind) (found kind p) (fault 3 2 at))

-- a payload does not run past the sheet (4)
abbrev pub read_length : List ℕ → ℕ → ℕ → Answer ℕ
read_length sheet at p = and_then (number_at sheet p) (λ size q. cond (nat_le (q + size) (length sheet)) (found size q) (fault 4 2 at))

-- the record at `at`, whose kind is known and whose payload's length stands at p
abbrev pub read_sized : ℕ → List (List ℕ) → List ℕ → ℕ → ℕ → Answer Saying
read_sized kind names sheet at p =
    and_then (read_length sheet at p) (λ size q. read_payload kind names sheet (take (q + size) sheet) at q)

-- the record at a place, where the stage and the names are those of what came before it
abbrev pub read_record : Stage → List (List ℕ) → List ℕ → ℕ → Answer Saying
read_record stage names sheet at =
    and_then (read_kind stage sheet at) (λ kind p. read_sized kind names sheet at p)

-- which records may come once a record is read
abbrev pub stage_after : Stage → Saying → Stage
stage_after stage (part_says name mass wait price) = Parts
stage_after stage (limit_says sense bound terms) = Limits
stage_after stage (goal_says goal) = End
stage_after stage end_says = stage

-- the names of the parts once a record is read
abbrev pub names_after : List (List ℕ) → Saying → List (List ℕ)
names_after names (part_says name mass wait price) = names ++ (name ∷ [])
names_after names (limit_says sense bound terms) = names
names_after names (goal_says goal) = names
names_after names end_says = names
