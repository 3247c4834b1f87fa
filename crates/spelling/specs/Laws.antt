-- What a sheet's maker and its reader may rely on.
use Rattle.std.specs.Prelude.{◌≡◌, ℕ, ◌+◌, ◌-◌, ◌<◌, true, false, List, [], ◌++◌, length, take, drop}
use Rattle.limits.specs.Refusals.{done}
use Rattle.numbers.specs.Laws.{Bytes}
use Rattle.fields.specs.Fields.{found, among}
use Rattle.records.specs.declared.Stage.{Stage}
use Rattle.records.specs.Sheets.{Saying, part_says, limit_says, goal_says, end_says, allowed, read_record}
use Rattle.spelling.specs.Spelling.{sense_kind, spelled}
use Rattle.spelling.specs.Judging.{judge}

-- a record may stand after what came, and before `rest`: its kind may come, a part's name is new and not the forty-ninth,
-- and nothing follows the end
abbrev pub MayStand : Stage → List (List ℕ) → List ℕ → Saying → Type 0
MayStand stage names rest (part_says name mass wait price) = (allowed stage 1 ≡ true) × (length names < 48) × (among names name ≡ false)
MayStand stage names rest (limit_says sense bound terms) = allowed stage (sense_kind sense) ≡ true
MayStand stage names rest (goal_says goal) = allowed stage 4 ≡ true
MayStand stage names rest end_says = rest ≡ []

-- what may be written reads back the same, in every sheet that lets it stand there
abbrev pub ReadsBack : Type 0
ReadsBack =
    (stage : Stage) (names : List (List ℕ)) (before rest : List ℕ) (s : Saying) → judge s ≡ done → MayStand stage names rest s
    → read_record stage names (before ++ (spelled s ++ rest)) (length before) ≡ found s (length before + length (spelled s))

-- what reads as a record is that record's one spelling
abbrev pub OneSpelling : Type 0
OneSpelling =
    (stage : Stage) (names : List (List ℕ)) (sheet : List ℕ) (at next : ℕ) (s : Saying) → Bytes sheet
    → read_record stage names sheet at ≡ found s next → take (next - at) (drop at sheet) ≡ spelled s

-- what was written from `at` up to `end` reads back, whatever may follow it and wherever it may stand
abbrev pub BackIn : Saying → List ℕ → ℕ → ℕ → Type 0
BackIn s bytes at end =
    (stage : Stage) (names : List (List ℕ)) (rest : List ℕ) → MayStand stage names rest s
    → read_record stage names (take end bytes ++ rest) at ≡ found s end
