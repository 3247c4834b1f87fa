-- What writing a record does to the bytes that it is written into.
use Rattle.std.specs.Prelude.{◌≡◌, ℕ, ◌+◌, ◌-◌, ◌≤◌, List, length, Ok, Err, Result, MatchResult}
use Rattle.std.proofs.lemmas.List.Edits.{sets}
use Rattle.std.specs.Borrow.{Bor}
use Rattle.limits.specs.declared.drafts.Term.{Term}
use Rattle.limits.specs.Refusals.{Reply, done, refused}
use Rattle.records.specs.declared.Part.{Part}
use Rattle.records.specs.declared.Record.{Record}
use Rattle.records.specs.Meanings.{says}
use Rattle.records.specs.Sheets.{Saying, part_says}
use Rattle.spelling.specs.Spelling.{payload, spelled}
use Rattle.spelling.specs.Judging.{refusal_of}
use Rattle.recording.specs.declared.Refusal.{Refusal}
use Rattle.recording.specs.declared.Refusal.TheVariants.{BadName, PartOutOfRange, PartNotRising, OutOfRange, OutputShort}

abbrev pub refusal_number : Refusal → ℕ
refusal_number BadName = 5
refusal_number PartOutOfRange = 7
refusal_number PartNotRising = 8
refusal_number OutOfRange = 9
refusal_number OutputShort = 13

-- the reply that a result is
abbrev pub told : {A : Type 0} → Result A Refusal → Reply
told (Ok x) = done
told (Err e) = refused (refusal_number e)

-- what an entry says
abbrev pub saying : Record (Bor (List Term)) → Saying
saying e = says (λ terms. terms.now) e

-- the payload of a part
abbrev pub part_payload : Part → List ℕ
part_payload p = payload (part_says p.name.now p.mass p.wait p.price)

-- a record is written from `at` up to the place that is answered, and all other bytes are left; or it is refused, and all are left
abbrev pub Appended : Saying → List ℕ → ℕ → List ℕ → Result ℕ Refusal → Type 0
Appended s was at is answer = MatchResult answer
    (λ end. (refusal_of s (length was - at) ≡ done) × (is ≡ sets was at (spelled s)) × (end ≡ at + length (spelled s)) × (end ≤ length was))
    (λ e. (refusal_of s (length was - at) ≡ refused (refusal_number e)) × (is ≡ was))

-- where a record that is written ends, which is at a place; or it is refused
abbrev pub ended : Result (Unit {0}) Refusal → ℕ → Result ℕ Refusal
ended (Ok _) at = Ok at
ended (Err e) at = Err e
