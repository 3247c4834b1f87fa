-- What the types of the code mean.
use Rattle.std.specs.Prelude.{◌≡◌, ℕ, ◌<◌, ◌≤◌, List, map, length, Result, MatchResult}
use Rattle.std.specs.Borrow.{Bor}
use Rattle.fields.specs.declared.Fault.{Fault}
use Rattle.fields.specs.declared.Payload.{Payload}
use Rattle.fields.specs.Faults.{reason_number, layer_number}
use Rattle.fields.specs.Fields.{Answer, found, fault}

abbrev pub fault_of : {A : Type 0} → Fault → Answer A
fault_of f = fault (reason_number f.reason) (layer_number f.layer) f.place

-- a field is read as its definition says, to a place after it that is in the body; `view` is what a value is read as.
-- A refusal leaves the body and the record's place as they were; the place that is read next may have moved before it
abbrev pub ReadsBy : {A B : Type 0} → (A → B) → Answer B → Payload → Payload → Result A Fault → Type 0
ReadsBy view answer was is r = MatchResult r
    (λ v. (answer ≡ found (view v) is.at) × (was.at < is.at) × (is.at ≤ length is.body.now) × (is.body ≡ was.body) × (is.place ≡ was.place))
    (λ f. (answer ≡ fault_of f) × (is.body ≡ was.body) × (is.place ≡ was.place))

abbrev pub Reads : {A : Type 0} → Answer A → Payload → Payload → Result A Fault → Type 0
Reads answer was is r = ReadsBy (λ v. v) answer was is r

-- what is read from a payload, where it stands
abbrev pub read_from : {A : Type 0} → (List ℕ → ℕ → ℕ → A) → Payload → A
read_from read p = read p.body.now p.place p.at

-- what references to names hold
abbrev pub contents : List (Bor (List ℕ)) → List (List ℕ)
contents names = map (λ n. n.now) names
