use Rattle.std.proofs.Common.{◌≡◌, ℕ, ◌-◌, ◌≤◌, List, ◌++◌, length}
use Rattle.limits.specs.declared.drafts.Term.{Term}
use Rattle.fields.specs.Fields.{found, and_then}
use Rattle.records.specs.Sheets.{read_terms}
use Rattle.records.proofs.payloads.all_terms.Given as goal

-- what is left to read, after the terms ts
abbrev pub invariant-loop-payload : goal.invariant-loop-payload
invariant-loop-payload l =
    (l.payload.at ≤ length l.payload.body.now) × (l.least ≤ 48)
    × ((n : ℕ) × (ts : List Term)
    × (length l.payload.body.now - l.payload.at ≤ n)
    × (read_terms (length l.fn.payload.body.now - l.fn.payload.at) l.fn.payload.body.now l.fn.payload.place 0 l.fn.payload.at
    ≡ and_then (read_terms n l.payload.body.now l.payload.place l.least l.payload.at) (λ us r. found (ts ++ us) r)))
    × (l.payload.body ≡ l.fn.payload.body)

abbrev pub decreases-loop-payload : goal.decreases-loop-payload
decreases-loop-payload l = length l.payload.body.now - l.payload.at
