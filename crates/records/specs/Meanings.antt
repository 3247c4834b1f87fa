-- What the types of the code mean.
use Rattle.std.specs.Prelude.{◌≡◌, ℕ, ◌+◌, ◌-◌, ◌<◌, ◌≤◌, cond, List, [], ◌∷◌, length, MatchOption, Some, None, Option, Result, MatchResult, nat_lt}
use Rattle.std.specs.Borrow.{Bor}
use Rattle.limits.specs.declared.drafts.Term.{Term}
use Rattle.records.specs.declared.Reader.{Reader}
use Rattle.records.specs.declared.Record.{Record}
use Rattle.records.specs.declared.Terms.{Terms}
use Rattle.records.specs.declared.Record.TheVariants.{Part, Limit, Goal, End}
use Rattle.fields.specs.declared.Fault.{Fault}
use Rattle.fields.specs.declared.Payload.{Payload}
use Rattle.fields.specs.Fields.{Answer, found, fault, read_term}
use Rattle.fields.specs.Meanings.{fault_of, contents}
use Rattle.records.specs.Sheets.{Saying, part_says, limit_says, goal_says, end_says, read_terms}

abbrev pub terms_of : Answer (List Term) → List Term
terms_of (found ts p) = ts
terms_of (fault n l p) = []

-- the terms from a payload's place to its end
abbrev pub terms_from : Payload → Answer (List Term)
terms_from p = read_terms (length p.body.now - p.at) p.body.now p.place 0 p.at

-- the terms that stand in a part of the sheet
abbrev pub terms_in : List ℕ → List Term
terms_in bytes = terms_of (read_terms (length bytes) bytes 0 0 0)

-- what a record says, where `terms` reads a limit's terms
abbrev pub says : {T : Type 0} → (T → List Term) → Record T → Saying
says terms (Part p) = part_says p.name.now p.mass p.wait p.price
says terms (Limit sense bound ts) = limit_says sense bound (terms ts)
says terms (Goal goal) = goal_says goal
says terms End = end_says

-- what a record that was read says
abbrev pub said : Record (Bor (List ℕ)) → Saying
said r = says (λ bytes. terms_in bytes.now) r

-- the names of the parts that a reader has read
abbrev pub held_names : Reader → List (List ℕ)
held_names r = contents r.names.items

-- `ts` are the terms that are left to read in a list of terms, from a place of it on
abbrev pub LeftIn : List ℕ → ℕ → ℕ → List Term → Type 0
LeftIn bytes least at ts = (n : ℕ) × (length bytes - at ≤ n) × (read_terms n bytes 0 least at ≡ found ts (length bytes))

-- what else is known of a record that is read after n parts: a part is not the forty-ninth, and a limit's terms read to their end
abbrev pub Shows : Record (Bor (List ℕ)) → ℕ → Type 0
Shows (Part p) n = n < 48
Shows (Limit sense bound terms) n = LeftIn terms.now 0 0 (terms_in terms.now)
Shows (Goal goal) n = Unit {0}
Shows End n = Unit {0}

-- a record is read as its definition says, up to a place; `Known` is what else is known of it
abbrev pub ReadsRecord : Answer Saying → ℕ → (Record (Bor (List ℕ)) → Type 0) → Result (Record (Bor (List ℕ))) Fault → Type 0
ReadsRecord answer end Known r = MatchResult r (λ p. (answer ≡ found (said p) end) × Known p) (λ f. answer ≡ fault_of f)

abbrev pub term_of : Answer Term → Option Term
term_of (found t p) = Some t
term_of (fault n l p) = None

-- the next term from a place on: none at the end, and none where no term stands
abbrev pub next_term : List ℕ → ℕ → ℕ → Option Term
next_term bytes least at = cond (nat_lt at (length bytes)) (term_of (read_term bytes 0 least at)) None

-- what the next term is, and what is left after it
pub record GivesTerm (was : Terms) (result : Option Term) (next : Terms) : Type 0 where
  pub is : result ≡ next_term was.payload.body.now was.least was.payload.at
  pub moves : MatchOption result
      (next ≡ was)
      (λ t. (read_term was.payload.body.now 0 was.least was.payload.at ≡ found t next.payload.at)
      × (next.least ≡ t.part + 1)
      × (t.part ≤ 47)
      × (was.payload.at < next.payload.at))
  pub terms : (ts : List Term) → LeftIn was.payload.body.now was.least was.payload.at ts
      → MatchOption result (ts ≡ []) (λ t. (us : List Term) × (ts ≡ t ∷ us) × LeftIn next.payload.body.now next.least next.payload.at us)
  pub bytes : next.payload.body.now ≡ was.payload.body.now
