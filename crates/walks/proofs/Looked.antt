-- What is found of a question before it is opened.
use Rattle.std.proofs.Common.{◌≡◌, ℕ, true, false, ◌⊎◌, List, ℤ, Some, None, Option, MatchOption, refl}
use Rattle.std.specs.Option.{is_some}
use Rattle.diagrams.specs.declared.Edge.{Edge}
use Rattle.diagrams.specs.declared.Question.{Question}
use Rattle.diagrams.specs.Apply.{Right, Answers, Open}
use Rattle.tables.specs.declared.NodeTable.{NodeTable}
use Rattle.tables.specs.Places.{made}
use Rattle.walks.specs.declared.Frame.{Frame}
use Rattle.walks.proofs.Paths.{Walking}
use Rattle.walks.proofs.Turns.{turn_known}

-- nothing is found of an open question
pub nothing_found : (q : Question) (Why : Edge → Type 0) (a : Option Edge) → MatchOption a (Open q) Why → is_some a ≡ false → (a ≡ None) × Open q
nothing_found q Why None m h = (refl, m)
nothing_found q Why (Some e) m h = cc

-- what is found is the answer
pub turn_found : {parts : ℕ} {ts : List (List ℤ)} {t₀ t : NodeTable} {root : Question} {fs : List Frame} {q : Question} → Walking parts ts t₀ t root fs q None → (Why : Edge → Type 0) → ((e : Edge) → Why e → Answers q e ⊎ Right parts (made t) q e) → (a : Option Edge) → MatchOption a (Open q) Why → is_some a ≡ true → Walking parts ts t₀ t root fs q a
turn_found w Why why None m h = cc
turn_found w Why why (Some e) m h = turn_known w e (why e m)
