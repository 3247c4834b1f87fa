-- What the types of the code mean.
use Rattle.std.specs.Prelude.{◌≡◌, ℕ, Bool, List, length, Some, None, Option, Ok, Err, Result}
use Rattle.limits.specs.Choices.{bits, word}
use Rattle.limits.specs.Limits.{keeps_all}
use Rattle.limits.specs.declared.Refusal.{Refusal}
use Rattle.limits.specs.Refusals.{done, refused, number}
use Rattle.grades.specs.Laws.{Kind}
use Rattle.grades.specs.Kinds.{mass_kind, wait_kind, mass_price_kind}
use Rattle.grades.specs.Rule.{grade, answer}
use Rattle.records.specs.declared.Goal.{Goal}
use Rattle.records.specs.declared.Goal.TheVariants as goal
use Rattle.jobs.specs.Calls.{Standing, asked}
use Rattle.listings.specs.declared.Grade.{Grade}
use Rattle.listings.specs.declared.Grade.TheVariants.{Mass, Wait}
use Rattle.listings.specs.Listings.{best_text, nothing_text, fault_text, fitted}
use Rattle.sheets.specs.Told.{Part, masses_of, waits_of, costs_of}
use Rattle.set_chooser.specs.Listing.{shown_price}
use Rattle.rows.specs.declared.lent.RowTables.{RowTables}
use Rattle.set_chooser.specs.declared.solved.Best.{Best}

-- the rows that are lent for a goal
abbrev pub rows_lent : RowTables → Goal → ℕ
rows_lent r goal.Mass = length r.mass.now
rows_lent r goal.Wait = length r.wait.now
rows_lent r goal.MassPrice = length r.mass_price.now

-- a verdict is what a solve by one kind of grade comes to
abbrev pub Judged : {G : Type 0} → Kind G → (G → Grade) → List G → Standing → ℕ → Result (Option Best) Refusal → Type 0
Judged K shown ws s rows (Ok (Some b)) =
    (done ≡ asked K s ws rows) × ((c : List Bool) × (answer K ws (keeps_all s.limits) ≡ Some c) × (b.choice.0 ≡ word c) × (b.grade ≡ shown (grade K ws c)))
Judged K shown ws s rows (Ok None) = (done ≡ asked K s ws rows) × (answer K ws (keeps_all s.limits) ≡ None)
Judged K shown ws s rows (Err e) = refused (number e) ≡ asked K s ws rows

-- a verdict is what a solve for a goal comes to
abbrev pub JudgedFor : Goal → List Part → Standing → ℕ → Result (Option Best) Refusal → Type 0
JudgedFor goal.Mass ps s rows v = Judged mass_kind Mass (masses_of ps) s rows v
JudgedFor goal.Wait ps s rows v = Judged wait_kind Wait (waits_of ps) s rows v
JudgedFor goal.MassPrice ps s rows v = Judged mass_price_kind shown_price (costs_of ps) s rows v

-- the text of a verdict on parts of these names
abbrev pub verdict_text : Result (Option Best) Refusal → List (List ℕ) → List ℕ
verdict_text (Ok (Some b)) names = best_text b.grade (fitted names (bits (length names) b.choice.0))
verdict_text (Ok None) names = nothing_text
verdict_text (Err e) names = fault_text (number e) 3 0 0
