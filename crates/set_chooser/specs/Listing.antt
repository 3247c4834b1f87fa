-- What a sheet's listing says. Each definition here can be computed.
use Rattle.std.specs.Prelude.{◌≡◌, ℕ, ◌<◌, ◌≤◌, ◌⊎◌, List, ◌++◌, length, drop, ℤ, pos, negsuc, Some, None, Result, MatchResult}
use Rattle.limits.specs.Limits.{keeps_all}
use Rattle.limits.specs.Refusals.{done, refused}
use Rattle.grades.specs.Laws.{Kind}
use Rattle.grades.specs.Kinds.{Priced, mass_kind, wait_kind, mass_price_kind}
use Rattle.grades.specs.Rule.{grade, answer}
use Rattle.records.specs.declared.Goal.{Goal}
use Rattle.records.specs.declared.Goal.TheVariants as goal
use Rattle.jobs.specs.Calls.{standing, asked}
use Rattle.listings.specs.declared.Grade.{Grade}
use Rattle.listings.specs.declared.Grade.TheVariants.{Mass, Wait, MassPrice}
use Rattle.listings.specs.Listings.{best_text, nothing_text, fault_text, fitted}
use Rattle.sheets.specs.Told.{Told, masses_of, waits_of, costs_of, Reading, whole, faulty, read_sheet}
use Rattle.set_chooser.specs.declared.listing.ListRefusal.{ListRefusal}
use Rattle.set_chooser.specs.declared.listing.ListRefusal.TheVariants.{OutputTooShort}
use Rattle.set_chooser.specs.declared.listing.WholeFault.{WholeFault}
use Rattle.set_chooser.specs.declared.listing.WholeFault.TheVariants.{TooLong}

-- number, layer, record and place of a fault; or that nothing fits; or a grade and the names of the fitted parts
pub data Outcome : Type 0 where
  fault_at : ℕ → ℕ → ℕ → ℕ → Outcome
  nothing : Outcome
  best : Grade → List (List ℕ) → Outcome

-- the rule's choice by one kind of grade; a refused solve is a fault of layer 3 with record 0 and place 0
abbrev pub by_kind : {G : Type 0} → Kind G → (G → Grade) → List G → Told → ℕ → Outcome
by_kind K shown ws t rows =
    elim (asked K (standing (length t.parts) t.limits) ws rows) [
      | done ↦ elim (answer K ws (keeps_all t.limits)) [ None ↦ nothing | Some c ↦ best (shown (grade K ws c)) (fitted t.names c) ]
      | refused n ↦ fault_at n 3 0 0
    ]

-- grams with a price, as a listing shows them
abbrev pub shown_price : Priced → Grade
shown_price x = MassPrice x.grams x.price

-- the goal says whether a part's mass, wait, or mass with price is its weight
abbrev pub by_goal : Goal → Told → ℕ → Outcome
by_goal goal.Mass t rows = by_kind mass_kind Mass (masses_of t.parts) t rows
by_goal goal.Wait t rows = by_kind wait_kind Wait (waits_of t.parts) t rows
by_goal goal.MassPrice t rows = by_kind mass_price_kind shown_price (costs_of t.parts) t rows

-- a fault ends the reading; a sheet that is read is solved, with the rows lent for its goal
abbrev pub concluded : (Goal → ℕ) → Reading → Outcome
concluded rows (faulty n l i p) = fault_at n l i p
concluded rows (whole t) = by_goal t.goal t (rows t.goal)

-- what a sheet comes to, with so many node places and so many rows for each goal
abbrev pub outcome : List ℕ → ℕ → (Goal → ℕ) → Outcome
outcome sheet places rows = concluded rows (read_sheet sheet places)

abbrev pub text : Outcome → List ℕ
text (fault_at n l i p) = fault_text n l i p
text nothing = nothing_text
text (best grade names) = best_text grade names

-- the listing of a sheet
abbrev pub listing : List ℕ → ℕ → (Goal → ℕ) → List ℕ
listing sheet places rows = text (outcome sheet places rows)

-- the number of list's one refusal
abbrev pub refusal_number : ListRefusal → ℕ
refusal_number OutputTooShort = 13

-- the number of a whole sheet's one fault
abbrev pub whole_fault_number : WholeFault → ℕ
whole_fault_number TooLong = 16

-- the listing stands at the start of the output, and the rest is left; or it is too long, and all is left
abbrev pub Lists : List ℕ → List ℕ → List ℕ → Result ℕ ListRefusal → Type 0
Lists text was is r = MatchResult r
    (λ n. (n ≡ length text) × (is ≡ text ++ drop (length text) was))
    (λ e. (refusal_number e ≡ 13) × (length was < length text) × (is ≡ was))

-- what the entry for C answers: the bytes written, with the listing at the output's start and the rest left; or -13, and all is left
abbrev pub ListsForC : List ℕ → List ℕ → List ℕ → ℤ → Type 0
ListsForC text was is answer =
    ((length text ≤ length was) × (answer ≡ pos (length text)) × (is ≡ text ++ drop (length text) was))
    ⊎ ((length was < length text) × (answer ≡ negsuc 12) × (is ≡ was))

-- the entry for C has 1,024 node places, and as many rows for each goal
abbrev pub listing_for_c : List ℕ → List ℕ
listing_for_c sheet = listing sheet 1024 (λ goal. 1024)
