-- What a listing without a fault line says of its sheet.
use Rattle.std.specs.Prelude.{◌≡◌, ℕ, Bool, ◌↔◌, List}
use Rattle.limits.specs.Limits.{keeps_all}
use Rattle.grades.specs.Laws.{Kind}
use Rattle.grades.specs.Kinds.{mass_kind, wait_kind, mass_price_kind}
use Rattle.grades.specs.Rule.{grade}
use Rattle.grades.specs.Optimal.{First, Settled, NonePasses}
use Rattle.records.specs.declared.Goal.{Goal}
use Rattle.records.specs.declared.Goal.TheVariants as goal
use Rattle.listings.specs.declared.Grade.{Grade}
use Rattle.listings.specs.declared.Grade.TheVariants.{Mass, Wait}
use Rattle.listings.specs.Listings.{best_text, nothing_text, fault_text, fitted}
use Rattle.sheets.specs.Told.{Told, masses_of, waits_of, costs_of}
use Rattle.sheets.specs.Says.{Says}
use Rattle.set_chooser.specs.Listing.{shown_price, listing}

-- a fault line
abbrev pub FaultLine : List ℕ → Type 0
FaultLine text = (number : ℕ) × (layer : ℕ) × (record' : ℕ) × (place : ℕ) × (text ≡ fault_text number layer record' place)

-- by one kind of grade: the text says that nothing fits exactly when no choice keeps the sheet's limits. Otherwise it gives the grade
-- and names exactly the parts of a choice that keeps them, before which none that keeps them ranks, and that the rule settles
abbrev pub TellsBy : {G : Type 0} → Kind G → (G → Grade) → List G → Told → List ℕ → Type 0
TellsBy K shown ws t text =
    ((text ≡ nothing_text) ↔ NonePasses ws (keeps_all t.limits))
    × ((NonePasses ws (keeps_all t.limits) → ⊥)
    → (c : List Bool) × First K ws (keeps_all t.limits) c × Settled K ws (keeps_all t.limits) c
    × (text ≡ best_text (shown (grade K ws c)) (fitted t.names c)))

-- by the sheet's goal: a part's mass, its wait, or its mass with its price is its weight
abbrev pub TellsFor : Goal → Told → List ℕ → Type 0
TellsFor goal.Mass t text = TellsBy mass_kind Mass (masses_of t.parts) t text
TellsFor goal.Wait t text = TellsBy wait_kind Wait (waits_of t.parts) t text
TellsFor goal.MassPrice t text = TellsBy mass_price_kind shown_price (costs_of t.parts) t text

-- a listing is right: without a fault line, it tells the best of what the sheet says
abbrev pub RightListing : List ℕ → List ℕ → Type 0
RightListing sheet text = (FaultLine text → ⊥) → (t : Told) × Says sheet t × TellsFor t.goal t text

-- the listing of every sheet is right, with however many node places, and rows for each goal
abbrev pub ListingsRight : Type 0
ListingsRight = (sheet : List ℕ) (places : ℕ) (rows : Goal → ℕ) → RightListing sheet (listing sheet places rows)
