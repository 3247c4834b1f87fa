-- Why the listing of every sheet is right.
use Rattle.std.proofs.Common.{◌≡◌, ℕ, Bool, List, get_or, Some, None, Option, refl, ap, arith}
use Rattle.limits.specs.Limits.{keeps_all}
use Rattle.limits.specs.Refusals.{Reply, done, refused}
use Rattle.grades.specs.Laws.{Kind, Laws}
use Rattle.grades.specs.Kinds.{mass_kind, wait_kind, mass_price_kind}
use Rattle.grades.specs.Rule.{grade, best as best_grade, chosen}
use Rattle.grades.specs.Optimal.{Answers}
use Rattle.grades.proofs.Optimal.{rule_is_first_lem, rule_settles_lem}
use Rattle.grades.specs.Lawful.{mass_laws, wait_laws, mass_price_laws}
use Rattle.records.specs.declared.Goal.{Goal}
use Rattle.records.specs.declared.Goal.TheVariants as goal
use Rattle.jobs.specs.Calls.{standing, asked}
use Rattle.listings.specs.declared.Grade.{Grade}
use Rattle.listings.specs.declared.Grade.TheVariants.{Mass, Wait, MassPrice}
use Rattle.listings.specs.Listings.{best_text, nothing_text, fitted}
use Rattle.sheets.specs.Told.{Told, masses_of, waits_of, costs_of, Reading, whole, faulty, read_sheet}
use Rattle.sheets.specs.Says.{Says}
use Rattle.sheets.proofs.Saying.{read_as_it_says}
use Rattle.set_chooser.specs.Listing.{Outcome, fault_at, nothing, best, by_goal, shown_price, concluded, text}
use Rattle.set_chooser.specs.Promise.{FaultLine, TellsBy, TellsFor, RightListing, ListingsRight}

-- a grade's line begins with another letter than the line that nothing fits
not_nothing : {C : Type 0} (g : Grade) (names : List (List ℕ)) → best_text g names ≡ nothing_text → C
not_nothing (Mass m) names e = let z : ◌≡◌ {A = ℕ} 103 110 = ap (λ xs. get_or xs 0 0) e in absurd (omega arith)
not_nothing (Wait d) names e = let z : ◌≡◌ {A = ℕ} 103 110 = ap (λ xs. get_or xs 0 0) e in absurd (omega arith)
not_nothing (MassPrice m p) names e = let z : ◌≡◌ {A = ℕ} 103 110 = ap (λ xs. get_or xs 0 0) e in absurd (omega arith)

module _ {G : Type 0} (K : Kind G) (laws : Laws K) (shown : G → Grade) (ws : List G) (t : Told) where
  abbrev on_best : Option G → Outcome
  on_best o = elim (elim o as (λ _. Option (List Bool)) [ None ↦ None | Some g ↦ Some (chosen K ws (keeps_all t.limits)) ]) [ None ↦ nothing | Some c ↦ best (shown (grade K ws c)) (fitted t.names c) ]

  tells_best : (o : Option G) → Answers K ws (keeps_all t.limits) (elim o [ None ↦ None | Some g ↦ Some (chosen K ws (keeps_all t.limits)) ]) → TellsBy K shown ws t (text (on_best o))
  tells_best None f = ((λ _. f, λ _. refl), λ some. absurd (some f))
  tells_best (Some g) f =
      let c : List Bool = chosen K ws (keeps_all t.limits) in (
        (λ e. not_nothing (shown (grade K ws c)) (fitted t.names c) e, λ none. absurd (none c f.sized f.kept)),
        λ some. (c, f, rule_settles_lem K laws ws (keeps_all t.limits), refl),
      )

  tells_by : (r : Reply) → (FaultLine (text (elim r as (λ _. Outcome) [ done ↦ on_best (best_grade K ws (keeps_all t.limits)) | refused n ↦ fault_at n 3 0 0 ])) → ⊥)
      → TellsBy K shown ws t (text (elim r as (λ _. Outcome) [ done ↦ on_best (best_grade K ws (keeps_all t.limits)) | refused n ↦ fault_at n 3 0 0 ]))
  tells_by done none = tells_best (best_grade K ws (keeps_all t.limits)) (rule_is_first_lem K laws ws (keeps_all t.limits))
  tells_by (refused n) none = absurd (none (n, 3, 0, 0, refl))

tells_for : (g : Goal) (t : Told) (rows : ℕ) → (FaultLine (text (by_goal g t rows)) → ⊥) → TellsFor g t (text (by_goal g t rows))
tells_for goal.Mass t rows none = tells_by mass_kind mass_laws Mass (masses_of t.parts) t (asked mass_kind (standing _ t.limits) (masses_of t.parts) rows) none
tells_for goal.Wait t rows none = tells_by wait_kind wait_laws Wait (waits_of t.parts) t (asked wait_kind (standing _ t.limits) (waits_of t.parts) rows) none
tells_for goal.MassPrice t rows none = tells_by mass_price_kind mass_price_laws shown_price (costs_of t.parts) t (asked mass_price_kind (standing _ t.limits) (costs_of t.parts) rows) none

right : (sheet : List ℕ) (rows : Goal → ℕ) (w : Reading) → ((t : Told) → w ≡ whole t → Says sheet t) → RightListing sheet (text (concluded rows w))
right sheet rows (faulty n l i p) says none = absurd (none (n, l, i, p, refl))
right sheet rows (whole t) says none = (t, says t refl, tells_for t.goal t (rows t.goal) none)

pub listings_right : ListingsRight
listings_right sheet places rows = right sheet rows (read_sheet sheet places) (λ t e. read_as_it_says sheet places t e)
