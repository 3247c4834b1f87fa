-- A verdict's text is the text of what the sheet comes to.
use Rattle.std.proofs.Common.{◌≡◌, ℕ, suc, Bool, true, false, cond, List, [], ◌∷◌, length, Some, None, Option, Ok, Err, Result, sym, refl, ap, ◌∙◌, subst, ap₂, arith}
use Rattle.std.proofs.lemmas.List.{length-map}
use Rattle.limits.specs.Choices.{bits}
use Rattle.limits.specs.Limits.{keeps_all}
use Rattle.limits.specs.declared.Refusal.{Refusal}
use Rattle.limits.specs.Refusals.{Reply, done, refused}
use Rattle.limits.proofs.Words.{bits_word}
use Rattle.grades.specs.Laws.{Kind}
use Rattle.grades.specs.Kinds.{mass_kind, wait_kind, mass_price_kind}
use Rattle.grades.specs.Rule.{grade, best, chosen, answer, left_out, put_on}
use Rattle.records.specs.declared.Goal.{Goal}
use Rattle.records.specs.declared.Goal.TheVariants as goal
use Rattle.jobs.specs.Calls.{Standing, standing}
use Rattle.listings.specs.declared.Grade.{Grade}
use Rattle.listings.specs.declared.Grade.TheVariants.{Mass, Wait}
use Rattle.listings.specs.Listings.{best_text, fitted}
use Rattle.sheets.specs.Told.{Told, masses_of, waits_of, costs_of, whole, read_sheet}
use Rattle.set_chooser.specs.Listing as said
use Rattle.set_chooser.specs.Listing.{Outcome, fault_at, nothing, by_kind, by_goal, shown_price, concluded, text, listing}
use Rattle.set_chooser.specs.Verdicts.{Judged, JudgedFor, verdict_text}
use Rattle.set_chooser.specs.declared.solved.Best.{Best}

chosen_size : {G : Type 0} (K : Kind G) (ws : List G) (passes : List Bool → Bool) → length (chosen K ws passes) ≡ length ws
chosen_size K [] passes = refl
chosen_size K (w ∷ ws) passes = by (left_out K (best K ws (λ c. passes (false ∷ c))) (put_on K w (best K ws (λ c. passes (true ∷ c))))) (chosen_size K ws (λ c. passes (false ∷ c))) (chosen_size K ws (λ c. passes (true ∷ c)))
  where
    by : (b : Bool) → length (chosen K ws (λ c. passes (false ∷ c))) ≡ length ws → length (chosen K ws (λ c. passes (true ∷ c))) ≡ length ws → length (cond b (false ∷ chosen K ws (λ c. passes (false ∷ c))) (true ∷ chosen K ws (λ c. passes (true ∷ c)))) ≡ suc (length ws)
    by true out fit = ap suc out
    by false out fit = ap suc fit

answer_size : {G : Type 0} (K : Kind G) (ws : List G) (passes : List Bool → Bool) (c : List Bool) → answer K ws passes ≡ Some c → length c ≡ length ws
answer_size {G} K ws passes c e = by (best K ws passes) e
  where
    by : (o : Option G) → elim o [ None ↦ None | Some g ↦ Some (chosen K ws passes) ] ≡ Some c → length c ≡ length ws
    by None q = let z : ◌≡◌ {A = ℕ} 0 1 = cc in absurd (omega arith)
    by (Some g) q = let same : chosen K ws passes ≡ c = cc in ap length (sym same) ∙ chosen_size K ws passes

module _ {G : Type 0} (K : Kind G) (shown : G → Grade) (ws : List G) (t : Told) (rows : ℕ) where
  abbrev on_answer : Option (List Bool) → Outcome
  on_answer o = elim o [ None ↦ nothing | Some c ↦ said.best (shown (grade K ws c)) (fitted t.names c) ]

  abbrev on_reply : Reply → Outcome
  on_reply r = elim r [ done ↦ on_answer (answer K ws (keeps_all t.limits)) | refused n ↦ fault_at n 3 0 0 ]

  pub by_kind_text : (v : Result (Option Best) Refusal) → length ws ≡ length t.names → Judged K shown ws (standing (length t.parts) t.limits) rows v → verdict_text v t.names ≡ text (by_kind K shown ws t rows)
  by_kind_text (Ok (Some b)) size (d, (c, a, w, e)) =
      let same : length t.names ≡ length c = sym (answer_size K ws (keeps_all t.limits) c a ∙ size) in
      let is : bits (length t.names) b.choice.0 ≡ c = ap₂ bits same w ∙ bits_word c in
      ap₂ (λ x d. best_text x (fitted t.names d)) e is ∙ (ap (λ o. text (on_answer o)) (sym a) ∙ ap (λ r. text (on_reply r)) d)
  by_kind_text (Ok None) size j = ap (λ o. text (on_answer o)) (sym j.1) ∙ ap (λ r. text (on_reply r)) j.0
  by_kind_text (Err e) size j = ap (λ r. text (on_reply r)) j

verdict_is : (g : Goal) (t : Told) (rows : ℕ) (v : Result (Option Best) Refusal) → length t.names ≡ length t.parts → JudgedFor g t.parts (standing (length t.parts) t.limits) rows v → verdict_text v t.names ≡ text (by_goal g t rows)
verdict_is goal.Mass t rows v size j = by_kind_text mass_kind Mass (masses_of t.parts) t rows v (length-map t.parts _ ∙ sym size) j
verdict_is goal.Wait t rows v size j = by_kind_text wait_kind Wait (waits_of t.parts) t rows v (length-map t.parts _ ∙ sym size) j
verdict_is goal.MassPrice t rows v size j = by_kind_text mass_price_kind shown_price (costs_of t.parts) t rows v (length-map t.parts _ ∙ sym size) j

pub listing_is : (sheet : List ℕ) (places : ℕ) (rows : Goal → ℕ) (t : Told) (s : Standing) (names : List (List ℕ)) (v : Result (Option Best) Refusal) → whole t ≡ read_sheet sheet places → names ≡ t.names → s ≡ standing (length t.parts) t.limits → length t.names ≡ length t.parts → JudgedFor t.goal t.parts s (rows t.goal) v → verdict_text v names ≡ listing sheet places rows
listing_is sheet places rows t s names v w n e size j =
    ap (verdict_text v) n ∙ (verdict_is t.goal t (rows t.goal) v size (subst (λ x. JudgedFor t.goal t.parts x (rows t.goal) v) e j) ∙ ap (λ r. text (concluded rows r)) w)
