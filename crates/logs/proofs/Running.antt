-- A log, one call after another.
use Rattle.std.proofs.Common.{◌≡◌, ℕ, ◌+◌, ◌<◌, List, [], ◌∷◌, ◌++◌, length, get_or, take, drop, set, sym, ap, ◌∙◌, subst, append_assoc, append-nil, arith}
use Rattle.std.proofs.lemmas.List.{drop_more, drop_all, take_more_set}
use Rattle.grades.specs.Laws.{Kind}
use Rattle.jobs.specs.Calls.{Standing, standing}
use Rattle.logs.specs.Logs.{after, Lent, Reply, Right, RightLog}
use Rattle.logs.specs.declared.Call.{Call}

module _ {V G W : Type 0} (K : Kind V) (means : G → V) (weighs : W → V) (places : ℕ) (rows : Lent) (calls : List (Call W)) where
  -- s stands after the first i calls: whatever answers are right from there on make a right log with those before
  abbrev pub SoFar : List (Reply G) → Standing → ℕ → Type 0
  SoFar replies s i = (rs : List (Reply G)) → RightLog K means weighs places rows s (drop i calls) rs → RightLog K means weighs places rows (standing 0 []) calls (take i replies ++ rs)

  pub one_more : (replies more : List (Reply G)) (s t : Standing) (i room : ℕ) (lent : Lent) (d call : Call W) (r : Reply G) → i < length calls → i < length replies
      → room ≡ places → lent ≡ rows → call ≡ get_or calls i d → more ≡ set replies i r
      → Right K means weighs room lent s call r → t ≡ after room s call → SoFar replies s i → SoFar more t (i + 1)
  one_more replies more s t i room lent d call r h k e f g w right st before rs later =
      let right_there : Right K means weighs places rows s (get_or calls i d) r =
      subst (λ (c : Call W). Right K means weighs places rows s c r) g
      (subst (λ (n : Lent). Right K means weighs places n s call r) f (subst (λ n. Right K means weighs n lent s call r) e right)) in
      let st-there : t ≡ after places s (get_or calls i d) = st ∙ (ap (λ n. after n s call) e ∙ ap (after places s) g) in
      let kept : RightLog K means weighs places rows s (drop i calls) (r ∷ rs) =
      subst (λ cs. RightLog K means weighs places rows s cs (r ∷ rs)) (sym (drop_more calls i d h))
      (right_there, subst (λ u. RightLog K means weighs places rows u (drop (i + 1) calls) rs) st-there later) in
      let join : take i replies ++ (r ∷ rs) ≡ take (i + 1) more ++ rs =
      sym (append_assoc (take i replies) (r ∷ []) rs)
      ∙ ap (λ xs. xs ++ rs) (sym (ap (take (i + 1)) w ∙ take_more_set replies i r k)) in
      subst (RightLog K means weighs places rows (standing 0 []) calls) join (before (r ∷ rs) kept)

  pub none_yet : (replies : List (Reply G)) (s : Standing) → s ≡ standing 0 [] → SoFar replies s 0
  none_yet replies s e rs later = subst (λ u. RightLog K means weighs places rows u calls rs) e later

  pub all_right : (replies : List (Reply G)) (s : Standing) (i : ℕ) → i ≡ length calls → SoFar replies s i → RightLog K means weighs places rows (standing 0 []) calls (take (length calls) replies)
  all_right replies s i e before =
      let done : RightLog K means weighs places rows s (drop i calls) [] = subst (λ cs. RightLog K means weighs places rows s cs []) (sym (drop_all i calls (omega arith))) tt in
      subst (RightLog K means weighs places rows (standing 0 []) calls) (append-nil (take i replies) ∙ ap (λ n. take n replies) e) (before [] done)
