-- One record's step is the definition's.
use Rattle.std.proofs.Common.{◌≡◌, ℕ, ◌≤◌, cond, List, [], ◌∷◌, ◌++◌, length, ℤ, sym, refl, ap, ◌∙◌, arith, le-leb}
use Rattle.records.specs.declared.Stage.{Stage}
use Rattle.records.specs.declared.Stage.TheVariants.{Parts}
use Rattle.fields.specs.Fields.{found}
use Rattle.records.specs.Sheets.{part_says, read_record}
use Rattle.sheets.proofs.Stages.{part_in_parts}
use Rattle.limits.specs.declared.Limit.{Limit}
use Rattle.limits.specs.Refusals.{done, refused}
use Rattle.records.specs.declared.Goal.{Goal}
use Rattle.jobs.specs.Calls.{Standing, standing, if_done, after_begin}
use Rattle.sheets.specs.Told.{Part, Told, goes_on, on_record, one_step}
use Rattle.sheets.specs.Notes.{NoneYet}

abbrev pub tell : Stage → List (List ℕ) → List Part → List Limit → Goal → Told
tell st names ps ls g = record { stage = st; names = names; parts = ps; limits = ls; goal = g }

told_same : (st st' : Stage) (names names' : List (List ℕ)) (ps ps' : List Part) (ls ls' : List Limit) (g g' : Goal)
    → st ≡ st' → names ≡ names' → ps ≡ ps' → ls ≡ ls' → g ≡ g' → tell st names ps ls g ≡ tell st' names' ps' ls' g'
told_same st st' names names' ps ps' ls ls' g g' a b c d e =
    ap (λ x. tell x names ps ls g) a ∙ ap (λ x. tell st' x ps ls g) b ∙ ap (λ x. tell st' names' x ls g) c ∙ ap (λ x. tell st' names' ps' x g) d ∙ ap (λ x. tell st' names' ps' ls' x) e

no_limits : (ls : List Limit) → length ls ≡ 0 → ls ≡ []
no_limits [] h = refl
no_limits (l ∷ ls) h = absurd (omega arith)

begun_at : (s : Standing) (n : ℕ) → n ≤ 48 → after_begin s n ≡ standing n []
begun_at s n h = ap (λ b. if_done (cond b done (refused 7)) (standing n []) s) (le-leb n 48 h)

pub begun_none : (s : Standing) (n m : ℕ) (ls : List Limit) → n ≤ 48 → standing m ls ≡ after_begin s n → ls ≡ []
begun_none s n m ls h e = ap (λ (x : Standing). x.limits) (e ∙ begun_at s n h)

module _ (room : ℕ) (sheet : List ℕ) (at next : ℕ) (st st' : Stage) (names names' : List (List ℕ)) (ps ps' : List Part) (ls ls' : List Limit) (g g' : Goal) where
  pub part_step : (name : List ℕ) (mass : ℤ) (wait price : ℕ) → read_record st names sheet at ≡ found (part_says name mass wait price) next
      → st' ≡ Parts → names' ≡ names ++ (name ∷ []) → ps' ≡ ps ++ (record { mass = mass; wait = wait; price = price } ∷ []) → ls' ≡ [] → g' ≡ g
      → NoneYet st ls
      → goes_on (tell st' names' ps' ls' g') next ≡ one_step room sheet (tell st names ps ls g) at
  part_step name mass wait price e a b c d f none =
      ap (λ t. goes_on t next) (told_same st' Parts names' (names ++ (name ∷ [])) ps' (ps ++ (record { mass = mass; wait = wait; price = price } ∷ [])) ls' ls g' g a b c (d ∙ sym (no_limits ls (none (part_in_parts st names sheet at name mass wait price next e)))) f)
      ∙ sym (ap (on_record room (tell st names ps ls g) at) e)
