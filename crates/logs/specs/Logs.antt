-- A log of the calls made of one job since it was new, with the answer to each, and when it is right.
use Rattle.std.specs.Prelude.{◌≡◌, ℕ, ◌<◌, Bool, true, ◌↔◌, List, [], ◌∷◌, ◌++◌, map, length, take, drop, ℤ, Some, None, Option, Ok, Err, Result, MatchResult}
use Rattle.limits.specs.declared.Limit.{Limit}
use Rattle.limits.specs.declared.drafts.Term.{Term}
use Rattle.limits.specs.declared.drafts.Side.{Side}
use Rattle.limits.specs.Choices.{bits, word}
use Rattle.limits.specs.Limits.{keeps_all}
use Rattle.limits.specs.declared.Refusal.{Refusal}
use Rattle.limits.specs.Refusals.{done, refused, number}
use Rattle.limits.specs.Refusals as refusals
use Rattle.grades.specs.Laws.{Kind}
use Rattle.grades.specs.Kinds.{priced, mass_kind, wait_kind, mass_price_kind}
use Rattle.grades.specs.Rule.{grade}
use Rattle.grades.specs.Optimal.{First, Settled, NonePasses}
use Rattle.grades.specs.declared.Mass.{Mass}
use Rattle.grades.specs.declared.Wait.{Wait}
use Rattle.grades.specs.declared.MassPrice.{MassPrice}
use Rattle.diagrams.specs.Needs.{needs}
use Rattle.solving.specs.declared.Answer.{Answer}
use Rattle.jobs.specs.Calls.{Standing, standing, begun, after_begin, closed, after_close, taken_back, after_take_back, asked, checkable, broken}
use Rattle.logs.specs.Drafted.{named, limit_of, sound}
use Rattle.logs.specs.declared.Call.{Call}
use Rattle.logs.specs.declared.Call.TheVariants.{Begin, Close, TakeBack, Solve, Check}
use Rattle.logs.specs.declared.Weights.{Weights}
use Rattle.logs.specs.declared.Weights.TheVariants as weights
use Rattle.logs.specs.declared.Found.{Found}
use Rattle.logs.specs.declared.Found.TheVariants as found
use Rattle.logs.specs.declared.Answered.{Answered}
use Rattle.logs.specs.declared.Answered.TheVariants.{Done, Solved, Checked}
use Rattle.logs.specs.declared.LogRows.{LogRows}
use Rattle.logs.specs.declared.ReplayRefusal.{ReplayRefusal}
use Rattle.logs.specs.declared.ReplayRefusal.TheVariants.{RepliesTooShort}

-- what stands after a call, where the table has so many places: refused calls, solves and checks change nothing
abbrev pub after : {W : Type 0} → ℕ → Standing → Call W → Standing
after places s (Begin n) = after_begin s n
after places s (Close terms side) = after_close places s (named terms.now) (limit_of terms.now side)
after places s TakeBack = after_take_back s
after places s (Solve ws) = s
after places s (Check c) = s

-- the answer to a call
abbrev pub Reply : Type 0 → Type 0
Reply G = Result (Answered G) Refusal

-- the answer is this reply, and nothing more
abbrev pub Says : {G : Type 0} → Reply G → refusals.Reply → Type 0
Says (Ok Done) r = done ≡ r
Says (Ok (Solved f)) r = ⊥
Says (Ok (Checked o)) r = ⊥
Says (Err e) r = refused (number e) ≡ r

-- a close of a sound limit, with fewer than 64 standing before it, is refused for want of places exactly when that limit and the
-- standing ones need more different nodes than the table has places
abbrev pub RefusedForPlaces : {G : Type 0} → ℕ → Standing → List Term → Side → Reply G → Type 0
RefusedForPlaces places s ts side r =
    sound s.parts ts side ≡ true → length s.limits < 64
    → Says r (refused 15) ↔ (places < needs s.parts (s.limits ++ (limit_of ts side ∷ [])))

-- a solve finds nothing exactly when no choice keeps all standing limits; otherwise it finds the choice that the rule settles,
-- with its grade: it keeps them, and every other that keeps them ranks no earlier
abbrev pub Finds : {V G : Type 0} → Kind V → (G → V) → List V → List Limit → Option (Answer G) → Type 0
Finds K means vs ls None = NonePasses vs (keeps_all ls)
Finds K means vs ls (Some a) =
    (c : List Bool) × First K vs (keeps_all ls) c × Settled K vs (keeps_all ls) c × (a.choice.0 ≡ word c) × (means a.grade ≡ grade K vs c)

-- the rows that are lent for solves by each kind
pub record Lent : Type 0 where
  pub mass : ℕ
  pub wait : ℕ
  pub mass_price : ℕ
  pub own : ℕ

-- the lengths of the lent slices
abbrev pub lent : {G : Type 0} → LogRows G → Lent
lent r = record { mass = length r.tables.mass.now; wait = length r.tables.wait.now; mass_price = length r.tables.mass_price.now; own = length r.own.now }

-- what a solve by mass, by wait, by mass with price, or by the further kind found; missing if it was by another
abbrev pub by_mass : {G : Type 0} → Found G → Option (Option (Answer Mass))
by_mass (found.Mass o) = Some o
by_mass (found.Wait o) = None
by_mass (found.MassPrice o) = None
by_mass (found.Own o) = None

abbrev pub by_wait : {G : Type 0} → Found G → Option (Option (Answer Wait))
by_wait (found.Mass o) = None
by_wait (found.Wait o) = Some o
by_wait (found.MassPrice o) = None
by_wait (found.Own o) = None

abbrev pub by_mass_price : {G : Type 0} → Found G → Option (Option (Answer MassPrice))
by_mass_price (found.Mass o) = None
by_mass_price (found.Wait o) = None
by_mass_price (found.MassPrice o) = Some o
by_mass_price (found.Own o) = None

abbrev pub by_own : {G : Type 0} → Found G → Option (Option (Answer G))
by_own (found.Mass o) = None
by_own (found.Wait o) = None
by_own (found.MassPrice o) = None
by_own (found.Own o) = Some o

-- what was found by the kind asked for is right, and no other kind's answer will do
abbrev pub FoundRight : {V G : Type 0} → Kind V → (G → V) → List V → List Limit → Option (Option (Answer G)) → Type 0
FoundRight K means vs ls None = ⊥
FoundRight K means vs ls (Some o) = Finds K means vs ls o

-- the answer to a solve by one kind: refused by its tests, or right
abbrev pub SolveRight : {V K G : Type 0} → Kind V → (K → V) → (Found G → Option (Option (Answer K))) → List V → ℕ → Standing → Reply G → Type 0
SolveRight k means picked vs rows s (Ok Done) = ⊥
SolveRight k means picked vs rows s (Ok (Solved f)) = (done ≡ asked k s vs rows) × FoundRight k means vs s.limits (picked f)
SolveRight k means picked vs rows s (Ok (Checked o)) = ⊥
SolveRight k means picked vs rows s (Err e) = refused (number e) ≡ asked k s vs rows

-- the answer to a check: refused by its test, or the first standing limit that the choice breaks, or none
abbrev pub CheckRight : {G : Type 0} → Standing → ℕ → Reply G → Type 0
CheckRight s w (Ok Done) = ⊥
CheckRight s w (Ok (Solved f)) = ⊥
CheckRight s w (Ok (Checked o)) = (done ≡ checkable s.parts w) × (broken 0 s.limits (bits s.parts w) ≡ o)
CheckRight s w (Err e) = refused (number e) ≡ checkable s.parts w

-- the number of a replay's one refusal: the output is too short
abbrev pub replay_number : ReplayRefusal → ℕ
replay_number RepliesTooShort = 13

-- K is the further kind, with what its grades and weights mean
module _ {V G W : Type 0} (K : Kind V) (means : G → V) (weighs : W → V) where
  -- the answer to a solve, by the kind of its weights
  abbrev pub SolvedRight : Lent → Standing → Weights W → Reply G → Type 0
  SolvedRight rows s (weights.Mass ws) r = SolveRight mass_kind (λ (m : Mass). m.grams) by_mass ws.now rows.mass s r
  SolvedRight rows s (weights.Wait ws) r = SolveRight wait_kind (λ (m : Wait). m.days) by_wait ws.now rows.wait s r
  SolvedRight rows s (weights.MassPrice ws) r =
      SolveRight mass_price_kind (λ (m : MassPrice). priced m.grams m.price) by_mass_price (map (λ (w : ℤ × ℕ). priced w.0 w.1) ws.now) rows.mass_price s r
  SolvedRight rows s (weights.Own ws) r = SolveRight K means by_own (map weighs ws.now) rows.own s r

  -- the answer to a call is right, where s stands before it
  abbrev pub Right : ℕ → Lent → Standing → Call W → Reply G → Type 0
  Right places rows s (Begin n) r = Says r (begun n)
  Right places rows s (Close terms side) r =
      Says r (closed places s (named terms.now) (limit_of terms.now side)) × RefusedForPlaces places s terms.now side r
  Right places rows s TakeBack r = Says r (taken_back s)
  Right places rows s (Solve ws) r = SolvedRight rows s ws r
  Right places rows s (Check c) r = CheckRight s c.0 r

  -- each answer of a log is right, by what the calls before it leave standing
  abbrev pub RightLog : ℕ → Lent → Standing → List (Call W) → List (Reply G) → Type 0
  RightLog places rows s [] [] = Unit {0}
  RightLog places rows s [] (r ∷ rs) = ⊥
  RightLog places rows s (c ∷ cs) [] = ⊥
  RightLog places rows s (c ∷ cs) (r ∷ rs) = Right places rows s c r × RightLog places rows (after places s c) cs rs

  -- the first replies are the answers of a right log that starts from a new job, and the others are left; or there are fewer replies
  -- than calls, and all are left
  abbrev pub Replayed : ℕ → Lent → List (Call W) → List (Reply G) → List (Reply G) → Result (Unit {0}) ReplayRefusal → Type 0
  Replayed places rows calls was is r = MatchResult r
      (λ _. RightLog places rows (standing 0 []) calls (take (length calls) is) × (drop (length calls) is ≡ drop (length calls) was))
      (λ e. (replay_number e ≡ 13) × (length was < length calls) × (is ≡ was))
