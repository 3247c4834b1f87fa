-- A job's calls: what each answers, and what stands after it.
use Rattle.std.specs.Prelude.{ℕ, suc, ◌/◌, ◌^◌, Bool, true, false, cond, List, [], ◌∷◌, ◌++◌, length, ℤ, Some, None, Option, ◌==◌, nat_le, nat_lt, unsigned_abs}
use Rattle.std.specs.List.{list_all}
use Rattle.limits.specs.declared.Limit.{Limit}
use Rattle.limits.specs.Limits.{keeps}
use Rattle.limits.specs.Refusals.{Reply, done, refused}
use Rattle.grades.specs.Laws.{Kind}
use Rattle.diagrams.specs.Needs.{needs}

-- what stands: the number of parts, and the limits, oldest first
pub record Standing : Type 0 where
  pub parts : ℕ
  pub limits : List Limit

-- so many parts and these limits stand
abbrev pub standing : ℕ → List Limit → Standing
standing n ls = record { parts = n; limits = ls }

-- a second reply where the first is done
abbrev pub and_then : Reply → Reply → Reply
and_then done r = r
and_then (refused n) r = refused n

-- what stands where a call is done, and where it is refused
abbrev pub if_done : Reply → Standing → Standing → Standing
if_done done s t = s
if_done (refused n) s t = t

-- begin: at most 48 parts, and no limits
abbrev pub begun : ℕ → Reply
begun n = cond (nat_le n 48) done (refused 7)

-- what stands after begin: that many parts and no limits, or what stood where it is refused
abbrev pub after_begin : Standing → ℕ → Standing
after_begin s n = if_done (begun n) (standing n []) s

-- the highest part that a term names is below n
abbrev pub named_below : Option ℕ → ℕ → Bool
named_below None n = true
named_below (Some p) n = nat_lt p n

-- close is tested for the bound's range (9), a part that the job lacks (7), and 64 limits that stand (14), in that order
abbrev pub tested : ℕ → ℕ → Option ℕ → ℤ → Reply
tested parts count named bound =
    cond (nat_le (unsigned_abs bound) 100000000) (cond (named_below named parts) (cond (nat_lt count 64) done (refused 14)) (refused 7)) (refused 9)

-- and then for more needed nodes than there is room (15)
abbrev pub closed : ℕ → Standing → Option ℕ → Limit → Reply
closed room s named l =
    and_then (tested s.parts (length s.limits) named l.bound) (cond (nat_le (needs s.parts (s.limits ++ (l ∷ []))) room) done (refused 15))

-- what stands after close: one limit more, or what stood where it is refused
abbrev pub after_close : ℕ → Standing → Option ℕ → Limit → Standing
after_close room s named l = if_done (closed room s named l) (standing s.parts (s.limits ++ (l ∷ []))) s

-- whether a list has no elements
abbrev pub empty? : {A : Type 0} → List A → Bool
empty? [] = true
empty? (x ∷ xs) = false

-- a list without its last element
abbrev pub but_last : {A : Type 0} → List A → List A
but_last [] = []
but_last (x ∷ []) = []
but_last (x ∷ (y ∷ ys)) = x ∷ but_last (y ∷ ys)

-- take back is refused where no limit stands (12)
abbrev pub taken_back : Standing → Reply
taken_back s = cond (empty? s.limits) (refused 12) done

-- what stands after take back: the limits but the latest
abbrev pub after_take_back : Standing → Standing
after_take_back s = standing s.parts (but_last s.limits)

-- all weights are in range
abbrev pub all_in_range : {G : Type 0} → Kind G → List G → Bool
all_in_range K = list_all (λ w. nat_le (K.size w) 1000000)

-- solve is tested for the number of weights (10), their range (9), and fewer rows than used nodes (11), in that order
abbrev pub asked : {G : Type 0} → Kind G → Standing → List G → ℕ → Reply
asked K s ws rows =
    cond (length ws == s.parts) (cond (all_in_range K ws) (cond (nat_le (needs s.parts s.limits) rows) done (refused 11)) (refused 9)) (refused 10)

-- check is tested for a bit from the number of parts up (7)
abbrev pub checkable : ℕ → ℕ → Reply
checkable parts w = cond (w / 2 ^ parts == 0) done (refused 7)

-- the first limit that the choice breaks, counted from i
abbrev pub broken : ℕ → List Limit → List Bool → Option ℕ
broken i [] c = None
broken i (l ∷ ls) c = cond (keeps l c) (broken (suc i) ls c) (Some i)
