-- The text of a listing, as bytes; 10 ends a line.
use Rattle.std.specs.Prelude.{◌≡◌, ℕ, ◌<◌, Bool, cond, List, [], ◌∷◌, ◌++◌, map, length, drop, codes, decimal, Option, MatchOption}
use Rattle.std.specs.Borrow.{Bor}
use Rattle.std.specs.Fmt.{signed_decimal}
use Rattle.listings.specs.declared.Grade.{Grade}
use Rattle.listings.specs.declared.Grade.TheVariants.{Mass, Wait, MassPrice}

-- the goal, the kind's name, and its one or two numbers
abbrev pub goal_line : Grade → List ℕ
goal_line (Mass m) = codes "goal mass " ++ (signed_decimal m ++ (10 ∷ []))
goal_line (Wait d) = codes "goal wait " ++ (decimal d ++ (10 ∷ []))
goal_line (MassPrice m p) = codes "goal mass-price " ++ (signed_decimal m ++ (32 ∷ (decimal p ++ (10 ∷ []))))

-- a fitted part's name
abbrev pub fit_line : List ℕ → List ℕ
fit_line name = codes "fit " ++ (name ++ (10 ∷ []))

abbrev pub fit_lines : List (List ℕ) → List ℕ
fit_lines [] = []
fit_lines (n ∷ ns) = fit_line n ++ fit_lines ns

-- the listing of a choice: its grade, and the names of its fitted parts
abbrev pub best_text : Grade → List (List ℕ) → List ℕ
best_text grade names = goal_line grade ++ fit_lines names

abbrev pub nothing_text : List ℕ
nothing_text = codes "nothing fits" ++ (10 ∷ [])

-- number, layer, record and place of a fault
abbrev pub fault_text : ℕ → ℕ → ℕ → ℕ → List ℕ
fault_text f l r p =
    codes "fault " ++ (decimal f ++ (codes " layer " ++ (decimal l ++ (codes " record " ++ (decimal r ++ (codes " place " ++ (decimal p ++ (10 ∷ []))))))))

-- those of a list that a choice fits
abbrev pub fitted : {A : Type 0} → List A → List Bool → List A
fitted [] c = []
fitted (x ∷ xs) [] = []
fitted (x ∷ xs) (b ∷ c) = cond b (x ∷ fitted xs c) (fitted xs c)

-- what references to names hold
abbrev pub contents : List (Bor (List ℕ)) → List (List ℕ)
contents names = map (λ n. n.now) names

-- the text stands at the start of the output, and the rest is left; or it is too long, and all is left
abbrev pub Listed : List ℕ → List ℕ → List ℕ → Option ℕ → Type 0
Listed text was is answer = MatchOption answer
    ((length was < length text) × (is ≡ was))
    (λ n. (n ≡ length text) × (is ≡ text ++ drop (length text) was))
