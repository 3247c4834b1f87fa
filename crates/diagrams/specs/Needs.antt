-- The functions that the standing limits build, and the needed functions in them.
use Rattle.std.specs.Prelude.{ℕ, zero, suc, Bool, true, false, cond, not, ◌&&◌, List, [], ◌∷◌, ◌++◌, length, replicate, ℤ, pos, negsuc, ◌-ℤ◌, ◌*ℤ◌, ◌==◌}
use Rattle.limits.specs.declared.Limit.{Limit}
use Rattle.limits.specs.Limits.{sum, keeps}

-- whether two numbers are equal
abbrev pub same : ℤ → ℤ → Bool
same (pos a) (pos b) = a == b
same (pos a) (negsuc b) = false
same (negsuc a) (pos b) = false
same (negsuc a) (negsuc b) = a == b

-- whether two tables are equal
abbrev pub same_table : List ℤ → List ℤ → Bool
same_table [] [] = true
same_table [] (y ∷ ys) = false
same_table (x ∷ xs) [] = false
same_table (x ∷ xs) (y ∷ ys) = same x y && same_table xs ys

-- a function of the choice among n parts, as the table of its values
abbrev pub table : ℕ → (List Bool → ℤ) → List ℤ
table zero f = f [] ∷ []
table (suc n) f = table n (λ c. f (false ∷ c)) ++ table n (λ c. f (true ∷ c))

-- f less its value with all of its n parts left out
abbrev pub less : ℕ → (List Bool → ℤ) → List Bool → ℤ
less n f c = f c -ℤ f (replicate n false)

-- whether f, a function of one part and n later ones, depends on the first
abbrev pub depends : ℕ → (List Bool → ℤ) → Bool
depends n f = not (same_table (table n (λ c. f (false ∷ c))) (table n (λ c. f (true ∷ c))))

-- the needed functions in f, a function of n parts. A table of 2^m values is a function of the last m parts
abbrev pub needed : ℕ → (List Bool → ℤ) → List (List ℤ)
needed zero f = []
needed (suc n) f =
    cond (depends n f) (table (suc n) (less (suc n) f) ∷ []) []
    ++ (needed n (λ c. f (false ∷ c)) ++ needed n (λ c. f (true ∷ c)))

-- whether t is in the list
abbrev pub has : List (List ℤ) → List ℤ → Bool
has [] t = false
has (u ∷ us) t = cond (same_table u t) true (has us t)

-- each once
abbrev pub once : List (List ℤ) → List (List ℤ)
once [] = []
once (t ∷ ts) = cond (has ts t) (once ts) (t ∷ once ts)

-- 1 for yes, 0 for no
abbrev pub indicator : Bool → ℤ
indicator b = cond b (pos 1) (pos 0)

-- the functions of each limit in turn: its sum, whether it is kept, as 1 or 0, and the product of that and of the limits before it
abbrev pub built : List Limit → (List Bool → ℤ) → List (List Bool → ℤ)
built [] before = []
built (l ∷ ls) before =
    let k : List Bool → ℤ = λ c. indicator (keeps l c) in
    let a : List Bool → ℤ = λ c. before c *ℤ k c in
    sum l.coefficients ∷ (k ∷ (a ∷ built ls a))

-- the needed functions in each of some functions of n parts
abbrev pub needed_all : ℕ → List (List Bool → ℤ) → List (List ℤ)
needed_all n [] = []
needed_all n (f ∷ fs) = needed n f ++ needed_all n fs

-- how many nodes the limits need: the different needed functions in what they build
abbrev pub needs : ℕ → List Limit → ℕ
needs n ls = length (once (needed_all n (built ls (λ c. pos 1))))
