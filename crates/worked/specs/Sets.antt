-- The parts and limits of the worked examples.
use Rattle.std.specs.Prelude.{ℕ, ◌-◌, Bool, false, List, [], ◌∷◌, ◌++◌, length, replicate, ℤ, pos, negsuc, slice_index_or}
use Rattle.limits.specs.declared.Limit.{Limit}
use Rattle.limits.specs.declared.Sense.{Sense}
use Rattle.limits.specs.declared.Sense.TheVariants.{AtMost, AtLeast}
use Rattle.grades.specs.Kinds.{Priced, priced}
use Rattle.diagrams.specs.Needs.{indicator}

-- 1 where the part is fitted, 0 where it is left out
abbrev pub x : ℕ → List Bool → ℤ
x part c = indicator (slice_index_or c part false)

-- a limit with these coefficients of the first parts, and 0 for the others of its 48
abbrev pub limit : List ℤ → Sense → ℤ → Limit
limit cs sense bound = record { coefficients = cs ++ replicate (48 - length cs) (pos 0); sense = sense; bound = bound }

-- at most one of two parts
abbrev pub one_of_two : Limit
one_of_two = limit (pos 1 ∷ pos 1 ∷ []) AtMost (pos 1)

-- part 0 at most so often
abbrev pub first_at_most : ℤ → Limit
first_at_most bound = limit (pos 1 ∷ []) AtMost bound

-- the four-part set, two packs and two lamps: what is drawn against what the packs give, at most one pack, at least one lamp
abbrev pub four_parts : List Limit
four_parts =
    limit (negsuc 19 ∷ negsuc 9 ∷ pos 12 ∷ pos 9 ∷ []) AtMost (pos 0)
    ∷ limit (pos 1 ∷ pos 1 ∷ []) AtMost (pos 1)
    ∷ limit (pos 0 ∷ pos 0 ∷ pos 1 ∷ pos 1 ∷ []) AtLeast (pos 1)
    ∷ []

-- its masses, waits, and masses with prices
abbrev pub four_masses : List ℤ
four_masses = pos 180 ∷ pos 95 ∷ pos 40 ∷ pos 30 ∷ []

abbrev pub four_waits : List ℕ
four_waits = 3 ∷ 10 ∷ 2 ∷ 5 ∷ []

abbrev pub four_costs : List Priced
four_costs = priced (pos 180) 40 ∷ priced (pos 95) 25 ∷ priced (pos 40) 60 ∷ priced (pos 30) 30 ∷ []

-- part 3 is barred, or part 0
abbrev pub no_part_3 : Limit
no_part_3 = limit (pos 0 ∷ pos 0 ∷ pos 0 ∷ pos 1 ∷ []) AtMost (pos 0)

abbrev pub no_part_0 : Limit
no_part_0 = first_at_most (pos 0)

-- the three-part set: part 0, and at least one of the other two
abbrev pub three_parts : List Limit
three_parts =
    limit (pos 1 ∷ []) AtLeast (pos 1)
    ∷ limit (pos 0 ∷ pos 1 ∷ pos 1 ∷ []) AtLeast (pos 1)
    ∷ []

-- its waits
abbrev pub three_waits : List ℕ
three_waits = 9 ∷ 3 ∷ 4 ∷ []
