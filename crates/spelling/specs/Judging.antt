-- Which records may be written. The fields are judged in their order, and a bound after the terms.
use Rattle.std.specs.Prelude.{ℕ, ◌+◌, cond, ◌&&◌, List, [], ◌∷◌, length, ℤ, nat_le, unsigned_abs}
use Rattle.limits.specs.declared.drafts.Term.{Term}
use Rattle.limits.specs.Refusals.{Reply, done, refused}
use Rattle.fields.specs.Fields.{plain, in_range}
use Rattle.records.specs.Sheets.{Saying, part_says, limit_says, goal_says, end_says}
use Rattle.spelling.specs.Spelling.{spelled}

-- a part's name (5), and then its mass, wait and price (9)
abbrev pub judge_part : List ℕ → ℤ → ℕ → ℕ → Reply
judge_part name mass wait price =
    cond ((nat_le 1 (length name) && nat_le (length name) 16) && plain name)
    (cond (in_range mass)
    (cond (nat_le wait 1000000)
    (cond (nat_le price 1000000) done (refused 9)) (refused 9)) (refused 9)) (refused 5)

-- a term's part is at most 47 (7) and at least `least` (8), and its coefficient in range (9)
abbrev pub judge_term : ℕ → Term → Reply
judge_term least t =
    cond (nat_le t.part 47) (cond (nat_le least t.part) (cond (in_range t.coefficient) done (refused 9)) (refused 8)) (refused 7)

-- the first refusal of two
abbrev pub or_else : Reply → Reply → Reply
or_else done r = r
or_else (refused n) r = refused n

-- each term's part is above the one before
abbrev pub judge_terms : ℕ → List Term → Reply
judge_terms least [] = done
judge_terms least (t ∷ ts) = or_else (judge_term least t) (judge_terms (t.part + 1) ts)

-- within 100,000,000 either way
abbrev pub judge_bound : ℤ → Reply
judge_bound v = cond (nat_le (unsigned_abs v) 100000000) done (refused 9)

-- a goal is one of the three, so its code is never refused
abbrev pub judge : Saying → Reply
judge (part_says name mass wait price) = judge_part name mass wait price
judge (limit_says sense bound terms) = or_else (judge_terms 0 terms) (judge_bound bound)
judge (goal_says goal) = done
judge end_says = done

-- the fields first, and then the room that is left (13)
abbrev pub refusal_of : Saying → ℕ → Reply
refusal_of s room = or_else (judge s) (cond (nat_le (length (spelled s)) room) done (refused 13))
