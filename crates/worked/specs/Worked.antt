-- The worked examples, as one table.
use Rattle.std.specs.Prelude.{◌≡◌, ℕ, List, [], ◌∷◌, ◌++◌, ℤ, pos, negsuc, ◌+ℤ◌, ◌-ℤ◌, ◌*ℤ◌, Some, None}
use Rattle.limits.specs.declared.Limit.{Limit}
use Rattle.limits.specs.declared.Sense.TheVariants.{AtMost}
use Rattle.limits.specs.Choices.{bits}
use Rattle.limits.specs.Limits.{keeps_all}
use Rattle.limits.specs.Refusals.{done, refused}
use Rattle.grades.specs.Laws.{Kind}
use Rattle.grades.specs.Kinds.{priced, mass_kind, wait_kind, mass_price_kind}
use Rattle.grades.specs.Rule.{grade, answer}
use Rattle.diagrams.specs.Needs.{table, needs, needed_all, built, once}
use Rattle.numbers.specs.Numbers.{encode, encode_signed, decode, unread}
use Rattle.jobs.specs.Calls.{standing, closed}
use Rattle.worked.specs.Sets.{x, one_of_two, first_at_most, limit, four_parts, four_masses, four_waits, four_costs, no_part_3, no_part_0, three_parts, three_waits}

-- the needed functions of the limits among n parts, each once
abbrev pub functions : ℕ → List Limit → List (List ℤ)
functions n ls = once (needed_all n (built ls (λ c. pos 1)))

-- among n parts of these weights the rule answers the choice of this word, and its grade is g
abbrev pub Answered : {G : Type 0} → Kind G → ℕ → List G → List Limit → ℕ → G → Type 0
Answered K n ws ls w g = (answer K ws (keeps_all ls) ≡ Some (bits n w)) × (grade K ws (bits n w) ≡ g)

pub record Worked : Type 0 where
  -- at most one of two parts needs the sum x0 + x1 and, with part 0 settled, x1; of its test, less the 1 with both left out, -x0x1, and with part 0 fitted -x1
  pub one_of_two_functions :
      functions 2 (one_of_two ∷ [])
      ≡ table 2 (λ c. x 0 c +ℤ x 1 c) ∷ table 1 (x 0) ∷ table 2 (λ c. pos 0 -ℤ (x 0 c *ℤ x 1 c)) ∷ table 1 (λ c. pos 0 -ℤ x 0 c) ∷ []
  -- so it needs four nodes: a table of four places accepts it, and one of three refuses it
  pub one_of_two_needs_four : needs 2 (one_of_two ∷ []) ≡ 4
  pub four_places_accept_it : closed 4 (standing 2 []) (Some 1) one_of_two ≡ done
  pub three_places_refuse_it : closed 3 (standing 2 []) (Some 1) one_of_two ≡ refused 15
  -- the same limit a second time still needs four
  pub twice_needs_four : needs 2 (one_of_two ∷ one_of_two ∷ []) ≡ 4
  pub four_places_accept_it_twice : closed 4 (standing 2 (one_of_two ∷ [])) (Some 1) one_of_two ≡ done
  -- among one part: at most 1 needs one node, at most 0 two, and a limit without terms none
  pub at_most_one_needs_one : needs 1 (first_at_most (pos 1) ∷ []) ≡ 1
  pub at_most_none_needs_two : needs 1 (first_at_most (pos 0) ∷ []) ≡ 2
  pub no_terms_need_none : needs 1 (limit [] AtMost (pos 0) ∷ []) ≡ 0
  -- the four-part set: the light pack and the light lamp are lightest, the heavy pack and the heavy lamp are soonest to be had
  pub four_parts_by_mass : Answered mass_kind 4 four_masses four_parts 10 (pos 125)
  pub four_parts_by_wait : Answered wait_kind 4 four_waits four_parts 5 3
  pub four_parts_by_mass_and_price : Answered mass_price_kind 4 four_costs four_parts 10 (priced (pos 125) 55)
  -- with part 3 barred the other lamp wants the heavy pack; with part 0 barred as well nothing fits
  pub with_part_3_barred : Answered mass_kind 4 four_masses (four_parts ++ no_part_3 ∷ []) 5 (pos 220)
  pub with_two_barred_nothing_fits : answer mass_kind four_masses (keeps_all (four_parts ++ no_part_3 ∷ no_part_0 ∷ [])) ≡ None
  -- part 0 has the longest wait and must be fitted: of the two others, which wait less, the rule leaves out the one that it can
  pub three_parts_by_wait : Answered wait_kind 3 three_waits three_parts 3 9
  -- 127 is one byte, 128 is two, signed -1 is the number 1, and 128 with 0 after it is no shortest form
  pub spelling_of_127 : encode 127 ≡ 127 ∷ []
  pub spelling_of_128 : encode 128 ≡ 128 ∷ 1 ∷ []
  pub spelling_of_minus_1 : encode_signed (negsuc 0) ≡ 1 ∷ []
  pub zero_after_128_is_refused : decode (128 ∷ 0 ∷ []) ≡ unread 2
