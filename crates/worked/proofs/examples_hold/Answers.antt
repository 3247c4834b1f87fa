use Rattle.std.proofs.Common.{refl}
use Rattle.numbers.specs.Numbers.{rest_of_number, groups}
use Rattle.worked.proofs.examples_hold.Goals as goal

pub returns : goal.returns
unfolding rest_of_number groups
returns c = record {
  one_of_two_functions = refl;
  one_of_two_needs_four = refl;
  four_places_accept_it = refl;
  three_places_refuse_it = refl;
  twice_needs_four = refl;
  four_places_accept_it_twice = refl;
  at_most_one_needs_one = refl;
  at_most_none_needs_two = refl;
  no_terms_need_none = refl;
  four_parts_by_mass = (refl, refl);
  four_parts_by_wait = (refl, refl);
  four_parts_by_mass_and_price = (refl, refl);
  with_part_3_barred = (refl, refl);
  with_two_barred_nothing_fits = refl;
  three_parts_by_wait = (refl, refl);
  spelling_of_127 = refl;
  spelling_of_128 = refl;
  spelling_of_minus_1 = refl;
  zero_after_128_is_refused = refl;
}
