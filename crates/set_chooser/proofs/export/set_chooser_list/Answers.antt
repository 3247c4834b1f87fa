use Rattle.std.proofs.Common.{arith}
use Rattle.std.proofs.lemmas.Int.{ints}
use Rattle.set_chooser.proofs.export.set_chooser_list.Goals as goal

pub overflow_cast-result : goal.overflow_cast-result
overflow_cast-result c = let h = c.well_formed.1.0.1 in let k = c.in-Ok.ensures.fits in omega (arith, ints)
