use Rattle.std.proofs.Common.{refl}
use Rattle.limits.proofs.Coefficients.{zeros_small}
use Rattle.limits.proofs.drafts.Draft.open.Goals as goal

pub invariant_of-result : goal.invariant_of-result
invariant_of-result c = record { whole = refl; small = zeros_small 48 1000000 }
