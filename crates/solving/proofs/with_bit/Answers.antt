use Rattle.std.proofs.Common.{arith}
use Rattle.solving.proofs.Readoff.{word_bit}
use Rattle.solving.proofs.with_bit.Goals as goal

pub returns-then-fitted : goal.returns-then-fitted
returns-then-fitted c = word_bit c.args.choice c.args.i c.args.fitted (omega (arith, c.requires.low)) c.requires.below c.if-fitted.true
