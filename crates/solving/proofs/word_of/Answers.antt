use Rattle.solving.proofs.Readoff.{word_step, word_small}
use Rattle.solving.proofs.word_of.Goals as goal

pub loop-i-preserved : goal.loop-i-preserved
loop-i-preserved g c = (
  word_small c.loop-i.choice c.with_bit-choice.result c.loop-i.i c.settle-fitted.result.fitted c.loop-i.invariant.0 c.with_bit-choice.ensures,
  c.settle-fitted.ensures.stands,
  word_step _ c.loop-i.choice c.with_bit-choice.result c.loop-i.i c.settle-fitted.result.fitted _ _ c.loop-i.invariant.2 c.settle-fitted.ensures.chosen_is c.with_bit-choice.ensures,
)
