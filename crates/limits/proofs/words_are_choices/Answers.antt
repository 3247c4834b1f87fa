use Rattle.limits.proofs.Words.{words_are_choices_lem}
use Rattle.limits.proofs.words_are_choices.Goals as goal

pub returns : goal.returns
returns c = words_are_choices_lem
