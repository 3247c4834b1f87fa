use Rattle.std.proofs.Common.{sym, ◌∙◌, subst}
use Rattle.walks.specs.Stack.{Opening}
use Rattle.walks.proofs.Once.{can_left, can_right}
use Rattle.walks.proofs.open_question.Goals as goal

pub settled-requires : goal.settled-requires
settled-requires c =
    let o = subst (Opening c.requires.0 c.requires.1 c.args.table.now c.args.q) (c.requires.5 ∙ sym c.top.ensures) c.requires.3 in
    (can_left o, can_right o)
