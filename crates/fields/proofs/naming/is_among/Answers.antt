use Rattle.std.proofs.Common.{◌∙◌}
use Rattle.fields.proofs.Names.{any_among}
use Rattle.fields.proofs.naming.is_among.Goals as goal

pub returns : goal.returns
returns c = c.contains.ensures.value ∙ any_among c.args.names.now c.args.name.now
