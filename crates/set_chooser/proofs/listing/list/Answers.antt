use Rattle.std.proofs.Common.{length}
use Rattle.set_chooser.specs.Verdicts.{rows_lent}
use Rattle.set_chooser.proofs.Promised.{listings_right}
use Rattle.set_chooser.proofs.listing.list.Goals as goal

pub returns-clause-right : goal.returns-clause-right
returns-clause-right g c = listings_right c.args.sheet.now (length c.args.places.now) (rows_lent c.args.rows.now)
