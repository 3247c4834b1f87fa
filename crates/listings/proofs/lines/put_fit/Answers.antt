use Rattle.numbers.proofs.Chains.{puts_then}
use Rattle.listings.proofs.lines.put_fit.Goals as goal

pub returns : goal.returns
returns c = puts_then _ _ _ _ _ c.put_bytes.ensures (puts_then _ _ _ _ _ c.put_bytes-2.ensures c.put_bytes-3.ensures)
