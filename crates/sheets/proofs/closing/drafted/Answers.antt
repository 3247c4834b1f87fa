use Rattle.std.proofs.Common.{ap}
use Rattle.limits.specs.Drafts.{Drafted}
use Rattle.sheets.proofs.Makes.{made}
use Rattle.sheets.proofs.closing.drafted.Goals as goal

pub returns : goal.returns
returns c =
    let (e, f, g) = c.new.ensures in
    record {
      coefficients = λ ts left. ap (λ (d : Drafted). d.coefficients) (made c.args.bytes.now c.new.result c.draft_of.result.coefficients c.draft_of.result.last e f g c.draft_of.ensures ts left);
      last = λ ts left. ap (λ (d : Drafted). d.last) (made c.args.bytes.now c.new.result c.draft_of.result.coefficients c.draft_of.result.last e f g c.draft_of.ensures ts left);
    }
