use Rattle.std.proofs.Common.{◌≡◌, true, rules}
use Rattle.tables.specs.Places.{made}
use Rattle.tables.proofs.Tables.{one_function, one_edge}
use Rattle.tables.proofs.NodeTable.same.Goals as goal

pub returns : goal.returns
returns c =
    let there : c.eq.result ≡ true → c.args.a ≡ c.args.b = search rules in
    let back : c.args.a ≡ c.args.b → c.eq.result ≡ true = search rules in
    record {
      equal = (there, back);
      functions = λ parts sound from. (λ t. one_function parts (made c.args.self.now) c.args.a c.args.b (there t), λ f. back (one_edge parts (made c.args.self.now) sound c.args.a c.args.b from.0 from.1 f));
    }
