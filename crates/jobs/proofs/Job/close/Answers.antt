use Rattle.std.proofs.Common.{◌<◌, length, refl, ap, ◌∙◌}
use Rattle.limits.specs.Refusals.{refused}
use Rattle.tables.specs.Chains.{room}
use Rattle.jobs.specs.Books.{limits_of}
use Rattle.jobs.specs.Calls.{standing, closed, after_close}
use Rattle.jobs.proofs.Ready.{table_ready}
use Rattle.jobs.proofs.Closing.{may_begin, inside, too_few, same_books, accepted, longer_books, longer_stands, stands_by}
use Rattle.tables.specs.Chains.{made}
use Rattle.jobs.proofs.Job.close.Goals as goal

pub extend-requires : goal.extend-requires
extend-requires g c = record {
  begins = may_begin c.args.self.now.parts c.args.self.now.table c.args.self.now.ledger.records c.args.self.now.ledger.count c.product-product.result c.finish-limit.result c.last-last.result c.args.self.now.books c.product-product.ensures c.args.self.now.few c.args.self.now.ledger.whole c.args.self.now.ledger.few c.in_ok-tested.ensures c.finish-limit.ensures.small;
  table = table_ready c.args.self.now.parts (made c.args.self.now.table) c.args.self.now.ledger.records c.args.self.now.ledger.count c.product-product.result c.args.self.now.books c.product-product.ensures c.args.self.now.table refl;
}

pub invariant_of-self-2 : goal.invariant_of-self-2
invariant_of-self-2 g c =
    let h : c.args.self.now.ledger.count < length c.args.self.now.ledger.records = inside c.args.self.now.parts c.args.self.now.table c.args.self.now.ledger.records c.args.self.now.ledger.count c.product-product.result c.finish-limit.result c.last-last.result c.args.self.now.books c.product-product.ensures c.args.self.now.few c.args.self.now.ledger.whole c.args.self.now.ledger.few c.in_ok-tested.ensures in record {
      few = c.args.self.now.few;
      books = longer_books c.args.self.now.parts c.args.self.now.table c.args.self.now.ledger.records c.args.self.now.ledger.count c.product-product.result c.finish-limit.result c.last-last.result c.args.self.now.books c.product-product.ensures c.args.self.now.few c.args.self.now.ledger.whole c.args.self.now.ledger.few c.in_ok-tested.ensures c.extend.new.table c.in-Some.edge c.in-Some.ensures c.used-mark.result c.used-mark.ensures.nodes c.post.new.self.records c.post.new.self.count c.post.ensures.records c.post.ensures.count;
    }

pub invariant_of-self : goal.invariant_of-self
invariant_of-self g c = record {
  few = c.args.self.now.few;
  books = same_books c.args.self.now.parts c.args.self.now.table c.args.self.now.ledger.records c.args.self.now.ledger.count c.product-product.result c.finish-limit.result c.last-last.result c.args.self.now.books c.product-product.ensures c.args.self.now.few c.args.self.now.ledger.whole c.args.self.now.ledger.few c.in_ok-tested.ensures c.extend.new.table c.in_default.ensures;
}

pub returns : goal.returns
returns g c = record {
  reply = accepted c.args.self.now.parts c.args.self.now.table c.args.self.now.ledger.records c.args.self.now.ledger.count c.product-product.result c.finish-limit.result c.last-last.result c.args.self.now.books c.product-product.ensures c.args.self.now.few c.args.self.now.ledger.whole c.args.self.now.ledger.few c.in_ok-tested.ensures c.extend.new.table c.in-Some.edge c.in-Some.ensures c.used-mark.result c.used-mark.ensures.nodes ∙ (ap (λ o. closed (room c.args.self.now.table) (standing c.args.self.now.parts (limits_of c.args.self.now.ledger.records c.args.self.now.ledger.count)) o c.finish-limit.result) c.last-last.ensures ∙ ap (closed (room c.args.self.now.table) (standing c.args.self.now.parts (limits_of c.args.self.now.ledger.records c.args.self.now.ledger.count)) c.args.draft.last) c.finish-limit.ensures.is);
  stands = longer_stands c.args.self.now.parts c.args.self.now.table c.args.self.now.ledger.records c.args.self.now.ledger.count c.product-product.result c.finish-limit.result c.last-last.result c.args.self.now.books c.product-product.ensures c.args.self.now.few c.args.self.now.ledger.whole c.args.self.now.ledger.few c.in_ok-tested.ensures c.extend.new.table c.in-Some.edge c.in-Some.ensures c.used-mark.result c.used-mark.ensures.nodes c.post.new.self.records c.post.new.self.count c.post.ensures.records c.post.ensures.count ∙ (ap (λ o. after_close (room c.args.self.now.table) (standing c.args.self.now.parts (limits_of c.args.self.now.ledger.records c.args.self.now.ledger.count)) o c.finish-limit.result) c.last-last.ensures ∙ ap (after_close (room c.args.self.now.table) (standing c.args.self.now.parts (limits_of c.args.self.now.ledger.records c.args.self.now.ledger.count)) c.args.draft.last) c.finish-limit.ensures.is);
  places = c.in-Some.ensures.places;
}

pub returns-in_default : goal.returns-in_default
returns-in_default g c =
    let reply-is = too_few c.args.self.now.parts c.args.self.now.table c.args.self.now.ledger.records c.args.self.now.ledger.count c.product-product.result c.finish-limit.result c.last-last.result c.args.self.now.books c.product-product.ensures c.args.self.now.few c.args.self.now.ledger.whole c.args.self.now.ledger.few c.in_ok-tested.ensures c.extend.new.table c.in_default.ensures in
    record {
      reply = reply-is ∙ (ap (λ o. closed (room c.args.self.now.table) (standing c.args.self.now.parts (limits_of c.args.self.now.ledger.records c.args.self.now.ledger.count)) o c.finish-limit.result) c.last-last.ensures ∙ ap (closed (room c.args.self.now.table) (standing c.args.self.now.parts (limits_of c.args.self.now.ledger.records c.args.self.now.ledger.count)) c.args.draft.last) c.finish-limit.ensures.is);
      stands = stands_by (room c.args.self.now.table) c.args.self.now.parts (limits_of c.args.self.now.ledger.records c.args.self.now.ledger.count) c.last-last.result c.finish-limit.result (refused 15) reply-is ∙ (ap (λ o. after_close (room c.args.self.now.table) (standing c.args.self.now.parts (limits_of c.args.self.now.ledger.records c.args.self.now.ledger.count)) o c.finish-limit.result) c.last-last.ensures ∙ ap (after_close (room c.args.self.now.table) (standing c.args.self.now.parts (limits_of c.args.self.now.ledger.records c.args.self.now.ledger.count)) c.args.draft.last) c.finish-limit.ensures.is);
      places = c.in_default.ensures.places;
    }
