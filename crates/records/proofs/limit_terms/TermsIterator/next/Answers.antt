use Rattle.std.proofs.Common.{sym, refl, ap}
use Rattle.records.proofs.Shown.{left_none, left_more, left_fault, next_none, next_found, next_fault}
use Rattle.records.proofs.limit_terms.TermsIterator.next.Goals as goal

pub returns-then-is_at_end-clause-steps : goal.returns-then-is_at_end-clause-steps
returns-then-is_at_end-clause-steps c =
    let was = c.args.self.now in
    let h = c.if-is_at_end.ensures.cases in
    record {
      is = sym (next_none was.payload.body.now was.least was.payload.at h);
      moves = refl;
      terms = λ ts l. left_none was.payload.body.now was.least was.payload.at ts h l;
      bytes = refl;
    }

pub returns-in_default-clause-steps : goal.returns-in_default-clause-steps
returns-in_default-clause-steps c =
    let was = c.args.self.now in
    let h = c.if-is_at_end.ensures.cases in
    let d = rw was.first at c.in_default.ensures.is.0 in
    record {
      is = sym (next_fault was.payload.body.now was.least was.payload.at _ _ _ h d);
      moves = refl;
      terms = λ ts l. absurd (left_fault was.payload.body.now was.least was.payload.at ts _ _ _ h d l);
      bytes = refl;
    }

pub returns-clause-steps : goal.returns-clause-steps
returns-clause-steps c =
    let was = c.args.self.now in
    let h = c.if-is_at_end.ensures.cases in
    let d = c.in-Ok.ensures.is in
    let r = rw was.first at d.0 in
    record {
      is = sym (next_found was.payload.body.now was.least was.payload.at c.in-Ok.term c.term.new.self.at h r);
      moves = (r, refl, c.in-Ok.ensures.part, d.1);
      terms = λ ts l. rw d.3 (left_more was.payload.body.now was.least was.payload.at ts c.in-Ok.term c.term.new.self.at h d.1 r l);
      bytes = ap (λ b. b.now) d.3;
    }
