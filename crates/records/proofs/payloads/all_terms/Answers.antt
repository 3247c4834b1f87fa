use Rattle.std.proofs.Common.{◌-◌, [], ◌∷◌, ◌++◌, length, ap, ◌∙◌, arith, rules}
use Rattle.fields.specs.Fields.{found}
use Rattle.records.proofs.Shown.{terms_more, terms_fault, terms_end}
use Rattle.records.proofs.payloads.all_terms.Goals as goal

pub returns-in_err-least : goal.returns-in_err-least
returns-in_err-least c =
    let (n, ts, h, e) = c.loop-payload.invariant.2 in
    let more = c.loop-payload-test.ensures.cases in
    let z = e ∙ terms_fault ts n (n - 1) c.loop-payload.payload.body.now c.loop-payload.payload.place c.loop-payload.least c.loop-payload.payload.at _ _ _
    (omega arith) more c.in_err-least.ensures.is.0 in
    search rules

pub loop-payload-preserved : goal.loop-payload-preserved
loop-payload-preserved c =
    let (n, ts, h, e) = c.loop-payload.invariant.2 in
    let more = c.loop-payload-test.ensures.cases in
    let d = c.in_ok-least.ensures.is in (
      d.2,
      omega (arith, c.in_ok-least.ensures.part),
      (
        n - 1,
        ts ++ (c.in_ok-least.field-0 ∷ []),
        omega (arith, d.1, ap (λ b. length b.now) d.3),
        rw (d.3, d.4) (e ∙ terms_more ts n (n - 1) c.loop-payload.payload.body.now c.loop-payload.payload.place c.loop-payload.least c.loop-payload.payload.at
            _ c.term.new.self.at (omega arith) more d.0),
      ),
      d.3 ∙ c.loop-payload.invariant.3,
    )

pub returns : goal.returns
returns c =
    let (n, ts, h, e) = c.loop-payload.invariant.2 in
    let none = c.loop-payload-test.ensures.cases in (
      ts,
      e ∙ terms_end ts n c.loop-payload.payload.body.now c.loop-payload.payload.place c.loop-payload.least c.loop-payload.payload.at none c.loop-payload.invariant.0
          ∙ ap (λ b. found ts (length b.now)) c.loop-payload.invariant.3,
    )
