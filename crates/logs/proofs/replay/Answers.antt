use Rattle.std.proofs.Common.{[], length, take, drop, refl, ap, ◌∙◌, subst, arith}
use Rattle.std.proofs.lemmas.List.{length-set, drop-set-lt}
use Rattle.jobs.specs.Calls.{standing}
use Rattle.jobs.specs.Stands.{stands, places}
use Rattle.logs.specs.Logs.{lent, RightLog}
use Rattle.logs.proofs.Running.{one_more, none_yet, all_right}
use Rattle.logs.proofs.replay.Goals as goal

pub loop-i-init : goal.loop-i-init
loop-i-init g c = (none_yet g.G.Grade.kind g.G.Grade.means g.G.Grade.weighs (places c.new-job.result) (lent c.args.rows.now) c.args.calls.now c.args.replies.now (stands c.new-job.result) c.new-job.ensures.stands, refl, refl, refl, refl)

pub loop-i-preserved : goal.loop-i-preserved
loop-i-preserved g c =
    let (before, same-places, same_rows, same_length, rest) = c.loop-i.invariant in (
      one_more g.G.Grade.kind g.G.Grade.means g.G.Grade.weighs (places c.new-job.result) (lent c.args.rows.now) c.args.calls.now c.loop-i.replies c.put.new.xs (stands c.loop-i.job) (stands c.perform.new.job) c.loop-i.i (places c.loop-i.job) (lent c.loop-i.rows) c.index-calls-i.result c.index-calls-i.result c.perform.result c.loop-i-test.true (omega (arith, same_length, c.loop-i-test.true, c.if-replies-calls.false)) same-places same_rows c.index-calls-i.is c.put.ensures c.perform.ensures.right c.perform.ensures.stands before,
      c.perform.ensures.places ∙ same-places,
      c.perform.ensures.lent ∙ same_rows,
      ap length c.put.ensures ∙ simp length-set same_length,
      ap (drop (length c.args.calls.now)) c.put.ensures ∙ (drop-set-lt (length c.args.calls.now) c.loop-i.replies c.loop-i.i c.perform.result c.loop-i-test.true ∙ rest),
    )

pub returns : goal.returns
returns g c =
    let (before, same-places, same_rows, same_length, rest) = c.loop-i.invariant in (
      subst (λ n. RightLog g.G.Grade.kind g.G.Grade.means g.G.Grade.weighs n (lent c.args.rows.now) (standing 0 []) c.args.calls.now (take (length c.args.calls.now) c.loop-i.replies)) c.new-job.ensures.places
          (all_right g.G.Grade.kind g.G.Grade.means g.G.Grade.weighs (places c.new-job.result) (lent c.args.rows.now) c.args.calls.now c.loop-i.replies (stands c.loop-i.job) c.loop-i.i (omega (arith, c.loop-i-test.false, c.loop-i.auto.i-end)) before),
      rest,
    )
