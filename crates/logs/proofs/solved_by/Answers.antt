use Rattle.std.proofs.Common.{map, length, ap, ◌∙◌}
use Rattle.std.proofs.lemmas.Result.{MatchResult-weaker}
use Rattle.jobs.specs.Calls.{asked}
use Rattle.jobs.specs.Stands.{stands}
use Rattle.logs.proofs.Answering.{finds}
use Rattle.logs.proofs.solved_by.Goals as goal

pub returns : goal.returns
returns g c = record {
  reply = c.solve.ensures.reply ∙ ap (λ xs. asked g.G.Grade.kind (stands c.args.job.now) (map g.G.Grade.weighs c.args.weights.now) (length xs)) c.new-rows.ensures.value;
  answer = MatchResult-weaker c.solve.result c.solve.ensures.answer (λ o h. finds g.G.Grade.kind g.met.G.Grade.laws g.G.Grade.means (map g.G.Grade.weighs c.args.weights.now) (stands c.args.job.now).limits o h) (λ e h. tt);
}
