use Rattle.std.proofs.Common.{map, length, sym, subst, arith}
use Rattle.tables.specs.Chains.{made}
use Rattle.rows.specs.Ones.{ones_of}
use Rattle.solving.specs.Settling.{Solved}
use Rattle.solving.proofs.Readoff.{start_stands, filled_now, solve_some, solve_none}
use Rattle.solving.proofs.solve.Goals as goal

pub word_of-requires : goal.word_of-requires
word_of-requires g c = record {
  filled = filled_now g.met.G.Grade.laws g.G.Grade.means (map g.G.Grade.weighs c.args.weights.now) (made c.args.table.now) c.args.root c.from-start.result c.from-start.ensures c.requires.bits c.requires.under c.fill.new.rows.rows.now c.shown.result.now c.shown.ensures c.fill.ensures.right c.requires.ready (omega (arith, c.fill.ensures.kept, c.requires.enough));
  stands = start_stands (made c.args.table.now) (length (map g.G.Grade.weighs c.args.weights.now)) c.args.root c.from-start.result c.from-start.ensures c.requires.bits c.requires.under;
}

pub returns-clause-solved : goal.returns-clause-solved
returns-clause-solved g c = solve_some g.met.G.Grade.laws g.G.Grade.means (map g.G.Grade.weighs c.args.weights.now) (made c.args.table.now) c.args.root c.from-start.result c.from-start.ensures c.requires.bits c.requires.under c.fill.new.rows.rows.now c.shown.result.now c.shown.ensures c.fill.ensures.right c.best.result _ c.best.ensures c.in_ok-grade.was c.word_of.ensures

pub returns-in_err-grade-clause-solved : goal.returns-in_err-grade-clause-solved
returns-in_err-grade-clause-solved g c =
    subst (Solved g.G.Grade.kind g.G.Grade.means (map g.G.Grade.weighs c.args.weights.now) (ones_of (made c.args.table.now) 0 c.args.root.constant c.args.root.child)) (sym c.from_residual.ensures)
    (solve_none g.met.G.Grade.laws g.G.Grade.means (map g.G.Grade.weighs c.args.weights.now) (made c.args.table.now) c.args.root c.from-start.result c.from-start.ensures c.requires.bits c.requires.under c.fill.new.rows.rows.now c.shown.result.now c.shown.ensures c.fill.ensures.right c.best.result c.best.ensures c.in_err-grade.was)
