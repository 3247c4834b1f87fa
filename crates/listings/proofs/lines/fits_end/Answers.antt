use Rattle.std.proofs.Common.{◌+◌, ◌<◌, length, ap, arith, rules}
use Rattle.listings.proofs.lines.fits_end.Goals as goal
use Rattle.listings.proofs.lines.fits_end.Goals.{then-word-eq1+in_ok-end, else-word-eq1}
use Rattle.listings.proofs.Fitting.{chosen, chosen_length, chosen_out, chosen_none}

pub returns-in_err-end : goal.returns-in_err-end
returns-in_err-end c =
    let h = c.in_err-end.ensures in
    let l = chosen_length c.args.names.now c.loop-name.name-index c.loop-name.word (omega arith) (omega arith) in
    let z : c.args.room < c.args.at + length (chosen c.args.names.now c.args.choice.0) = omega arith in search rules

pub loop-name-preserved : goal.loop-name-preserved
loop-name-preserved c =
    elim c.if-word-eq1.branch [
      | then-word-eq1+in_ok-end w ↦
          let h = w.in_ok-end.ensures in
          let e = w.end-is in
          let l = chosen_length c.args.names.now c.loop-name.name-index c.loop-name.word (omega arith) (omega arith) in
          (omega arith, omega arith)
      | else-word-eq1 w ↦
          let e = w.end-is in
          let l = ap length (chosen_out c.args.names.now c.loop-name.name-index c.loop-name.word (omega arith) (λ z. omega arith)) in
          (omega arith, omega arith)
    ]

pub returns : goal.returns
returns c =
    let l = ap length (chosen_none c.args.names.now c.loop-name.name-index c.loop-name.word (omega arith)) in (omega arith, omega arith)
