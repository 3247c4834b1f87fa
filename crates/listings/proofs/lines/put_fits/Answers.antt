use Rattle.listings.proofs.Fitting.{chosen_out, room_after, puts_line}
use Rattle.listings.proofs.lines.put_fits.Goals as goal
use Rattle.listings.proofs.lines.put_fits.Goals.{then-word-eq1, else-word-eq1}

pub loop-name-preserved : goal.loop-name-preserved
loop-name-preserved c =
    let names = c.args.names.now in
    let i = c.loop-name.name-index in
    let word = c.loop-name.word in
    elim c.if-word-eq1.branch [
      | then-word-eq1 w ↦ rw w.cursor-is (record {
        room = room_after names i word c.loop-name-test.true w.if-word-eq1.true c.loop-name.cursor w.put_fit.new.cursor w.put_fit.ensures c.loop-name.invariant.room;
        all = λ end rest. c.loop-name.invariant.all end (puts_line names i word c.loop-name-test.true w.if-word-eq1.true c.loop-name.cursor w.put_fit.new.cursor w.put_fit.ensures end rest);
      })
      | else-word-eq1 w ↦ rw w.cursor-is (rw (← chosen_out names i word c.loop-name-test.true w.if-word-eq1.false) c.loop-name.invariant)
    ]
