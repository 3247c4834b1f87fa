use Rattle.std.proofs.Common.{◌≡◌, ◌≤◌, ◌++◌, length, length-append, rules}
use Rattle.numbers.specs.Cursors.{Puts}
use Rattle.listings.specs.Listings.{goal_line}
use Rattle.listings.proofs.Fitting.{chosen, from_start}
use Rattle.listings.proofs.write_best.Goals as goal

pub returns : goal.returns
returns c =
    let (at_start, whole, name) = c.new-cursor.ensures in
    let line = goal_line c.args.grade in
    let lines = chosen c.args.names.now c.args.choice.0 in
    let size = length-append line lines in
    let goal_put : Puts line c.new-cursor.result c.put_bytes.new.self = search rules in
    let end : c.in_ok-end.end ≡ length (line ++ lines) = search (rules, size) in
    let room : length (line ++ lines) ≤ length c.args.out.now = search (rules, size) in
    let written = from_start c.args.out.now line lines c.new-cursor.result c.put_bytes.new.self c.put_fits.new.cursor at_start whole goal_put c.put_fits.ensures room in
    (end, search (rules, written))
