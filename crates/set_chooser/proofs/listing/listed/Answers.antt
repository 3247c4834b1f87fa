use Rattle.std.proofs.Common.{length, ap, subst, arith}
use Rattle.listings.specs.Listings.{contents, Listed}
use Rattle.jobs.specs.Calls.{standing}
use Rattle.jobs.specs.Stands.{stands, places}
use Rattle.sheets.specs.Told.{whole}
use Rattle.sheets.specs.Notes.{told_of}
use Rattle.sheets.proofs.Rounds.{sheet_small}
use Rattle.set_chooser.specs.Verdicts.{rows_lent}
use Rattle.set_chooser.proofs.Concluding.{listing_is}
use Rattle.set_chooser.proofs.listing.listed.Goals as goal

pub returns-in-Ok : goal.returns-in-Ok
returns-in-Ok g c =
    let told = told_of c.read_all.new.reader c.read_all.new.job c.read_all.new.notes in
    let given = c.in-Ok.ensures in
    let read = sheet_small (whole told) (places c.new-job.result) (length c.args.places.now) c.new-reader.result.sheet.now c.args.sheet.now c.new-reader.ensures.0 c.new-job.ensures.places (omega (arith, c.if-sheet-gt-LONGEST_SHEET.false)) given.is in
    subst (λ text. Listed text c.args.out.now c.write_verdict.new.out c.write_verdict.result)
    (listing_is c.args.sheet.now (length c.args.places.now) (rows_lent c.args.rows.now) told (stands c.read_all.new.job) (contents c.names.result.now) c.solved.result read c.names.ensures
    (ap (λ n. standing n (stands c.read_all.new.job).limits) given.parts) given.names c.solved.ensures)
    c.write_verdict.ensures
