use Rattle.std.proofs.Common.{arith}
use Rattle.schema.specs.TextSheets.{text_shows}
use Rattle.schema.proofs.Trips.{short_reprint, repeats}
use Rattle.schema.proofs.print.reprint.Goals as goal

-- The check finds this one alone, but not where a body says the same length in another way. With it an edit is refused
-- for its length, and not for how it is written.
pub returns : goal.returns
returns c = repeats (text_shows c.in_ok-sheet.sheet) _ c.in-Ok.len (omega arith) c.in_ok-sheet.ensures c.in-Ok.ensures

pub returns-in_default : goal.returns-in_default
returns-in_default c =
    let t = c.in_ok-sheet.ensures.tells in
    let short = short_reprint (text_shows c.in_ok-sheet.sheet) c.args.bytes.now c.print.new.bytes c.in_default.field-0 t c.in_default.ensures in
    ((_, _, _, t), short.0, short.1)
