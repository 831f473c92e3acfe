use Rattle.std.proofs.Common.{arith}
use Rattle.schema.specs.Keys.{blank, Known}
use Rattle.schema.proofs.Fillings.{filled_more}
use Rattle.schema.proofs.Schemas.{sheet_sound}
use Rattle.schema.proofs.Studied.{key_known}
use Rattle.schema.proofs.keys.Keys.survey.Goals as goal

pub loop-key-preserved : goal.loop-key-preserved
loop-key-preserved c =
    let s = c.args.schema.now in
    let rows = s.sheet.rows.items in
    filled_more (Known rows) c.loop-key.reaches c.loop-key.key c.study.result blank (omega arith) c.loop-key.invariant
    (key_known rows c.of-web.result c.of-web.ensures (sheet_sound s.sheet) s.uncapped c.loop-key.key (omega arith) c.study.result c.study.ensures)
