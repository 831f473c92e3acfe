use Rattle.schema.proofs.Answering.{answered}
use Rattle.schema.proofs.Schemas.{schema_passes}
use Rattle.schema.proofs.question.ask.Goals as goal

pub returns : goal.returns
returns c =
    let s = c.args.schema.now in
    answered s.sheet.counts.classes s.sheet.counts.arrows s.sheet.rows.items (schema_passes s) c.args.asked c.in_default.ensures c.if-uncountable.ensures c.answer.result c.answer.ensures
