use Rattle.schema.specs.Keys.{Surveyed}
use Rattle.schema.proofs.keys.Keys.survey.Given as goal

abbrev pub invariant-loop-key : goal.invariant-loop-key
invariant-loop-key l = Surveyed l.schema.sheet.rows.items l.key (record { reaches = l.reaches })
