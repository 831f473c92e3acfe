use Rattle.std.proofs.Common.{get_or, arith}
use Rattle.std.proofs.lemmas.Option.{slice_get-get_or}
use Rattle.schema.specs.Columns.{blank_row}
use Rattle.schema.specs.Rows.{Sound}
use Rattle.schema.specs.Verdicts.{unsound_row}
use Rattle.schema.proofs.Members.{each_below, every_∈}
use Rattle.schema.proofs.checks.check_sound.Goals as goal

pub returns-in-Some : goal.returns-in-Some
returns-in-Some c =
    let rows = c.args.rows.now in
    unsound_row c.loop-k.k c.in-Some.field (get_or rows c.loop-k.k blank_row) (record { few_classes = c.args.counts.few.0; few_arrows = c.args.counts.few.1; few_rows = c.requires }) (slice_get-get_or rows c.loop-k.k blank_row c.loop-k-test.true)
    (each_below (Sound c.args.counts.classes c.args.counts.arrows) rows c.loop-k.k blank_row (omega arith) c.loop-k.invariant) c.in-Some.ensures

pub returns : goal.returns
returns c r m =
    every_∈ (Sound c.args.counts.classes c.args.counts.arrows) c.args.rows.now blank_row (λ k l. c.loop-k.invariant k (omega arith)) r m
