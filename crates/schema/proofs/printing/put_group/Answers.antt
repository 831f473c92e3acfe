use Rattle.std.proofs.Common.{◌∙◌, arith}
use Rattle.schema.specs.Texts.{group}
use Rattle.schema.proofs.Splices.{part_spliced}
use Rattle.schema.proofs.printing.put_group.Goals as goal

pub returns : goal.returns
returns c = part_spliced c.args.at _ c.args.bytes.now _ (group c.args.n) (c.copy_from_slice.ensures.after ∙ c.group_of.ensures) (omega arith)
