use Rattle.std.proofs.Common.{arith}
use Rattle.schema.proofs.rivals.fn.needing_more.of_those.Goals as goal

pub listed : goal.listed
listed c = let h = c.requires in omega (arith, h.0, c.type_inv.classes)
