use Rattle.std.proofs.Common.{arith}
use Rattle.schema.proofs.rivals.fn.torn_sets.any.Goals as goal

pub listed : goal.listed
listed c = let h = c.requires in omega (arith, c.type_inv.rivals)
