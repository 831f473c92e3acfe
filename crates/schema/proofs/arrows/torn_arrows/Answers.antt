use Rattle.std.proofs.Common.{rules}
use Rattle.schema.proofs.Gather.{chosen_gathers}
use Rattle.schema.proofs.arrows.torn_arrows.Goals as goal

pub returns : goal.returns
returns c = chosen_gathers c.of_those.ensures (λ k l b s. search rules)
