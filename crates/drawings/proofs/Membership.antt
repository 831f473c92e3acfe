-- The first of a list, and the others.
use Rattle.std.proofs.Common.{[]}
use Rattle.schema.specs.Rows.{◌∈◌}
use Rattle.schema.proofs.Members.{not_in_empty}
pub use Rattle.schema.proofs.Members.{here, there, here_or_there}

-- the empty list has none
pub nowhere : {A : Type 0} (x : A) → x ∈ [] → ⊥
nowhere x m = not_in_empty m
