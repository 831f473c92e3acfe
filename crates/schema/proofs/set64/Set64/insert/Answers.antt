use Rattle.std.proofs.Common.{ℕ, ◌*◌, ◌%◌, ◌^◌, ◌<◌, subst, arith}
use lib.Bits.{bit_or}
use Rattle.std.proofs.lemmas.Nat.Bits.{bit_at_set_same, bit_at_set_other}
use Rattle.std.specs.Int.{w64}
use Rattle.schema.specs.Masks.{Member, Joins}
use Rattle.schema.proofs.set64.Set64.insert.Goals as goal

joins : (m k : ℕ) → k < 64 → Joins m k (bit_or m ((1 * 2 ^ k) % 2 ^ 64))
unfolding Member
joins m k l =
    record {
      new = bit_at_set_same w64 m k l;
      kept = λ j h. grind (arith, bit_at_set_same w64 m k l, bit_at_set_other w64 m k l);
      only = λ j h. grind (arith, bit_at_set_same w64 m k l, bit_at_set_other w64 m k l);
    }

pub returns : goal.returns
returns c =
    let m = c.self.inside.bits in
    subst (λ (x : ℕ). Joins x c.args.k (bit_or m ((1 * 2 ^ c.args.k) % 2 ^ 64))) c.self.view_is (joins m c.args.k c.requires)
