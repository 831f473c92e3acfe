use Rattle.std.proofs.Common.{ℕ, ◌⊎◌, inl, inr}
use Rattle.schema.specs.Masks.{Strided}
use Rattle.schema.specs.Points.{ToNeeds}
use Rattle.schema.proofs.Leasts.{next_either}
use Rattle.schema.proofs.descriptions.class.Class.next_link.Goals as goal

pub returns : goal.returns
returns c =
    let w = c.args.self.now in
    let Up : ℕ → Type 0 = Strided w.supers 32 0 in
    let Need : ℕ → Type 0 = ToNeeds w.needs w.counts in
    next_either 2048 c.args.at Up Need (λ j. Up j ⊎ Need j) c.next_strided-up.result c.next_need-need.result c.lower.result c.next_strided-up.ensures
    c.next_need-need.ensures c.lower.ensures (λ k t. inl t) (λ k t. inr t) (λ k t. t)
