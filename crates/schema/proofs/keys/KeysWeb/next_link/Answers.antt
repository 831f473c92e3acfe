use Rattle.std.proofs.Common.{ℕ, ◌<◌, ◌≤◌, Some, None, Option, MatchOption, arith, rules}
use Rattle.std.proofs.lemmas.Iterator.{first_from_Range}
use Rattle.search.specs.Leads.{NextLink}
use Rattle.schema.specs.declared.keys.Keys.{Keys}
use Rattle.schema.specs.Keys.{Backward, is_torn, to_class, to_end, other_end}
use Rattle.schema.proofs.keys.KeysWeb.next_link.Goals as goal

-- a link leads backward to a key
to_key : (w : Keys) (i j : ℕ) → Backward w i j → j < 128
to_key w i j (is_torn e h t) = h
to_key w i j (to_class l h m) = h
to_key w i j (to_end l u h m) = h
to_key w i j (other_end l u h e) = h

-- the first key that a link leads to is the lowest
first : (w : Keys) (i at : ℕ) (r : Option ℕ) → MatchOption r ((k : ℕ) → at ≤ k → k < 128 → Backward w i k → ⊥)
    (λ j. (at ≤ j) × (j < 128) × Backward w i j × ((k : ℕ) → at ≤ k → k < j → Backward w i k → ⊥)) → NextLink 129 (Backward w i) at r
first w i at None f = λ j a l b. f j a (to_key w i j b) b
first w i at (Some j) f = (f.0, omega (arith, f.1), f.2, f.3)

pub returns : goal.returns
returns c =
    let w = c.args.self.now in
    let i = c.args.from in
    first w i c.args.at c.find.result
    (first_from_Range _ _ _ _ (Backward w i) (λ k. Backward w i k → ⊥) c.find.ensures.ran (λ x q k. search rules) (λ x q k. (search rules, search rules)))
