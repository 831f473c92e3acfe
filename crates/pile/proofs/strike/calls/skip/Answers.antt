use Rattle.std.proofs.Common.{◌≡◌, ℕ, ◌+◌, cond, leb, List, [], ◌∷◌, length, refl, ap, ◌∙◌, add-one, arith, rules, tests}
use Rattle.std.specs.List.{fold, sum_by}
use Rattle.std.proofs.lemmas.Iterator.{YieldsList-from_slice}
use Rattle.std.proofs.lemmas.Iterator.Adapters.{serves_from_total}
use Rattle.std.proofs.lemmas.Iterator.Consumers.{fold_from_yields_List}
use Rattle.std.proofs.lemmas.List.Sums.{sum_by-cons}
use Rattle.pile.specs.Standing.{shifted}
use Rattle.pile.proofs.strike.calls.skip.Goals as goal

-- one turn of the fold
abbrev moved : ℕ → ℕ → ℕ
moved k x = cond (leb x k) (k + 1) k

-- each turn adds at most one
ones : (xs : List ℕ) → sum_by (λ (x : ℕ). 1) xs ≡ length xs
ones [] = refl
ones (x ∷ xs) = let e = sum_by-cons (λ (y : ℕ). 1) x xs in omega (arith, ones xs)

-- all of them
moved_past : (k : ℕ) (xs : List ℕ) → fold moved k xs ≡ shifted k xs
moved_past k [] = refl
moved_past k (x ∷ xs) = moved_past (moved k x) xs ∙ ap (λ (j : ℕ). shifted (cond (leb x k) j k) xs) (add-one k)

pub fold-requires-clause-callable : goal.fold-requires-clause-callable
fold-requires-clause-callable c =
    serves_from_total (YieldsList-from_slice c.args.struck.now (cc)) (λ x. 1) (λ n x q r. search (rules, tests))
    (λ n x w. let e = ones c.args.struck.now in λ ks rp gn v l f h. omega arith)

pub returns : goal.returns
returns c =
    fold_from_yields_List _ moved c.args.k _ c.fold.ensures.ran (YieldsList-from_slice c.args.struck.now (cc)) (λ a x b q r. search (rules, tests)) ∙ moved_past c.args.k c.args.struck.now
