use Rattle.std.proofs.Common.{◌≡◌, ℕ, ◌<◌, ◌≤◌, [], ◌∷◌, ◌++◌, length, vec_items, Result, Ok, Err, IsOk, MatchResult, arith, rules}
use Rattle.schema.specs.declared.reserved.Reserved.{Reserved}
use Rattle.schema.specs.declared.row.Row.{Row}
use Rattle.pile.proofs.Shows.{room_own}
use Rattle.pile.proofs.trial.calls.OwnRowsLayer.enter.Goals as goal

-- where there is room, the row is put in
enters : {n : ℕ} (r : Result Unit Row) (old new : Reserved Row n) (row : Row) → length old.list.items < n
    → MatchResult r (λ _. (length old.list.items < n) × (new.list.items ≡ old.list.items ++ row ∷ [])) (λ y. (n ≤ length old.list.items) × (y ≡ row) × (new ≡ old))
    → IsOk r × (new.list.items ≡ old.list.items ++ row ∷ [])
enters (Ok u) old new row l h = (search rules, h.1)
enters (Err y) old new row l h = absurd (let z : ⊥ = omega (arith, h.0) in z)

pub unwrap-requires : goal.unwrap-requires
unwrap-requires g c =
    let few = room_own (g.S.Sheet.shows c.args.below.now) (vec_items c.args.self.now.own.list) (omega arith) in
    (enters c.push.result c.args.self.now.own c.push.new.self c.args.row few c.push.ensures).0

pub returns : goal.returns
returns g c =
    let few = room_own (g.S.Sheet.shows c.args.below.now) (vec_items c.args.self.now.own.list) (omega arith) in
    let put = (enters c.push.result c.args.self.now.own c.push.new.self c.args.row few c.push.ensures).1 in
    search (rules, put)
