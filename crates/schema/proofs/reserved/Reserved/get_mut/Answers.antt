use Rattle.std.proofs.Common.{◌≡◌, ℕ, ◌≤◌, vec_len, vec_capacity}
use Rattle.std.proofs.Props.{props}
use Rattle.std.specs.Option.{ghost_name_of}
use borrow.Follows.Closed.{read_of}
use Rattle.schema.specs.declared.reserved.Reserved.{Reserved}
use Rattle.schema.proofs.reserved.Reserved.get_mut.Goals as goal

-- there is one proof at most that a list has its room
room_prop : {T : Type 0} {n : ℕ} (v : Reserved T n) → IsProp ((vec_len v.list ≤ n) × (n ≤ vec_capacity v.list))
room_prop v = Prim.hlevel props

-- so a list that is lent comes back the same, whatever proof it brings
comes_back : {T X : Type 0} {n : ℕ} (f : (T → Reserved T n) → Reserved T n → X) (back : T → Reserved T n) (v : Reserved T n)
    (r : (x : T) → (vec_len (back x).list ≤ n) × (n ≤ vec_capacity (back x).list)) (q : (vec_len v.list ≤ n) × (n ≤ vec_capacity v.list))
    → f (λ x. record { list = (back x).list; room = r x }) (record { list = v.list; room = q }) ≡ f back v
comes_back f back v r q = λ i. f (λ x. record { list = (back x).list; room = room_prop (back x) (r x) (back x).room i }) (record { list = v.list; room = room_prop v q v.room i })

pub returns : goal.returns
returns g c = (comes_back (read_of (ghost_name_of c.get_mut.result)) _ _ _ _, record { lends = tt; item = c.get_mut.ensures.item })
