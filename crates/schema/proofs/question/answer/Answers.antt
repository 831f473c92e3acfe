use Rattle.std.proofs.Common.{◌≡◌, ℕ, sym, arith}
use Rattle.schema.specs.declared.row.Row.{Row}
use Rattle.schema.specs.Rules.{S, X, D, F, K, P, Q}
use Rattle.schema.proofs.Building.{row_is, fits_at}
use Rattle.schema.proofs.question.answer.Goals as goal

-- the numbers that are asked about are the row's
says : (r : Row) (l : ℕ) {a b n : ℕ} → r.letter ≡ l → a ≡ r.a → b ≡ r.b → n ≡ r.n → r ≡ record { letter = l; a = a; b = b; n = n }
says r l {a} {b} {n} e p q s = sym (row_is r l a b n e (sym p) (sym q) (sym s))

pub returns-in-83 : goal.returns-in-83
returns-in-83 c =
    let r = c.args.asked in
    rw (← c.of-found.ensures)
    (record {
      rule = S c.from-a.result c.from-b.result;
      writes = says r 83 c.in-83.is c.from-a.ensures c.from-b.ensures (omega (arith, (fits_at r 83 c.in-83.is c.requires).3));
      told = rw (← c.class.ensures, ← c.class-in-83.ensures) c.leads.ensures;
    })

pub returns-in-88 : goal.returns-in-88
returns-in-88 c =
    let r = c.args.asked in
    rw (← c.of-found.ensures)
    (record {
      rule = X c.from-a.result c.from-b.result;
      writes = says r 88 c.in-88.is c.from-a.ensures c.from-b.ensures (omega (arith, (fits_at r 88 c.in-88.is c.requires).3));
      told = rw (← c.class-in-88.ensures, ← c.class-in-88-2.ensures) c.parted.ensures;
    })

pub returns-in-68 : goal.returns-in-68
returns-in-68 c =
    let r = c.args.asked in
    rw (← c.of-found.ensures)
    (record {
      rule = D c.from-a.result c.from-b.result;
      writes = says r 68 c.in-68.is c.from-a.ensures c.from-b.ensures (omega (arith, (fits_at r 68 c.in-68.is c.requires).3));
      told = rw (← c.mark.ensures, ← c.class-in-68.ensures) c.leads-in-68.ensures;
    })

pub returns-in-70 : goal.returns-in-70
returns-in-70 c =
    let r = c.args.asked in
    rw (← c.of-found.ensures)
    (record {
      rule = F c.from-a.result c.from-b.result c.from-n.result;
      writes = says r 70 c.in-70.is c.from-a.ensures c.from-b.ensures c.from-n.ensures;
      told = rw (← c.class-in-70.ensures, ← c.mark-in-70.ensures) c.leads-in-70.ensures;
    })

pub returns-in-75 : goal.returns-in-75
returns-in-75 c =
    let r = c.args.asked in
    rw (← c.of-found.ensures)
    (record {
      rule = K c.from-a.result c.from-b.result c.from-n.result;
      writes = says r 75 c.in-75.is c.from-a.ensures c.from-b.ensures c.from-n.ensures;
      told = rw (← c.class-in-75.ensures, ← c.mark-in-75.ensures) c.parted-in-75.ensures;
    })

pub returns-in-80 : goal.returns-in-80
returns-in-80 c =
    let r = c.args.asked in
    rw (← c.of-found.ensures)
    (record {
      rule = P c.from-a.result c.from-b.result;
      writes = says r 80 c.in-80.is c.from-a.ensures c.from-b.ensures (omega (arith, (fits_at r 80 c.in-80.is c.requires).3));
      told = c.arrow_leads.ensures;
    })

pub returns-in-81 : goal.returns-in-81
returns-in-81 c =
    let r = c.args.asked in
    rw (← c.of-found.ensures)
    (record {
      rule = Q c.from-a.result c.from-b.result;
      writes = says r 81 c.in-81.is c.from-a.ensures c.from-b.ensures (omega (arith, (fits_at r 81 c.in-81.is c.requires).3));
      told = c.arrows_parted.ensures;
    })
