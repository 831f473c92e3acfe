-- When an asked rule is answered yes.
--   EmptyDescription  a description is forced empty
--   Parted            one of two descriptions is empty, or they lead to two that clash
--   Yes               the rule is answered yes
--   Countable         the rule counts to 2 or more only at an arrow that no other leads to
use Rattle.std.specs.Prelude.{◌+◌, ◌*◌, ◌≤◌, ◌⊎◌, List}
use Rattle.search.specs.Leads.{Leads}
use Rattle.schema.specs.declared.row.Row.{Row}
use Rattle.schema.specs.Rules.{Rule, S, X, D, F, K, P, Q, arrow}
use Rattle.schema.specs.Webs.{Description, cls, mark, Link, ArrowLink, Apart, ArrowApart, Clashing, desc, Empty, EmptyClass, EmptyArrow, Alone}

-- nothing can be as the description says
abbrev pub EmptyDescription : List Row → Description → Type 0
EmptyDescription rows d = Empty rows (desc d)

-- either is empty, or they lead to two that clash, one from each
abbrev pub Parted : List Row → Description → Description → Type 0
Parted rows d u = EmptyDescription rows d ⊎ (EmptyDescription rows u ⊎ Clashing (Link rows) (Apart rows) d u)

-- K asks whether a and having the end n + 1 times are parted; two arrows are parted by themselves, by their tails or by their heads
abbrev pub Yes : List Row → Rule → Type 0
Yes rows (S a b) = EmptyClass rows a ⊎ Leads (Link rows) (cls a) (cls b)
Yes rows (X a b) = Parted rows (cls a) (cls b)
Yes rows (D e b) = EmptyDescription rows (mark e 1) ⊎ Leads (Link rows) (mark e 1) (cls b)
Yes rows (F a e n) = EmptyClass rows a ⊎ Leads (Link rows) (cls a) (mark e n)
Yes rows (K a e n) = Parted rows (cls a) (mark e (n + 1))
Yes rows (P p q) = EmptyArrow rows p ⊎ Leads (ArrowLink rows) p q
Yes rows (Q p q) =
    EmptyArrow rows p
    ⊎ (EmptyArrow rows q
    ⊎ (Clashing (ArrowLink rows) (ArrowApart rows) p q
    ⊎ (Clashing (Link rows) (Apart rows) (mark (2 * p) 1) (mark (2 * q) 1)
    ⊎ Clashing (Link rows) (Apart rows) (mark (2 * p + 1) 1) (mark (2 * q + 1) 1))))

-- only an F rule may be one that cannot be counted
abbrev pub Countable : List Row → Rule → Type 0
Countable rows (S a b) = Unit {0}
Countable rows (X a b) = Unit {0}
Countable rows (D e b) = Unit {0}
Countable rows (F a e n) = 2 ≤ n → Alone rows (arrow e)
Countable rows (K a e n) = Unit {0}
Countable rows (P p q) = Unit {0}
Countable rows (Q p q) = Unit {0}
