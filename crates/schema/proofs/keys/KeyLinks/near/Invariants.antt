use Rattle.std.proofs.Common.{ℕ, ◌-◌, ◌<◌, ◌≤◌}
use Rattle.search.specs.Leads.{Leads, Joined}
use Rattle.schema.specs.Keys.{Forward, Holds, Narrow}
use Rattle.schema.proofs.keys.KeyLinks.near.Given as goal

abbrev pub invariant-loop-to : goal.invariant-loop-to
invariant-loop-to l =
    record {
      narrow : Narrow l.keys;
      own : Holds l.keys l.key;
      all : (j : ℕ) → j < l.at → Joined 128 (Forward l.self) l.key j → Holds l.keys j;
      only : (j : ℕ) → Holds l.keys j → Leads (Joined 128 (Forward l.self)) l.key j;
      within : l.at ≤ 128;
    }

abbrev pub decreases-loop-to : goal.decreases-loop-to
decreases-loop-to l = 128 - l.at
