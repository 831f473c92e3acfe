use Rattle.std.proofs.Common.{ℕ, ◌<◌, get_or}
use Rattle.schema.specs.Keys.{none, NearKey}
use Rattle.schema.proofs.Closings.{Closing, Passed}
use Rattle.schema.proofs.keys.KeyLinks.closed.Given as goal

abbrev pub invariant-loop-key : goal.invariant-loop-key
invariant-loop-key l = (k : ℕ) → k < l.key → NearKey l.self k (get_or l.led k none)

abbrev pub invariant-loop-via : goal.invariant-loop-via
invariant-loop-via l = Closing l.self l.via l.led

abbrev pub invariant-loop-keys : goal.invariant-loop-keys
invariant-loop-keys l = Passed l.keys-index l.via l.initial.keys-items l.keys-items
