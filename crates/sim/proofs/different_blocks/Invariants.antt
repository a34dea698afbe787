use Rattle.std.proofs.Common.{◌≡◌, ◌+◌, ◌≤◌, drop}
use Rattle.sim.specs.Cut.{different}
use Rattle.sim.proofs.different_blocks.Given as goal

-- those from here on that stand last are still to be counted
abbrev pub invariant-loop-i : goal.invariant-loop-i
invariant-loop-i l = (l.seen + different (drop l.i l.places) ≡ different l.places) × (l.seen ≤ l.i)
