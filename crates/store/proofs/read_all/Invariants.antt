use Rattle.std.proofs.Common.{◌≡◌, length}
use Rattle.session.specs.Opening.{Opens}
use Rattle.store.proofs.read_all.Given as goal

abbrev pub invariant-loop : goal.invariant-loop
invariant-loop l = Opens l.opening × (length l.block ≡ 512)
