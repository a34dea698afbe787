use Rattle.std.proofs.Common.{◌≡◌}
use Rattle.bank.specs.Calls.{all_in, all_out}
use Rattle.ledger.specs.Meaning.{bank}
use Rattle.ledger.proofs.Ledger.sums.Given as goal

abbrev pub invariant-loop-a : goal.invariant-loop-a
invariant-loop-a l = (l.came ≡ all_in (bank l.self) l.a) × (l.left ≡ all_out (bank l.self) l.a)
