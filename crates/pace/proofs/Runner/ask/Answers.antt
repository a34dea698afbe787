use Rattle.std.proofs.Common.{arith}
use Rattle.wire.specs.Meaning.{meant}
use Rattle.pace.proofs.Fits.{row_fits}
use Rattle.pace.proofs.Runner.ask.Goals as goal

-- the row is as long as the longest call
pub unreachable-requires : goal.unreachable-requires
unreachable-requires c = let h = c.in_default.ensures in let fits = row_fits (meant c.args.call) in omega (arith, h.1, fits)
