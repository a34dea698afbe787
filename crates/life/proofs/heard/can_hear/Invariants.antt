use Rattle.std.proofs.Common.{◌≡◌, ◌+◌, ◌*◌, length, drop}
use Rattle.bank.specs.Promise.{all_readable}
use Rattle.life.specs.Heard.{rows_read}
use Rattle.life.proofs.heard.can_hear.Given as goal

-- the rows so far can be read, and 17 bytes were taken off for each
abbrev pub invariant-loop-row : goal.invariant-loop-row
invariant-loop-row l = (l.free + 17 * l.row-index ≡ length l.said) × (all_readable (drop l.row-index (rows_read l.calls)) ≡ all_readable (rows_read l.calls))
