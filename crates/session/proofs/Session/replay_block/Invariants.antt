use Rattle.device.specs.Rows.{rows_in}
use Rattle.model.specs.JournalBlock.{call_row}
use Rattle.session.specs.Replay.{Grown}
use Rattle.session.proofs.Session.replay_block.Given as goal

-- the rows so far were taken again
abbrev pub invariant-loop-i : goal.invariant-loop-i
invariant-loop-i l = Grown l.initial.self l.self (rows_in call_row 32 l.i l.block)
