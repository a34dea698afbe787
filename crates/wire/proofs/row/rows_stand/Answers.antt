use Rattle.wire.proofs.Rows.{remembers, apart, empty, has_row}
use Rattle.wire.proofs.row.rows_stand.Goals as goal

pub returns : goal.returns
returns c = record { back = remembers; apart = apart; empty = empty; taken = has_row }
