use Rattle.wire.proofs.Calls.{reads_first, reads_back, own_row, one_row, always_readable, examples}
use Rattle.wire.proofs.call.calls_stand.Goals as goal

pub returns : goal.returns
returns c = record { first = reads_first; back = reads_back; own = own_row; one = one_row; readable = always_readable; examples = examples }
