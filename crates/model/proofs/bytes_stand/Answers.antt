use Rattle.model.proofs.Bytes.{journal_bytes, snapshot_bytes}
use Rattle.model.proofs.bytes_stand.Goals as goal

pub returns : goal.returns
returns c = record { journal = journal_bytes; snapshot = snapshot_bytes }
