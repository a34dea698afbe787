-- Blocks and rows by their bytes: they compute.
use Rattle.std.proofs.Common.{refl}
use Rattle.model.specs.JournalBlock.{call_kind, call_numbers, call_widths, journal_block}
use Rattle.model.specs.Bytes.{JournalBytes, SnapshotBytes}
use Rattle.device.specs.Rows.{bytes_of, row, row_of, rows, block_of}

pub journal_bytes : JournalBytes
unfolding journal_block block_of rows row_of row bytes_of call_kind call_numbers call_widths
journal_bytes = record { header = refl; row = refl; open_row = refl; rate_row = refl; move_row = refl; back_row = refl; day_row = refl }

pub snapshot_bytes : SnapshotBytes
unfolding row_of row bytes_of
snapshot_bytes = record { counts = refl; account = refl; rate = refl; booking = refl }
