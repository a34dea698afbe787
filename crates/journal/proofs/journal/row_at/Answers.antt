use Rattle.std.proofs.Common.{ℕ, ◌+◌, ◌*◌, List, drop, Some, None, Option, sym, ap, ◌∙◌}
use Rattle.std.proofs.lemmas.List.{drop-drop}
use Rattle.device.specs.Rows.{thing_in, rows_in}
use Rattle.model.specs.JournalBlock.{call_row}
use Rattle.wire.specs.declared.call.Call.{Call}
use Rattle.wire.specs.JournalRow.{RowAt}
use Rattle.journal.specs.Blocks.{RowOf}
use Rattle.journal.proofs.Rows.{row_in}
use Rattle.journal.proofs.journal.row_at.Goals as goal

of_row : (bs : List ℕ) (i : ℕ) (r : Option Call) → RowAt bs (32 + 20 * i) r → RowOf bs i r
unfolding rows_in
of_row bs i (Some c) h = (λ n d l. row_in call_row n i (drop 32 bs) d l ∙ ap (thing_in call_row) (drop-drop (20 * i) 32 bs) ∙ sym h.0, h.1, h.2)
of_row bs i None h = h

pub returns : goal.returns
returns c = of_row c.args.block.now c.args.i c.read_row.result c.read_row.ensures
