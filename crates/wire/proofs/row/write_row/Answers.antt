use Rattle.std.proofs.Common.{◌+◌, ap, ◌∙◌, arith}
use Rattle.device.specs.Rows.{with_bytes}
use Rattle.wire.proofs.Rows.{early, row_is, row_written}
use Rattle.wire.proofs.row.write_row.Goals as goal

pub widths-requires : goal.widths-requires
widths-requires c = omega (arith, early _ c.requires.kept)

pub returns : goal.returns
returns c =
    row_written c.args.block.now c.put_number.new.out c.put_numbers-end.new.out c.fill.new.self c.args.at c.put_numbers-end.result (c.number.result + 1) c.widths.result.now c.fields.result
    c.requires.room (omega arith) c.put_number.ensures c.put_numbers-end.ensures.after c.put_numbers-end.ensures.end (c.fill.ensures.after (λ y h. h))
    ∙ ap (with_bytes c.args.block.now c.args.at) (row_is _ c.number.result c.widths.result.now c.fields.result c.requires.kept c.number.ensures c.widths.ensures.is c.fields.ensures)
