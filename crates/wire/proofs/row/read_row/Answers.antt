use Rattle.std.proofs.Common.{◌-◌, ◌≤◌, length, ◌∙◌, arith}
use Rattle.wire.proofs.Rows.{row_read}
use Rattle.wire.proofs.row.read_row.Goals as goal

pub returns : goal.returns
returns c =
    let some : 1 ≤ c.number_at-kind.result = omega arith in
    let few : c.number_at-kind.result ≤ 5 = omega arith in (
      c.from_fields.ensures
          ∙ row_read c.args.block.now c.widths.result.now c.numbers_at-numbers.result c.args.at c.number_at-kind.result (8 - length c.widths.result.now)
          c.number_at-kind.ensures some few c.widths.ensures.is c.numbers_at-numbers.ensures,
      omega arith,
      omega arith,
    )
