use Rattle.std.proofs.Common.{ap, ◌∙◌, arith}
use Rattle.device.specs.Rows.{with_bytes}
use Rattle.device.proofs.Parts.{part_written}
use Rattle.blocks.proofs.set_block.Goals as goal

pub returns : goal.returns
returns c =
    let bytes = c.args.bytes.now in
    let from = c.args.from.now in
    part_written _ _ 512 _ _ bytes (omega arith) c.requires.whole c.copy_from_slice.ensures.after ∙ ap (λ a. with_bytes bytes a from) (omega arith)
