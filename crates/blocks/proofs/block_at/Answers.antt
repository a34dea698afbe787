use Rattle.std.proofs.Common.{length, sym, ap, ◌∙◌, arith}
use Rattle.blocks.specs.Blocks.{part}
use Rattle.blocks.proofs.Blocks.{part_read, length_block, device_block}
use Rattle.blocks.proofs.block_at.Goals as goal

pub returns : goal.returns
returns c =
    let k = c.args.k in
    let bytes = c.args.bytes.now in
    let e = part_read _ _ 512 bytes (omega arith) ∙ ap (λ a. part a 512 bytes) (omega arith) in
    record { bytes = e; whole = ap length e ∙ length_block k bytes c.requires; device = e ∙ sym (device_block k bytes c.requires) }
