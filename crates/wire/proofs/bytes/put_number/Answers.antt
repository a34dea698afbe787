use Rattle.std.proofs.Common.{sym, refl, ◌∙◌}
use Rattle.device.specs.Rows.{bytes_of}
use Rattle.device.proofs.Parts.{part_written}
use Rattle.device.proofs.Rows.{length_bytes}
use Rattle.wire.proofs.Numbers.{bytes_8, word_front}
use Rattle.wire.proofs.bytes.put_number.Goals as goal

pub returns : goal.returns
returns c =
    part_written c.args.at _ c.args.wide c.copy_from_slice.new.self (bytes_of c.args.wide c.args.n) c.args.out.now refl (length_bytes c.args.wide c.args.n)
    (c.copy_from_slice.ensures.after ∙ word_front c.args.wide c.args.n c.to_le_bytes-word.result c.requires.0 (c.to_le_bytes-word.ensures ∙ sym (bytes_8 c.args.n)))
