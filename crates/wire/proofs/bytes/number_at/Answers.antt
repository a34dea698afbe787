use Rattle.std.proofs.Common.{sym, ◌∙◌}
use Rattle.wire.proofs.Numbers.{number_8, word_filled}
use Rattle.wire.proofs.bytes.number_at.Goals as goal

pub returns : goal.returns
returns c =
    c.from_le_bytes.ensures ∙ sym (number_8 _)
    ∙ word_filled c.args.wide c.args.at c.args.bytes.now c.copy_from_slice.new.self c.requires.0 c.requires.1 c.copy_from_slice.ensures.after
