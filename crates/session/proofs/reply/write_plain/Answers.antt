use Rattle.std.proofs.Common.{[], arith}
use Rattle.session.proofs.Replies.{plain_short, taken_front}
use Rattle.session.proofs.reply.write_plain.Goals as goal

pub unreachable-requires : goal.unreachable-requires
unreachable-requires c =
    let h = c.in_default.ensures [] c.requires.plain in
    let s = plain_short c.args.answer in
    omega (arith, h.1)

pub returns : goal.returns
returns c =
    let h = c.in-Some.ensures [] c.requires.plain in
    taken_front c.args.answer c.args.bytes.now c.write_answer.new.out c.in-Some.end h.0 h.1
