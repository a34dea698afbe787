use Rattle.std.proofs.lemmas.List.{take_rest}
use Rattle.text.proofs.Split.{no_word, one_word}
use Rattle.text.proofs.word.first_word.Goals as goal

pub returns-in_err-start : goal.returns-in_err-start
returns-in_err-start c = rw c.from_residual.ensures (no_word c.args.line.now c.in_err-start.ensures)

pub returns : goal.returns
returns c =
    rw (c.split_at.ensures.front, c.split_at.ensures.back)
    (one_word c.args.line.now _ c.in_ok-start.start c.unwrap_or-end.result c.in_ok-start.ensures (take_rest c.args.line.now c.in_ok-start.start) (cc))
