use Rattle.std.proofs.Common.{rules, ◌∙◌}
use Rattle.std.proofs.lemmas.Iterator.{YieldsList-from_slice}
use Rattle.text.specs.Words.{digit_more}
use Rattle.text.proofs.Digits.{word_read}
use Rattle.text.proofs.TryFold.{try_folded}
use Rattle.text.proofs.word.number_in.Goals as goal

pub returns : goal.returns
returns c =
    try_folded _ _ _ _ digit_more (λ a x o q k. search rules) 0 c.try_fold.result c.try_fold.new.self
    (YieldsList-from_slice c.args.word.now c.iter.ensures.rest) c.try_fold.ensures.ran
    ∙ word_read c.args.word.now
