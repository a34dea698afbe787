use Rattle.std.proofs.Common.{refl, sym}
use Rattle.columns.specs.Sizes.{limits_of}
use Rattle.device.specs.Rows.{bytes_of, row, row_of}
use Rattle.model.proofs.JournalBlock.{journal_block_begun}
use Rattle.journal.proofs.header.Label.begin.Goals as goal

pub returns : goal.returns
unfolding bytes_of row row_of
returns c =
    let l = c.args.self in
    rw (c.put_number-5.ensures, c.put_number-4.ensures, c.put_number-3.ensures, c.put_number-2.ensures, c.put_number.ensures, c.fill.ensures.after (λ y e. e), c.requires)
    (sym (journal_block_begun l.format (limits_of l.limits) l.epoch refl))
