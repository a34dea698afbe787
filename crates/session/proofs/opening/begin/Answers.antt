use Rattle.std.proofs.Common.{sym, refl, ap, ◌∙◌, arith}
use Rattle.device.specs.Book.{ran_by}
use Rattle.bank.specs.Promise.{room}
use Rattle.model.specs.First.{size}
use Rattle.columns.specs.Sizes.{limits_of}
use Rattle.desk.proofs.Beginning.{new_begun}
use Rattle.journal.specs.declared.header.Label.{Label}
use Rattle.session.proofs.opening.begin.Goals as goal

pub invariant_of-session : goal.invariant_of-session
invariant_of-session c =
    let n = c.requires.new in
    let b = c.new-journal.ensures.book in
    record {
      joined =
          record {
            bounds_are = ap (λ (x : Label). limits_of x.limits) b ∙ sym n.limits_are;
            format_is = ap (λ (x : Label). x.format) b;
            epoch_is = ap (λ (x : Label). x.epoch) b;
            blocks_are = c.new-journal.ensures.blocks.0 ∙ c.blocks_needed-blocks.ensures ∙ ap room (sym n.limits_are);
            counted = let e = c.new-journal.ensures.stands.count in let z = ap size n.bank_is in omega arith;
          };
      roomy = omega (arith, c.write_plain-said.auto.bytes, c.requires.bytes);
      spoken = c.write_plain-said.ensures;
    }

pub returns : goal.returns
unfolding ran_by
returns c =
    let n = c.requires.new in
    record {
      limits_are = n.limits_are;
      fresh = record { bank_is = n.bank_is; stands = c.new-journal.ensures.stands };
      unread = c.new-journal.ensures.blocks.1;
      idle = refl;
      open_yet = refl;
      reached = (new_begun c.args.book.ledger (limits_of c.args.limits) c.requires.lawful n).reached;
    }
