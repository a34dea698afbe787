use Rattle.std.proofs.Common.{sym, refl, ◌∙◌, arith}
use Rattle.std.proofs.lemmas.Bool.{true≢false, le-leb, lt-leb}
use Rattle.life.proofs.Calling.{readable_more, readable_all}
use Rattle.life.proofs.heard.can_hear.Goals as goal

pub loop-row-init : goal.loop-row-init
loop-row-init c = (omega arith, refl)

pub loop-row-preserved : goal.loop-row-preserved
loop-row-preserved c =
    let i = c.loop-row.invariant in
    let o = c.longest_answer-most.ensures in
    (omega (arith, i.0, o.most), sym (readable_more c.args.calls.now c.loop-row.row-index _ c.loop-row-test.true o.readable) ∙ i.1)

pub returns-then-free-most : goal.returns-then-free-most
returns-then-free-most c =
    let i = c.loop-row.invariant in
    let o = c.longest_answer-most.ensures in
    record { room = sym (lt-leb _ _ (omega (arith, i.0, o.most, c.loop-row-test.true, c.if-free-most.true))); readable = λ e. absurd (true≢false (sym e)) }

pub returns : goal.returns
returns c =
    let i = c.loop-row.invariant in
    record {
      room = sym (le-leb _ _ (omega (arith, i.0, c.loop-row-test.false, c.loop-row.auto.row-index-end)));
      readable = λ _. sym i.1 ∙ readable_all c.args.calls.now c.loop-row.row-index c.loop-row-test.false;
    }
