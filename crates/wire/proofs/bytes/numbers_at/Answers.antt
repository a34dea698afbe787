use Rattle.std.proofs.Common.{arith, ◌∙◌}
use Rattle.wire.proofs.Numbers.{numbers_next, numbers_done, one_wide, zeros_next}
use Rattle.wire.proofs.bytes.numbers_at.Goals as goal

pub loop-i-preserved : goal.loop-i-preserved
loop-i-preserved c =
    let one = one_wide _ _ c.loop-i-test.true c.loop-i.invariant.narrow in record {
      room = omega (arith, one.0);
      narrow = one.1;
      zeros = zeros_next c.loop-i.ns c.loop-i.i c.number_at.result _ _ c.loop-i.invariant.zeros (omega arith);
      left = numbers_next _ _ _ _ _ _ _ _ c.loop-i-test.true (omega arith) c.loop-i.invariant.zeros c.number_at.ensures ∙ c.loop-i.invariant.left;
    }

pub returns : goal.returns
returns c = numbers_done _ _ _ _ _ _ _ c.loop-i-test.false c.loop-i.invariant.zeros (omega arith) c.loop-i.invariant.left
