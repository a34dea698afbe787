use Rattle.std.proofs.Common.{◌≡◌, rules, arith, length, ap, sym, ◌∙◌}
use Rattle.device.specs.Rows.{width}
use Rattle.wire.proofs.Numbers.{row_begun, row_done}
use Rattle.wire.proofs.bytes.put_numbers.Goals as goal

pub loop-wide-preserved : goal.loop-wide-preserved
loop-wide-preserved c =
    let one = c.in-Some.ensures.steps in record {
      room = search rules;
      few = search rules;
      narrow = search rules;
      left = row_begun _ _ _ _ _ _ _ (omega (arith, ap width one.0)) c.put_number.ensures ∙ rw (one.0, one.1) at c.loop-wide.invariant.left;
    }

pub returns-clause-after : goal.returns-clause-after
returns-clause-after c =
    let none : length c.loop-wide.wide-iterator.a.rest.now ≡ 0 = search rules in
    sym (row_done _ _ _ _ none) ∙ c.loop-wide.invariant.left
