use Rattle.std.proofs.Common.{arith}
use Rattle.std.proofs.lemmas.Grind.{common_steps}
use Rattle.text.proofs.Numerals.{line_ended, line_more, line_of}
use Rattle.text.proofs.answer.write_answer_line.Goals as goal

pub loop-field-init : goal.loop-field-init
loop-field-init c = (
  grind (arith, common_steps),
  line_of c.args.answer.now c.in-Some.fields.now _ _ c.in-Some.first.now c.in-Some.ensures.cases.0 (grind (arith, common_steps)) c.in_ok-line.ensures.ok,
)

pub loop-field-preserved : goal.loop-field-preserved
loop-field-preserved c = (
  grind (arith, common_steps),
  line_more _ _ _ _ c.in-Some-field.field.now _ c.number_at-number.result c.loop-field.invariant.1 (grind (arith, common_steps)) (grind (arith, common_steps))
      c.number_at-number.ensures c.in_ok-write.ensures.bytes,
)

pub returns : goal.returns
returns c = line_ended _ _ _ c.loop-field.invariant.1 (grind (arith, common_steps))
