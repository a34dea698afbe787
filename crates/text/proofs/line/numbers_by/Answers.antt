use Rattle.std.proofs.Common.{length, ap, arith}
use Rattle.text.specs.Listed.{listed}
use Rattle.text.proofs.Forms.{all_read, line_long, line_short, more_matched, unmatched}
use Rattle.text.proofs.line.numbers_by.Goals as goal

pub returns-in_err-word : goal.returns-in_err-word
returns-in_err-word c =
    rw c.from_residual.ensures
    (line_short _ (listed c.loop-mark.numbers) _ _ c.loop-mark.invariant.0 _ _ c.in-Some.ensures.steps c.in_err-word.ensures.steps.0)

pub loop-mark-preserved : goal.loop-mark-preserved
loop-mark-preserved c = (
  more_matched _ (listed c.loop-mark.numbers) _ _ c.loop-mark.invariant.0 _ _ _ _ c.in-Some.ensures.steps c.in_ok-word.ensures.steps
      (listed c.read_by.new.numbers) c.in_ok-read_by.ensures.read,
  omega (arith, c.loop-mark.invariant.1, ap length c.in-Some.ensures.steps, c.read_by.ensures.few),
)

pub returns-in_err-read_by : goal.returns-in_err-read_by
returns-in_err-read_by c =
    rw c.from_residual-in_err-read_by.ensures
    (unmatched _ (listed c.loop-mark.numbers) _ _ c.loop-mark.invariant.0 _ _ _ _ c.in-Some.ensures.steps c.in_ok-word.ensures.steps
    (listed c.read_by.new.numbers) c.in_err-read_by.ensures.read)

pub returns-in-Some-next : goal.returns-in-Some-next
returns-in-Some-next c =
    line_long _ (listed c.loop-mark.numbers) _ _ c.loop-mark.invariant.0 _ _ c.in-None.ensures.steps.0 c.in-Some-next.ensures.steps

pub returns-in-None-next : goal.returns-in-None-next
returns-in-None-next c =
    all_read _ (listed c.loop-mark.numbers) _ _ c.loop-mark.invariant.0 c.in-None.ensures.steps.0 c.in-None-next.ensures.steps.0
