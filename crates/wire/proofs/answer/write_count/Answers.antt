use Rattle.std.proofs.Common.{[], ◌∷◌, length, refl, ap, ◌∙◌, arith}
use Rattle.bank.specs.Calls.{lines}
use Rattle.device.specs.Rows.{with_bytes}
use Rattle.wire.specs.Bytes.{form}
use Rattle.wire.proofs.Answers.{length_answer}
use Rattle.wire.proofs.Numbers.{length_form}
use Rattle.wire.proofs.answer.write_count.Goals as goal

pub returns-then-out-lt-HEAD : goal.returns-then-out-lt-HEAD
returns-then-out-lt-HEAD c bs e = (refl, omega (arith, length_answer (lines bs), length_form 3 (length bs ∷ [])))

pub returns : goal.returns
returns c bs e = (
  c.put_form.ensures.after ∙ ap (λ n. with_bytes c.args.out.now 0 (form 3 (n ∷ []))) e,
  omega (arith, c.put_form.ensures.end, length_form 3 (length bs ∷ [])),
  omega (arith, length_answer (lines bs), length_form 3 (length bs ∷ [])),
)
