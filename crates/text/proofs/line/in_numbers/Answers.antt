use Rattle.std.proofs.Common.{◌≡◌, [], ◌∷◌, ◌++◌, length, sym, ap, ◌∙◌, arith}
use Rattle.std.proofs.lemmas.Grind.{common_steps}
use Rattle.text.specs.Words.{words}
use Rattle.text.specs.Listed.{listed}
use Rattle.text.proofs.Forms.{few, many, neither, number_all, number_more, number_none}
use Rattle.text.proofs.line.in_numbers.Goals as goal

pub returns-then-is_full : goal.returns-then-is_full
returns-then-is_full c =
    let all : c.loop-word.numbers.count ≡ 9 = grind (arith, common_steps) in
    many (words c.args.line.now) (omega (arith, all, c.loop-word.invariant.1, ap length c.in-Some.ensures.steps))

pub returns-in_err-n : goal.returns-in_err-n
returns-in_err-n c =
    rw c.from_residual.ensures
    (neither (words c.args.line.now) (number_none _ (listed c.loop-word.numbers) _ c.loop-word.invariant.0 _ _ c.in-Some.ensures.steps c.in_err-n.ensures))

pub loop-word-preserved : goal.loop-word-preserved
loop-word-preserved c = (
  rw c.push.ensures.list (number_more _ (listed c.loop-word.numbers) _ c.loop-word.invariant.0 _ _ c.in-Some.ensures.steps c.in_ok-n.n c.in_ok-n.ensures),
  grind (arith, common_steps),
)

pub returns : goal.returns
returns c =
    number_all _ (listed c.loop-word.numbers) _ c.loop-word.invariant.0 c.in-None.ensures.steps.0
    ∙ sym (few (words c.args.line.now) (omega (arith, c.loop-word.invariant.1, c.loop-word.numbers.few, ap length c.in-None.ensures.steps.0)))
