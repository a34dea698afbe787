use Rattle.std.proofs.Common.{arith}
use Rattle.wire.specs.Answered.{Suffices}
use Rattle.wire.proofs.Answers.{answers_fit, suffices}
use Rattle.wire.proofs.answer.most_answer.Goals as goal

pub returns : goal.returns
returns c =
    let enough : Suffices c.args.bookings c.max.result = suffices c.args.bookings c.max.result (omega arith) (omega arith) in
    record { is = c.max.ensures; suffices = enough; fits = answers_fit c.args.bookings c.max.result enough }
