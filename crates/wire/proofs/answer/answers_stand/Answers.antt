use Rattle.wire.proofs.Answers.{streams}
use Rattle.wire.proofs.answer.answers_stand.Goals as goal

pub returns : goal.returns
returns c = streams
