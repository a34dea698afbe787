use Rattle.bank.proofs.Count.{calls_bounded}
use Rattle.bank.proofs.calls_bounded_stands.Goals as goal

pub returns : goal.returns
returns c = calls_bounded
