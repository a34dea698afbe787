use Rattle.store.proofs.Standing.{stood_reached}
use Rattle.pace.proofs.stand.Goals as goal

pub returns : goal.returns
returns c = λ u. stood_reached c.loop-opening.opening c.stand.result (c.loop-opening.invariant u) c.stand.ensures
