use Rattle.std.proofs.Common.{refl}
use Rattle.columns.specs.RateRows.{dated}
use Rattle.ledger.proofs.Effect.{rated_holds, made_rated}
use Rattle.ledger.proofs.Ledger.add_rate.Goals as goal

pub invariant_of-self : goal.invariant_of-self
invariant_of-self c = rated_holds c.args.self.now _ (dated c.args.x) c.requires.account c.append.ensures

pub returns : goal.returns
returns c = made_rated c.args.self.now _ (dated c.args.x) c.requires.account c.append.ensures _ refl refl refl refl refl
