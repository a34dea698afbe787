use Rattle.std.proofs.Common.{refl}
use Rattle.wire.specs.Booked.{booked}
use Rattle.ledger.proofs.Effect.{booked_holds, made_booked}
use Rattle.ledger.proofs.Ledger.append.Goals as goal

pub invariant_of-self : goal.invariant_of-self
invariant_of-self c =
    booked_holds c.args.self.now c.count-number.result (booked c.args.b) _ _ _ c.requires.fit c.requires.space c.count-number.ensures c.credit.ensures c.append.ensures c.link.ensures

pub returns : goal.returns
returns c =
    made_booked c.args.self.now c.count-number.result (booked c.args.b) _ _ _ c.requires.fit c.requires.space c.count-number.ensures c.credit.ensures c.append.ensures c.link.ensures _ refl refl refl refl
    refl
