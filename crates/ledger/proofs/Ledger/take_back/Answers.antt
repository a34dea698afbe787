use Rattle.std.proofs.Common.{refl}
use Rattle.wire.specs.Booked.{booked}
use Rattle.ledger.proofs.Effect.{covered, marked_holds, made_marked}
use Rattle.ledger.proofs.Ledger.take_back.Goals as goal

pub debit-requires : goal.debit-requires
debit-requires c = covered c.args.self.now c.args.number (booked c.get-b.result) c.requires.there c.get-b.ensures

pub invariant_of-self : goal.invariant_of-self
invariant_of-self c =
    marked_holds c.args.self.now c.args.number (booked c.get-b.result) _ _ c.requires.there c.get-b.ensures c.requires.counts c.debit.ensures c.take_back.ensures

pub returns : goal.returns
returns c =
    made_marked c.args.self.now c.args.number (booked c.get-b.result) _ _ c.requires.there c.get-b.ensures c.requires.counts c.debit.ensures c.take_back.ensures _ refl refl refl refl refl
