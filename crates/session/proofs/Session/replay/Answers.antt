use Rattle.std.proofs.Common.{refl}
use Rattle.wire.specs.Meaning.{meant}
use Rattle.session.proofs.Steps.{can_store, joined_on, joined_more}
use Rattle.session.proofs.Replays.{grown_one}
use Rattle.session.proofs.Session.replay.Goals as goal

pub invariant_of-self : goal.invariant_of-self
invariant_of-self c =
    let s = c.args.self.now in
    record { joined = joined_on s.book.ledger c.take.new.self.ledger s.journal _ _ _ c.in_default.ensures s.joined; roomy = s.roomy; spoken = s.spoken }

pub append-requires-clause-kept : goal.append-requires-clause-kept
append-requires-clause-kept c = can_store c.args.self.now c.take.new.self.ledger _ _ c.in-Changed.ensures

pub invariant_of-self-2 : goal.invariant_of-self-2
invariant_of-self-2 c =
    let s = c.args.self.now in
    record { joined = joined_more s.book.ledger c.take.new.self.ledger s.journal c.append.new.self _ _ c.in-Changed.ensures c.append.ensures.appended s.joined; roomy = s.roomy; spoken = s.spoken }

pub returns-clause-grown : goal.returns-clause-grown
returns-clause-grown c = grown_one c.args.self.now _ (meant c.args.call) _ c.in-Changed.ensures c.append.ensures.appended c.append.ensures.stands refl
