use Rattle.columns.specs.Links.{link_of}
use Rattle.columns.specs.Parts.{counts}
use Rattle.ledger.proofs.Walk.{Walk}
use Rattle.ledger.proofs.Ledger.moved.Given as goal

abbrev pub invariant-loop-next : goal.invariant-loop-next
invariant-loop-next g l =
    Walk l.self.bookings (g.S.Side.chain_of l.self.chains) g.S.Side.party_of (counts g.S.Side.party_of l.known_day l.account l.value_day) l.account l.self.accounts.count (link_of l.next) l.sum

abbrev pub decreases-loop-next : goal.decreases-loop-next
decreases-loop-next g l = link_of l.next
