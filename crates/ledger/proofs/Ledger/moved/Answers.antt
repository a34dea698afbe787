use Rattle.std.proofs.Common.{length, sym, ap, ◌∙◌, arith}
use Rattle.columns.specs.Links.{link_of}
use Rattle.wire.specs.Booked.{booked}
use Rattle.bank.specs.Sums.{tally}
use Rattle.columns.specs.Parts.{counts}
use Rattle.ledger.proofs.Bank.{bank_accounts, bank_bookings}
use Rattle.ledger.proofs.Walk.{way_by, walk_room, walk_start, walk_step, walk_less, walk_small, walk_end}
use Rattle.ledger.proofs.Ledger.moved.Goals as goal

pub newest-next-requires : goal.newest-next-requires
newest-next-requires g c =
    let s = c.args.self.now in
    omega (arith, bank_accounts s, ap (λ h. length h.newest.now) c.chain-chain.ensures, (g.met.S.Side.has_room s.chains s.accounts.capacity s.bookings.capacity s.linkable).0)

pub before-next-requires : goal.before-next-requires
before-next-requires g c = let room = walk_room c.loop-next.invariant c.in-Some.i (ap link_of c.in-Some.is) in grind arith

pub loop-next-init : goal.loop-next-init
loop-next-init g c =
    let s = c.args.self.now in
    walk_start
    (way_by s _ g.S.Side.party_of c.args.known_day c.args.account c.args.value_day (g.met.S.Side.is_chained _ _ _ _ s.incoming s.outgoing)
    (g.met.S.Side.has_room s.chains s.accounts.capacity s.bookings.capacity s.linkable).1 c.requires.there)
    _ (cc)

pub overflow_add-sum : goal.overflow_add-sum
overflow_add-sum g c = omega (arith, walk_small c.loop-next.invariant c.in-Some.i (ap link_of c.in-Some.is) c.share-sum.result (booked c.get.result) c.get.ensures c.share-sum.ensures)

pub loop-next-smaller : goal.loop-next-smaller
loop-next-smaller g c = walk_less c.loop-next.invariant c.in-Some.i (ap link_of c.in-Some.is) _ (cc)

pub loop-next-preserved : goal.loop-next-preserved
loop-next-preserved g c =
    walk_step c.loop-next.invariant c.in-Some.i (ap link_of c.in-Some.is) c.share-sum.result (booked c.get.result) _ c.get.ensures c.share-sum.ensures (cc)

pub returns : goal.returns
returns g c =
    walk_end c.loop-next.invariant (ap link_of c.in_default.is) ∙ ap (tally (counts g.S.Side.party_of c.args.known_day c.args.account c.args.value_day)) (sym (bank_bookings c.args.self.now))
