use Rattle.std.proofs.Common.{◌≡◌, true, length, sym, ap, ◌∙◌, arith, rules}
use Rattle.bank.specs.Calls.{Limits}
use Rattle.model.specs.First.{first_program}
use Rattle.blocks.specs.Blocks.{device_of}
use Rattle.columns.specs.Sizes.{limits_of}
use Rattle.ledger.specs.Meaning.{limits}
use Rattle.session.specs.Session.{memory}
use Rattle.life.proofs.Cuts.{ended}
use Rattle.life.proofs.Room.{all_fits}
use Rattle.life.proofs.life.Goals as goal

pub returns-clause-ended : goal.returns-clause-ended
returns-clause-ended c =
    let f : c.is_room.result ≡ true = c.if-not-is_room.false in
    let o = c.in-Ok.ensures in
    let s = c.in-Some.ensures in
    let fits = all_fits (limits_of c.args.limits) c.args.lent (length c.args.said.now) (length c.args.calls.now) o.0 (sym c.is_room.ensures.room ∙ f) in
    let d = c.new-disk.ensures in
    let e = c.new-listener.ensures in
    ended (limits_of c.args.limits) (limits c.in-Some.session.book.ledger) c.args.lent c.args.image.now c.args.calls.now c.args.budget c.args.row.now _ c.args.said.now _ c.new-disk.result c.live.new.disk
    c.new-listener.result c.live.new.listener c.heard.result (memory c.in-Some.session) (s.0 ∙ o.1.limits_are) fits
    (omega (arith, c.if-blocks_in-blocks_needed.false, c.blocks_in.ensures, c.blocks_needed.ensures)) (c.is_room.ensures.readable f)
    (s.1 ∙ ap (λ (l : Limits). (first_program l).start (device_of c.args.image.now)) (sym s.0)) d.held e.said e.heard (search rules) c.heard.ensures
    c.live.ensures.world (search rules) (search rules) c.live.ensures.stays.behind
