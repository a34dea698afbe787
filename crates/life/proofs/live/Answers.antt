use Rattle.std.proofs.Common.{ℕ, ◌+◌, ◌-◌, ◌*◌, length, sym, ap, ◌∙◌, arith}
use Rattle.bank.specs.Calls.{Limits}
use Rattle.bank.specs.Promise.{room}
use Rattle.ledger.specs.Meaning.{limits}
use Rattle.session.specs.Session.{memory}
use Rattle.life.specs.Life.{world, space}
use Rattle.life.proofs.Sameness.{memory_same, limits_same, stays_more}
use Rattle.life.proofs.Calling.{call_fits, lived_more, lived_all, lived_out}
use Rattle.life.proofs.live.Goals as goal

pub returns-then-left-eq0-clause-world : goal.returns-then-left-eq0-clause-world
returns-then-left-eq0-clause-world c = sym (lived_out (world c.loop-row.disk c.loop-row.listener) c.loop-row.left _ c.if-left-eq0.true) ∙ c.loop-row.invariant.world

pub finish-left-requires : goal.finish-left-requires
finish-left-requires c =
    let i = c.loop-row.invariant in
    let j = i.rests (omega (arith, c.if-left-eq0.false)) in
    let e = ap (λ (l : Limits). room l) i.limits_stay in
    call_fits c.loop-row.session c.call.new.self _ 0 (space c.loop-row.disk c.loop-row.listener) c.call.ensures.acts (omega (arith, e, c.requires.device, i.stays.image.size)) j.0
    (omega (arith, i.stays.room_is, c.requires.room)) (omega (arith, j.1, c.loop-row-test.true))

pub loop-row-preserved : goal.loop-row-preserved
loop-row-preserved c =
    let i = c.loop-row.invariant in
    let s = c.loop-row.session in
    let t = c.call.new.self in
    let u = c.finish-left.new.session in
    let k = c.call.ensures in
    let f = c.finish-left.ensures in
    let n : ℕ = 17 * (length c.args.calls.now - (c.loop-row.row-index + 1)) in
    let j = i.rests (omega (arith, c.if-left-eq0.false)) in
    let e = ap (λ (x : Limits). room x) i.limits_stay in
    record {
      world =
          lived_more (limits c.args.session.now.book.ledger) c.args.calls.now c.loop-row.row-index _ s t u (world c.loop-row.disk c.loop-row.listener) _ c.loop-row.left c.finish-left.result
          c.loop-row-test.true i.limits_stay (memory_same t u f.same) k.state k.acts f.world f.left
          ∙ i.world;
      limits_stay = limits_same t u f.same ∙ k.limits ∙ i.limits_stay;
      stays = stays_more c.args.disk.now c.loop-row.disk c.finish-left.new.disk c.args.listener.now c.loop-row.listener c.finish-left.new.listener i.stays f.stays;
      rests = λ more.
          f.rests more n
          (call_fits s t _ n (space c.loop-row.disk c.loop-row.listener) k.acts (omega (arith, e, c.requires.device, i.stays.image.size)) j.0 (omega (arith, i.stays.room_is, c.requires.room))
          (omega (arith, j.1, c.loop-row-test.true)));
    }

pub returns-clause-world : goal.returns-clause-world
returns-clause-world c =
    let i = c.loop-row.invariant in
    sym (lived_all (limits c.args.session.now.book.ledger) c.args.calls.now c.loop-row.row-index (memory c.loop-row.session) (world c.loop-row.disk c.loop-row.listener) c.loop-row.left c.loop-row-test.false)
    ∙ i.world
