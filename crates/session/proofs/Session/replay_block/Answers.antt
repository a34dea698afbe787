use Rattle.std.proofs.Common.{sym, arith}
use Rattle.std.proofs.lemmas.Bool.{true≢false}
use Rattle.device.specs.Rows.{rows_in, rows_at}
use Rattle.session.proofs.Replays.{grown_none, grown_row, rows_length, row_taken}
use Rattle.session.proofs.Session.replay_block.Goals as goal

pub loop-i-init : goal.loop-i-init
unfolding rows_in rows_at
loop-i-init c = grown_none c.args.self.now

pub replay_row-requires : goal.replay_row-requires
replay_row-requires c =
    let g = c.loop-i.invariant in
    let n = rows_length c.loop-i.i c.args.block.now in
    let p = g.count_is in
    let q = g.blocks_stay in
    let w = c.requires.room (omega arith) in
    let f = c.requires.few in
    record { whole = c.requires.whole; there = omega arith; room = omega arith }

pub returns-in_err-replay_row-clause-found : goal.returns-in_err-replay_row-clause-found
returns-in_err-replay_row-clause-found c = λ base at known taken.
    absurd (true≢false (sym (c.in_err-replay_row.ensures.found (λ j h. known j (omega (arith, c.requires.few)))
    (row_taken c.args.self.now c.loop-i.self c.args.block.now c.loop-i.i c.args.rows base (omega arith) c.requires.few c.loop-i.invariant at taken))))

pub loop-i-preserved : goal.loop-i-preserved
loop-i-preserved c = grown_row c.args.self.now c.loop-i.self _ c.args.block.now c.loop-i.i (omega (arith, c.requires.few)) c.loop-i.invariant c.in_ok-replay_row.ensures.grown
