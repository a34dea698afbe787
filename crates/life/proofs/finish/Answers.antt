use Rattle.std.proofs.Common.{sym, ◌∙◌}
use Rattle.session.specs.Session.{left}
use Rattle.life.specs.Life.{world}
use Rattle.life.proofs.Runs.{run_step, run_none, run_used}
use Rattle.life.proofs.Sameness.{same_more, stays_more}
use Rattle.life.proofs.finish.Goals as goal

pub loop-left-preserved : goal.loop-left-preserved
loop-left-preserved c =
    let e = c.if-act.ensures in
    let s = run_step c.loop-left.left _ _ e.acted.0 _ _ c.loop-left-test.true e.acted.1 e.acted.2 in
    let i = c.loop-left.invariant in
    record {
      world = s.0 ∙ i.world;
      budget = s.1 ∙ i.budget;
      same = same_more c.args.session.now c.loop-left.session c.act.new.session i.same e.same;
      stays = stays_more c.args.disk.now c.loop-left.disk c.act.new.disk c.args.listener.now c.loop-left.listener c.act.new.listener i.stays e.stays;
      fits = λ n f. e.fits n (i.fits n f);
    }

pub returns-else-act-clause-world : goal.returns-else-act-clause-world
returns-else-act-clause-world c =
    let e = c.if-act.ensures in e.acted.2 ∙ (sym (run_none c.loop-left.left (world c.loop-left.disk c.loop-left.listener) _ e.acted.0).0 ∙ c.loop-left.invariant.world)

pub returns-after-loop-left-clause-world : goal.returns-after-loop-left-clause-world
returns-after-loop-left-clause-world c = sym (run_used c.loop-left.left (world c.loop-left.disk c.loop-left.listener) (left c.loop-left.session) c.loop-left-test.false).0 ∙ c.loop-left.invariant.world
