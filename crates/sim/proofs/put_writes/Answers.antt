use Rattle.std.proofs.Common.{◌∙◌, inl, inr}
use Rattle.sim.proofs.Passes.{first_inside, others_to_come, put_first, all_put}
use Rattle.sim.proofs.put_writes.Goals as goal

pub set_block-requires-clause-there : goal.set_block-requires-clause-there
set_block-requires-clause-there c = let s = c.in-Some.ensures.steps in first_inside _ _ _ _ _ _ _ _ c.loop-place.invariant.to_come s.0 s.1.1.0 s.1.1.1

pub loop-place-preserved : goal.loop-place-preserved
loop-place-preserved c =
    let t = c.loop-place.invariant.to_come in
    let s = c.in-Some.ensures.steps in
    record {
      to_come = others_to_come _ _ _ _ _ _ _ _ t s.0 s.1.1.0 s.1.1.1 _ _ s.1.0 c.set_block.auto.bytes;
      all = put_first _ _ _ _ _ _ _ _ t s.0 s.1.1.0 s.1.1.1 _ c.set_block.ensures ∙ c.loop-place.invariant.all;
    }

pub returns : goal.returns
returns c = all_put _ _ _ _ c.loop-place.invariant.to_come (elim c.in-None.ensures.steps [ inl e ↦ inl e.1.0 | inr e ↦ inr e.1.1.0 ]) _ ∙ c.loop-place.invariant.all
