use Rattle.std.proofs.Common.{inl, inr, rules}
use Rattle.sim.proofs.Passes.{first_inside, cut_begun, write_left, write_lost, cut_done}
use Rattle.sim.proofs.put_left.Goals as goal

pub loop-i-init : goal.loop-i-init
loop-i-init c = cut_begun c.args.image.now c.args.places.now c.args.blocks.now _ _ _ (search rules) (search rules) (search rules) c.requires.whole c.requires.inside c.args.row.now _ (search rules)

pub set_block-requires-clause-there : goal.set_block-requires-clause-there
set_block-requires-clause-there c = let s = c.in-Some.ensures.steps in first_inside _ _ _ _ _ _ _ _ c.loop-i.invariant.to_come s.0.0 s.0.1.1.0 s.0.1.1.1

pub loop-i-preserved-then-is_left : goal.loop-i-preserved-then-is_left
loop-i-preserved-then-is_left c =
    let s = c.in-Some.ensures.steps in
    write_left _ _ c.loop-i.invariant s.0.0 s.0.1.1.0 s.0.1.1.1 s.0.1.0 s.2 s.1 _ c.if-is_left.ensures c.set_block.auto.bytes c.set_block.ensures

pub loop-i-preserved : goal.loop-i-preserved
loop-i-preserved c = let s = c.in-Some.ensures.steps in write_lost _ _ c.loop-i.invariant s.0.0 s.0.1.1.0 s.0.1.1.1 s.0.1.0 s.2 s.1 c.if-is_left.ensures

pub returns : goal.returns
returns c = cut_done c.loop-i.invariant (elim c.in-None.ensures.steps.0 [ inl e ↦ inl e.1.0 | inr e ↦ inr e.1.1.0 ])
