use Rattle.std.proofs.Common.{◌+◌, ◌∙◌, take, set, List, ap, arith}
use Rattle.device.specs.Plan.{Write}
use Rattle.blocks.specs.Blocks.{device_of}
use Rattle.sim.specs.Held.{done}
use Rattle.sim.specs.Cut.{writes_in}
use Rattle.sim.proofs.Writes.{kept_write}
use Rattle.sim.proofs.keep_write.Goals as goal

pub returns-clause-held : goal.returns-clause-held
unfolding done
returns-clause-held c = λ image.
    let at = c.args.at in
    ap (λ (ws : List Write). record { durable = device_of image; pending = ws })
    (ap (writes_in (take (at + 1) (set c.args.places.now at c.args.k))) c.set_block.ensures
    ∙ kept_write c.args.places.now c.args.blocks.now at c.args.k c.args.block.now (omega arith) (omega arith) (omega arith))
