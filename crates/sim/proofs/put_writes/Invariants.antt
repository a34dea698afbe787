use Rattle.std.proofs.Common.{◌≡◌}
use Rattle.std.specs.Iterator.Adapters.{zip_first, zip_second}
use Rattle.std.specs.Slice.Iter.{iter_rest, chunks_exact_rest, chunks_exact_size}
use Rattle.device.specs.Plan.{put_all}
use Rattle.blocks.specs.Blocks.{device_of}
use Rattle.sim.specs.Cut.{writes_in}
use Rattle.sim.proofs.Passes.{ToCome}
use Rattle.sim.proofs.put_writes.Given as goal

-- those to come are put, and it is as if all were
abbrev pub invariant-loop-place : goal.invariant-loop-place
invariant-loop-place l = record {
  to_come : ToCome l.image (iter_rest (zip_first l.place-iterator)) (chunks_exact_rest (zip_second l.place-iterator)) (chunks_exact_size (zip_second l.place-iterator));
  all : put_all (device_of l.image) (writes_in (iter_rest (zip_first l.place-iterator)) (chunks_exact_rest (zip_second l.place-iterator))) ≡ put_all (device_of l.initial.image) (writes_in l.places l.blocks);
}
