use Rattle.std.specs.Iterator.Adapters.{enumerate_source, enumerate_count, zip_first, zip_second}
use Rattle.std.specs.Slice.Iter.{iter_rest, chunks_exact_rest, chunks_exact_size}
use Rattle.sim.specs.Cut.{cut_by, writes_in}
use Rattle.sim.specs.Kept.{held_by}
use Rattle.sim.proofs.Passes.{Cutting}
use Rattle.sim.proofs.put_left.Given as goal

abbrev pub invariant-loop-i : goal.invariant-loop-i
invariant-loop-i l =
    let writes = enumerate_source l.i-iterator in
    Cutting l.row l.places (cut_by l.row (held_by l.initial.image (writes_in l.places l.blocks))) l.image (iter_rest (zip_first writes)) (chunks_exact_rest (zip_second writes)) (chunks_exact_size (zip_second writes)) (enumerate_count l.i-iterator)
