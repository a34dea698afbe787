use Rattle.std.proofs.Common.{◌≡◌, ℕ, ◌-◌, length, take, replicate, ap, ◌∙◌}
use lib.ListN.{length-replicate}
use Rattle.device.specs.Rows.{width}
use Rattle.wire.specs.Bytes.{eights, narrow}
use Rattle.wire.proofs.Numbers.{eights_front, narrow_eights, width_eights}
use Rattle.wire.proofs.bytes.eights.Goals as goal

pub returns : goal.returns
returns c =
    let n = c.args.count in
    let is : take (n - 0) (replicate 8 8) ≡ eights n = eights_front n c.requires in
    record { is = is; few = (ap length is ∙ length-replicate {A = ℕ} n 8, (ap width is ∙ width_eights n, ap narrow is ∙ narrow_eights n)) }
