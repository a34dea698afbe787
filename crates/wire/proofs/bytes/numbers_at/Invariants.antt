use Rattle.std.proofs.Common.{◌≡◌, ◌+◌, ◌-◌, true, ◌++◌, length, take, drop, replicate}
use Rattle.device.specs.Rows.{numbers, width}
use Rattle.wire.specs.Bytes.{narrow}
use Rattle.wire.proofs.bytes.numbers_at.Given as goal

-- what was read, and what is left to read from here on, is the whole
abbrev pub invariant-loop-i : goal.invariant-loop-i
invariant-loop-i l =
    let ks = drop l.i l.widths in let zs = replicate (8 - length l.widths) 0 in record {
      room : l.end + width ks ≡ l.at + width l.widths;
      narrow : narrow ks ≡ true;
      zeros : drop l.i l.ns ≡ replicate (8 - l.i) 0;
      left : take l.i l.ns ++ (numbers ks (drop l.end l.bytes) ++ zs) ≡ numbers l.widths (drop l.at l.bytes) ++ zs;
    }
