use Rattle.std.proofs.Common.{◌≡◌, ◌+◌, ◌≤◌, true, length}
use Rattle.device.specs.Rows.{row, width, with_bytes}
use Rattle.wire.specs.Bytes.{narrow}
use Rattle.wire.proofs.bytes.put_numbers.Given as goal

-- what is left to write, written from here on, is the whole
abbrev pub invariant-loop-wide : goal.invariant-loop-wide
invariant-loop-wide l =
    let ks = l.wide-iterator.a.rest.now in let ns = l.wide-iterator.b.rest.now in record {
      room : l.end + width ks ≡ l.at + width l.widths;
      few : length ks ≤ length ns;
      narrow : narrow ks ≡ true;
      left : with_bytes l.out l.end (row ks ns) ≡ with_bytes l.initial.out l.at (row l.widths l.ns);
    }
