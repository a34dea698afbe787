use Rattle.std.proofs.Common.{◌≤◌, length, ltb, ap, ◌∙◌, arith, rules}
use Rattle.std.proofs.lemmas.List.{length-map}
use Rattle.std.proofs.lemmas.Fn.{always_returns_same}
use Rattle.std.proofs.lemmas.List.Sorted.{IsPartitionedBy-ltb}
use Rattle.ledger.specs.Meaning.{bank}
use Rattle.desk.proofs.Lines.{booked_in_order, days_rise, point_before, point_from}
use Rattle.desk.proofs.statement.first_booked.Goals as goal

pub returns : goal.returns
returns c =
    let n = bank c.args.ledger.now in
    let e = c.booked_days.ensures in
    let parted = IsPartitionedBy-ltb (λ x. x) c.booked_days.result.now c.args.day (rw e (days_rise n (booked_in_order c.args.ledger.now c.requires))) in
    let point = c.partition_point.ensures.partitioned (λ x. ltb x c.args.day) (always_returns_same _ _ _ (λ a r q k. search rules)) parted in
    let within : c.partition_point.result ≤ length n.bookings = omega (arith, c.partition_point.ensures.bound, ap (λ xs. length xs) e ∙ length-map n.bookings (λ b. b.on)) in
    record {
      within = within;
      before = point_before n c.args.day _ within (rw e at point);
      from = point_from n c.args.day _ within (rw e at point);
    }
