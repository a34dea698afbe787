use Rattle.std.proofs.Common.{◌≡◌, ℕ, ◌+◌, true, List, sym, refl, ap, arith}
use Rattle.std.proofs.lemmas.Bool.Decides.{nat_tests}
use Rattle.std.proofs.lemmas.Option.{cond_some}
use Rattle.device.specs.Device.{pick}
use Rattle.journal.specs.declared.journal.Journal.{Journal}
use Rattle.journal.specs.Recovery.{accepts_next, next_rows, Fit}
use Rattle.journal.proofs.journal.Journal.take_block.Goals as goal

-- a block that is accepted fits
fits : (j : Journal) (bs : List ℕ) → accepts_next j bs ≡ true → Fit j bs (next_rows j bs)
fits j bs e = grind (arith, nat_tests)

pub returns-clause-took : goal.returns-clause-took
returns-clause-took c =
    let j = c.args.self.now in
    let t = cond_some (accepts_next j c.args.bytes.now) (next_rows j c.args.bytes.now) c.in_ok-rows.rows (sym c.in_ok-rows.ensures) in
    record {
      found = c.in_ok-rows.ensures;
      fit = rw (← t.1) (fits j c.args.bytes.now t.0);
      block = refl;
      label = refl;
      blocks = refl;
      read = ap (λ b. j.read + pick b 1 0) (sym t.0);
      count = refl;
    }
