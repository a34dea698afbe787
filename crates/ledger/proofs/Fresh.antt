-- A ledger that was just laid out is the new bank.
use Rattle.std.proofs.Common.{◌≡◌, ℕ, Bool, [], ◌∷◌, sym, ap, ◌∙◌, arith}
use Rattle.bank.specs.Book.{Booking}
use Rattle.bank.specs.Calls.{Limits}
use Rattle.bank.specs.Sums.{tally}
use Rattle.model.specs.Snapshot.{rates_of, accounts_of}
use Rattle.columns.specs.Cells.{limits_in_lem, NewAccounts}
use Rattle.columns.specs.Firsts.{first_of}
use Rattle.columns.specs.Links.{Chained, NewChain, NewChains}
use Rattle.columns.specs.RateRows.{rate_row, rate_rows, NewRates}
use Rattle.columns.specs.Rows.{row, rows, NewBookings}
use Rattle.columns.specs.Spare.{Spare}
use Rattle.columns.proofs.Chain.{latest_none}
use Rattle.columns.proofs.First.{first_none}
use Rattle.columns.proofs.Put.{tally_none}
use Rattle.columns.specs.declared.accounts.Accounts.{Accounts}
use Rattle.columns.specs.declared.bookings.Bookings.{Bookings}
use Rattle.columns.specs.declared.chains.Chain.{Chain}
use Rattle.columns.specs.declared.chains.Chains.{Chains}
use Rattle.columns.specs.declared.rates.Rates.{Rates}
use Rattle.columns.specs.declared.scratch.Scratch.{Scratch}
use Rattle.ledger.specs.Meaning.{bank, rates_set}
use Rattle.ledger.specs.Opened.{New}
use Rattle.ledger.specs.declared.Ledger.{Ledger}
use Rattle.ledger.proofs.Effect.{Holds}

module _ (l : Limits) (x : Accounts) (q : Rates) (y : Bookings) (c : Chains) (z : Scratch) (a : NewAccounts x l.accounts) (r : NewRates q l.rates) (b : NewBookings y l.bookings)
    (i : NewChains c l.accounts l.bookings) (s : Spare z l.accounts) where
  nothing : (p : Booking → Bool) → tally p (rows y) ≡ 0
  nothing p = ap (λ n. tally p (first_of (row y) n)) b.count ∙ tally_none p y

  fresh_chains : (h : Chain) (f : ℕ → ℕ) → NewChain h l.accounts l.bookings → Chained h f y.count x.count
  fresh_chains h f n = rw (b.count, a.count) (record { heads = λ k u. n.heads k u ∙ sym (latest_none f k); links = λ k u. absurd (omega (arith, u)) })

  pub fresh_holds : Holds x q y c z 0 0
  fresh_holds = record {
    small = λ k u. omega (arith, a.limit k (omega (arith, a.count, u)));
    owners = rw a.count r.rated;
    fit = λ k u. absurd (omega (arith, u, b.count));
    sums = record {
      came = λ k u. a.came k (omega (arith, a.count)) ∙ sym (nothing _);
      left = λ k u. a.left k (omega (arith, a.count)) ∙ sym (nothing _);
      ordered = λ k u. a.ordered k (omega (arith, a.count)) ∙ sym (nothing _);
    };
    linkable = rw (a.capacity, b.capacity) (record { heads_in = i.incoming.heads_room; links_in = i.incoming.links_room; heads_out = i.outgoing.heads_room; links_out = i.outgoing.links_room });
    incoming = fresh_chains c.incoming (λ k. (row y k).to) i.incoming;
    outgoing = fresh_chains c.outgoing (λ k. (row y k).from) i.outgoing;
    spare = rw a.capacity s;
    last_day = omega arith;
    most = omega arith;
  }

  fresh_limits : limits_in_lem x ≡ 0 ∷ (0 ∷ [])
  unfolding first_of
  fresh_limits = let c = a.count in let l0 = a.limit 0 (omega arith) in let l1 = a.limit 1 (omega arith) in cc

  fresh_rates : rate_rows q ≡ []
  fresh_rates = ap (first_of (rate_row q)) r.count ∙ first_none (rate_row q)

  fresh_rows : rows y ≡ []
  fresh_rows = ap (first_of (row y)) b.count ∙ first_none (row y)

  pub fresh : (g : Ledger) → g.today ≡ 0 → g.done ≡ 0 → g.accounts ≡ x → g.rates ≡ q → g.bookings ≡ y → New g l
  unfolding rates_set bank accounts_of rates_of
  fresh g t d e1 e2 e3 = record {
    bank_is = let u = ap limits_in_lem e1 ∙ fresh_limits in let v = ap rate_rows e2 ∙ fresh_rates in let w = ap rows e3 ∙ fresh_rows in cc;
    rates_are = ap rate_rows e2 ∙ fresh_rates;
    limits_are =
        let u : g.accounts.capacity ≡ l.accounts = ap (λ (z : Accounts). z.capacity) e1 ∙ a.capacity in
        let v : g.rates.capacity ≡ l.rates = ap (λ (z : Rates). z.capacity) e2 ∙ r.capacity in
        let w : g.bookings.capacity ≡ l.bookings = ap (λ (z : Bookings). z.capacity) e3 ∙ b.capacity in
        (λ j. record { accounts = u j; rates = v j; bookings = w j });
  }
