-- The running sums are the bank's: by today, as known today, a booking counts if it was not taken back. And no sum is large.
use Rattle.std.proofs.Common.{◌≡◌, ℕ, zero, suc, ◌+◌, ◌-◌, ◌<◌, ◌≤◌, Bool, false, ◌&&◌, eqb, leb, get_or, sym, refl, ap, ◌∙◌, add-zero, add-suc, add-one, arith}
use Rattle.std.proofs.lemmas.Bool.{le-leb}
use Rattle.std.proofs.lemmas.Bool.Decides.{nat_tests}
use Rattle.bank.specs.Book.{Booking, Bank, known, came, left}
use Rattle.bank.specs.Calls.{in_all, out_all, all_in, all_out, ordered}
use Rattle.bank.specs.Sums.{tally, to_by, from_by, orders}
use Rattle.bank.proofs.Balance.{all_of}
use Rattle.bank.proofs.Bounded.{in_over, out_over}
use Rattle.bank.proofs.Tally.{came_tally, left_tally, ordered_tally, tally_same, tally_none}
use Rattle.columns.specs.Parts.{live_to, live_from}
use Rattle.columns.specs.Rows.{row, rows}
use Rattle.columns.proofs.First.{each_first}
use Rattle.columns.proofs.Put.{tally_small}
use Rattle.ledger.specs.Meaning.{bank}
use Rattle.ledger.specs.Facts.{Fit}
use Rattle.ledger.specs.declared.Ledger.{Ledger}
use Rattle.ledger.proofs.Bank.{bank_cells}

to_now : (t m a : ℕ) (b : Booking) → Fit t m b → to_by t a t b ≡ live_to a b
to_now t m a b h = grind (arith, nat_tests)

from_now : (t m a : ℕ) (b : Booking) → Fit t m b → from_by t a t b ≡ live_from a b
from_now t m a b h = grind (arith, nat_tests)

to_late : (k a t m d : ℕ) (b : Booking) → t ≤ d → Fit t m b → to_by k a t b ≡ to_by k a d b
to_late k a t m d b h f = ap (λ x. known k b && (eqb b.to a && x)) (le-leb b.value t f.value ∙ sym (le-leb b.value d (omega arith)))

from_late : (k a t m d : ℕ) (b : Booking) → t ≤ d → Fit t m b → from_by k a t b ≡ from_by k a d b
from_late k a t m d b h f = ap (λ x. known k b && (eqb b.from a && x)) (le-leb b.value t f.value ∙ sym (le-leb b.value d (omega arith)))

rest : (n m : ℕ) → n ≤ m → n + (m - n) ≡ m
rest n m h = omega arith

module _ (g : Ledger) where
  pub in_live : (a : ℕ) → in_all (bank g) a ≡ tally (live_to a) (rows g.bookings)
  unfolding bank
  in_live a =
      came_tally g.today a g.today (rows g.bookings)
      ∙ tally_same (to_by g.today a g.today) (live_to a) (rows g.bookings)
      (each_first (λ b. to_by g.today a g.today b ≡ live_to a b) (row g.bookings) g.bookings.count (λ i u. to_now g.today g.accounts.count a (row g.bookings i) (g.fit i u)))

  pub out_live : (a : ℕ) → out_all (bank g) a ≡ tally (live_from a) (rows g.bookings)
  unfolding bank
  out_live a =
      left_tally g.today a g.today (rows g.bookings)
      ∙ tally_same (from_by g.today a g.today) (live_from a) (rows g.bookings)
      (each_first (λ b. from_by g.today a g.today b ≡ live_from a b) (row g.bookings) g.bookings.count (λ i u. from_now g.today g.accounts.count a (row g.bookings i) (g.fit i u)))

  -- the cells are the bank's sums, and small
  module _ (a : ℕ) (h : a < g.accounts.count) where
    pub came_cell : get_or g.accounts.came.now a 0 ≡ in_all (bank g) a
    came_cell = g.sums.came a h ∙ sym (in_live a)

    pub left_cell : get_or g.accounts.left.now a 0 ≡ out_all (bank g) a
    left_cell = g.sums.left a h ∙ sym (out_live a)

    pub ordered_cell : get_or g.accounts.ordered.now a 0 ≡ ordered a (bank g).bookings
    unfolding bank
    ordered_cell = g.sums.ordered a h ∙ sym (ordered_tally a (rows g.bookings))

    pub came_small : get_or g.accounts.came.now a 0 ≤ 4000000000000000000
    came_small = omega (arith, g.sums.came a h, tally_small (live_to a) g.bookings)

    pub left_small : get_or g.accounts.left.now a 0 ≤ 4000000000000000000
    left_small = omega (arith, g.sums.left a h, tally_small (live_from a) g.bookings)

    pub ordered_small : get_or g.accounts.ordered.now a 0 ≤ 4000000000000000000
    ordered_small = omega (arith, g.sums.ordered a h, tally_small (orders a) g.bookings)

  pub ordered_few : (a : ℕ) → ordered a (bank g).bookings ≤ 4000000000000000000
  unfolding bank
  ordered_few a = omega (arith, ordered_tally a (rows g.bookings), tally_small (orders a) g.bookings)

  -- no booking goes to or from an account that is not there
  absent : (p : Booking → Bool) → ((b : Booking) → b.from < g.accounts.count → b.to < g.accounts.count → p b ≡ false) → tally p (rows g.bookings) ≡ 0
  absent p h = tally_none p (rows g.bookings) (each_first (λ b. p b ≡ false) (row g.bookings) g.bookings.count (λ i u. h (row g.bookings i) (g.fit i u).from (g.fit i u).to))

  pub none_to : tally (live_to g.accounts.count) (rows g.bookings) ≡ 0
  none_to = absent (live_to g.accounts.count) (λ b f t. grind (arith, nat_tests))

  pub none_from : tally (live_from g.accounts.count) (rows g.bookings) ≡ 0
  none_from = absent (live_from g.accounts.count) (λ b f t. grind (arith, nat_tests))

  pub none_ordered : tally (orders g.accounts.count) (rows g.bookings) ≡ 0
  none_ordered = absent (orders g.accounts.count) (λ b f t. grind (arith, nat_tests))

  -- no booking has a value day after today
  pub came_late : (k a d : ℕ) → g.today ≤ d → came k a g.today (bank g).bookings ≡ came k a d (bank g).bookings
  unfolding bank
  came_late k a d h =
      came_tally k a g.today (rows g.bookings)
      ∙ tally_same (to_by k a g.today) (to_by k a d) (rows g.bookings)
      (each_first (λ b. to_by k a g.today b ≡ to_by k a d b) (row g.bookings) g.bookings.count (λ i u. to_late k a g.today g.accounts.count d (row g.bookings i) h (g.fit i u)))
      ∙ sym (came_tally k a d (rows g.bookings))

  pub left_late : (k a d : ℕ) → g.today ≤ d → left k a g.today (bank g).bookings ≡ left k a d (bank g).bookings
  unfolding bank
  left_late k a d h =
      left_tally k a g.today (rows g.bookings)
      ∙ tally_same (from_by k a g.today) (from_by k a d) (rows g.bookings)
      (each_first (λ b. from_by k a g.today b ≡ from_by k a d b) (row g.bookings) g.bookings.count (λ i u. from_late k a g.today g.accounts.count d (row g.bookings i) h (g.fit i u)))
      ∙ sym (left_tally k a d (rows g.bookings))

  -- what came to all accounts together is no more than all amounts
  all_in_up : (m n : ℕ) → all_in (bank g) m ≤ all_in (bank g) (m + n)
  unfolding all_in
  all_in_up m zero = omega (arith, ap (all_in (bank g)) (add-zero m))
  all_in_up m (suc n) = omega (arith, all_in_up m n, ap (all_in (bank g)) (add-suc m n))

  all_out_up : (m n : ℕ) → all_out (bank g) m ≤ all_out (bank g) (m + n)
  unfolding all_out
  all_out_up m zero = omega (arith, ap (all_out (bank g)) (add-zero m))
  all_out_up m (suc n) = omega (arith, all_out_up m n, ap (all_out (bank g)) (add-suc m n))

  all_in_few : all_in (bank g) g.accounts.count ≤ 4000000000000000000
  unfolding bank
  all_in_few =
      omega (
        arith,
        in_over (bank g) g.accounts.count,
        all_of (λ b. b.to) (known g.today) (λ b. leb b.value g.today) g.accounts.count (rows g.bookings) (each_first (λ b. b.to < g.accounts.count) (row g.bookings) g.bookings.count (λ i u. (g.fit i u).to)),
        tally_small (λ b. known g.today b && leb b.value g.today) g.bookings,
      )

  all_out_few : all_out (bank g) g.accounts.count ≤ 4000000000000000000
  unfolding bank
  all_out_few =
      omega (
        arith,
        out_over (bank g) g.accounts.count,
        all_of (λ b. b.from) (known g.today) (λ b. leb b.value g.today) g.accounts.count (rows g.bookings) (each_first (λ b. b.from < g.accounts.count) (row g.bookings) g.bookings.count (λ i u. (g.fit i u).from)),
        tally_small (λ b. known g.today b && leb b.value g.today) g.bookings,
      )

  pub all_in_small : (n : ℕ) → n ≤ g.accounts.count → all_in (bank g) n ≤ 4000000000000000000
  all_in_small n h = omega (arith, all_in_few, all_in_up n (g.accounts.count - n), ap (all_in (bank g)) (rest n g.accounts.count h))

  pub all_out_small : (n : ℕ) → n ≤ g.accounts.count → all_out (bank g) n ≤ 4000000000000000000
  all_out_small n h = omega (arith, all_out_few, all_out_up n (g.accounts.count - n), ap (all_out (bank g)) (rest n g.accounts.count h))

  -- one account more
  pub all_in_more : (n : ℕ) → n < g.accounts.count → all_in (bank g) (n + 1) ≡ all_in (bank g) n + get_or g.accounts.came.now n 0
  unfolding all_in
  all_in_more n h = ap (all_in (bank g)) (add-one n) ∙ omega (arith, came_cell n h)

  pub all_out_more : (n : ℕ) → n < g.accounts.count → all_out (bank g) (n + 1) ≡ all_out (bank g) n + get_or g.accounts.left.now n 0
  unfolding all_out
  all_out_more n h = ap (all_out (bank g)) (add-one n) ∙ omega (arith, left_cell n h)

pub all_in_none : (n : Bank) → all_in n 0 ≡ 0
unfolding all_in
all_in_none n = refl

pub all_out_none : (n : Bank) → all_out n 0 ≡ 0
unfolding all_out
all_out_none n = refl

-- what the bank says of the cells, and what it says of sums
pub ruleset bank_sums = (bank_cells, came_cell, left_cell, ordered_cell, came_small, left_small, ordered_small, ordered_few, came_late, left_late, all_in_none, all_out_none, all_in_more, all_out_more, all_in_small, all_out_small)
