-- A walk along an account's chain adds up what its bookings give: the amounts of those that pass a test, which those of other parties do not.
use Rattle.std.proofs.Common.{◌≡◌, ℕ, suc, ◌+◌, ◌<◌, ◌≤◌, Bool, false, length, get_or, ap, ◌∙◌, subst, add-one, arith}
use Rattle.std.proofs.lemmas.Bool.Decides.{nat_tests}
use Rattle.std.proofs.lemmas.Int.{ints}
use Rattle.bank.specs.Book.{pick, Booking, came, left}
use Rattle.bank.specs.Sums.{tally, to_by, from_by}
use Rattle.bank.proofs.Tally.{came_tally, left_tally}
use Rattle.columns.specs.Firsts.{first_of}
use Rattle.columns.specs.Links.{latest, Chained}
use Rattle.columns.specs.Parts.{counts}
use Rattle.columns.specs.Rows.{row, rows}
use Rattle.columns.proofs.Chain.{latest_le, latest_fix, latest_hit, tally_latest}
use Rattle.columns.proofs.Put.{tally_none, tally_more, tally_small}
use Rattle.columns.specs.declared.bookings.Bookings.{Bookings}
use Rattle.columns.specs.declared.chains.Chain.{Chain}
use Rattle.ledger.specs.Meaning.{bank}
use Rattle.ledger.specs.declared.Ledger.{Ledger}
use Rattle.ledger.proofs.Bank.{bank_accounts, bank_bookings}

-- a chain over bookings, which of them count for account a, and room for all
pub record Way (c : Bookings) (h : Chain) (p : Booking → ℕ) (t : Booking → Bool) (a m : ℕ) : Type 0 where
  pub chained : Chained h (λ i. p (row c i)) c.count m
  pub account : a < m
  pub other : (b : Booking) → (p b ≡ a → ⊥) → t b ≡ false
  pub room : c.count ≤ length h.before.now

-- booking next - 1 is the next of the chain, and sum is what the bookings from next on give
pub record Walk (c : Bookings) (h : Chain) (p : Booking → ℕ) (t : Booking → Bool) (a m next sum : ℕ) : Type 0 where
  pub way : Way c h p t a m
  pub there : next ≤ c.count
  pub ends : latest (λ i. p (row c i)) a next ≡ next
  pub total : sum + tally t (first_of (row c) next) ≡ tally t (rows c)

module _ {c : Bookings} {h : Chain} {p : Booking → ℕ} {t : Booking → Bool} {a m : ℕ} where
  pub walk_start : Way c h p t a m → (n : ℕ) → n ≡ get_or h.newest.now a 0 → Walk c h p t a m n 0
  walk_start y n q =
      let e = q ∙ y.chained.heads a y.account in
      record {
        way = y;
        there = omega (arith, e, latest_le (λ i. p (row c i)) a c.count);
        ends = rw e (latest_fix (λ i. p (row c i)) a c.count);
        total = omega (arith, ap (λ k. tally t (first_of (row c) k)) e, tally_latest t p a c c.count y.other);
      }

  -- one turn of the walk, at booking i, which is b and gives x; n is the next link
  module _ {next sum : ℕ} (z : Walk c h p t a m next sum) (i : ℕ) (at : next ≡ suc i) where
    pub walk_room : i < length h.before.now
    walk_room = omega (arith, z.there, z.way.room)

    here : Walk c h p t a m (suc i) sum
    here = subst (λ (k : ℕ). Walk c h p t a m k sum) at z

    link : (n : ℕ) → n ≡ get_or h.before.now i 0 → n ≡ latest (λ j. p (row c j)) a i
    link n q = q ∙ z.way.chained.links i (omega (arith, here.there)) ∙ ap (λ k. latest (λ j. p (row c j)) k i) (latest_hit (λ j. p (row c j)) a i here.ends)

    pub walk_less : (n : ℕ) → n ≡ get_or h.before.now i 0 → n < next
    walk_less n q = omega (arith, at, link n q, latest_le (λ j. p (row c j)) a i)

    step : (x : ℕ) (b : Booking) → b ≡ row c i → x ≡ pick (t b) b.amount 0 → sum + x + tally t (first_of (row c) i) ≡ tally t (rows c)
    step x b r e =
        omega (arith, here.total, e ∙ ap (λ k. pick (t k) k.amount 0) r, tally_more t c i, ap (λ k. tally t (first_of (row c) k)) (add-one i))

    pub walk_step : (x : ℕ) (b : Booking) (n : ℕ) → b ≡ row c i → x ≡ pick (t b) b.amount 0 → n ≡ get_or h.before.now i 0 → Walk c h p t a m n (sum + x)
    walk_step x b n r e q =
        let f = link n q in
        record {
          way = z.way;
          there = omega (arith, f, latest_le (λ j. p (row c j)) a i, here.there);
          ends = rw f (latest_fix (λ j. p (row c j)) a i);
          total = omega (arith, step x b r e, ap (λ k. tally t (first_of (row c) k)) f, tally_latest t p a c i z.way.other);
        }

    pub walk_small : (x : ℕ) (b : Booking) → b ≡ row c i → x ≡ pick (t b) b.amount 0 → sum + x ≤ 4000000000000000000
    walk_small x b r e = omega (arith, step x b r e, tally_small t c)

  pub walk_end : {next sum : ℕ} → Walk c h p t a m next sum → next ≡ 0 → sum ≡ tally t (rows c)
  walk_end s e = omega (arith, s.total, ap (λ k. tally t (first_of (row c) k)) e, tally_none t c)

-- of other parties nothing counts
counts_other : (p : Booking → ℕ) (k a d : ℕ) (b : Booking) → (p b ≡ a → ⊥) → counts p k a d b ≡ false
counts_other p k a d b h = grind (arith, nat_tests)

-- the way of a ledger by the chain of one side
pub way_by : (g : Ledger) (h : Chain) (p : Booking → ℕ) (k a d : ℕ) → Chained h (λ i. p (row g.bookings i)) g.bookings.count g.accounts.count → g.bookings.capacity ≤ length h.before.now →
    a < length (bank g).accounts → Way g.bookings h p (counts p k a d) a g.accounts.count
way_by g h p k a d c l u = record { chained = c; account = omega (arith, u, bank_accounts g); other = counts_other p k a d; room = omega arith }

-- what came and what left are such sums
module _ (g : Ledger) (k a d : ℕ) where
  pub came_is : came k a d (bank g).bookings ≡ tally (to_by k a d) (rows g.bookings)
  came_is = ap (came k a d) (bank_bookings g) ∙ came_tally k a d (rows g.bookings)

  pub left_is : left k a d (bank g).bookings ≡ tally (from_by k a d) (rows g.bookings)
  left_is = ap (left k a d) (bank_bookings g) ∙ left_tally k a d (rows g.bookings)

  pub came_few : came k a d (bank g).bookings ≤ 4000000000000000000
  came_few = omega (arith, came_is, tally_small (to_by k a d) g.bookings)

  pub left_few : left k a d (bank g).bookings ≤ 4000000000000000000
  left_few = omega (arith, left_is, tally_small (from_by k a d) g.bookings)

-- neither is large, and how casts to signed numbers read
pub ruleset few = (came_few, left_few, ints)
