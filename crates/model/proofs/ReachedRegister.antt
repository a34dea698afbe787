-- What is known of a bank with its rates in order that calls can bring about: all its numbers fit their rows.
use Rattle.std.proofs.Common.{◌≡◌, ℕ, ◌<◌, ◌≤◌, Bool, true, false, not, ◌&&◌, eqb, List, [], ◌∷◌, ◌++◌, length, sym, refl, ap, ◌∙◌, subst, append-nil, arith, lt-ltb, eqb-true}
use Rattle.std.proofs.lemmas.Bool.{and_parts, and_from}
use Rattle.bank.specs.Book.{pick, Booking, Bank}
use Rattle.bank.specs.Calls.{Call, opens, rated, move, take_back, day_ends, balance, statement, sums, taken_so_far, garbled, Limits, rates_in, turned, changed, new_bank}
use Rattle.bank.specs.Promise.{asks, allowed, Reached}
use Rattle.bank.specs.Bounds.{AmountsBelow}
use Rattle.bank.specs.Room.{ReachedUnder}
use Rattle.bank.proofs.Tally.{Each}
use Rattle.bank.proofs.Sound.{Fine}
use Rattle.bank.proofs.Reached.{reached_sound}
use Rattle.bank.proofs.Bounded.{within}
use Rattle.bank.specs.Count.{changes}
use Rattle.model.specs.Register.{Dated, Register, sets, register_after, new_register, register_book}
use Rattle.model.specs.Snapshot.{Counts, counts_row, limit_row, rate_row, booking_row, limits_of, rates_of, accounts_of, counts_of}
use Rattle.model.specs.Whole.{ReachedRegister, Sized}
use Rattle.device.specs.Book.{every, ran_by}
use Rattle.device.specs.Rows.{fits_in, fits_row}
use Rattle.bank.proofs.Limited.{never, taken_good, taken_by, fits_parts, allowed_parts}
use Rattle.model.proofs.Bridge.{ran_is, register_ran}
use Rattle.bank.proofs.Taken.{after_taken}
use Rattle.bank.proofs.Count.{unasked}
use Rattle.bank.proofs.Count.{Counted, counted_new, counted_stays, counted_few}
use Rattle.model.proofs.Register.{DatedWell, Well, well_stays}

-- a question sets no rate
asks_none : (n : Bank) (c : Call) → asks c ≡ true → sets n c ≡ []
unfolding asks sets
asks_none n (opens m r) h = never h
asks_none n (rated a r) h = never h
asks_none n (move v a b x) h = refl
asks_none n (take_back k) h = refl
asks_none n day_ends h = refl
asks_none n (balance a d k) h = refl
asks_none n (statement a d e) h = refl
asks_none n sums h = refl
asks_none n taken_so_far h = refl
asks_none n (garbled k) h = refl

module _ (l : Limits) where
  -- what is no change leaves all as it is
  pub register_idle : (k : Register) (c : Call) → changes l k.bank c ≡ false → register_after l k c ≡ k
  register_idle k c h = λ i. record { bank = unasked l k.bank c h i; rates = rates i }
    where
      go : (x y : Bool) → asks c ≡ x → eqb (turned l k.bank c) 0 ≡ y → (not x && y) ≡ false → pick y (k.rates ++ sets k.bank c) k.rates ≡ k.rates
      go true true a b e = rw (asks_none k.bank c a) (append-nil k.rates)
      go true false a b e = refl
      go false true a b e = never (sym e)
      go false false a b e = refl

      rates : pick (eqb (turned l k.bank c) 0) (k.rates ++ sets k.bank c) k.rates ≡ k.rates
      rates = go (asks c) (eqb (turned l k.bank c) 0) refl refl h

  pub record Facts (k : Register) : Type 0 where
    pub counts : Counted l k.bank
    pub well : Well k.bank.today k.bank.accounts k.rates

  facts_new : allowed l ≡ true → Facts new_register
  facts_new a =
      record {
        counts = counted_new l (allowed_parts l a).two;
        well = unfold limits_of accounts_of rates_of rates_in in record { dates = tt; small = (omega arith, (omega arith, tt)); rebuilt = refl; long = refl };
      }

  pub register_taken : (k : Register) (c : Call) → turned l k.bank c ≡ 0 → register_after l k c ≡ record { bank = changed k.bank c; rates = k.rates ++ sets k.bank c }
  register_taken k c h = rw h

  facts_after : (k : Register) (c : Call) → Facts k → Facts (register_after l k c)
  facts_after k c f = go (changes l k.bank c) refl
    where
      go : (t : Bool) → changes l k.bank c ≡ t → Facts (register_after l k c)
      go false t = subst Facts (sym (register_idle k c t)) f
      go true t =
          let q = and_parts (not (asks c)) (eqb (turned l k.bank c) 0) t in
          let z : turned l k.bank c ≡ 0 = eqb-true (turned l k.bank c) 0 q.1 in
          subst Facts (sym (register_taken k c z))
          (record {
            counts = subst (Counted l) (after_taken l k.bank c z) (counted_stays l k.bank c f.counts t);
            well = well_stays k.bank k.rates c (taken_good l k.bank c z) (taken_by l k.bank c z) f.well;
          })

  facts_ran : (k : Register) (cs : List Call) → Facts k → Facts (ran_by (register_book l) k cs)
  unfolding ran_by
  facts_ran k [] f = f
  facts_ran k (c ∷ cs) f = facts_ran (register_after l k c) cs (facts_after k c f)

  pub reached_facts : allowed l ≡ true → (k : Register) → ReachedRegister l k → Facts k
  reached_facts a k h = subst Facts h.1 (facts_ran new_register h.0 (facts_new a))

  pub reached_under : (k : Register) → ReachedRegister l k → ReachedUnder l k.bank
  reached_under k h = (h.0, sym (ran_is l new_bank h.0) ∙ sym (register_ran l new_register h.0) ∙ ap (λ (x : Register). x.bank) h.1)

  pub reached_bank : (k : Register) → ReachedRegister l k → Reached k.bank
  reached_bank k h = let r = reached_under k h in (l, r.0, r.1)

counts_fit : (x : Counts) → x.today ≤ 3650 → x.done < 4294967296 → x.accounts ≤ 4096 → x.rates < 65536 → x.bookings < 4294967296 → fits_row counts_row x ≡ true
unfolding fits_in
counts_fit x a b c d e =
    and_from _ _ (lt-ltb x.today 65536 (omega arith))
    (and_from _ _ (lt-ltb x.done 4294967296 b)
    (and_from _ _ (lt-ltb x.accounts 65536 (omega arith)) (and_from _ _ (lt-ltb x.rates 65536 d) (and_from _ _ (lt-ltb x.bookings 4294967296 e) refl))))

limits_fit : (ms : List ℕ) → Each (λ m. m ≤ 100000000000) ms → every (fits_row limit_row) ms ≡ true
unfolding every fits_in
limits_fit [] h = refl
limits_fit (m ∷ ms) h = let q : m ≤ 100000000000 = h.0 in and_from _ _ (and_from _ _ (lt-ltb m 18446744073709551616 (omega arith)) refl) (limits_fit ms h.1)

rates_fit : (t m : ℕ) (rs : List Dated) → t ≤ 3650 → m ≤ 4096 → Each (DatedWell t m) rs → every (fits_row rate_row) rs ≡ true
unfolding every fits_in
rates_fit t m [] p q h = refl
rates_fit t m (x ∷ rs) p q h =
    let w : DatedWell t m x = h.0 in
    and_from _ _
    (and_from _ _ (lt-ltb x.account 65536 (omega arith)) (and_from _ _ (lt-ltb x.since 65536 (omega arith)) (and_from _ _ (lt-ltb x.rate 65536 (omega arith)) refl)))
    (rates_fit t m rs p q h.1)

bookings_fit : (t m : ℕ) (bs : List Booking) → t ≤ 3650 → m ≤ 4096 → Each (Fine t m) bs → AmountsBelow 1000000000000 bs → every (fits_row booking_row) bs ≡ true
unfolding every fits_in AmountsBelow
bookings_fit t m [] p q h g = refl
bookings_fit t m (b ∷ bs) p q h g =
    let w : Fine t m b = h.0 in
    let u : b.amount < 1000000000000 = g.0 in
    and_from _ _
    (and_from _ _ (lt-ltb b.on 65536 (omega arith))
    (and_from _ _ (lt-ltb b.value 65536 (omega arith))
    (and_from _ _ (lt-ltb b.from 65536 (omega arith))
    (and_from _ _ (lt-ltb b.to 65536 (omega arith))
    (and_from _ _ (lt-ltb b.amount 18446744073709551616 (omega arith))
    (and_from _ _ (lt-ltb b.kind 65536 (omega arith)) (and_from _ _ (lt-ltb b.back 65536 (omega arith)) refl)))))))
    (bookings_fit t m bs p q h.1 g.1)

pub reached_sized : (l : Limits) → allowed l ≡ true → (k : Register) → ReachedRegister l k → Sized k
reached_sized l a k h =
    let f = reached_facts l a k h in
    let q = fits_parts l k.bank f.counts.fit in
    let p = allowed_parts l a in
    let r = reached_bank l k h in
    let few = counted_few l k.bank f.counts in
    let days : k.bank.today ≤ 3650 = q.days in
    let m : length k.bank.accounts ≤ 4096 = omega arith in
    let e : length k.rates ≡ rates_in k.bank.accounts = f.well.long in
    record {
      counts = counts_fit (counts_of k) days (omega arith) m (omega arith) (omega arith);
      limits = limits_fit (limits_of k.bank.accounts) f.well.small;
      rates = rates_fit k.bank.today (length k.bank.accounts) k.rates days m f.well.dates;
      bookings = bookings_fit k.bank.today (length k.bank.accounts) k.bank.bookings days m (reached_sound k.bank r).fine (within k.bank r).amounts;
    }
