-- A snapshot of the book reads back, from the blocks that it uses.
use Rattle.std.proofs.Common.{◌≡◌, ℕ, ◌+◌, ◌-◌, ◌<◌, Bool, true, false, ltb, List, [], ◌∷◌, length, get_or, sym, refl, ap, ◌∙◌, ap₂, arith, le-ltb, lt-ltb}
use Rattle.bank.specs.Book.{pick}
use Rattle.bank.specs.Calls.{Limits}
use Rattle.model.specs.Register.{Dated, Register}
use Rattle.model.specs.Snapshot.{Counts, counts_row, limit_row, rate_row, booking_row, limits_of, accounts_of, blocks_for, area_blocks, behind, counts_of, snapshot_uses, snapshot, restore}
use Rattle.device.specs.Device.{all_bytes}
use Rattle.device.specs.Book.{every}
use Rattle.device.specs.Rows.{fits_row, thing_in, rows_at, block_of, rows_in, table, in_table, table_in}
use Rattle.device.proofs.Rows.{block_full, block_bytes, block_back, table_full, table_bytes, table_back}
use Rattle.bank.proofs.Limited.{Fits, fits_parts}
use Rattle.model.proofs.Register.{limits_length}
use Rattle.model.specs.Whole.{Sized}
use Rattle.model.proofs.ReachedRegister.{Facts}

-- things that stand one behind the other
in_part : {X : Type 0} (n : ℕ) (f g : ℕ → X) (i : ℕ) → i < n → behind n f g i ≡ f i
in_part n f g i h = let z : ltb i n ≡ true = lt-ltb i n h in rw z

past_part : {X : Type 0} (n : ℕ) (f g : ℕ → X) (i : ℕ) → behind n f g (n + i) ≡ g i
past_part n f g i =
    let z : ltb (n + i) n ≡ false = le-ltb (n + i) n (omega arith) in
    let e : (n + i) - n ≡ i = omega arith in
    rw (z, e)

-- P of all blocks of two parts
both_parts : (P : List ℕ → Type 0) (n : ℕ) (f g : ℕ → List ℕ) → ((i : ℕ) → P (f i)) → ((i : ℕ) → P (g i)) → (i : ℕ) → P (behind n f g i)
both_parts P n f g x y i = go (ltb i n)
  where
    go : (t : Bool) → P (pick t (f i) (g (i - n)))
    go true = x i
    go false = y (i - n)

one_good : (k : Register) → Sized k → every (fits_row counts_row) (counts_of k ∷ []) ≡ true
unfolding every
one_good k s = rw s.counts

-- all blocks of a snapshot
pub snapshot_full : (l : Limits) (k : Register) (i : ℕ) → Sized k → length (snapshot l k i) ≡ 512
unfolding snapshot
snapshot_full l k i s =
    both_parts (λ bs. length bs ≡ 512) 1 _ _
    (λ j. block_full counts_row (fits_row counts_row) (λ x h. h) (λ x h. refl) 0 1 (omega arith) [] (counts_of k ∷ []) refl (omega arith) (one_good k s))
    (both_parts (λ bs. length bs ≡ 512) (blocks_for l.accounts) _ _
    (λ j. table_full limit_row (fits_row limit_row) (λ x h. h) (λ x h. refl) 16 (omega arith) (omega arith) (limits_of k.bank.accounts) j s.limits)
    (both_parts (λ bs. length bs ≡ 512) (blocks_for l.rates) _ _
    (λ j. table_full rate_row (fits_row rate_row) (λ x h. h) (λ x h. refl) 16 (omega arith) (omega arith) k.rates j s.rates)
    (λ j. table_full booking_row (fits_row booking_row) (λ x h. h) (λ x h. refl) 16 (omega arith) (omega arith) k.bank.bookings j s.bookings))) i

pub snapshot_bytes : (l : Limits) (k : Register) (i : ℕ) → all_bytes (snapshot l k i) ≡ true
unfolding snapshot
snapshot_bytes l k i =
    both_parts (λ bs. all_bytes bs ≡ true) 1 _ _
    (λ j. block_bytes counts_row (fits_row counts_row) (λ x h. h) (λ x h. refl) 0 1 (omega arith) [] (counts_of k ∷ []) (unfold all_bytes in refl))
    (both_parts (λ bs. all_bytes bs ≡ true) (blocks_for l.accounts) _ _
    (λ j. table_bytes limit_row (fits_row limit_row) (λ x h. h) (λ x h. refl) 16 (omega arith) (omega arith) (limits_of k.bank.accounts) j)
    (both_parts (λ bs. all_bytes bs ≡ true) (blocks_for l.rates) _ _
    (λ j. table_bytes rate_row (fits_row rate_row) (λ x h. h) (λ x h. refl) 16 (omega arith) (omega arith) k.rates j)
    (λ j. table_bytes booking_row (fits_row booking_row) (λ x h. h) (λ x h. refl) 16 (omega arith) (omega arith) k.bank.bookings j))) i

-- the first block says the day and the counts
pub counts_back : (k : Register) (bs : List ℕ) → Sized k → bs ≡ block_of counts_row [] (counts_of k ∷ []) → thing_in counts_row bs ≡ counts_of k
unfolding rows_in rows_at
counts_back k bs s e =
    ap (λ (z : List ℕ). thing_in counts_row z) e
    ∙ ap (λ (xs : List Counts). get_or xs 0 (counts_of k))
    (block_back counts_row (fits_row counts_row) (λ x h. h) (λ x h. refl) 0 1 (omega arith) [] (counts_of k ∷ []) refl (one_good k s))

pub snapshot_back : (l : Limits) (k : Register) (g : ℕ → List ℕ) → Facts l k → Sized k → ((i : ℕ) → i < area_blocks l → snapshot_uses l k i ≡ true → g i ≡ snapshot l k i) → restore l g ≡ k
unfolding snapshot snapshot_uses restore
snapshot_back l k g f s e =
    λ i. record {
      bank = record { today = (first i).today; done = (first i).done; accounts = accounts i; bookings = bookings i };
      rates = rates i;
    }
  where
    a : ℕ
    a = blocks_for l.accounts

    r : ℕ
    r = blocks_for l.rates

    q : Fits l k.bank
    q = fits_parts l k.bank f.counts.fit

    -- the parts of a snapshot, and of what it uses
    f4 : ℕ → List ℕ
    f4 = table booking_row 16 k.bank.bookings

    f3 : ℕ → List ℕ
    f3 = table rate_row 16 k.rates

    f2 : ℕ → List ℕ
    f2 = table limit_row 16 (limits_of k.bank.accounts)

    f1 : ℕ → List ℕ
    f1 i = block_of counts_row [] (counts_of k ∷ [])

    u4 : ℕ → Bool
    u4 = in_table 16 (length k.bank.bookings)

    u3 : ℕ → Bool
    u3 = in_table 16 (length k.rates)

    u2 : ℕ → Bool
    u2 = in_table 16 (length k.bank.accounts)

    first : thing_in counts_row (g 0) ≡ counts_of k
    first = counts_back k (g 0) s (e 0 (omega arith) refl)

    limits : table_in limit_row 16 (thing_in counts_row (g 0)).accounts (λ i. g (1 + i)) a ≡ limits_of k.bank.accounts
    limits =
        let m = q.accounts in
        let n = limits_length k.bank.accounts in
        ap (λ (z : ℕ). table_in limit_row 16 z (λ i. g (1 + i)) a) (ap (λ (c : Counts). c.accounts) first ∙ sym n)
        ∙ table_back limit_row (fits_row limit_row) (λ x h. h) (λ x h. refl) 16 (omega arith) (omega arith) (limits_of k.bank.accounts) a (λ i. g (1 + i)) s.limits (omega arith)
        (λ i h t. e (1 + i) (omega arith) (past_part 1 (λ z. true) (behind a u2 (behind r u3 u4)) i ∙ in_part a u2 (behind r u3 u4) i h ∙ (rw n at t))
        ∙ past_part 1 f1 (behind a f2 (behind r f3 f4)) i ∙ in_part a f2 (behind r f3 f4) i h)

    rates : table_in rate_row 16 (thing_in counts_row (g 0)).rates (λ i. g (1 + (a + i))) r ≡ k.rates
    rates =
        let m = q.rates in
        let n = f.well.long in
        ap (λ (z : ℕ). table_in rate_row 16 z (λ i. g (1 + (a + i))) r) (ap (λ (c : Counts). c.rates) first)
        ∙ table_back rate_row (fits_row rate_row) (λ x h. h) (λ x h. refl) 16 (omega arith) (omega arith) k.rates r (λ i. g (1 + (a + i))) s.rates (omega arith)
        (λ i h t. e (1 + (a + i)) (omega arith) (past_part 1 (λ z. true) (behind a u2 (behind r u3 u4)) (a + i) ∙ past_part a u2 (behind r u3 u4) i ∙ in_part r u3 u4 i h ∙ t)
        ∙ past_part 1 f1 (behind a f2 (behind r f3 f4)) (a + i) ∙ past_part a f2 (behind r f3 f4) i ∙ in_part r f3 f4 i h)

    accounts : accounts_of 0 (table_in limit_row 16 (thing_in counts_row (g 0)).accounts (λ i. g (1 + i)) a) (table_in rate_row 16 (thing_in counts_row (g 0)).rates (λ i. g (1 + (a + i))) r)
        ≡ k.bank.accounts
    accounts = ap₂ (λ (ms : List ℕ) (rs : List Dated). accounts_of 0 ms rs) limits rates ∙ f.well.rebuilt

    bookings : table_in booking_row 16 (thing_in counts_row (g 0)).bookings (λ i. g (1 + (a + (r + i)))) (blocks_for l.bookings) ≡ k.bank.bookings
    bookings =
        let m = q.bookings in
        ap (λ (z : ℕ). table_in booking_row 16 z (λ i. g (1 + (a + (r + i)))) (blocks_for l.bookings)) (ap (λ (c : Counts). c.bookings) first)
        ∙ table_back booking_row (fits_row booking_row) (λ x h. h) (λ x h. refl) 16 (omega arith) (omega arith) k.bank.bookings (blocks_for l.bookings) (λ i. g (1 + (a + (r + i)))) s.bookings (omega arith)
        (λ i h t. e (1 + (a + (r + i))) (omega arith)
        (past_part 1 (λ z. true) (behind a u2 (behind r u3 u4)) (a + (r + i)) ∙ past_part a u2 (behind r u3 u4) (r + i) ∙ past_part r u3 u4 i ∙ t)
        ∙ past_part 1 f1 (behind a f2 (behind r f3 f4)) (a + (r + i)) ∙ past_part a f2 (behind r f3 f4) (r + i) ∙ past_part r f3 f4 i)
