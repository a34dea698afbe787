-- Blocks of the journal read back, and calls that are taken can be stored.
use Rattle.std.proofs.Common.{◌≡◌, ℕ, suc, ◌+◌, ◌-◌, ◌*◌, ◌<◌, ◌≤◌, true, false, not, eqb, ltb, leb, List, [], ◌∷◌, ◌++◌, length, replicate, sym, refl, ap, ◌∙◌, subst, arith, length-append, length-set, lt-ltb, eq-eqb, ne_eqb, eqb-true}
use Rattle.std.proofs.lemmas.Bool.{and_parts, and_from, leb-true, ltb-true, or_right}
use Rattle.bank.specs.Book.{Bank}
use Rattle.bank.specs.Calls.{Call, opens, rated, move, take_back, day_ends, balance, statement, sums, taken_so_far, garbled, Limits, turned, turned_by, good_call, changed}
use Rattle.bank.specs.Promise.{asks, allowed}
use Rattle.bank.proofs.Taken.{can_go_back, can_move}
use Rattle.bank.specs.Count.{changes}
use Rattle.model.specs.JournalBlock.{Head, head_row, call_kind, call_numbers, call_widths, call_from, call_row, stored, head_for, head_in, limits_in_lem, same_book, headed, own, journal_block, epoch_in, calls_in}
use Rattle.device.specs.Device.{all_bytes}
use Rattle.device.specs.Book.{every}
use Rattle.device.specs.Rows.{top, bytes_of, row, number_of, numbers, fits_in, fits_row, row_of, thing_in, rows, block_of, rows_in, with_bytes}
use Rattle.device.proofs.Rows.{zeros, block_begun, block_more, row_of_length, row_of_bytes, row_of_back, block_full, block_bytes, block_back}
use Rattle.bank.proofs.Limited.{never, pick_zero, taken_fits, taken_good, taken_by, Fits, fits_parts, allowed_parts}

pub call_fits : (c : Call) → stored c ≡ true → fits_row call_row c ≡ true
call_fits c h = (and_parts (not (asks c)) (fits_row call_row c) h).1

pub call_back : (c : Call) → stored c ≡ true → call_from (call_kind c) (call_numbers c) ≡ c
unfolding call_kind call_numbers call_from asks
call_back (opens m r) h = refl
call_back (rated a r) h = refl
call_back (move v a b x) h = refl
call_back (take_back k) h = refl
call_back day_ends h = refl
call_back (balance a d k) h = never h
call_back (statement a d e) h = never h
call_back sums h = never h
call_back taken_so_far h = never h
call_back (garbled k) h = never h

-- an empty block is of no book
none_headed : (format : ℕ) (l : Limits) → 0 < format → headed format l (replicate 512 0) ≡ false
unfolding headed thing_in numbers
none_headed format l h =
    let z : number_of 2 (replicate 512 0) ≡ 0 = zeros 2 512 in
    let e : eqb 0 format ≡ false = ne_eqb 0 format (λ w. omega arith) in
    rw (z, e)

pub none_epoch : (format : ℕ) (l : Limits) → 0 < format → epoch_in format l (replicate 512 0) ≡ 0
unfolding epoch_in
none_epoch format l h = rw (none_headed format l h)

pub none_calls : (format : ℕ) (l : Limits) → 0 < format → calls_in format l (replicate 512 0) ≡ []
unfolding calls_in
none_calls format l h = rw (none_headed format l h)

pub none_own : (format : ℕ) (l : Limits) → own format l (replicate 512 0) ≡ true
unfolding own thing_in numbers
none_own format l =
    let z : number_of 2 (replicate 512 0) ≡ 0 = zeros 2 512 in
    rw z

-- a block that was written has its limits
pub headed_limits : (format : ℕ) (l : Limits) (bs : List ℕ) → headed format l bs ≡ true → limits_in_lem bs ≡ l
unfolding headed
headed_limits format l bs h =
    let a = and_parts (eqb (head_in bs).format format) _ h in
    let b = and_parts (eqb (head_in bs).accounts l.accounts) _ a.1 in
    let c = and_parts (eqb (head_in bs).rates l.rates) (eqb (head_in bs).bookings l.bookings) b.1 in
    let x = eqb-true (head_in bs).accounts l.accounts b.0 in
    let y = eqb-true (head_in bs).rates l.rates c.0 in
    let z = eqb-true (head_in bs).bookings l.bookings c.1 in
    λ i. record { accounts = x i; rates = y i; bookings = z i }

pub headed_format : (format : ℕ) (l : Limits) (bs : List ℕ) → headed format l bs ≡ true → (head_in bs).format ≡ format
unfolding headed
headed_format format l bs h = eqb-true (head_in bs).format format (and_parts (eqb (head_in bs).format format) _ h).0

same_self : (format : ℕ) (l : Limits) (e n : ℕ) → same_book format l (head_for format l e n) ≡ true
same_self format l e n =
    and_from _ _ (eq-eqb format format refl)
    (and_from _ _ (eq-eqb l.accounts l.accounts refl) (and_from _ _ (eq-eqb l.rates l.rates refl) (eq-eqb l.bookings l.bookings refl)))

-- a block of at most 24 calls
module _ (format : ℕ) (small : format < 65536) (l : Limits) (a : allowed l ≡ true) (e : ℕ) (early : e < 4294967296) (cs : List Call) (few : length cs ≤ 24) where
  abbrev head : Head
  head = head_for format l e (length cs)

  head_fits : fits_row head_row head ≡ true
  unfolding fits_in
  head_fits =
      let q = allowed_parts l a in
      let x = q.accounts in
      let y = q.rates in
      let z = q.bookings in
      and_from _ _ (lt-ltb format 65536 small)
      (and_from _ _ (lt-ltb (length cs) 65536 (omega arith))
      (and_from _ _ (lt-ltb l.accounts 65536 (omega arith))
      (and_from _ _ (lt-ltb e 4294967296 early)
      (and_from _ _ (lt-ltb l.bookings 4294967296 (omega arith)) (and_from _ _ (lt-ltb l.rates 65536 (omega arith)) refl)))))

  head_length : length (row_of head_row head) ≡ 32
  head_length = row_of_length head_row head head_fits

  pub journal_block_head : head_in (journal_block format l e cs) ≡ head
  unfolding journal_block block_of
  journal_block_head = row_of_back head_row head _ head_fits refl

  pub journal_block_headed : headed format l (journal_block format l e cs) ≡ true
  unfolding headed
  journal_block_headed = rw journal_block_head (same_self format l e (length cs))

  pub journal_block_own : own format l (journal_block format l e cs) ≡ true
  unfolding own
  journal_block_own = or_right (eqb (head_in (journal_block format l e cs)).format 0) (headed format l (journal_block format l e cs)) journal_block_headed

  pub journal_block_epoch : epoch_in format l (journal_block format l e cs) ≡ e
  unfolding epoch_in
  journal_block_epoch = rw (journal_block_headed, journal_block_head)

  pub journal_block_back : every stored cs ≡ true → calls_in format l (journal_block format l e cs) ≡ cs
  unfolding calls_in
  journal_block_back g = rw (journal_block_headed, journal_block_head) (back g)
    where
      back : every stored cs ≡ true → rows_in call_row 32 (length cs) (journal_block format l e cs) ≡ cs
      back g = unfold journal_block in block_back call_row stored call_fits call_back 32 24 (omega arith) (row_of head_row head) cs head_length g

  pub journal_block_full : every stored cs ≡ true → length (journal_block format l e cs) ≡ 512
  unfolding journal_block
  journal_block_full g = block_full call_row stored call_fits call_back 32 24 (omega arith) (row_of head_row head) cs head_length few g

  pub journal_block_bytes : all_bytes (journal_block format l e cs) ≡ true
  unfolding journal_block
  journal_block_bytes = block_bytes call_row stored call_fits call_back 32 24 (omega arith) (row_of head_row head) cs (row_of_bytes head_row head)

-- numbers that fit
two_fit : (x y j k : ℕ) → x < top j → y < top k → fits_in (j ∷ (k ∷ [])) (x ∷ (y ∷ [])) ≡ true
unfolding fits_in
two_fit x y j k p q = and_from _ _ (lt-ltb x (top j) p) (and_from _ _ (lt-ltb y (top k) q) refl)

-- a call that is taken has small numbers
small : (l : Limits) (n : Bank) (c : Call) → l.accounts ≤ 4096 → l.bookings ≤ 1000000 → not (asks c) ≡ true → good_call c ≡ true → turned_by n c ≡ 0 → Fits l (changed n c) →
    stored c ≡ true
unfolding call_kind call_numbers call_widths asks good_call turned_by changed fits_in
small l n (opens m r) a b q x y z =
    let s = and_parts (leb m 100000000000) (leb r 2000) x in
    let u : m ≤ 100000000000 = leb-true m 100000000000 s.0 in
    let w : r ≤ 2000 = leb-true r 2000 s.1 in
    two_fit m r 8 2 (omega arith) (omega arith)
small l n (rated k r) a b q x y z =
    let u : r ≤ 2000 = leb-true r 2000 x in
    let w : k < length n.accounts = ltb-true k (length n.accounts) (pick_zero (ltb k (length n.accounts)) 3 y) in
    let f : length n.accounts ≤ l.accounts = rw (length-set n.accounts k _) at z.accounts in
    two_fit k r 2 2 (omega arith) (omega arith)
small l n (move v i j x) a b q s y z =
    let u : x ≤ 100000000000 = leb-true x 100000000000 (and_parts (leb 1 x) (leb x 100000000000) s).1 in
    let can = can_move n v i j x y in
    let f = z.accounts in
    let h = z.days in
    and_from _ _ (lt-ltb v 65536 (omega (arith, can.by_now))) (and_from _ _ (lt-ltb i 65536 (omega (arith, can.payer))) (two_fit j x 2 8 (omega (arith, can.payee)) (omega arith)))
small l n (take_back k) a b q x y z =
    let can = can_go_back n k y in
    let f : length n.bookings ≤ l.bookings = rw (length-set n.bookings k _) at z.bookings in
    and_from _ _ (lt-ltb k 4294967296 (omega (arith, can.there))) refl
small l n day_ends a b q x y z = refl
small l n (balance i d k) a b q x y z = never q
small l n (statement i d e) a b q x y z = never q
small l n sums a b q x y z = never q
small l n taken_so_far a b q x y z = never q
small l n (garbled k) a b q x y z = never q

pub storable : (l : Limits) → allowed l ≡ true → (n : Bank) (c : Call) → changes l n c ≡ true → stored c ≡ true
storable l a n c h =
    let q = and_parts (not (asks c)) (eqb (turned l n c) 0) h in
    let z : turned l n c ≡ 0 = eqb-true (turned l n c) 0 q.1 in
    let m = allowed_parts l a in
    small l n c m.accounts m.bookings q.0 (taken_good l n c z) (taken_by l n c z) (fits_parts l (changed n c) (taken_fits l n c z))

-- AS CODE WRITES A BLOCK: the header into zeros; and for one call more its count, and the row where zeros were
pub journal_block_begun : (format : ℕ) (l : Limits) (e : ℕ) → length (row_of head_row (head_for format l e 0)) ≡ 32 →
    journal_block format l e [] ≡ with_bytes (replicate 512 0) 0 (row_of head_row (head_for format l e 0))
unfolding journal_block
journal_block_begun format l e h = block_begun call_row (row_of head_row (head_for format l e 0)) (omega arith)

-- the header with another count
recount : (format : ℕ) (l : Limits) (e n m : ℕ) (rest : List ℕ) → with_bytes (row_of head_row (head_for format l e n) ++ rest) 2 (bytes_of 2 m) ≡ row_of head_row (head_for format l e m) ++ rest
unfolding row_of row bytes_of
recount format l e n m rest = refl

pub journal_block_more : (format : ℕ) → format < 65536 → (l : Limits) → allowed l ≡ true → (e : ℕ) → e < 4294967296 → (cs : List Call) (c : Call) → length cs < 24 →
    every stored cs ≡ true → stored c ≡ true →
    journal_block format l e (cs ++ (c ∷ [])) ≡ with_bytes (with_bytes (journal_block format l e cs) 2 (bytes_of 2 (suc (length cs)))) (32 + 20 * length cs) (row_of call_row c)
unfolding journal_block block_of
journal_block_more format short l a e early cs c few g h =
    let n : ℕ = length cs in
    let one : length (cs ++ (c ∷ [])) ≡ suc n = simp length-append (omega arith) in
    let few1 : length (cs ++ (c ∷ [])) ≤ 24 = omega arith in
    let head : List ℕ = row_of head_row (head_for format l e (suc n)) in
    let len : length head ≡ 32 = rw one at (head_length format short l a e early (cs ++ (c ∷ [])) few1) in
    let old : length (row_of head_row (head_for format l e n)) ≡ 32 = head_length format short l a e early cs (omega arith) in
    let grown : block_of call_row head (cs ++ (c ∷ [])) ≡ with_bytes (block_of call_row head cs) (32 + 20 * n) (row_of call_row c) =
    subst (λ (k : ℕ). block_of call_row head (cs ++ (c ∷ [])) ≡ with_bytes (block_of call_row head cs) (k + 20 * n) (row_of call_row c)) len
    (block_more call_row stored call_fits call_back head cs c g h (omega arith)) in
    ap (λ (k : ℕ). block_of call_row (row_of head_row (head_for format l e k)) (cs ++ (c ∷ []))) one
    ∙ grown
    ∙ ap (λ (bs : List ℕ). with_bytes bs (32 + 20 * n) (row_of call_row c))
    (ap (λ (k : ℕ). head ++ (rows call_row cs ++ replicate (512 - (k + 20 * n)) 0)) (len ∙ sym old)
    ∙ sym (recount format l e n (suc n) (rows call_row cs ++ replicate (512 - (length (row_of head_row (head_for format l e n)) + 20 * n)) 0)))
