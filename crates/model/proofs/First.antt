-- The first stage's program is the bank, for any codec of blocks.
use Rattle.std.proofs.Common.{◌≡◌, suc, ◌+◌, ◌≤◌, Bool, true, false, not, List, [], refl, arith, length-append, eqb-true}
use Rattle.std.proofs.lemmas.Bool.{and_parts}
use Rattle.bank.specs.Book.{Bank}
use Rattle.bank.specs.Calls.{Call, opens, rated, move, take_back, day_ends, balance, statement, sums, taken_so_far, garbled, Limits, after, turned, changed, fits}
use Rattle.bank.specs.Promise.{readable, asks, plain, room, allowed, IsTheFirstCore}
use Rattle.model.specs.Core.{book, IsTheFirstCoreBy, the_first_core, ThroughEveryLife}
use Rattle.model.specs.First.{first_call, size, not_yet, journal_format, first_program, FirstReading}
use Rattle.bank.specs.Count.{changes}
use Rattle.device.specs.Book.{Keeps}
use Rattle.device.specs.Journal.{Grows, ReadsBack}
use Rattle.device.specs.Lives.{Life, every_life}
use Rattle.device.proofs.Lives.{through_lives, bounds_from, lives_weaker}
use Rattle.model.specs.JournalBlock.{stored}
use Rattle.bank.proofs.Limited.{never, taken_fits, fits_parts}
use Rattle.bank.proofs.Taken.{after_taken}
use Rattle.bank.proofs.Count.{unasked}
use Rattle.model.proofs.JournalBlock.{none_calls, none_own, journal_block_own, journal_block_back, journal_block_full, journal_block_bytes, storable}
use Rattle.device.proofs.Journal.{journal_keeps}
use Rattle.device.proofs.Resident.{resident_keeps}
use Rattle.model.proofs.Bridge.{first_by}

-- a call of the first stage that is no question opens an account or moves money
one_more : (n : Bank) (c : Call) → plain c ≡ true → not (asks c) ≡ true → size (changed n c) ≡ suc (size n)
unfolding asks plain changed
one_more n (opens m r) h g = simp length-append (omega arith)
one_more n (rated a r) h g = never h
one_more n (move v a b x) h g = simp length-append (omega arith)
one_more n (take_back k) h g = never h
one_more n day_ends h g = never h
one_more n (balance a d k) h g = never g
one_more n (statement a d e) h g = never g
one_more n sums h g = never g
one_more n taken_so_far h g = never g
one_more n (garbled k) h g = never g

module _ (l : Limits) where
  held : (n : Bank) → fits l n ≡ true → size n ≤ l.accounts + l.bookings
  held n h = let q = fits_parts l n h in omega arith

  -- a call that changes the book adds one to its size, and stays within the limits
  pub more : (n : Bank) (c : Call) → plain c ≡ true → changes l n c ≡ true → (size (after l n c) ≡ suc (size n)) × (size (after l n c) ≤ l.accounts + l.bookings)
  more n c p h =
      let a : not (asks c) ≡ true = (and_parts _ _ h).0 in
      let t : turned l n c ≡ 0 = eqb-true (turned l n c) 0 (and_parts _ _ h).1 in
      rw (after_taken l n c t) (one_more n c p a, held (changed n c) (taken_fits l n c t))

  no_question : (x : Bool) → not x ≡ true → x ≡ false
  no_question true h = never h
  no_question false h = refl

  pub first_grows : allowed l ≡ true → Grows (book l) first_call stored asks 24 (room l) (changes l) size
  first_grows a =
      record {
        idle = λ n c g h. unasked l n c h;
        grows = λ n c g h. let m : (size (after l n c) ≡ suc (size n)) × (size (after l n c) ≤ l.accounts + l.bookings) = more n c (and_parts (readable c) (plain c) g).1 h in omega arith;
        bound = λ n c g h. let m : (size (after l n c) ≡ suc (size n)) × (size (after l n c) ≤ l.accounts + l.bookings) = more n c (and_parts (readable c) (plain c) g).1 h in omega arith;
        storable = λ n c g h. storable l a n c h;
        no_question = λ n c g h. no_question (asks c) (and_parts _ _ h).0;
      }

-- the first stage's blocks read back
pub journal_reads_back : (l : Limits) → allowed l ≡ true → ReadsBack 24 (journal_format l) stored
journal_reads_back l a =
    record {
      none = none_calls 1 l (omega arith);
      own_none = none_own 1 l;
      own_encoded = λ cs m h. journal_block_own 1 (omega arith) l a 0 (omega arith) cs m;
      back = λ cs m h. journal_block_back 1 (omega arith) l a 0 (omega arith) cs m h;
      full = λ cs m h. journal_block_full 1 (omega arith) l a 0 (omega arith) cs m h;
      bytes = λ cs m h. journal_block_bytes 1 (omega arith) l a 0 (omega arith) cs m;
    }

pub first_keeps : (l : Limits) → allowed l ≡ true → Keeps (book l) (first_program l) (room l) readable first_call asks (FirstReading l)
first_keeps l a =
    resident_keeps (book l) first_call (changes l) (journal_format l) not_yet 24 (omega arith) (room l) (room l) readable asks (FirstReading l) (λ c q. (and_parts (readable c) (plain c) q).0)
    (journal_keeps (book l) first_call stored asks 24 (omega arith) (room l) (changes l) size (first_grows l a) (journal_format l) (journal_reads_back l a) not_yet readable)

-- THE FIRST STAGE
pub first_core_by : IsTheFirstCoreBy first_program FirstReading
first_core_by = record { first = λ l h. first_by l (first_program l) (FirstReading l) (first_keeps l h) }

-- as it was stated, in Type 1
pub first_core : IsTheFirstCore first_program
first_core = the_first_core first_program FirstReading first_core_by

-- and over whole histories
pub first_lives : (l : Limits) → allowed l ≡ true → ThroughEveryLife l (first_program l) first_call
first_lives l h =
    record {
      answered = λ d z xs g k. through_lives (book l) (first_program l) (room l) readable first_call asks (FirstReading l) (first_keeps l h) xs d z g k;
      bounded = λ d z xs g k.
          bounds_from (book l) (first_program l) (room l) readable first_call asks (FirstReading l) (first_keeps l h) xs d [] ((first_keeps l h).empty d z) g
          (weaker xs k) k;
    }
  where
    weaker : (xs : List (Life Call)) → every_life first_call xs ≡ true → every_life readable xs ≡ true
    weaker xs k = lives_weaker first_call readable (λ c q. (and_parts (readable c) (plain c) q).0) xs k
