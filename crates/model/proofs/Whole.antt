-- The whole program is the bank.
use Rattle.std.proofs.Common.{◌≡◌, ◌<◌, true, not, eqb, [], ◌∷◌, ◌++◌, refl, ap, ◌∙◌, arith, eqb-true}
use Rattle.std.proofs.lemmas.Bool.{and_parts, not-true}
use Rattle.bank.specs.Calls.{Limits, turned}
use Rattle.bank.specs.Promise.{readable, asks, room, allowed, IsTheCore}
use Rattle.model.specs.Core.{book, IsTheCoreBy, the_core, ThroughEveryLife}
use Rattle.model.specs.First.{not_yet}
use Rattle.bank.specs.Count.{changes}
use Rattle.model.specs.Register.{Register, register_after, new_register, register_book}
use Rattle.model.specs.JournalBlock.{stored}
use Rattle.model.specs.Snapshot.{layout, area_blocks}
use Rattle.model.specs.Whole.{ReachedRegister, whole_program, WholeReading}
use Rattle.device.specs.Book.{Keeps, ran_by}
use Rattle.device.specs.Checkpoint.{LayoutLaws, Changes}
use Rattle.device.proofs.Keeps.{ran_snoc}
use Rattle.device.proofs.Checkpoint.{checkpointed_keeps}
use Rattle.device.proofs.Resident.{resident_since_keeps}
use Rattle.device.proofs.Lives.{through_lives, bounds_from}
use Rattle.bank.proofs.Limited.{allowed_parts}
use Rattle.model.proofs.Bridge.{bank_by, register_keeps}
use Rattle.bank.proofs.Taken.{after_taken}
use Rattle.model.proofs.JournalBlock.{none_epoch, none_calls, none_own, journal_block_own, journal_block_epoch, journal_block_back, journal_block_full, journal_block_bytes, storable}
use Rattle.bank.specs.Count.{most_calls}
use Rattle.bank.proofs.Count.{counted_one, counted_few}
use Rattle.model.proofs.ReachedRegister.{register_idle, reached_facts, reached_sized}
use Rattle.model.proofs.Snapshot.{snapshot_full, snapshot_bytes, snapshot_back}

-- a checkpoint's number has four bytes
few_calls : (l : Limits) → allowed l ≡ true → most_calls l < 4294967296
few_calls l a = let q = allowed_parts l a in omega arith

pub layout_laws : (l : Limits) → allowed l ≡ true → LayoutLaws 24 (area_blocks l) (most_calls l) (layout l) stored (ReachedRegister l)
layout_laws l a =
    let q = few_calls l a in
    record {
      tag_none = none_epoch 2 l (omega arith);
      calls_none = none_calls 2 l (omega arith);
      own_none = none_own 2 l;
      own_encoded = λ e cs h m g. journal_block_own 2 (omega arith) l a e (omega arith) cs m;
      tag_back = λ e cs h m g. journal_block_epoch 2 (omega arith) l a e (omega arith) cs m;
      calls_back = λ e cs h m g. journal_block_back 2 (omega arith) l a e (omega arith) cs m g;
      encode_full = λ e cs h m g. journal_block_full 2 (omega arith) l a e (omega arith) cs m g;
      encode_bytes = λ e cs h m g. journal_block_bytes 2 (omega arith) l a e (omega arith) cs m;
      snapshot_back = λ k g h e. snapshot_back l k g (reached_facts l a k h) (reached_sized l a k h) e;
      snapshot_full = λ k i h m u. snapshot_full l k i (reached_sized l a k h);
      snapshot_bytes = λ k i h m u. snapshot_bytes l k i;
    }

pub changes_facts : (l : Limits) → allowed l ≡ true → Changes (register_book l) readable stored asks (most_calls l) (λ k. changes l k.bank) (λ k. k.bank.done) (ReachedRegister l)
changes_facts l a =
    record {
      begins = ([], unfold ran_by in refl);
      idle = λ k c g h. register_idle l k c h;
      stays = λ k c w g h. (w.0 ++ (c ∷ []), ran_snoc (register_book l) new_register w.0 c ∙ ap (λ (x : Register). register_after l x c) w.1);
      grows = λ k c w g h.
          let q = and_parts (not (asks c)) (eqb (turned l k.bank c) 0) h in
          rw (after_taken l k.bank c (eqb-true (turned l k.bank c) 0 q.1)) (omega (arith, counted_one k.bank c q.0));
      bound = λ k w. counted_few l k.bank (reached_facts l a k w).counts;
      storable = λ k c w g h. storable l a k.bank c h;
      no_question = λ k c g h. not-true (asks c) (and_parts (not (asks c)) (eqb (turned l k.bank c) 0) h).0;
    }

pub whole_keeps : (l : Limits) → allowed l ≡ true → Keeps (book l) (whole_program l) (room l) readable readable asks (WholeReading l)
whole_keeps l a =
    register_keeps l (whole_program l) (room l) readable readable (WholeReading l)
    (resident_since_keeps (register_book l) readable (λ k. changes l k.bank) (layout l) not_yet 24 (omega arith) 42 (area_blocks l) (room l) readable asks (WholeReading l) (λ c q. q)
    (checkpointed_keeps (register_book l) readable stored asks (λ k. changes l k.bank) (λ k. k.bank.done) (ReachedRegister l) (most_calls l) (changes_facts l a) 24 (omega arith) 42 (area_blocks l)
    (omega arith) (omega arith) (layout l) (layout_laws l a) not_yet (room l) (omega arith) readable))

-- THE CORE
pub core_by : IsTheCoreBy whole_program WholeReading
core_by = record { bank = λ l a. bank_by l (whole_program l) (WholeReading l) (whole_keeps l a) }

-- as it was stated, in Type 1
pub core : IsTheCore whole_program
core = the_core whole_program WholeReading core_by

-- and over whole histories
pub lives : (l : Limits) → allowed l ≡ true → ThroughEveryLife l (whole_program l) readable
lives l a =
    record {
      answered = λ d z xs g q. through_lives (book l) (whole_program l) (room l) readable readable asks (WholeReading l) (whole_keeps l a) xs d z g q;
      bounded = λ d z xs g q.
          bounds_from (book l) (whole_program l) (room l) readable readable asks (WholeReading l) (whole_keeps l a) xs d [] ((whole_keeps l a).empty d z) g q q;
    }
