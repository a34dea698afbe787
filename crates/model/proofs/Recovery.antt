-- A start, block by block.
use Rattle.std.proofs.Common.{◌≡◌, ℕ, ◌/◌, ◌<◌, ◌≤◌, true, List, [], length, sym, ap, ◌∙◌, subst, arith}
use Rattle.bank.specs.Calls.{Call, Limits, new_bank}
use Rattle.bank.specs.Device.{Device}
use Rattle.bank.specs.Promise.{readable, asks, room, allowed}
use Rattle.model.specs.Core.{book}
use Rattle.model.specs.First.{first_call, size, not_yet, journal_format, FirstReading}
use Rattle.bank.specs.Count.{changes}
use Rattle.model.specs.Register.{Register, register_book}
use Rattle.model.specs.JournalBlock.{stored, journal_block, calls_in}
use Rattle.model.specs.Snapshot.{layout, area_blocks}
use Rattle.model.specs.Whole.{ReachedRegister}
use Rattle.model.specs.Opening.{base_in}
use Rattle.model.specs.Recovery.{calls_at, Recovers, FirstRecovers}
use Rattle.device.specs.Journal.{chunk, gather_each, logged, HoldsJournal}
use Rattle.device.specs.Checkpoint.{Since, calls_of, checkpointed}
use Rattle.device.proofs.Resident.{replayed_is, how_many_is}
use Rattle.device.proofs.Checkpoint.{found}
use Rattle.device.proofs.Journal.{found as found-journal}
use Rattle.model.proofs.First.{first_grows, journal_reads_back}
use Rattle.bank.specs.Count.{most_calls}
use Rattle.model.proofs.Whole.{layout_laws, changes_facts}
use Rattle.model.proofs.Opening.{On}

module _ (l : Limits) (a : allowed l ≡ true) where
  abbrev boot : Device → Since Call Register
  boot d = (checkpointed (register_book l) readable (λ k. changes l k.bank) (layout l) not_yet 24 42 (area_blocks l)).start d

  boot_is : (s : Since Call Register) (d : Device) (ts : List Call) → On l s d ts → boot d ≡ s
  boot_is s d ts h =
      found (register_book l) readable stored asks (λ k. changes l k.bank) (λ k. k.bank.done) (ReachedRegister l) (most_calls l) (changes_facts l a) 24 (omega arith) 42 (area_blocks l)
      (omega arith) (omega arith) (layout l) (layout_laws l a) not_yet s d ts h

  tail_is : (s : Since Call Register) (d : Device) (ts : List Call) → On l s d ts → boot d ≡ s → chunk 24 (length (boot d).log / 24) (boot d).log ≡ calls_at l d (length (boot d).log / 24)
  tail_is s d ts h e =
      let n : length (boot d).log ≤ 1000 = subst (λ (x : Since Call Register). length x.log ≤ 1000) (sym e) h.sound.short in
      ap (λ (x : Since Call Register). chunk 24 (length (boot d).log / 24) x.log) e ∙ sym (h.log_is (length (boot d).log / 24) (omega arith))
      ∙ ap (λ (t : ℕ). calls_of (layout l) t (d (length (boot d).log / 24))) (sym h.tag_is)

  block_is : (s : Since Call Register) (d : Device) (ts : List Call) → On l s d ts → boot d ≡ s → 0 < length (chunk 24 (length (boot d).log / 24) (boot d).log) →
      d (length (boot d).log / 24) ≡ journal_block 2 l (boot d).epoch (chunk 24 (length (boot d).log / 24) (boot d).log)
  block_is s d ts h e =
      subst (λ (x : Since Call Register). 0 < length (chunk 24 (length x.log / 24) x.log) → d (length x.log / 24) ≡ journal_block 2 l x.epoch (chunk 24 (length x.log / 24) x.log))
      (sym e) (h.bytes (length s.log / 24) (let n = h.sound.short in omega arith))

  block_first : (d : Device) (ts : List Call) → FirstReading l d ts → length (gather_each (λ i. calls_in 1 l (d i)) (room l)) / 24 < room l →
      0 < length (chunk 24 (length (gather_each (λ i. calls_in 1 l (d i)) (room l)) / 24) (gather_each (λ i. calls_in 1 l (d i)) (room l))) →
      d (length (gather_each (λ i. calls_in 1 l (d i)) (room l)) / 24)
      ≡ journal_block 1 l 0 (chunk 24 (length (gather_each (λ i. calls_in 1 l (d i)) (room l)) / 24) (gather_each (λ i. calls_in 1 l (d i)) (room l)))
  unfolding HoldsJournal
  block_first d ts h =
      subst (λ (s : List Call). length s / 24 < room l → 0 < length (chunk 24 (length s / 24) s) → d (length s / 24) ≡ journal_block 1 l 0 (chunk 24 (length s / 24) s))
      (sym (found-journal (book l) first_call stored asks 24 (omega arith) (room l) (changes l) size (first_grows l a) (journal_format l) (journal_reads_back l a) not_yet d ts h))
      (λ m. (h.1 (length (logged (book l) first_call (changes l) [] ts) / 24) m).bytes)

  pub recovers : Recovers l
  recovers =
      record {
        bank = λ d. replayed_is (register_book l) (base_in l d) (calls_at l d) 42;
        count = λ d. how_many_is (calls_at l d) 42;
        block = λ d ts h g. block_is h.0 d ts h.1 (boot_is h.0 d ts h.1) g;
        tail = λ d ts h. tail_is h.0 d ts h.1 (boot_is h.0 d ts h.1);
      }

  pub first_recovers : FirstRecovers l
  unfolding HoldsJournal
  first_recovers =
      record {
        bank = λ d. replayed_is (book l) new_bank (λ i. calls_in 1 l (d i)) (room l);
        count = λ d. how_many_is (λ i. calls_in 1 l (d i)) (room l);
        tail = λ d ts h m.
            ap (λ (s : List Call). chunk 24 (length (gather_each (λ i. calls_in 1 l (d i)) (room l)) / 24) s)
            (found-journal (book l) first_call stored asks 24 (omega arith) (room l) (changes l) size (first_grows l a) (journal_format l) (journal_reads_back l a) not_yet d ts h)
            ∙ sym (h.1 (length (gather_each (λ i. calls_in 1 l (d i)) (room l)) / 24) m).reads;
        block = λ d ts h m q. block_first d ts h m q;
      }
