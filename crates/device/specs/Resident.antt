-- The journal's program by what code holds in memory: the bank, how many calls are in the journal, and those in its last block. Assumes nothing: these are definitions.
use Rattle.std.specs.Prelude.{ℕ, zero, suc, ◌+◌, ◌/◌, Bool, ◌&&◌, List, [], ◌∷◌, ◌++◌, length, ◌==◌, nat_le}
use Rattle.device.specs.Device.{pick}
use Rattle.device.specs.Book.{Book, ran_by}
use Rattle.device.specs.Plan.{Planned}
use Rattle.device.specs.Journal.{Format, chunk, gather}
use Rattle.device.specs.Checkpoint.{Layout, Since, area, snapshot_writes, checkpointed}

-- what is in memory without checkpoints
pub record Memory (C B : Type 0) : Type 0 where
  pub bank : B
  pub count : ℕ
  pub tail : List C

module _ {C A : Type 0} (b : Book C A) (ok : C → Bool) (changes : b.Bank → C → Bool) (f : Format C) (else : C → A) (p r : ℕ) where
  -- the memory after the calls of a journal
  abbrev pub loaded : List C → Memory C b.Bank
  loaded s = record { bank = ran_by b b.new s; count = length s; tail = chunk p (length s / p) s }

  -- one call more: a block that it fills is left behind
  abbrev pub noted_in : Memory C b.Bank → C → Memory C b.Bank
  noted_in m c =
      record {
        bank = b.after m.bank c;
        count = suc m.count;
        tail = pick (suc (length m.tail) == p) [] (m.tail ++ (c ∷ []));
      }

  -- the program by its memory
  abbrev pub resident : Planned C A
  resident =
      record {
        State = Memory C b.Bank;
        start = λ d. loaded (gather f.decode d r);
        plan = λ m c.
            record {
              batches = pick (ok c && changes m.bank c) ((record { block = m.count / p; bytes = f.encode (m.tail ++ (c ∷ [])) } ∷ []) ∷ []) [];
              reply = pick (ok c) (b.answer m.bank c) (else c);
            };
        next = λ m c. pick (ok c && changes m.bank c) (noted_in m c) m;
      }

-- so for the journal with checkpoints: the number of the checkpoint too, and no bank but the present one
pub record MemorySince (C B : Type 0) : Type 0 where
  pub bank : B
  pub epoch : ℕ
  pub count : ℕ
  pub tail : List C

module _ {C A : Type 0} (b : Book C A) (ok : C → Bool) (changes : b.Bank → C → Bool) (f : Layout C b.Bank) (else : C → A) (p j k : ℕ) where
  -- the memory for a checkpoint and the calls since
  abbrev pub loaded_since : Since C b.Bank → MemorySince C b.Bank
  loaded_since s = record { bank = ran_by b s.base s.log; epoch = s.epoch; count = length s.log; tail = chunk p (length s.log / p) s.log }

  -- one call more
  abbrev pub appended_in : MemorySince C b.Bank → C → MemorySince C b.Bank
  appended_in m c =
      record {
        bank = b.after m.bank c;
        epoch = m.epoch;
        count = suc m.count;
        tail = pick (suc (length m.tail) == p) [] (m.tail ++ (c ∷ []));
      }

  -- the journal is begun anew with this call
  abbrev pub begun_in : MemorySince C b.Bank → C → MemorySince C b.Bank
  begun_in m c = record { bank = b.after m.bank c; epoch = suc m.epoch; count = 1; tail = pick (1 == p) [] (c ∷ []) }

  -- the program by its memory
  abbrev pub resident_since : Planned C A
  resident_since =
      record {
        State = MemorySince C b.Bank;
        start = λ d. loaded_since ((checkpointed b ok changes f else p j k).start d);
        plan = λ m c.
            record {
              batches =
                  pick (ok c && changes m.bank c)
                  (pick (nat_le 1000 m.count)
                  (snapshot_writes (f.uses m.bank) (f.snapshot m.bank) (area j k (suc m.epoch)) k ∷ ((record { block = 0; bytes = f.encode (suc m.epoch) (c ∷ []) } ∷ []) ∷ []))
                  ((record { block = m.count / p; bytes = f.encode m.epoch (m.tail ++ (c ∷ [])) } ∷ []) ∷ []))
                  [];
              reply = pick (ok c) (b.answer m.bank c) (else c);
            };
        next = λ m c. pick (ok c && changes m.bank c) (pick (nat_le 1000 m.count) (begun_in m c) (appended_in m c)) m;
      }

-- a start, block by block: the bank after the calls of k blocks
unfoldable pub replayed : {C A : Type 0} → (b : Book C A) → b.Bank → (ℕ → List C) → ℕ → b.Bank
replayed b n g zero = n
replayed b n g (suc k) = ran_by b (replayed b n g k) (g k)

-- how many calls k blocks have
unfoldable pub how_many : {C : Type 0} → (ℕ → List C) → ℕ → ℕ
how_many g zero = 0
how_many g (suc k) = how_many g k + length (g k)
