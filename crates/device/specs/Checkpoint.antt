-- A journal with checkpoints: a snapshot of the bank, and at most 1000 calls after it. Blocks 0 to j - 1 are the journal's, each with the number of its checkpoint and up to p calls;
-- one of an earlier checkpoint counts as empty. Two areas of k blocks hold the snapshots, in turn. A checkpoint is made before the 1001st call: the blocks that the snapshot uses are
-- written to the other area and flushed; then block 0 with the new number and the call makes it count. Assumes nothing: these are definitions.
use Rattle.std.specs.Prelude.{◌≡◌, ℕ, zero, suc, ◌+◌, ◌/◌, ◌%◌, ◌<◌, ◌≤◌, Bool, true, false, ◌&&◌, ◌⊎◌, List, [], ◌∷◌, ◌++◌, length, replicate, ◌==◌, nat_le}
use Rattle.device.specs.Device.{pick, Device, all_bytes}
use Rattle.device.specs.Book.{Book, ran_by, every}
use Rattle.device.specs.Plan.{Write, Planned}
use Rattle.device.specs.Journal.{chunk, gather}

-- the bytes of a block of the journal, by the number of the checkpoint and the calls, and back; whether one is empty or of this book; whether a snapshot of a bank uses its block i; that block, and back
pub record Layout (C B : Type 0) : Type 0 where
  pub encode : ℕ → List C → List ℕ
  pub tag : List ℕ → ℕ
  pub calls : List ℕ → List C
  pub own : List ℕ → Bool
  pub uses : B → ℕ → Bool
  pub snapshot : B → ℕ → List ℕ
  pub restore : (ℕ → List ℕ) → B

-- what is asked of a layout: blocks and snapshots read back, and are whole
pub record LayoutLaws {C B : Type 0} (p k cap : ℕ) (f : Layout C B) (stored : C → Bool) (within : B → Type 0) : Type 0 where
  pub tag_none : f.tag (replicate 512 0) ≡ 0
  pub calls_none : f.calls (replicate 512 0) ≡ []
  pub own_none : f.own (replicate 512 0) ≡ true
  pub own_encoded : (e : ℕ) (cs : List C) → e ≤ cap → length cs ≤ p → every stored cs ≡ true → f.own (f.encode e cs) ≡ true
  pub tag_back : (e : ℕ) (cs : List C) → e ≤ cap → length cs ≤ p → every stored cs ≡ true → f.tag (f.encode e cs) ≡ e
  pub calls_back : (e : ℕ) (cs : List C) → e ≤ cap → length cs ≤ p → every stored cs ≡ true → f.calls (f.encode e cs) ≡ cs
  pub encode_full : (e : ℕ) (cs : List C) → e ≤ cap → length cs ≤ p → every stored cs ≡ true → length (f.encode e cs) ≡ 512
  pub encode_bytes : (e : ℕ) (cs : List C) → e ≤ cap → length cs ≤ p → every stored cs ≡ true → all_bytes (f.encode e cs) ≡ true
  pub snapshot_back : (n : B) (g : ℕ → List ℕ) → within n → ((i : ℕ) → i < k → f.uses n i ≡ true → g i ≡ f.snapshot n i) → f.restore g ≡ n
  pub snapshot_full : (n : B) (i : ℕ) → within n → i < k → f.uses n i ≡ true → length (f.snapshot n i) ≡ 512
  pub snapshot_bytes : (n : B) (i : ℕ) → within n → i < k → f.uses n i ≡ true → all_bytes (f.snapshot n i) ≡ true

-- which calls change the book; each of these makes it larger, and it stays within its bounds
pub record Changes {C A : Type 0} (b : Book C A) (ok stored asks : C → Bool) (cap : ℕ) (changes : b.Bank → C → Bool) (size : b.Bank → ℕ) (within : b.Bank → Type 0) : Type 0 where
  pub begins : within b.new
  pub idle : (n : b.Bank) (c : C) → ok c ≡ true → changes n c ≡ false → b.after n c ≡ n
  pub stays : (n : b.Bank) (c : C) → within n → ok c ≡ true → changes n c ≡ true → within (b.after n c)
  pub grows : (n : b.Bank) (c : C) → within n → ok c ≡ true → changes n c ≡ true → suc (size n) ≤ size (b.after n c)
  pub bound : (n : b.Bank) → within n → size n ≤ cap
  pub storable : (n : b.Bank) (c : C) → within n → ok c ≡ true → changes n c ≡ true → stored c ≡ true
  pub no_question : (n : b.Bank) (c : C) → ok c ≡ true → changes n c ≡ true → asks c ≡ false

-- a checkpoint's number, its bank, and the calls since
pub record Since (C B : Type 0) : Type 0 where
  pub epoch : ℕ
  pub base : B
  pub log : List C

-- where block i of the snapshot of a checkpoint stands
abbrev pub area : ℕ → ℕ → ℕ → ℕ → ℕ
area j k e i = j + (pick (e % 2 == 0) 0 k + i)

-- the writes of those of n blocks that are in use, in order
unfoldable pub snapshot_writes : (ℕ → Bool) → (ℕ → List ℕ) → (ℕ → ℕ) → ℕ → List Write
snapshot_writes u g at zero = []
snapshot_writes u g at (suc n) =
    pick (u 0) (record { block = at 0; bytes = g 0 } ∷ snapshot_writes (λ i. u (suc i)) (λ i. g (suc i)) (λ i. at (suc i)) n)
    (snapshot_writes (λ i. u (suc i)) (λ i. g (suc i)) (λ i. at (suc i)) n)

-- the calls of a block, if it is of this checkpoint
abbrev pub calls_of : {C B : Type 0} → Layout C B → ℕ → List ℕ → List C
calls_of f e bs = pick (f.tag bs == e) (f.calls bs) []

module _ {C A : Type 0} (b : Book C A) (ok : C → Bool) (changes : b.Bank → C → Bool) (f : Layout C b.Bank) (else : C → A) (p j k : ℕ) where
  -- the present bank
  abbrev pub bank_of : Since C b.Bank → b.Bank
  bank_of s = ran_by b s.base s.log

  -- is a call to be journalled, and does it want a checkpoint first
  unfoldable pub takes : Since C b.Bank → C → Bool
  takes s c = ok c && changes (bank_of s) c

  -- are there so many calls that a checkpoint comes first
  unfoldable pub full : Since C b.Bank → Bool
  full s = nat_le 1000 (length s.log)

  -- one call more in the journal
  abbrev pub appended : Since C b.Bank → C → Since C b.Bank
  appended s c = record { epoch = s.epoch; base = s.base; log = s.log ++ (c ∷ []) }

  -- a checkpoint of the present bank, and the call after it
  abbrev pub begun : Since C b.Bank → C → Since C b.Bank
  begun s c = record { epoch = suc s.epoch; base = bank_of s; log = c ∷ [] }

  -- the last block again, with the call
  abbrev pub append_batches : Since C b.Bank → C → List (List Write)
  append_batches s c = (record { block = length s.log / p; bytes = f.encode s.epoch (chunk p (length s.log / p) s.log ++ (c ∷ [])) } ∷ []) ∷ []

  -- the snapshot; and then block 0 with the next number and the call
  abbrev pub checkpoint_batches : Since C b.Bank → C → List (List Write)
  checkpoint_batches s c =
      snapshot_writes (f.uses (bank_of s)) (f.snapshot (bank_of s)) (area j k (suc s.epoch)) k ∷ ((record { block = 0; bytes = f.encode (suc s.epoch) (c ∷ []) } ∷ []) ∷ [])

  -- the program, by its checkpoint and the calls since
  abbrev pub checkpointed : Planned C A
  checkpointed =
      record {
        State = Since C b.Bank;
        start = λ d.
            record {
              epoch = f.tag (d 0);
              base = pick (f.tag (d 0) == 0) b.new (f.restore (λ i. d (area j k (f.tag (d 0)) i)));
              log = gather (calls_of f (f.tag (d 0))) d j;
            };
        plan = λ s c.
            record {
              batches = pick (takes s c) (pick (full s) (checkpoint_batches s c) (append_batches s c)) [];
              reply = pick (ok c) (b.answer (bank_of s) c) (else c);
            };
        next = λ s c. pick (takes s c) (pick (full s) (begun s c) (appended s c)) s;
      }

  -- what a checkpoint and the calls since always are
  module _ (stored : C → Bool) (size : b.Bank → ℕ) (within : b.Bank → Type 0) where
    pub record Sound (s : Since C b.Bank) : Type 0 where
      pub oks : every stored s.log ≡ true
      pub short : length s.log ≤ 1000
      pub small : s.epoch ≤ size (bank_of s)
      pub based : within s.base
      pub ends : within (bank_of s)

    -- they stand on a device, and give the bank of ts
    pub record Stands (s : Since C b.Bank) (d : Device) (ts : List C) : Type 0 where
      pub sound : Sound s
      pub oks : every ok ts ≡ true
      pub same : bank_of s ≡ ran_by b b.new ts
      pub tag_is : f.tag (d 0) ≡ s.epoch
      pub mine : (i : ℕ) → i < j → f.own (d i) ≡ true
      pub tags : (i : ℕ) → i < j → f.tag (d i) ≤ s.epoch
      pub log_is : (i : ℕ) → i < j → calls_of f s.epoch (d i) ≡ chunk p i s.log
      pub bytes : (i : ℕ) → i < j → 0 < length (chunk p i s.log) → d i ≡ f.encode s.epoch (chunk p i s.log)
      pub base_is : ((s.epoch ≡ 0) × (s.base ≡ b.new)) ⊎ ((0 < s.epoch) × ((i : ℕ) → i < k → f.uses s.base i ≡ true → d (area j k s.epoch i) ≡ f.snapshot s.base i))

    -- how a device reads
    abbrev pub ReadsSince : Device → List C → Type 0
    ReadsSince d ts = (s : Since C b.Bank) × Stands s d ts
