-- A journal without checkpoints: the calls that changed the book, p to a block, in order. The last block is written again for each. Assumes nothing: these are definitions.
use Rattle.std.specs.Prelude.{◌≡◌, ℕ, zero, suc, ◌+◌, ◌*◌, ◌/◌, ◌<◌, ◌≤◌, Bool, true, false, ◌&&◌, List, [], ◌∷◌, ◌++◌, length, take, drop, replicate}
use Rattle.device.specs.Device.{pick, Device, all_bytes}
use Rattle.device.specs.Book.{Book, ran_by, every}
use Rattle.device.specs.Plan.{Planned}

-- the bytes of a block for some calls, and back; and whether a block is empty or of this book
pub record Format (C : Type 0) : Type 0 where
  pub encode : List C → List ℕ
  pub decode : List ℕ → List C
  pub own : List ℕ → Bool

-- up to p calls that are to be stored go into a block and come back; zeros are none
pub record ReadsBack {C : Type 0} (p : ℕ) (f : Format C) (stored : C → Bool) : Type 0 where
  pub none : f.decode (replicate 512 0) ≡ []
  pub own_none : f.own (replicate 512 0) ≡ true
  pub own_encoded : (cs : List C) → length cs ≤ p → every stored cs ≡ true → f.own (f.encode cs) ≡ true
  pub back : (cs : List C) → length cs ≤ p → every stored cs ≡ true → f.decode (f.encode cs) ≡ cs
  pub full : (cs : List C) → length cs ≤ p → every stored cs ≡ true → length (f.encode cs) ≡ 512
  pub bytes : (cs : List C) → length cs ≤ p → every stored cs ≡ true → all_bytes (f.encode cs) ≡ true

-- which calls change the book, and that each of these uses up room, of which r blocks of p calls have enough
pub record Grows {C A : Type 0} (b : Book C A) (ok stored asks : C → Bool) (p r : ℕ) (changes : b.Bank → C → Bool) (size : b.Bank → ℕ) : Type 0 where
  pub idle : (n : b.Bank) (c : C) → ok c ≡ true → changes n c ≡ false → b.after n c ≡ n
  pub grows : (n : b.Bank) (c : C) → ok c ≡ true → changes n c ≡ true → suc (size n) ≤ size (b.after n c)
  pub bound : (n : b.Bank) (c : C) → ok c ≡ true → changes n c ≡ true → suc (size n) ≤ size b.new + r * p
  pub storable : (n : b.Bank) (c : C) → ok c ≡ true → changes n c ≡ true → stored c ≡ true
  pub no_question : (n : b.Bank) (c : C) → ok c ≡ true → changes n c ≡ true → asks c ≡ false

-- the calls in block k
abbrev pub chunk : {C : Type 0} → ℕ → ℕ → List C → List C
chunk p k s = take p (drop (k * p) s)

-- what k lists are together
unfoldable pub gather_each : {C : Type 0} → (ℕ → List C) → ℕ → List C
gather_each g zero = []
gather_each g (suc k) = gather_each g k ++ g k

-- what k blocks hold
abbrev pub gather : {C : Type 0} → (List ℕ → List C) → Device → ℕ → List C
gather decode d k = gather_each (λ i. decode (d i)) k

module _ {C A : Type 0} (b : Book C A) (ok : C → Bool) (changes : b.Bank → C → Bool) where
  -- is a call to be journalled after these
  unfoldable pub takes : List C → C → Bool
  takes s c = ok c && changes (ran_by b b.new s) c

  -- the journal after one call
  unfoldable pub noted : List C → C → List C
  noted s c = pick (takes s c) (s ++ (c ∷ [])) s

  -- the journal after some calls
  unfoldable pub logged : List C → List C → List C
  logged s [] = s
  logged s (c ∷ cs) = logged (noted s c) cs

  module _ (f : Format C) (else : C → A) (p r : ℕ) where
    -- the program, by its journal; a call that is not ok gets another answer
    abbrev pub journal : Planned C A
    journal =
        record {
          State = List C;
          start = λ d. gather f.decode d r;
          plan = λ s c.
              record {
                batches = pick (takes s c) ((record { block = length s / p; bytes = f.encode (chunk p (length s / p) s ++ (c ∷ [])) } ∷ []) ∷ []) [];
                reply = pick (ok c) (b.answer (ran_by b b.new s) c) (else c);
              };
          next = noted;
        }

    -- block k holds its calls of a journal: it reads as them, is empty or of this book, and where there are calls it has just the bytes that were written
    pub record HoldsBlock (d : Device) (s : List C) (k : ℕ) : Type 0 where
      pub reads : f.decode (d k) ≡ chunk p k s
      pub mine : f.own (d k) ≡ true
      pub bytes : 0 < length (chunk p k s) → d k ≡ f.encode (chunk p k s)

    -- the device holds the journal of ts
    unfoldable pub HoldsJournal : Device → List C → Type 0
    HoldsJournal d ts = (every ok ts ≡ true) × ((k : ℕ) → k < r → HoldsBlock d (logged [] ts) k)
