-- How the journal is read again, block by block. Assumes nothing: these are definitions.
use Rattle.std.specs.Prelude.{◌≡◌, ℕ, ◌+◌, ◌*◌, ◌/◌, ◌<◌, ◌≤◌, Bool, true, not, ◌&&◌, ◌||◌, ◌⊎◌, List, [], ◌∷◌, ◌++◌, length, Some, None, Option, ◌==◌, ◌≢◌, nat_le, nat_lt}
use Rattle.device.specs.Device.{pick, Device}
use Rattle.device.specs.Rows.{rows_in}
use Rattle.device.specs.Journal.{chunk, gather, takes, logged}
use Rattle.device.specs.Resident.{Memory, loaded, how_many}
use Rattle.bank.specs.Calls.{Call, Limits}
use Rattle.bank.specs.Promise.{room}
use Rattle.model.specs.Core.{book}
use Rattle.model.specs.First.{first_call, not_yet, journal_format, first_program, FirstReading}
use Rattle.bank.specs.Count.{changes}
use Rattle.model.specs.JournalBlock.{call_row, head_in, limits_in_lem, headed, own, calls_in}
use Rattle.columns.specs.Sizes.{limits_of}
use Rattle.columns.specs.declared.limits.Limits.{Limits as Given}
use Rattle.wire.specs.JournalRow.{kind_at}
use Rattle.journal.specs.declared.journal.Journal.{Journal}
use Rattle.journal.specs.declared.header.Label.{Label}
use Rattle.journal.specs.Blocks.{tail_in}
use Rattle.journal.specs.Tail.{bounds}

-- how many rows a block has of the journal's epoch: a block of an earlier one counts as empty
abbrev pub rows_of : ℕ → Limits → ℕ → List ℕ → ℕ
rows_of format l epoch bs = pick (headed format l bs && (head_in bs).epoch == epoch) (head_in bs).rows 0

-- does it have rows of a later epoch
abbrev pub later : ℕ → Limits → ℕ → List ℕ → Bool
later format l epoch bs = headed format l bs && (nat_lt 0 (head_in bs).rows && nat_lt epoch (head_in bs).epoch)

-- can these bytes be block k of a journal that has so many calls in the blocks before: a whole block, empty or of this book, with no rows of a later epoch, with at most 24,
-- and with none where a block before it is not full
abbrev pub accepts : ℕ → Limits → ℕ → ℕ → ℕ → List ℕ → Bool
accepts format l epoch k count bs =
    (length bs == 512)
    && (own format l bs
    && (not (later format l epoch bs) && (nat_le (rows_of format l epoch bs) 24 && (rows_of format l epoch bs == 0 || count == 24 * k))))

-- so for the block that a journal reads next
abbrev pub accepts_next : Journal → List ℕ → Bool
accepts_next j bs = nat_lt j.read j.blocks && accepts j.label.format (bounds j) j.label.epoch j.read j.count bs

-- how many rows it then has
abbrev pub next_rows : Journal → List ℕ → ℕ
next_rows j bs = rows_of j.label.format (bounds j) j.label.epoch bs

-- a block that was accepted: it is whole, has no more rows than fit, and if it has some, these join those before
pub record Fit (j : Journal) (bs : List ℕ) (n : ℕ) : Type 0 where
  pub whole : length bs ≡ 512
  pub few : n ≤ 24
  pub there : j.read < j.blocks
  pub joins : 0 < n → j.count ≡ 24 * j.read

-- so of what is told of a block
abbrev pub Fits : Journal → List ℕ → Option ℕ → Type 0
Fits j bs (Some n) = Fit j bs n
Fits j bs None = Unit {0}

-- a block was taken: its rows are told, and it counts as read; or it was refused, and nothing changed
pub record Took (j k : Journal) (bs : List ℕ) (r : Option ℕ) : Type 0 where
  pub found : r ≡ pick (accepts_next j bs) (Some (next_rows j bs)) None
  pub fit : Fits j bs r
  pub block : k.block ≡ j.block
  pub label : k.label ≡ j.label
  pub blocks : k.blocks ≡ j.blocks
  pub read : k.read ≡ j.read + pick (accepts_next j bs) 1 0
  pub count : k.count ≡ j.count

-- the limits that a block of some format says
abbrev pub Says : List ℕ → ℕ → Option Given → Type 0
Says bs format (Some x) = (length bs ≡ 512) × ((head_in bs).format ≡ format) × (limits_of x ≡ limits_in_lem bs)
Says bs format None = (length bs ≢ 512) ⊎ ((head_in bs).format ≢ format)

-- calls of which each is taken after those before it, from a journal s on
unfoldable pub TakenAfter : Limits → List Call → List Call → Type 0
TakenAfter l s [] = Unit {0}
TakenAfter l s (c ∷ cs) = (takes (book l) first_call (changes l) s c ≡ true) × TakenAfter l (s ++ (c ∷ [])) cs

-- the calls of a device's journal in the first stage
abbrev pub journal_in : Limits → Device → List Call
journal_in l d = gather (calls_in 1 l) d (room l)

-- RECOVERY OF THE FIRST STAGE, on a device of whole blocks that reads as ts: no block is refused, the rows of each are its calls, and none is of an unknown kind; the calls of
-- all are those of ts that changed the book, and each is taken again
pub record FirstAccepted (l : Limits) (d : Device) (ts : List Call) : Type 0 where
  pub accepted : (k : ℕ) → k < room l → length (d k) ≡ 512 → accepts 1 l 0 k (how_many (λ i. calls_in 1 l (d i)) k) (d k) ≡ true
  pub rows : (k : ℕ) → k < room l → rows_of 1 l 0 (d k) ≡ length (calls_in 1 l (d k))
  pub calls : (k : ℕ) → k < room l → rows_in call_row 32 (rows_of 1 l 0 (d k)) (d k) ≡ calls_in 1 l (d k)
  pub kinds : (k i : ℕ) → k < room l → i < rows_of 1 l 0 (d k) → (1 ≤ kind_at (d k) (32 + 20 * i)) × (kind_at (d k) (32 + 20 * i) ≤ 5)
  pub journal : journal_in l d ≡ logged (book l) first_call (changes l) [] ts
  pub again : TakenAfter l [] (journal_in l d)

-- for every device that reads as calls
abbrev pub FirstRecovered : Limits → Type 0
FirstRecovered l = (d : Device) (ts : List Call) → FirstReading l d ts → FirstAccepted l d ts

-- a count, and the bytes of a block under a label, that stand at the end of a device's calls have what the program is started with; so for every label, count and bytes, of which a journal
-- has some
abbrev pub FirstStarts : Limits → Type 0
FirstStarts l =
    (d : Device) (t : Label) (count : ℕ) (bytes : List ℕ) →
    count ≡ length (journal_in l d) →
    tail_in t count bytes ≡ chunk 24 (length (journal_in l d) / 24) (journal_in l d) →
    (count ≡ ((first_program l).start d).count) × (tail_in t count bytes ≡ ((first_program l).start d).tail)

-- THE JOURNAL NEVER FILLS in the first stage: after any calls, one more that is taken finds room
abbrev pub FirstHasRoom : Limits → Type 0
FirstHasRoom l =
    (ts : List Call) (c : Call) →
    let m : Memory Call (book l).Bank = loaded (book l) first_call (changes l) (journal_format l) not_yet 24 (room l) (logged (book l) first_call (changes l) [] ts) in
    (first_call c && changes l m.bank c) ≡ true → m.count < 24 * room l
