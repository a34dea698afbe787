-- What opening can rely on: which limits a device has, and what it can ask of a device before it works on it. Assumes nothing: these are definitions.
use Rattle.std.specs.Prelude.{◌≡◌, ℕ, suc, ◌+◌, ◌<◌, ◌≤◌, Bool, true, ◌&&◌, leb, List, [], ◌∷◌, length, replicate, ◌==◌, nat_le, nat_lt}
use Rattle.bank.specs.Book.{Booking}
use Rattle.bank.specs.Calls.{Call, Limits, fits, ran, new_bank}
use Rattle.bank.specs.Device.{Device}
use Rattle.bank.specs.Promise.{readable, room}
use Rattle.model.specs.First.{first_call, first_program, FirstReading}
use Rattle.model.specs.Register.{Dated, Register, new_register}
use Rattle.model.specs.JournalBlock.{head_in, limits_in_lem, headed, own, epoch_in}
use Rattle.model.specs.Snapshot.{counts_row, counts_of, limits_of, area_blocks, restore}
use Rattle.model.specs.Whole.{whole_program, WholeReading}
use Rattle.device.specs.Device.{pick}
use Rattle.device.specs.Book.{every}
use Rattle.device.specs.Rows.{thing_in}
use Rattle.device.specs.Checkpoint.{area}
use Rattle.device.specs.Lives.{Life, every_life, Happens, left_at}

-- what block 0 of a device that reads as ts says: it is written once a call was taken, and a written one has the format and the limits. So under other limits, or another
-- format, a written device reads as nothing at all
pub record Told (format : ℕ) (l : Limits) (ts : List Call) (b : List ℕ) : Type 0 where
  pub written : 0 < (ran l new_bank ts).done → 0 < (head_in b).format
  pub format_is : 0 < (head_in b).format → (head_in b).format ≡ format
  pub limits_are : 0 < (head_in b).format → limits_in_lem b ≡ l

-- so of the first stage
abbrev pub FirstLimitsTold : Limits → Type 0
FirstLimitsTold l = (d : Device) (ts : List Call) → FirstReading l d ts → Told 1 l ts (d 0)

-- so of the whole program
abbrev pub LimitsTold : Limits → Type 0
LimitsTold l = (d : Device) (ts : List Call) → WholeReading l d ts → Told 2 l ts (d 0)

-- test of a rate, on day t of a book with m accounts
abbrev pub rate_sane : ℕ → ℕ → Dated → Bool
rate_sane t m x = nat_lt x.account m && (nat_le x.since t && nat_le x.rate 2000)

-- and of a booking
abbrev pub booking_sane : ℕ → ℕ → Booking → Bool
booking_sane t m b =
    (nat_le b.on t && (nat_le b.value b.on && nat_le b.on (b.value + 60)))
    && ((nat_lt b.from m && nat_lt b.to m) && (nat_lt b.amount 1000000000000 && (nat_le b.kind 1 && nat_le b.back (suc t))))

-- none was booked before the one in front of it
unfoldable pub in_order_from : ℕ → List Booking → Bool
in_order_from t [] = true
in_order_from t (b ∷ bs) = nat_le t b.on && in_order_from b.on bs

-- tests of a snapshot that was read
abbrev pub sane : Limits → Register → Bool
sane l k =
    (fits l k.bank && nat_le 2 (length k.bank.accounts))
    && ((every (λ m. leb m 100000000000) (limits_of k.bank.accounts) && every (rate_sane k.bank.today (length k.bank.accounts)) k.rates)
    && (every (booking_sane k.bank.today (length k.bank.accounts)) k.bank.bookings && in_order_from 0 k.bank.bookings))

-- the snapshot of the device's checkpoint, block by block
abbrev pub snapshot_in : Limits → Device → ℕ → List ℕ
snapshot_in l d i = d (area 42 (area_blocks l) (epoch_in 2 l (d 0)) i)

-- the bank of the device's checkpoint
abbrev pub base_in : Limits → Device → Register
base_in l d = pick (epoch_in 2 l (d 0) == 0) new_register (restore l (snapshot_in l d))

-- what a device that reads as calls always passes: every block of its journal is empty or of this book, none of its checkpoint says more rows than it has, the counts are
-- those of the snapshot, and the snapshot is sane
pub record Passes (l : Limits) (d : Device) : Type 0 where
  pub mine : (i : ℕ) → i < 42 → own 2 l (d i) ≡ true
  pub rows : (i : ℕ) → i < 42 → headed 2 l (d i) ≡ true → epoch_in 2 l (d i) ≡ epoch_in 2 l (d 0) → (head_in (d i)).rows ≤ 24
  pub counts : 0 < epoch_in 2 l (d 0) → thing_in counts_row (snapshot_in l d 0) ≡ counts_of (base_in l d)
  pub snapshot_sane : sane l (base_in l d) ≡ true

-- so for the first stage
pub record FirstPasses (l : Limits) (d : Device) : Type 0 where
  pub mine : (i : ℕ) → i < room l → own 1 l (d i) ≡ true
  pub rows : (i : ℕ) → i < room l → headed 1 l (d i) ≡ true → (head_in (d i)).rows ≤ 24

-- every device that reads as calls passes
abbrev pub NeverRefused : Limits → Type 0
NeverRefused l = (d : Device) (ts : List Call) → WholeReading l d ts → Passes l d

-- so for the first stage
abbrev pub FirstNeverRefused : Limits → Type 0
FirstNeverRefused l = (d : Device) (ts : List Call) → FirstReading l d ts → FirstPasses l d

-- the same with no reading named: after any lives, each cut anywhere, from the empty device on
abbrev pub AlwaysOpens : Limits → Type 0
AlwaysOpens l =
    (d : Device) → ((k : ℕ) → d k ≡ replicate 512 0) → (xs : List (Life Call)) → Happens (whole_program l) d xs → every_life readable xs ≡ true → Passes l (left_at d xs)

-- so for the first stage
abbrev pub FirstAlwaysOpens : Limits → Type 0
FirstAlwaysOpens l =
    (d : Device) → ((k : ℕ) → d k ≡ replicate 512 0) → (xs : List (Life Call)) → Happens (first_program l) d xs → every_life first_call xs ≡ true → FirstPasses l (left_at d xs)
