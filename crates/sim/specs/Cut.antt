-- What a cut leaves, by a row of numbers: one for each block that was written since the last flush, in the order of their first write. 0 is as it was, n what the
-- n-th write put there, or the last where there are fewer; a number that lacks counts as 0. Assumes nothing: these are definitions.
use Rattle.std.specs.Prelude.{ℕ, zero, suc, ◌+◌, Bool, List, [], ◌∷◌, take, drop, ◌==◌, nat_lt, count_by, slice_index}
use Rattle.std.specs.List.{before_first}
use Rattle.device.specs.Device.{pick, Device}
use Rattle.device.specs.Plan.{Write}
use Rattle.sim.specs.Held.{Held}

-- how often block k stands in a list of blocks
abbrev pub times : ℕ → List ℕ → ℕ
times k ks = count_by (λ j. j == k) ks

-- how many blocks that are
abbrev pub different : List ℕ → ℕ
different [] = 0
different (k ∷ ks) = pick (times k ks == 0) 1 0 + different ks

-- those in front of the first k
abbrev pub before : ℕ → List ℕ → List ℕ
before k ks = before_first (λ j. j == k) ks

-- where block k stands in the row: behind the numbers of those that were written before it
abbrev pub turn : ℕ → List ℕ → ℕ
turn k ks = different (before k ks)

-- is the i-th write left: of the writes to its block fewer came before it than the row says
abbrev pub left_of : List ℕ → List ℕ → ℕ → Bool
left_of row places i = let k : ℕ = slice_index places i in nat_lt (times k (take i places)) (slice_index row (turn k places))

-- what was written to block k, oldest first
unfoldable pub bytes_to : ℕ → List Write → List (List ℕ)
bytes_to k [] = []
bytes_to k (w ∷ ws) = pick (w.block == k) (w.bytes ∷ bytes_to k ws) (bytes_to k ws)

-- the first n of some writes to a block that had old bytes
unfoldable pub chosen : ℕ → List (List ℕ) → List ℕ → List ℕ
chosen zero vs old = old
chosen (suc n) [] old = old
chosen (suc n) (v ∷ vs) old = chosen n vs v

-- the blocks of some writes
unfoldable pub blocks_of : List Write → List ℕ
blocks_of [] = []
blocks_of (w ∷ ws) = w.block ∷ blocks_of ws

-- the number that a row has for block k
abbrev pub number_for : List ℕ → List Write → ℕ → ℕ
number_for row ws k = slice_index row (turn k (blocks_of ws))

-- the device that is left
abbrev pub cut_by : List ℕ → Held → Device
cut_by row h k = chosen (number_for row h.pending k) (bytes_to k h.pending) (h.durable k)

-- writes kept one behind the other: where each goes, and its bytes
abbrev pub writes_in : List ℕ → List ℕ → List Write
writes_in [] bytes = []
writes_in (k ∷ ks) bytes = record { block = k; bytes = take 512 bytes } ∷ writes_in ks (drop 512 bytes)
