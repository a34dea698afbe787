-- Writes that are kept apart from an image, by what stands in the lent memory: where each goes, and its bytes. Assumes nothing: these are definitions.
use Rattle.std.specs.Prelude.{ℕ, ◌+◌, ◌*◌, ◌/◌, ◌<◌, ◌≤◌, min, Bool, ◌&&◌, List, length, take, ◌==◌, nat_lt, slice_index}
use Rattle.device.specs.Plan.{Write}
use Rattle.blocks.specs.Blocks.{device_of}
use Rattle.sim.specs.Held.{Held}
use Rattle.sim.specs.Cut.{writes_in}

-- the first so many writes
abbrev pub kept_in : ℕ → List ℕ → List ℕ → List Write
kept_in count places blocks = writes_in (take count places) blocks

-- what is held by an image and some writes: the image is safe
abbrev pub held_by : List ℕ → List Write → Held
held_by image ws = record { durable = device_of image; pending = ws }

-- how many writes there is room for
abbrev pub room_for : List ℕ → List ℕ → ℕ
room_for places blocks = min (length places) (length blocks / 512)

-- is a write taken behind so many: a whole block, which is before the end, while there is room
abbrev pub is_taken : ℕ → ℕ → ℕ → ℕ → List ℕ → Bool
is_taken end room count k bs = nat_lt count room && (nat_lt k end && length bs == 512)

-- the first so many writes go into the image
abbrev pub GoInto : List ℕ → List ℕ → ℕ → Type 0
GoInto image places count = (i : ℕ) → i < count → 512 * slice_index places i + 512 ≤ length image
