-- What a simulated device holds, by an image and the writes that are not safe yet. Assumes nothing: these are definitions.
use Rattle.std.specs.Prelude.{ℕ, ◌+◌, ◌*◌, ◌/◌, ◌<◌, ◌≤◌, Bool, List, length, take, slice_index}
use Rattle.device.specs.Plan.{Write}
use Rattle.sim.specs.Held.{Held}
use Rattle.sim.specs.Cut.{writes_in}
use Rattle.sim.specs.Kept.{held_by, room_for, is_taken}
use Rattle.sim.specs.declared.Unflushed.{Unflushed}

-- where the writes go
abbrev pub places_in : Unflushed → List ℕ
places_in u = take u.count u.places.now

-- the writes
abbrev pub kept : Unflushed → List Write
kept u = writes_in (places_in u) u.blocks.now

-- what the device holds: the image is safe
abbrev pub holds : List ℕ → Unflushed → Held
holds image u = held_by image (kept u)

-- how many writes it has room for
abbrev pub room : Unflushed → ℕ
room u = room_for u.places.now u.blocks.now

-- is a write taken: a whole block, which is there, while there is room
abbrev pub takes : List ℕ → Unflushed → ℕ → List ℕ → Bool
takes image u k bs = is_taken (length image / 512) (room u) u.count k bs

-- the writes that are kept go into the image; that each has its place and its whole block, the type says
pub record Sound (image : List ℕ) (u : Unflushed) : Type 0 where
  pub inside : (i : ℕ) → i < u.count → 512 * slice_index u.places.now i + 512 ≤ length image
