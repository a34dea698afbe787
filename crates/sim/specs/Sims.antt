-- What a simulated device holds, by the memory that it is lent. Assumes nothing: these are definitions.
use Rattle.std.specs.Prelude.{◌≡◌, ℕ, ◌/◌, Bool, List, length, take}
use Rattle.device.specs.Plan.{Write}
use Rattle.sim.specs.Held.{Held}
use Rattle.sim.specs.Cut.{writes_in}
use Rattle.sim.specs.Kept.{held_by, room_for, is_taken}
use Rattle.sim.specs.declared.Disk.{Disk}

-- where the writes go
abbrev pub places_in : Disk → List ℕ
places_in u = take u.count u.places.now

-- the writes
abbrev pub kept : Disk → List Write
kept u = writes_in (places_in u) u.blocks.now

-- what the device holds: the image is safe
abbrev pub holds : Disk → Held
holds u = held_by u.image.now (kept u)

-- the image is still the same lent bytes: its lender's, and as many
pub record SameImage (u v : Disk) : Type 0 where
  pub name : v.image.ghost_name ≡ u.image.ghost_name
  pub size : length v.image.now ≡ length u.image.now

-- how many writes it has room for
abbrev pub room : Disk → ℕ
room u = room_for u.places.now u.blocks.now

-- is a write taken: a whole block, which is there, while there is room
abbrev pub takes : Disk → ℕ → List ℕ → Bool
takes u k bs = is_taken (length u.image.now / 512) (room u) u.count k bs
