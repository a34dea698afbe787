-- There is room for a life.
use Rattle.std.proofs.Common.{◌≡◌, ℕ, Bool, true, false, ◌&&◌, length, Some, None, refl}
use Rattle.device.specs.Device.{pick}
use Rattle.bank.specs.Calls.{Limits}
use Rattle.bank.specs.Promise.{allowed}
use Rattle.session.specs.Opening.{suffices, misfit}
use Rattle.ledger.specs.declared.opening.Misfit.TheVariants.{Memory, Bounds}
use Rattle.life.specs.declared.lent.Lent.{Lent}
use Rattle.life.specs.Life.{has_room, lacks}

-- nothing misfits of limits (a) and the session's memory (s), and there is room for the rest (r)
nothing : (a s r : Bool) → pick a (pick s None (Some Memory)) (Some Bounds) ≡ None → r ≡ true → (pick a (pick (s && r) None (Some Memory)) (Some Bounds) ≡ None) × (a ≡ true)
nothing true true r e f = rw f (refl, refl)
nothing true false r e f = cc
nothing false s r e f = cc

pub all_fits : (l : Limits) (m : Lent) (free calls : ℕ) → misfit l (length m.cents.now) (length m.numbers.now) (length m.block.now) (length m.bytes.now) ≡ None →
    has_room (length m.places.now) (length m.blocks.now) free calls ≡ true → (lacks l m free calls ≡ None) × (allowed l ≡ true)
all_fits l m free calls e f =
    nothing (allowed l) (suffices l (length m.cents.now) (length m.numbers.now) (length m.block.now) (length m.bytes.now)) (has_room (length m.places.now) (length m.blocks.now) free calls) e f
