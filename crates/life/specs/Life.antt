-- A session's life on the simulated device: what its acts make of the device and of what is heard. Assumes nothing: these are definitions.
use Rattle.std.specs.Prelude.{◌≡◌, ℕ, suc, ◌+◌, ◌-◌, ◌*◌, ◌/◌, ◌<◌, ◌≤◌, Bool, true, false, ◌&&◌, ◌⊎◌, List, [], ◌∷◌, ◌++◌, length, take, drop, Some, None, Ok, Err, Option, Result, nat_le}
use Rattle.std.specs.Borrow.{Bor}
use Rattle.device.specs.Device.{pick, write, flush, say, acts, said}
use Rattle.bank.specs.Calls.{Call, Answer, Limits, answers, ran, new_bank}
use Rattle.bank.specs.Device.{Act, LeftBy}
use Rattle.bank.specs.Promise.{allowed, all_plain}
use Rattle.bank.specs.Promise.{room as blocks_for}
use Rattle.model.specs.First.{first_program, FirstReading}
use Rattle.wire.specs.Answered.{written_answer}
use Rattle.blocks.specs.Blocks.{device_of}
use Rattle.sim.specs.Held.{Held, at_rest, done, dones}
use Rattle.sim.specs.Cut.{cut_by}
use Rattle.sim.specs.Sims.{holds, room, SameImage}
use Rattle.session.specs.Opening.{suffices}
use Rattle.ledger.specs.declared.opening.Misfit.{Misfit}
use Rattle.ledger.specs.declared.opening.Misfit.TheVariants.{Memory, Device, Bounds}
use Rattle.life.specs.Heard.{rows_read, spoken_in, free_in, Behind}
use Rattle.life.specs.declared.heard.Heard.{Heard}
use Rattle.life.specs.declared.lent.Lent.{Lent}
use Rattle.life.specs.declared.heard.Listener.{Listener}
use Rattle.sim.specs.declared.Disk.{Disk}

-- what stands around a session: what the device holds, the bytes of the answers that were heard, one behind another, and how many answers these are
pub record World : Type 0 where
  pub held : Held
  pub spoken : List ℕ
  pub heard : ℕ

-- the world that a disk and a listener are
abbrev pub world : Disk → Listener → World
world d e = record { held = holds d; spoken = spoken_in e.said.now e.heard; heard = e.heard.answers }

-- the world after an act
abbrev pub after_act : World → Act → World
after_act w (write k bs) = record { held = done {A = Answer} w.held (write k bs); spoken = w.spoken; heard = w.heard }
after_act w flush = record { held = done {A = Answer} w.held flush; spoken = w.spoken; heard = w.heard }
after_act w (say a) = record { held = done {A = Answer} w.held (say a); spoken = w.spoken ++ written_answer a; heard = w.heard + 1 }

-- and after some
unfoldable pub after_acts : World → List Act → World
after_acts w [] = w
after_acts w (x ∷ xs) = after_acts (after_act w x) xs

-- one act was done, or there was none
abbrev pub Acted : Bool → List Act → List Act → World → World → Type 0
Acted true was is v w = (a : Act) × (was ≡ a ∷ is) × (w ≡ after_act v a)
Acted false was is v w = (was ≡ []) × (is ≡ []) × (w ≡ v)

-- how much there is room for: blocks on the device, writes that can be pending, writes that are, and bytes that can be heard
pub record Space : Type 0 where
  pub blocks : ℕ
  pub most : ℕ
  pub pending : ℕ
  pub free : ℕ

-- the room on a disk, and for what is heard
abbrev pub space : Disk → Listener → Space
space d e = record { blocks = length d.image.now / 512; most = room d; pending = d.count; free = free_in e.said.now e.heard }

-- there is room for acts: each write is of a whole block that is there, and can be pending; each answer can be heard; behind them nothing is pending, and n bytes can be heard
abbrev pub Fits : ℕ → Space → List Act → Type 0
Fits n s [] = (s.pending ≡ 0) × (n ≤ s.free)
Fits n s (write k bs ∷ xs) =
    (s.pending < s.most) × (k < s.blocks) × (length bs ≡ 512) × Fits n (record { blocks = s.blocks; most = s.most; pending = s.pending + 1; free = s.free }) xs
Fits n s (flush ∷ xs) = Fits n (record { blocks = s.blocks; most = s.most; pending = 0; free = s.free }) xs
Fits n s (say a ∷ xs) =
    (length (written_answer a) ≤ s.free) × Fits n (record { blocks = s.blocks; most = s.most; pending = s.pending; free = s.free - length (written_answer a) }) xs

-- what was room for some acts is room for those that are left
abbrev pub FitsOn : Space → List Act → Space → List Act → Type 0
FitsOn s was t is = (n : ℕ) → Fits n s was → Fits n t is

-- what stays of the disk d and the listener e, which become f and g: the lent bytes, how much there is room for, and what lies behind the bytes that were heard
pub record Stays (d f : Disk) (e g : Listener) : Type 0 where
  pub image : SameImage d f
  pub room_is : room f ≡ room d
  pub said_is : g.said.ghost_name ≡ e.said.ghost_name
  pub behind : Behind e.said.now e.heard g.said.now g.heard

-- answers as bytes, one behind another
unfoldable pub written_answers : List Answer → List ℕ
written_answers [] = []
written_answers (a ∷ rest) = written_answer a ++ written_answers rest

-- the acts of a life, as far as a budget goes: those of the program, started on the device that an image is, for the calls that some rows are
abbrev pub lived : Limits → List ℕ → List (Bor (List ℕ)) → ℕ → List Act
lived l image rows budget = take budget (acts (first_program l) ((first_program l).start (device_of image)) (rows_read rows))

-- what a life leaves that a row cut: the answers among its acts are heard, behind them the lent bytes are as they were, and the image is what the row leaves after these acts, which is what a cut after them can leave
pub record Lived (l : Limits) (image : List ℕ) (rows : List (Bor (List ℕ))) (budget : ℕ) (row said-before image-after said-after : List ℕ) (h : Heard) : Type 0 where
  pub counted : h.answers ≡ length (said (lived l image rows budget))
  pub spoken : spoken_in said-after h ≡ written_answers (said (lived l image rows budget))
  pub behind : drop h.bytes said-after ≡ drop h.bytes said-before
  pub cut : (k : ℕ) → device_of image-after k ≡ cut_by row (dones {A = Answer} (at_rest (device_of image)) (lived l image rows budget)) k
  pub left : LeftBy (device_of image) (lived l image rows budget) (device_of image-after)

-- A LIFE KEEPS THE BOOK. On a device that reads as the calls ts, what was said are the first of the answers that the book gives after ts; and the device that is left reads as
-- ts with the calls that were answered, or these and the one that was under way
abbrev pub KeepsTheBook : Limits → List ℕ → List (Bor (List ℕ)) → List ℕ → List ℕ → Heard → Type 0
KeepsTheBook l image rows image-after said-after h =
    (ts : List Call) → FirstReading l (device_of image) ts → all_plain (rows_read rows) ≡ true →
    let heard : ℕ = h.answers in
    (spoken_in said-after h ≡ written_answers (take heard (answers l (ran l new_bank ts) (rows_read rows))))
    × (FirstReading l (device_of image-after) (ts ++ take heard (rows_read rows)) ⊎ FirstReading l (device_of image-after) (ts ++ take (suc heard) (rows_read rows)))

-- is there room on the simulated device for a write that is not safe yet, and for the answers to so many calls: 17 bytes for each
abbrev pub has_room : ℕ → ℕ → ℕ → ℕ → Bool
has_room places blocks free calls = (nat_le 1 places && nat_le 512 blocks) && nat_le (17 * calls) free

-- what does not fit: the limits first, then memory
abbrev pub lacks : Limits → Lent → ℕ → ℕ → Option Misfit
lacks l m free calls =
    pick (allowed l)
    (pick
    (suffices l (length m.cents.now) (length m.numbers.now) (length m.block.now) (length m.bytes.now)
    && has_room (length m.places.now) (length m.blocks.now) free calls) None (Some Memory))
    (Some Bounds)

-- a life is refused for what does not fit, or for a device that is too small or reads as no calls
abbrev pub RefusedFor : Option Misfit → Limits → List ℕ → Misfit → Type 0
RefusedFor (Some p) l image misfit = misfit ≡ p
RefusedFor None l image misfit = (misfit ≡ Device) × ((ts : List Call) → 512 * blocks_for l ≤ length image → FirstReading l (device_of image) ts → ⊥)

-- how a life ends: it was lived, and kept the book; or it was refused, and all is as it was
abbrev pub Ended : Limits → Lent → List (Bor (List ℕ)) → ℕ → List ℕ → List ℕ → List ℕ → List ℕ → List ℕ → Result Heard Misfit → Type 0
Ended l m rows budget row image bs image-after bs-after (Ok h) =
    (lacks l m (length bs) (length rows) ≡ None) × (512 * blocks_for l ≤ length image) × Lived l image rows budget row bs image-after bs-after h × KeepsTheBook l image rows image-after bs-after h
Ended l m rows budget row image bs image-after bs-after (Err misfit) = (image-after ≡ image) × (bs-after ≡ bs) × RefusedFor (lacks l m (length bs) (length rows)) l image misfit
