-- Flushes, exactly: one for each call that is taken, and one more for each checkpoint; and nothing is written for any other call. Assumes nothing: these are definitions.
use Rattle.std.specs.Prelude.{◌≡◌, ℕ, ◌+◌, false, ◌&&◌, List, [], ◌∷◌, nat_le}
use Rattle.bank.specs.Book.{pick, Bank}
use Rattle.bank.specs.Calls.{Call, Limits, answer}
use Rattle.bank.specs.Device.{Program, acts, flushes}
use Rattle.bank.specs.Promise.{readable}
use Rattle.model.specs.First.{first_call, not_yet, first_program}
use Rattle.bank.specs.Count.{changes}
use Rattle.model.specs.Register.{Register}
use Rattle.model.specs.Whole.{whole_program}
use Rattle.device.specs.Device.{pick as pick-of, say}
use Rattle.device.specs.Resident.{Memory, MemorySince}

-- the state after some calls
unfoldable pub state_after : (p : Program) → p.State → List Call → p.State
state_after p s [] = s
state_after p s (c ∷ cs) = state_after p (p.next s c) cs

-- how many calls were taken and checkpoints made
abbrev pub steps_so_far : MemorySince Call Register → ℕ
steps_so_far m = m.bank.bank.done + m.epoch

-- flushes of one call, acts of a call that is not taken, flushes of many calls
pub record FlushesExact (l : Limits) : Type 0 where
  pub each : (m : MemorySince Call Register) (c : Call) →
      flushes ((whole_program l).does m c) ≡ pick (readable c && changes l m.bank.bank c) (pick (nat_le 1000 m.count) 2 1) 0
  pub quiet : (m : MemorySince Call Register) (c : Call) → (readable c && changes l m.bank.bank c) ≡ false →
      (whole_program l).does m c ≡ say (pick-of (readable c) (answer l m.bank.bank c) (not_yet c)) ∷ []
  pub all : (m : MemorySince Call Register) (cs : List Call) →
      flushes (acts (whole_program l) m cs) + steps_so_far m ≡ steps_so_far (state_after (whole_program l) m cs)

-- so for the first stage, by the calls in the journal
pub record FirstFlushesExact (l : Limits) : Type 0 where
  pub each : (m : Memory Call Bank) (c : Call) → flushes ((first_program l).does m c) ≡ pick (first_call c && changes l m.bank c) 1 0
  pub quiet : (m : Memory Call Bank) (c : Call) → (first_call c && changes l m.bank c) ≡ false →
      (first_program l).does m c ≡ say (pick-of (first_call c) (answer l m.bank c) (not_yet c)) ∷ []
  pub all : (m : Memory Call Bank) (cs : List Call) → flushes (acts (first_program l) m cs) + m.count ≡ (state_after (first_program l) m cs).count
