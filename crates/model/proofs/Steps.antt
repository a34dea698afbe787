-- One call of the first stage's program: what it does, and what it keeps.
use Rattle.std.proofs.Common.{◌≡◌, suc, ◌/◌, true, false, ◌&&◌, eqb, [], ◌∷◌, ◌++◌, length, refl}
use Rattle.std.proofs.lemmas.Bool.{and_parts}
use Rattle.bank.specs.Book.{Bank}
use Rattle.bank.specs.Calls.{Call, Limits, after, answer}
use Rattle.bank.specs.Count.{changes}
use Rattle.device.specs.Device.{pick, write, flush, say}
use Rattle.device.specs.Plan.{acts_of, writes}
use Rattle.device.specs.Resident.{Memory}
use Rattle.model.specs.First.{first_call, not_yet, first_program}
use Rattle.model.specs.JournalBlock.{journal_block}

module _ (l : Limits) (m : Memory Call Bank) (c : Call) where
  -- a call that changes the book is written, flushed and answered
  pub taken_does : (first_call c && changes l m.bank c) ≡ true →
      (first_program l).does m c ≡ write (m.count / 24) (journal_block 1 l 0 (m.tail ++ (c ∷ []))) ∷ (flush ∷ (say (answer l m.bank c) ∷ []))
  unfolding acts_of writes
  taken_does t = let f : first_call c ≡ true = (and_parts (first_call c) (changes l m.bank c) t).0 in rw (t, f) refl

  pub taken_next : (first_call c && changes l m.bank c) ≡ true →
      (first_program l).next m c ≡ record { bank = after l m.bank c; count = suc m.count; tail = pick (eqb (suc (length m.tail)) 24) [] (m.tail ++ (c ∷ [])) }
  taken_next t = rw t refl

  -- any other is only answered
  pub quiet_does : (first_call c && changes l m.bank c) ≡ false → (first_program l).does m c ≡ say (pick (first_call c) (answer l m.bank c) (not_yet c)) ∷ []
  unfolding acts_of
  quiet_does t = rw t refl

  pub quiet_next : (first_call c && changes l m.bank c) ≡ false → (first_program l).next m c ≡ m
  quiet_next t = rw t refl
