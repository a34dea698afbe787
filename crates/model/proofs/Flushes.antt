-- Flushes, exactly.
use Rattle.std.proofs.Common.{◌≡◌, ℕ, suc, ◌+◌, Bool, true, false, not, ◌&&◌, eqb, leb, List, [], ◌∷◌, length, sym, refl, ap, ◌∙◌, arith, eqb-true}
use Rattle.std.proofs.lemmas.Bool.{and_parts}
use Rattle.bank.specs.Book.{pick, Bank}
use Rattle.bank.specs.Calls.{Call, Answer, Limits, turned, after}
use Rattle.bank.specs.Device.{Program}
use Rattle.bank.specs.Promise.{readable, asks}
use Rattle.model.specs.First.{first_call, first_program}
use Rattle.bank.specs.Count.{changes}
use Rattle.model.specs.Register.{Register}
use Rattle.model.specs.Whole.{whole_program}
use Rattle.model.specs.Flushes.{state_after, steps_so_far, FlushesExact, FirstFlushesExact}
use Rattle.device.specs.Device.{pick as pick-of, acts, flushes}
use Rattle.device.specs.Plan.{Write, acts_of}
use Rattle.device.specs.Resident.{Memory, MemorySince}
use Rattle.device.proofs.Cuts.{flushes-++}
use Rattle.device.proofs.Plan.{flushes_batches}
use Rattle.bank.proofs.Taken.{after_taken}
use Rattle.bank.proofs.Count.{counted_one}

-- what each call adds, all calls add
module _ (p : Program) (so_far : p.State → ℕ) (one : (s : p.State) (c : Call) → flushes (p.does s c) + so_far s ≡ so_far (p.next s c)) where
  all_flushes : (s : p.State) (cs : List Call) → flushes (acts p s cs) + so_far s ≡ so_far (state_after p s cs)
  unfolding acts state_after flushes
  all_flushes s [] = omega arith
  all_flushes s (c ∷ cs) = omega (arith, flushes-++ (p.does s c) (acts p (p.next s c) cs), one s c, all_flushes (p.next s c) cs)

-- two batches, one, or none
lengths : (t u : Bool) (xs ys : List Write) (z : List Write) → length (pick-of t (pick-of u (xs ∷ (ys ∷ [])) (z ∷ [])) []) ≡ pick t (pick u 2 1) 0
lengths true true xs ys z = refl
lengths true false xs ys z = refl
lengths false u xs ys z = refl

picked : (t u : Bool) (x y m : MemorySince Call Register) → (t ≡ true → steps_so_far x ≡ 2 + steps_so_far m) → (t ≡ true → steps_so_far y ≡ 1 + steps_so_far m) →
    pick t (pick u 2 1) 0 + steps_so_far m ≡ steps_so_far (pick-of t (pick-of u x y) m)
picked true true x y m h g = sym (h refl)
picked true false x y m h g = sym (g refl)
picked false u x y m h g = omega arith

counted_in : (t : Bool) (x m : Memory Call Bank) → x.count ≡ 1 + m.count → pick t 1 0 + m.count ≡ (pick-of t x m).count
counted_in true x m h = sym h
counted_in false x m h = omega arith

module _ (l : Limits) where
  done_one : (n : Bank) (c : Call) → changes l n c ≡ true → (after l n c).done ≡ suc n.done
  done_one n c h =
      let q = and_parts (not (asks c)) (eqb (turned l n c) 0) h in
      ap (λ (m : Bank). m.done) (after_taken l n c (eqb-true (turned l n c) 0 q.1)) ∙ counted_one n c q.0

  each : (m : MemorySince Call Register) (c : Call) → flushes ((whole_program l).does m c) ≡ pick (readable c && changes l m.bank.bank c) (pick (leb 1000 m.count) 2 1) 0
  each m c = flushes_batches Answer _ _ ∙ lengths (readable c && changes l m.bank.bank c) (leb 1000 m.count) _ _ _

  one : (m : MemorySince Call Register) (c : Call) → flushes ((whole_program l).does m c) + steps_so_far m ≡ steps_so_far ((whole_program l).next m c)
  one m c =
      ap (λ (z : ℕ). z + steps_so_far m) (each m c)
      ∙ picked (readable c && changes l m.bank.bank c) (leb 1000 m.count) _ _ m
      (λ h. omega (arith, done_one m.bank.bank c (and_parts (readable c) (changes l m.bank.bank c) h).1))
      (λ h. omega (arith, done_one m.bank.bank c (and_parts (readable c) (changes l m.bank.bank c) h).1))

  pub flushes_exact : FlushesExact l
  flushes_exact = record { each = each; quiet = λ m c h. rw h (unfold acts_of in refl); all = all_flushes (whole_program l) steps_so_far one }

  first_each : (m : Memory Call Bank) (c : Call) → flushes ((first_program l).does m c) ≡ pick (first_call c && changes l m.bank c) 1 0
  first_each m c = flushes_batches Answer _ _ ∙ go (first_call c && changes l m.bank c) _
    where
      go : (t : Bool) (x : List Write) → length (pick-of t (x ∷ []) []) ≡ pick t 1 0
      go true x = refl
      go false x = refl

  first_one : (m : Memory Call Bank) (c : Call) → flushes ((first_program l).does m c) + m.count ≡ ((first_program l).next m c).count
  first_one m c = ap (λ (z : ℕ). z + m.count) (first_each m c) ∙ counted_in (first_call c && changes l m.bank c) _ m (omega arith)

  pub first_flushes_exact : FirstFlushesExact l
  first_flushes_exact = record { each = first_each; quiet = λ m c h. rw h (unfold acts_of in refl); all = all_flushes (first_program l) (λ m. m.count) first_one }
