-- From what the checks of a call say to what a call of the desk leaves.
use Rattle.std.proofs.Common.{◌≡◌, ℕ, zero, suc, Bool, true, false, not, ◌&&◌, List, [], ◌∷◌, ◌++◌, get_or, take, Option, sym, refl, ap, ◌∙◌, subst}
use Rattle.std.specs.Bool.{then_some}
use Rattle.std.proofs.Math.Logic.{∥∥₁_elim, ∥∥₁_map}
use Rattle.std.proofs.Props.{props}
use Rattle.std.proofs.lemmas.Bool.{true≢false, and_parts, and_from, and_left, ltb-true}
use Rattle.bank.specs.Calls.{Call, opens, rated, move, take_back, day_ends, balance, statement, sums, taken_so_far, garbled, Answer, refused, Limits, changed, told}
use Rattle.bank.specs.Book.{Bank}
use Rattle.bank.specs.Builders.{counted}
use Rattle.bank.specs.Checks.{Check, check, own_checks, Passed, numbered}
use Rattle.bank.specs.Count.{changes}
use Rattle.bank.specs.Effects.{Effect, effects, performed}
use Rattle.bank.specs.Promise.{asks, plain, allowed}
use Rattle.bank.specs.Room.{room_checks}
use Rattle.bank.proofs.Effects.{by_effects}
use Rattle.bank.proofs.Limited.{allowed_parts}
use Rattle.bank.proofs.Refusals.{Turned, Taken, Unchecked, unchecked, passing, failing, all_passed}
use Rattle.device.proofs.Keeps.{ran_snoc}
use Rattle.model.specs.Register.{Dated, Register, sets, register_after, register_book, new_register}
use Rattle.model.specs.First.{not_yet}
use Rattle.model.specs.Whole.{ReachedRegister}
use Rattle.model.proofs.ReachedRegister.{reached_under, register_idle, register_taken}
use Rattle.ledger.specs.Meaning.{bank, rates_set, register, limits, sets_by}
use Rattle.ledger.specs.Made.{Made, Becomes}
use Rattle.ledger.specs.declared.Ledger.{Ledger}
use Rattle.desk.specs.Desk.{HandsOn, Kept, Onward, Served, Asked, AskedFirst, ServedFirst}
use Rattle.desk.specs.declared.Book.{Book}

-- what always holds of a book, of its ledger
pub book_kept : (b : Book) → Kept b.ledger
book_kept b = record { allows = b.allows; reached = b.reached }

-- calls can be taken on what the calls of g go on to
pub still_kept : (g h : Ledger) → Kept g → limits h ≡ limits g → Onward g h → Kept h
still_kept g h k e o = record { allows = ap allowed e ∙ k.allows; reached = ∥∥₁_map k.reached o }

-- one call more goes on to what it leaves
pub onward_by : (g h : Ledger) (c : Call) → limits h ≡ limits g → register h ≡ register_after (limits g) (register g) c → Onward g h
onward_by g h c e a r =
    subst (λ (l : Limits). ReachedRegister l (register h)) (sym e) (
      r.0 ++ (c ∷ []),
      ran_snoc (register_book (limits g)) new_register r.0 c ∙ ap (λ (k : Register). register_after (limits g) k c) r.1 ∙ sym a,
    )

-- a test hands on a value where it is passed
pub handed_on : (o : Option ℕ) (x : ℕ) (b : Bool) → o ≡ then_some b x → HandsOn o x b
handed_on o x true e = subst (λ (p : Option ℕ). HandsOn p x true) (sym e) (refl, refl)
handed_on o x false e = subst (λ (p : Option ℕ). HandsOn p x false) (sym e) refl

-- the check with number k of a list, and one that passes where there is none
abbrev pub check_at : List Check → ℕ → Check
check_at xs k = get_or xs k (check true 0 0)

-- one check more has passed
pub passed_more : (xs : List Check) (k : ℕ) → Passed (take k xs) → (check_at xs k).passes ≡ true → Passed (take (suc k) xs)
passed_more [] k p e = tt
passed_more (x ∷ xs) zero p e = (e, tt)
passed_more (x ∷ xs) (suc k) p e = (p.0, passed_more xs k p.1 e)

module _ (l : Limits) (n : Bank) (c : Call) where
  -- the first check that fails turns the call away
  turned_at : (xs : List Check) (k : ℕ) → Unchecked l n c xs → numbered xs ≡ true → Passed (take k xs) → (check_at xs k).passes ≡ false → Turned l n c (check_at xs k).number (check_at xs k).place
  turned_at [] k u h p e = absurd (true≢false e)
  turned_at (x ∷ xs) zero u h p e = failing l n c x xs u e (ltb-true 0 x.number (and_parts _ _ h).0)
  turned_at (x ∷ xs) (suc k) u h p e = turned_at xs k (passing l n c x xs u p.0) (and_parts _ _ h).1 p.1 e

  taken_all : (xs : List Check) → Unchecked l n c xs → Passed xs → Taken l n c
  taken_all [] u p = all_passed l n c u
  taken_all (x ∷ xs) u p = taken_all xs (passing l n c x xs u p.0) p.1

-- no check has number 0
all_numbered : (l : Limits) (n : Bank) (c : Call) → numbered (room_checks l n c) ≡ true
unfolding own_checks
all_numbered l n (opens m r) = refl
all_numbered l n (rated a r) = refl
all_numbered l n (move v a b x) = refl
all_numbered l n (take_back k) = refl
all_numbered l n day_ends = refl
all_numbered l n (balance a d k) = refl
all_numbered l n (statement a d e) = refl
all_numbered l n sums = refl
all_numbered l n taken_so_far = refl
all_numbered l n (garbled k) = refl

-- the checks of a call, which are all to be made
abbrev pub all_checks : Ledger → Call → List Check
all_checks g c = room_checks (limits g) (bank g) c

module _ (g : Ledger) (k : Kept g) (c : Call) where
  -- all checks are to be made
  pub begun : Unchecked (limits g) (bank g) c (all_checks g c)
  begun =
      ∥∥₁_elim k.reached (hlevel props)
      (λ r. unchecked (limits g) (bank g) c (allowed_parts (limits g) k.allows).two (reached_under (limits g) (register g) r))

  pub all_pass : Passed (all_checks g c) → Taken (limits g) (bank g) c
  all_pass p = taken_all (limits g) (bank g) c (all_checks g c) begun p

  turned : (i : ℕ) → Passed (take i (all_checks g c)) → (check_at (all_checks g c) i).passes ≡ false → Turned (limits g) (bank g) c (check_at (all_checks g c) i).number (check_at (all_checks g c) i).place
  turned i p e = turned_at (limits g) (bank g) c (all_checks g c) i begun (all_numbered (limits g) (bank g) c) p e

  -- a call that is turned away leaves everything
  pub served_turned : (i : ℕ) → Passed (take i (all_checks g c)) → (check_at (all_checks g c) i).passes ≡ false → Served g g c (refused (check_at (all_checks g c) i).number (check_at (all_checks g c) i).place) false
  served_turned i p e =
      let t = turned i p e in
      record { after_is = sym (register_idle (limits g) (register g) c t.idle); told_is = sym t.away; did_is = sym t.idle; kept = k; onward = λ r. r; limits_stay = refl }

  pub asked_turned : (i : ℕ) → Passed (take i (all_checks g c)) → (check_at (all_checks g c) i).passes ≡ false → Asked g c (refused (check_at (all_checks g c) i).number (check_at (all_checks g c) i).place)
  asked_turned i p e =
      let t = turned i p e in record { told_is = sym t.away; same = register_idle (limits g) (register g) c t.idle; idle = t.idle }

  -- a question that is answered
  pub asked_taken : (a : Answer) → Passed (all_checks g c) → asks c ≡ true → a ≡ told (bank g) c → Asked g c a
  asked_taken a p q t =
      let e = all_pass p in
      let i : changes (limits g) (bank g) c ≡ false = e.does ∙ ap not q in
      record { told_is = t ∙ sym e.says; same = register_idle (limits g) (register g) c i; idle = i }

  -- a call that is taken makes its one effect, and is counted
  pub served_made : (f h : Ledger) (x : Effect) (a : Answer) → Passed (all_checks g c) → asks c ≡ false → effects (bank g) c ≡ x ∷ [] →
      sets_by (bank g) x ≡ sets (bank g) c → Made g f x → Becomes f h (counted (bank f)) → a ≡ told (bank g) c → Served g h c a true
  served_made f h x a p q one rates m d t =
      let e = all_pass p in
      let after : register h ≡ register_after (limits g) (register g) c = (let x = bank_after in let y = rates_after in let z = register_taken (limits g) (register g) c e.by_none in cc) in
      let stay : limits h ≡ limits g = d.limits_stay ∙ m.limits_stay in
      let onward = onward_by g h c stay after in
      record { after_is = after; told_is = t ∙ sym e.says; did_is = sym (e.does ∙ ap not q); kept = still_kept g h k stay onward; onward = onward; limits_stay = stay }
    where
      bank_after : bank h ≡ changed (bank g) c
      bank_after = d.bank_is ∙ ap counted m.bank_is ∙ sym (by_effects.changes (bank g) c ∙ ap (performed (bank g)) one)

      rates_after : rates_set h ≡ rates_set g ++ sets (bank g) c
      rates_after = d.rates_are ∙ m.rates_are ∙ ap (λ (xs : List Dated). rates_set g ++ xs) rates

-- a question of the first stage, by the code's call
pub asked_first : (g : Ledger) (d c : Call) (a : Answer) → d ≡ c → (plain c && asks c) ≡ true → Asked g c a → AskedFirst g d a
asked_first g d c a e p s =
    subst (λ (x : Call). AskedFirst g x a) (sym e) (record { asked = λ _. s; other = λ q. absurd (true≢false (sym p ∙ q)) })

pub other_first : (g : Ledger) (c : Call) (a : Answer) → (plain c && asks c) ≡ false → a ≡ not_yet c → AskedFirst g c a
other_first g c a p t = record { asked = λ q. absurd (true≢false (sym q ∙ p)); other = λ _. t }

-- a call of the first stage, by the code's call and outcome
pub first_served : (g h : Ledger) (d c : Call) (a b : Answer) (did did' : Bool) → d ≡ c → plain c ≡ true → a ≡ b → did ≡ did' → Served g h c b did' → ServedFirst g h d a did
first_served g h d c a b did did' e p x y s =
    subst (λ (x : Call). ServedFirst g h x a did) (sym e)
    (record { after_is = rw p s.after_is; told_is = rw p (x ∙ s.told_is); did_is = rw p (y ∙ s.did_is); kept = s.kept; onward = s.onward; limits_stay = s.limits_stay })

-- a question, or a call that is not there yet
pub first_asked : (g : Ledger) (d c : Call) (a : Answer) → Kept g → d ≡ c → AskedFirst g d a → (plain c ≡ true → asks c ≡ true) → ServedFirst g g c a false
first_asked g d c a k e s q = go (plain c) refl (subst (λ (x : Call). AskedFirst g x a) e s)
  where
    go : (b : Bool) → plain c ≡ b → AskedFirst g c a → ServedFirst g g c a false
    go true p r =
        let t = r.asked (and_from _ _ p (q p)) in
        record { after_is = rw p (sym t.same); told_is = rw p t.told_is; did_is = rw p (sym t.idle); kept = k; onward = λ r. r; limits_stay = refl }
    go false p r =
        record { after_is = rw p refl; told_is = rw p (r.other (and_left _ _ p)); did_is = rw p refl; kept = k; onward = λ r. r; limits_stay = refl }
