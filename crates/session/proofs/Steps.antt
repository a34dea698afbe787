-- What a call leaves in memory, and what is to be done for it, are the program's.
use Rattle.std.proofs.Common.{◌≡◌, ℕ, suc, ◌+◌, ◌*◌, ◌/◌, ◌<◌, ◌≤◌, Bool, true, false, ◌&&◌, [], ◌∷◌, ◌++◌, sym, refl, ap, ◌∙◌, subst, add-one, arith}
use Rattle.std.proofs.lemmas.Bool.{and_parts, true≢false}
use Rattle.device.specs.Device.{pick, write, flush, say}
use Rattle.bank.specs.Calls.{Call, garbled, Limits, after, answer, refused}
use Rattle.bank.specs.Calls.{Answer as Told}
use Rattle.bank.specs.Checks.{own_checks}
use Rattle.bank.specs.Count.{changes}
use Rattle.bank.specs.Promise.{asks, readable, plain, room}
use Rattle.bank.specs.Room.{has_room}
use Rattle.model.specs.First.{first_call, first_program, not_yet, size}
use Rattle.model.specs.JournalBlock.{stored, journal_block}
use Rattle.model.specs.Register.{Register, register_after}
use Rattle.model.proofs.First.{more}
use Rattle.model.proofs.JournalBlock.{storable}
use Rattle.model.proofs.ReachedRegister.{register_idle}
use Rattle.model.proofs.Steps.{taken_does, taken_next, quiet_does, quiet_next}
use Rattle.wire.specs.Answered.{answered}
use Rattle.wire.specs.declared.answer.Answer.{Answer as Code}
use Rattle.ledger.specs.Meaning.{bank, register, limits}
use Rattle.ledger.specs.declared.Ledger.{Ledger}
use Rattle.desk.specs.Desk.{Onward, ServedFirst}
use Rattle.desk.specs.declared.Book.{Book}
use Rattle.desk.proofs.Serving.{book_kept, asked_turned, asked_first, first_asked}
use Rattle.journal.specs.declared.header.Label.{Label}
use Rattle.journal.specs.declared.journal.Journal.{Journal}
use Rattle.journal.specs.Tail.{bounds, tail, Appended}
use Rattle.session.specs.Joined.{Joined}
use Rattle.session.specs.declared.Session.{Session}
use Rattle.session.specs.declared.Stage.TheVariants.{Saying, Writing}
use Rattle.session.specs.Session.{memory, left, answer_of_lem}

-- bytes that are no call are turned away
pub served_garbled : (b : Book) (p : ℕ) → ServedFirst b.ledger b.ledger (garbled p) (refused 1 p) false
unfolding own_checks has_room plain asks
served_garbled b p =
    first_asked b.ledger (garbled p) (garbled p) (refused 1 p) (book_kept b) refl
    (asked_first b.ledger (garbled p) (garbled p) (refused 1 p) refl refl (asked_turned b.ledger (book_kept b) (garbled p) 0 tt refl)) (λ _. refl)

-- what changed nothing left everything
idle_register : (g h : Ledger) (c : Call) (a : Told) → ServedFirst g h c a false → register h ≡ register g
idle_register g h c a v = v.after_is ∙ go (plain c) (changes (limits g) (bank g) c) refl v.did_is
  where
    go : (p q : Bool) → changes (limits g) (bank g) c ≡ q → false ≡ (p && q) → pick p (register_after (limits g) (register g) c) (register g) ≡ register g
    go true true e d = absurd (true≢false (sym d))
    go true false e d = register_idle (limits g) (register g) c e
    go false q e d = refl

first_is : (c : Call) → readable c ≡ true → first_call c ≡ plain c
first_is c y = ap (λ (b : Bool). b && plain c) y

module _ (s t : Session) (c : Call) (y : readable c ≡ true) (a : Told) (did : Bool) (v : ServedFirst s.book.ledger t.book.ledger c a did) where
  abbrev l : Limits
  l = limits s.book.ledger

  test : (first_call c && changes l (bank s.book.ledger) c) ≡ did
  test = ap (λ (b : Bool). b && changes l (bank s.book.ledger) c) (first_is c y) ∙ sym v.did_is

  said : a ≡ pick (first_call c) (answer l (bank s.book.ledger) c) (not_yet c)
  said = v.told_is ∙ ap (λ (b : Bool). pick b (answer l (bank s.book.ledger) c) (not_yet c)) (sym (first_is c y))

-- a call that changes nothing is only answered
module _ (s t : Session) (c : Call) (a : Told) (v : ServedFirst s.book.ledger t.book.ledger c a false) (j : t.journal ≡ s.journal) where
  bank_same : bank t.book.ledger ≡ bank s.book.ledger
  bank_same = ap (λ (k : Register). k.bank) (idle_register s.book.ledger t.book.ledger c a v)

module _ (s t : Session) (c : Call) (y : readable c ≡ true) (a : Told) (v : ServedFirst s.book.ledger t.book.ledger c a false) (j : t.journal ≡ s.journal) where
  pub quiet_state : memory t ≡ (first_program (limits s.book.ledger)).next (memory s) c
  quiet_state = (let b = bank_same s t c a v j in cc) ∙ sym (quiet_next (limits s.book.ledger) (memory s) c (test s t c y a false v))

  pub quiet_acts : t.stage ≡ Saying → answer_of_lem t ≡ a → left t ≡ (first_program (limits s.book.ledger)).does (memory s) c
  quiet_acts w e =
      let p : left t ≡ say (answer_of_lem t) ∷ [] = rw w refl in
      p ∙ ap (λ (x : Told). say x ∷ []) (e ∙ said s t c y a false v) ∙ sym (quiet_does (limits s.book.ledger) (memory s) c (test s t c y a false v))

-- a call that is taken can be journalled
taken_plain : (g h : Ledger) (c : Call) (a : Told) → ServedFirst g h c a true → (plain c ≡ true) × (changes (limits g) (bank g) c ≡ true)
taken_plain g h c a v = and_parts (plain c) (changes (limits g) (bank g) c) (sym v.did_is)

pub can_store : (s : Session) (h : Ledger) (c : Call) (a : Told) → ServedFirst s.book.ledger h c a true → stored c ≡ true
can_store s h c a v = storable (limits s.book.ledger) s.book.allows (bank s.book.ledger) c (taken_plain s.book.ledger h c a v).1

pub has_place : (s : Session) (h : Ledger) (c : Call) (a : Told) → ServedFirst s.book.ledger h c a true → s.journal.count < 24 * s.journal.blocks
has_place s h c a v =
    let p = taken_plain s.book.ledger h c a v in
    let b = more (limits s.book.ledger) (bank s.book.ledger) c p.0 p.1 in
    let e = s.joined.blocks_are in
    omega (arith, s.joined.counted)

pub after_bank : (g h : Ledger) (c : Call) (a : Told) → ServedFirst g h c a true → bank h ≡ after (limits g) (bank g) c
after_bank g h c a v =
    let p = (taken_plain g h c a v).0 in
    ap (λ (k : Register). k.bank) (v.after_is ∙ ap (λ (b : Bool). pick b (register_after (limits g) (register g) c) (register g)) p)

-- it used up an account or a booking
pub size_grows : (g h : Ledger) (c : Call) (a : Told) (did : Bool) → ServedFirst g h c a did → size (bank g) + pick did 1 0 ≤ size (bank h)
size_grows g h c a true v =
    let p = taken_plain g h c a v in
    let m = more (limits g) (bank g) c p.0 p.1 in
    let z = ap size (after_bank g h c a v) in
    omega arith
size_grows g h c a false v = let z = ap (λ (k : Register). size k.bank) (idle_register g h c a v) in omega arith

-- so the journal is that of the book that is left, before the call is added to it and afterwards
pub joined_on : (g h : Ledger) (j : Journal) (c : Call) (a : Told) (did : Bool) → ServedFirst g h c a did → Joined g j → Joined h j
joined_on g h j c a did v o =
    record {
      bounds_are = o.bounds_are ∙ sym v.limits_stay;
      format_is = o.format_is;
      epoch_is = o.epoch_is;
      blocks_are = o.blocks_are ∙ ap room (sym v.limits_stay);
      counted = let z = size_grows g h c a did v in omega (arith, o.counted);
    }

pub joined_more : (g h : Ledger) (j k : Journal) (c : Call) (a : Told) → ServedFirst g h c a true → Appended j k c → Joined g j → Joined h k
joined_more g h j k c a v p o =
    let q = joined_on g h j c a true v o in
    let x : bounds k ≡ bounds j = let y = p.alike.label in cc in
    record {
      bounds_are = x ∙ q.bounds_are;
      format_is = ap (λ (x : Label). x.format) p.alike.label ∙ q.format_is;
      epoch_is = ap (λ (x : Label). x.epoch) p.alike.label ∙ q.epoch_is;
      blocks_are = p.alike.blocks ∙ q.blocks_are;
      counted = let z = size_grows g h c a true v in let w = p.count in omega (arith, o.counted);
    }

-- it is written, flushed and answered
module _ (s t : Session) (c : Call) (y : readable c ≡ true) (a : Told) (v : ServedFirst s.book.ledger t.book.ledger c a true) (j : Appended s.journal t.journal c) where
  pub taken_state : memory t ≡ (first_program (limits s.book.ledger)).next (memory s) c
  taken_state =
      let n : t.journal.count ≡ suc s.journal.count = j.count ∙ add-one s.journal.count in
      let b = after_bank s.book.ledger t.book.ledger c a v in
      let w = j.tail in
      (cc) ∙ sym (taken_next (limits s.book.ledger) (memory s) c (test s t c y a true v))

  pub taken_acts : (n : ℕ) → t.stage ≡ Writing n → answer_of_lem t ≡ a → n ≡ s.journal.count / 24 → left t ≡ (first_program (limits s.book.ledger)).does (memory s) c
  taken_acts n w e k =
      let p : left t ≡ write n t.journal.block.now ∷ (flush ∷ (say (answer_of_lem t) ∷ [])) = rw w refl in
      let f : first_call c ≡ true = first_is c y ∙ (taken_plain s.book.ledger t.book.ledger c a v).0 in
      let x : a ≡ answer (limits s.book.ledger) (bank s.book.ledger) c = said s t c y a true v ∙ ap (λ (b : Bool). pick b (answer (limits s.book.ledger) (bank s.book.ledger) c) (not_yet c)) f in
      let b : t.journal.block.now ≡ journal_block 1 (limits s.book.ledger) 0 (tail s.journal ++ (c ∷ [])) =
      j.bytes ∙ (let u = s.joined.bounds_are in let z = s.joined.format_is in let q = s.joined.epoch_is in cc) in
      p ∙ (cc) ∙ sym (taken_does (limits s.book.ledger) (memory s) c (test s t c y a true v))

-- what a call leaves, all of it
pub record Called (s t : Session) (c : Call) : Type 0 where
  pub state : memory t ≡ (first_program (limits s.book.ledger)).next (memory s) c
  pub acts : left t ≡ (first_program (limits s.book.ledger)).does (memory s) c
  pub limits : limits t.book.ledger ≡ limits s.book.ledger
  pub onward : Onward s.book.ledger t.book.ledger

module _ (s t : Session) (c d : Call) (h : Ledger) (k : Code) (y : readable d ≡ true) (same : c ≡ d) (g : t.book.ledger ≡ h) (e : t.answer ≡ k) where
  served : (did : Bool) → ServedFirst s.book.ledger h c (answered k []) did → ServedFirst s.book.ledger t.book.ledger d (answered k []) did
  served did v =
      subst (λ (x : Call). ServedFirst s.book.ledger t.book.ledger x (answered k []) did) same (subst (λ (x : Ledger). ServedFirst s.book.ledger x c (answered k []) did) (sym g) v)

  pub called_quiet : ServedFirst s.book.ledger h c (answered k []) false → t.journal ≡ s.journal → t.stage ≡ Saying → Called s t d
  called_quiet v j w =
      let u = served false v in
      record {
        state = quiet_state s t d y (answered k []) u j;
        acts = quiet_acts s t d y (answered k []) u j w (ap (λ (x : Code). answered x []) e);
        limits = u.limits_stay;
        onward = u.onward;
      }

  pub called_taken : (n : ℕ) → ServedFirst s.book.ledger h c (answered k []) true → Appended s.journal t.journal c → t.stage ≡ Writing n → n ≡ s.journal.count / 24 → Called s t d
  called_taken n v j w at =
      let u = served true v in
      let q : Appended s.journal t.journal d = subst (λ (x : Call). Appended s.journal t.journal x) same j in
      record {
        state = taken_state s t d y (answered k []) u q;
        acts = taken_acts s t d y (answered k []) u q n w (ap (λ (x : Code). answered x []) e) at;
        limits = u.limits_stay;
        onward = u.onward;
      }
