-- What opening can rely on.
use Rattle.std.proofs.Common.{◌≡◌, ℕ, zero, suc, ◌<◌, ◌≤◌, Bool, true, false, eqb, leb, List, [], ◌∷◌, length, get_or, sym, refl, ap, ◌∙◌, inl, inr, arith, length-take, lt-ltb, eq-eqb, ne_eqb, le-leb}
use Rattle.std.proofs.lemmas.Bool.{and_from}
use Rattle.bank.specs.Book.{pick, Booking, Bank}
use Rattle.bank.specs.Calls.{Call, Limits, ran, new_bank}
use Rattle.bank.specs.Device.{Device}
use Rattle.bank.specs.Promise.{readable, asks, room, allowed}
use Rattle.bank.specs.Bounds.{AmountsBelow, DatedBooking}
use Rattle.bank.proofs.Tally.{Each}
use Rattle.bank.proofs.Sound.{Fine}
use Rattle.bank.proofs.Reached.{reached_sound}
use Rattle.bank.proofs.Bounded.{within}
use Rattle.bank.proofs.Order.{in_order}
use Rattle.model.specs.Core.{book}
use Rattle.model.specs.First.{first_call, size, not_yet, first_program, FirstReading}
use Rattle.bank.specs.Count.{changes}
use Rattle.model.specs.Register.{Register, register_book, new_register}
use Rattle.model.specs.JournalBlock.{call_row, stored, head_in, headed, own, epoch_in, calls_in}
use Rattle.model.specs.Snapshot.{counts_row, counts_of, limits_of, area_blocks, snapshot, snapshot_uses, layout}
use Rattle.model.specs.Whole.{ReachedRegister, whole_program, WholeReading}
use Rattle.model.specs.Opening.{Told, FirstLimitsTold, LimitsTold, rate_sane, booking_sane, in_order_from, sane, snapshot_in, base_in, NeverRefused, FirstNeverRefused, AlwaysOpens, FirstAlwaysOpens}
use Rattle.device.specs.Book.{every, ran_by}
use Rattle.device.specs.Rows.{thing_in, rows_in}
use Rattle.device.specs.Journal.{chunk, logged, HoldsJournal}
use Rattle.device.specs.Checkpoint.{Since, Stands, area}
use Rattle.device.proofs.Rows.{rows_in_length}
use Rattle.device.specs.Lives.{left_at}
use Rattle.device.proofs.Lives.{reads_after}
use Rattle.device.proofs.Journal.{ran_logged}
use Rattle.model.proofs.Bridge.{ran_is, register_ran}
use Rattle.model.proofs.First.{first_grows, first_keeps}
use Rattle.model.proofs.JournalBlock.{headed_limits, headed_format}
use Rattle.bank.specs.Count.{most_calls}
use Rattle.model.proofs.Register.{DatedWell}
use Rattle.model.proofs.ReachedRegister.{reached_facts, reached_bank, reached_sized}
use Rattle.model.proofs.Snapshot.{counts_back}
use Rattle.model.proofs.Whole.{layout_laws, changes_facts, whole_keeps}
use Rattle.device.proofs.Checkpoint.{found}

-- a block that says calls, or a checkpoint, is of this book
calls_headed : (format : ℕ) (l : Limits) (bs : List ℕ) (c : Call) (cs : List Call) → calls_in format l bs ≡ c ∷ cs → headed format l bs ≡ true
unfolding calls_in
calls_headed format l bs c cs e = go (headed format l bs) refl e
  where
    go : (t : Bool) → headed format l bs ≡ t → pick t (rows_in call_row 32 (head_in bs).rows bs) [] ≡ c ∷ cs → headed format l bs ≡ true
    go true t q = t
    go false t q = let z : ◌≡◌ {A = ℕ} 0 1 = cc in absurd (omega arith)

epoch_headed : (format : ℕ) (l : Limits) (bs : List ℕ) → 0 < epoch_in format l bs → headed format l bs ≡ true
unfolding epoch_in
epoch_headed format l bs h = go (headed format l bs) refl h
  where
    go : (t : Bool) → headed format l bs ≡ t → 0 < pick t (head_in bs).epoch 0 → headed format l bs ≡ true
    go true t q = t
    go false t q = absurd (omega arith)

-- a block that is ours and was written is of this book
own_headed : (format : ℕ) (l : Limits) (bs : List ℕ) → own format l bs ≡ true → 0 < (head_in bs).format → headed format l bs ≡ true
unfolding own
own_headed format l bs h g =
    let z : eqb (head_in bs).format 0 ≡ false = ne_eqb (head_in bs).format 0 (λ e. omega arith) in
    rw z at h

told : (format : ℕ) (l : Limits) (ts : List Call) (bs : List ℕ) → 0 < format → own format l bs ≡ true → (0 < (ran l new_bank ts).done → headed format l bs ≡ true) → Told format l ts bs
told format l ts bs p o t =
    record {
      written = λ g. omega (arith, headed_format format l bs (t g));
      format_is = λ g. headed_format format l bs (own_headed format l bs o g);
      limits_are = λ g. headed_limits format l bs (own_headed format l bs o g);
    }

-- the first stage: what was taken is in the journal
first_headed : (l : Limits) → allowed l ≡ true → (d : Device) (ts : List Call) → FirstReading l d ts → 0 < (ran l new_bank ts).done → headed 1 l (d 0) ≡ true
unfolding HoldsJournal
first_headed l a d ts h g = (go (logged (book l) first_call (changes l) [] ts) refl)
  where
    same : ran l new_bank ts ≡ ran_by (book l) new_bank (logged (book l) first_call (changes l) [] ts)
    same = sym (ran_is l new_bank ts) ∙ (unfold ran_by in ran_logged (book l) first_call stored asks 24 (omega arith) (room l) (changes l) size (first_grows l a) [] ts h.0)

    go : (s : List Call) → logged (book l) first_call (changes l) [] ts ≡ s → headed 1 l (d 0) ≡ true
    go [] e =
        let z : ran l new_bank ts ≡ new_bank = same ∙ ap (λ (s : List Call). ran_by (book l) new_bank s) e ∙ (unfold ran_by in refl) in
        absurd (omega (arith, ap (λ (n : Bank). n.done) z))
    go (c ∷ s) e = calls_headed 1 l (d 0) c _ ((h.1 0 (omega arith)).reads ∙ ap (λ (s : List Call). chunk 24 0 s) e)

pub first_limits_told : (l : Limits) → allowed l ≡ true → FirstLimitsTold l
unfolding HoldsJournal
first_limits_told l a d ts h = told 1 l ts (d 0) (omega arith) (h.1 0 (omega arith)).mine (λ g. first_headed l a d ts h g)

first_rows : (l : Limits) (d : Device) (ts : List Call) → FirstReading l d ts → (i : ℕ) → i < room l → headed 1 l (d i) ≡ true → (head_in (d i)).rows ≤ 24
unfolding HoldsJournal calls_in
first_rows l d ts h i m t =
    let q : rows_in call_row 32 (head_in (d i)).rows (d i) ≡ chunk 24 i (logged (book l) first_call (changes l) [] ts) = rw t at (h.1 i m).reads in
    let n : length (chunk 24 i (logged (book l) first_call (changes l) [] ts)) ≤ 24 = simp length-take (omega arith) in
    omega (arith, rows_in_length call_row 32 (head_in (d i)).rows (d i), ap length q)

pub first_never_refused : (l : Limits) → FirstNeverRefused l
unfolding HoldsJournal
first_never_refused l d ts h = record { mine = λ i m. (h.1 i m).mine; rows = first_rows l d ts h }

-- the whole: what was taken is in the journal, or in a snapshot
module _ (l : Limits) where
  abbrev pub On : Since Call Register → Device → List Call → Type 0
  On = Stands (register_book l) readable (λ k. changes l k.bank) (layout l) not_yet 24 42 (area_blocks l) stored (λ k. k.bank.done) (ReachedRegister l)

  ran_none : (k : Register) → ran_by (register_book l) k [] ≡ k
  unfolding ran_by
  ran_none k = refl

  whole_headed : (d : Device) (ts : List Call) → WholeReading l d ts → 0 < (ran l new_bank ts).done → headed 2 l (d 0) ≡ true
  whole_headed d ts h g = (go s.epoch s.log refl refl)
    where
      s : Since Call Register
      s = h.0

      on : On s d ts
      on = h.1

      done : (ran_by (register_book l) s.base s.log).bank.done ≡ (ran l new_bank ts).done
      done = ap (λ (k : Register). k.bank.done) on.same ∙ ap (λ (n : Bank). n.done) (register_ran l new_register ts ∙ ran_is l new_bank ts)

      new : s.epoch ≡ 0 → s.base ≡ new_register
      new e = elim on.base_is [ inl q ↦ q.1 | inr q ↦ absurd (omega (arith, q.0)) ]

      go : (e : ℕ) (cs : List Call) → s.epoch ≡ e → s.log ≡ cs → headed 2 l (d 0) ≡ true
      go (suc e) cs x y = epoch_headed 2 l (d 0) (omega (arith, on.tag_is))
      go zero [] x y =
          let z : ran_by (register_book l) s.base s.log ≡ new_register = ap (λ (cs : List Call). ran_by (register_book l) s.base cs) y ∙ ran_none s.base ∙ new x in
          absurd (omega (arith, done, ap (λ (k : Register). k.bank.done) z))
      go zero (c ∷ cs) x y =
          let t : eqb (epoch_in 2 l (d 0)) s.epoch ≡ true = eq-eqb (epoch_in 2 l (d 0)) s.epoch on.tag_is in
          calls_headed 2 l (d 0) c _ ((rw t at (on.log_is 0 (omega arith))) ∙ ap (λ (s : List Call). chunk 24 0 s) y)

  pub limits_told : LimitsTold l
  limits_told d ts h = told 2 l ts (d 0) (omega arith) (h.1.mine 0 (omega arith)) (λ g. whole_headed d ts h g)

-- a bank that calls can bring about is sane
each_every : {X : Type 0} (P : X → Type 0) (ok : X → Bool) → ((x : X) → P x → ok x ≡ true) → (xs : List X) → Each P xs → every ok xs ≡ true
unfolding every
each_every P ok f [] h = refl
each_every P ok f (x ∷ xs) h = and_from (ok x) (every ok xs) (f x h.0) (each_every P ok f xs h.1)

bookings_sane : (t m : ℕ) (bs : List Booking) → Each (Fine t m) bs → AmountsBelow 1000000000000 bs → ((i : ℕ) (e : Booking) → i < length bs → DatedBooking (get_or bs i e)) →
    every (booking_sane t m) bs ≡ true
unfolding every AmountsBelow
bookings_sane t m [] f a d = refl
bookings_sane t m (b ∷ bs) f a d =
    let w : Fine t m b = f.0 in
    let u : DatedBooking b = d 0 b (omega arith) in
    and_from (booking_sane t m b) (every (booking_sane t m) bs)
    (and_from _ _ (and_from _ _ (le-leb _ _ w.on_by) (and_from _ _ (le-leb _ _ u.early) (le-leb _ _ u.late)))
    (and_from _ _ (and_from _ _ (lt-ltb _ _ w.from_there) (lt-ltb _ _ w.to_there))
    (and_from _ _ (lt-ltb _ _ a.0) (and_from _ _ (le-leb _ _ w.two_kinds) (le-leb _ _ w.back_by)))))
    (bookings_sane t m bs f.1 a.1 (λ i e h. d (suc i) e (omega arith)))

bookings_in_order : (t : ℕ) (bs : List Booking) → ((i : ℕ) (e : Booking) → i < length bs → t ≤ (get_or bs i e).on) →
    ((i j : ℕ) (e : Booking) → i ≤ j → j < length bs → (get_or bs i e).on ≤ (get_or bs j e).on) → in_order_from t bs ≡ true
unfolding in_order_from
bookings_in_order t [] f o = refl
bookings_in_order t (b ∷ bs) f o =
    and_from (leb t b.on) (in_order_from b.on bs) (le-leb t b.on (f 0 b (omega arith)))
    (bookings_in_order b.on bs (λ i e h. o 0 (suc i) e (omega arith) (omega arith)) (λ i j e h g. o (suc i) (suc j) e (omega arith) (omega arith)))

reached_sane : (l : Limits) → allowed l ≡ true → (k : Register) → ReachedRegister l k → sane l k ≡ true
reached_sane l a k h =
    let f = reached_facts l a k h in
    let r = reached_bank l k h in
    let s = reached_sound k.bank r in
    let o = in_order k.bank r in
    let m : ℕ = length k.bank.accounts in
    and_from _ _ (and_from _ _ f.counts.fit (le-leb _ _ s.two))
    (and_from _ _
    (and_from _ _ (each_every (λ (x : ℕ). x ≤ 100000000000) (λ x. leb x 100000000000) (λ x q. le-leb x 100000000000 q) (limits_of k.bank.accounts) f.well.small)
    (each_every (DatedWell k.bank.today m) (rate_sane k.bank.today m)
    (λ x q. and_from _ _ (lt-ltb _ _ q.there) (and_from _ _ (le-leb _ _ q.by_then) (le-leb _ _ q.low))) k.rates f.well.dates))
    (and_from _ _ (bookings_sane k.bank.today m k.bank.bookings s.fine (within k.bank r).amounts o.dated)
    (bookings_in_order 0 k.bank.bookings (λ i e q. omega arith) o.ordered)))

-- no device that reads as calls is refused
module _ (l : Limits) (a : allowed l ≡ true) where
  start : (s : Since Call Register) (d : Device) (ts : List Call) → On l s d ts → base_in l d ≡ s.base
  start s d ts h =
      ap (λ (x : Since Call Register). x.base)
      (found (register_book l) readable stored asks (λ k. changes l k.bank) (λ k. k.bank.done) (ReachedRegister l) (most_calls l) (changes_facts l a) 24 (omega arith) 42 (area_blocks l)
      (omega arith) (omega arith) (layout l) (layout_laws l a) not_yet s d ts h)

  rows_few : (s : Since Call Register) (d : Device) (ts : List Call) → On l s d ts → (i : ℕ) → i < 42 → headed 2 l (d i) ≡ true → epoch_in 2 l (d i) ≡ epoch_in 2 l (d 0) → (head_in (d i)).rows ≤ 24
  unfolding calls_in
  rows_few s d ts h i m t e =
      let z : eqb (epoch_in 2 l (d i)) s.epoch ≡ true = eq-eqb (epoch_in 2 l (d i)) s.epoch (e ∙ h.tag_is) in
      let q : rows_in call_row 32 (head_in (d i)).rows (d i) ≡ chunk 24 i s.log = rw (z, t) at (h.log_is i m) in
      let n : length (chunk 24 i s.log) ≤ 24 = simp length-take (omega arith) in
      omega (arith, rows_in_length call_row 32 (head_in (d i)).rows (d i), ap length q)

  counts_told : (s : Since Call Register) (d : Device) (ts : List Call) → On l s d ts → 0 < epoch_in 2 l (d 0) → thing_in counts_row (snapshot_in l d 0) ≡ counts_of (base_in l d)
  unfolding snapshot snapshot_uses
  counts_told s d ts h g =
      elim h.base_is [
        | inl q ↦ absurd (omega (arith, h.tag_is, q.0))
        | inr q ↦
            counts_back s.base (snapshot_in l d 0) (reached_sized l a s.base h.sound.based)
            (ap (λ (e : ℕ). d (area 42 (area_blocks l) e 0)) h.tag_is ∙ q.1 0 (omega arith) refl)
            ∙ ap counts_of (sym (start s d ts h))
      ]

  pub never_refused : NeverRefused l
  never_refused d ts h =
      record {
        mine = h.1.mine;
        rows = rows_few h.0 d ts h.1;
        counts = counts_told h.0 d ts h.1;
        snapshot_sane = rw (start h.0 d ts h.1) (reached_sane l a h.0.base h.1.sound.based);
      }

  pub always_opens : AlwaysOpens l
  always_opens d z xs h g =
      let r = reads_after (book l) (whole_program l) (room l) readable readable asks (WholeReading l) (whole_keeps l a) xs d [] ((whole_keeps l a).empty d z) h g in
      never_refused (left_at d xs) r.0 r.1

  pub first_always_opens : FirstAlwaysOpens l
  first_always_opens d z xs h g =
      let r = reads_after (book l) (first_program l) (room l) readable first_call asks (FirstReading l) (first_keeps l a) xs d [] ((first_keeps l a).empty d z) h g in
      first_never_refused l (left_at d xs) r.0 r.1
