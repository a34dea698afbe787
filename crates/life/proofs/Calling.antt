-- A call of a life: there is room for its acts, and what is left of the life gives what all of it gives.
use Rattle.std.proofs.Common.{◌≡◌, ℕ, zero, suc, ◌+◌, ◌-◌, ◌/◌, ◌<◌, ◌≤◌, Bool, true, false, ◌&&◌, List, [], ◌∷◌, ◌++◌, length, get_or, take, drop, sym, refl, ap, ◌∙◌, add-one, arith, Bor}
use Rattle.std.proofs.lemmas.Bool.{and_parts}
use Rattle.device.specs.Device.{write, flush, say, acts}
use Rattle.device.specs.Resident.{Memory}
use Rattle.bank.specs.Book.{Bank}
use Rattle.bank.specs.Calls.{Call, Limits}
use Rattle.bank.specs.Calls.{Answer as Reply}
use Rattle.bank.specs.Count.{changes}
use Rattle.bank.specs.Device.{Act}
use Rattle.bank.specs.Promise.{readable, all_readable, plain, room}
use Rattle.model.specs.First.{first_call, first_program}
use Rattle.model.proofs.First.{more}
use Rattle.model.proofs.Steps.{taken_does, quiet_does}
use Rattle.wire.specs.Answered.{written_answer}
use Rattle.wire.specs.Format.{read_call_lem}
use Rattle.ledger.specs.Meaning.{bank, limits}
use Rattle.session.specs.declared.Session.{Session}
use Rattle.session.specs.declared.Stage.{Stage}
use Rattle.session.specs.declared.Stage.TheVariants.{Idle, Writing, Flushing, Saying}
use Rattle.session.specs.Session.{memory, left_of, left, answer_of_lem}
use Rattle.session.proofs.Replies.{plain_short}
use Rattle.life.specs.Heard.{rows_read}
use Rattle.life.specs.Life.{World, after_acts, Space, Fits}
use Rattle.life.proofs.Runs.{take_two}

-- the block of the first write
place_of : List Act → ℕ
place_of [] = 0
place_of (write k bs ∷ xs) = k
place_of (flush ∷ xs) = 0
place_of (say a ∷ xs) = 0

-- a block that is written is one of the journal's
placed : (s t : Session) (c : Call) (k : ℕ) → left t ≡ (first_program (limits s.book.ledger)).does (memory s) c → t.stage ≡ Writing k → k < room (limits s.book.ledger)
unfolding place_of
placed s t c k e w = go (first_call c && changes l (bank s.book.ledger) c) refl
  where
    l : Limits
    l = limits s.book.ledger

    here : k ≡ place_of (left t)
    here = rw w refl

    go : (b : Bool) → (first_call c && changes l (bank s.book.ledger) c) ≡ b → k < room l
    go true q =
        let p : k ≡ s.journal.count / 24 = here ∙ ap place_of (e ∙ taken_does l (memory s) c q) in
        let f = and_parts (first_call c) (changes l (bank s.book.ledger) c) q in
        let m = more l (bank s.book.ledger) c (and_parts (readable c) (plain c) f.0).1 f.1 in
        omega (arith, p, m.0, m.1, s.joined.counted)
    go false q = let p : k ≡ 0 = here ∙ ap place_of (e ∙ quiet_does l (memory s) c q) in omega (arith, p)

fits_stage : (g : Stage) (n : ℕ) (b : List ℕ) (a : Reply) (w : Space) → w.pending ≡ 0 → 0 < w.most → ((k : ℕ) → g ≡ Writing k → k < w.blocks) → length b ≡ 512 → length (written_answer a) ≤ 17 → 17 + n ≤ w.free →
    Fits n w (left_of g b a)
fits_stage Idle n b a w p m h d i f = (p, omega (arith, f))
fits_stage (Writing k) n b a w p m h d i f = (omega (arith, p, m), h k refl, d, (omega (arith, i, f), (refl, omega (arith, i, f))))
fits_stage Flushing n b a w p m h d i f = (omega (arith, i, f), (refl, omega (arith, i, f)))
fits_stage Saying n b a w p m h d i f = (omega (arith, i, f), (p, omega (arith, i, f)))

-- there is room for the acts of a call where nothing is pending
pub call_fits : (s t : Session) (c : Call) (n : ℕ) (w : Space) → left t ≡ (first_program (limits s.book.ledger)).does (memory s) c → room (limits s.book.ledger) ≤ w.blocks →
    w.pending ≡ 0 → 0 < w.most → 17 + n ≤ w.free → Fits n w (left t)
call_fits s t c n w e b p m f =
    fits_stage t.stage n t.journal.block.now (answer_of_lem t) w p m (λ k g. omega (arith, placed s t c k e g, b)) t.journal.whole (plain_short t.answer) f

-- the row that comes next
rest_cons : (rows : List (Bor (List ℕ))) (i : ℕ) (d : Bor (List ℕ)) → i < length rows → drop i (rows_read rows) ≡ read_call_lem (get_or rows i d).now ∷ drop (suc i) (rows_read rows)
rest_cons [] i d h = absurd (omega arith)
rest_cons (r ∷ rows) zero d h = refl
rest_cons (r ∷ rows) (suc i) d h = rest_cons rows i d (omega arith)

rest_none : (rows : List (Bor (List ℕ))) (i : ℕ) → length rows ≤ i → drop i (rows_read rows) ≡ []
rest_none [] zero h = refl
rest_none [] (suc i) h = refl
rest_none (r ∷ rows) zero h = absurd (omega arith)
rest_none (r ∷ rows) (suc i) h = rest_none rows i (omega arith)

-- the rows can be read
pub readable_more : (rows : List (Bor (List ℕ))) (i : ℕ) (d : Bor (List ℕ)) → i < length rows → readable (read_call_lem (get_or rows i d).now) ≡ true →
    all_readable (drop i (rows_read rows)) ≡ all_readable (drop (i + 1) (rows_read rows))
unfolding all_readable
readable_more rows i d h r =
    ap all_readable (rest_cons rows i d h) ∙ ap (λ (b : Bool). b && all_readable (drop (suc i) (rows_read rows))) r ∙ ap (λ (k : ℕ). all_readable (drop k (rows_read rows))) (sym (add-one i))

pub readable_all : (rows : List (Bor (List ℕ))) (i : ℕ) → length rows ≤ i → all_readable (drop i (rows_read rows)) ≡ true
unfolding all_readable
readable_all rows i h = ap all_readable (rest_none rows i h)

-- one call of a life
live_step : (l : Limits) (m m' : Memory Call Bank) (c : Call) (cs : List Call) (xs : List Act) (v w : World) (n n' : ℕ) → m' ≡ (first_program l).next m c → xs ≡ (first_program l).does m c →
    w ≡ after_acts v (take n xs) → n' ≡ n - length xs → after_acts w (take n' (acts (first_program l) m' cs)) ≡ after_acts v (take n (acts (first_program l) m (c ∷ cs)))
unfolding acts
live_step l m m' c cs xs v w n n' p q r s =
    ap (λ x. after_acts w (take n' (acts (first_program l) x cs))) p ∙ ap (λ x. after_acts x (take n' (acts (first_program l) ((first_program l).next m c) cs))) r
    ∙ ap (λ x. after_acts (after_acts v (take n xs)) (take x (acts (first_program l) ((first_program l).next m c) cs))) s
    ∙ sym (take_two n v xs (acts (first_program l) ((first_program l).next m c) cs)) ∙ ap (λ x. after_acts v (take n (x ++ acts (first_program l) ((first_program l).next m c) cs))) q

module _ (l : Limits) (rows : List (Bor (List ℕ))) (i : ℕ) (d : Bor (List ℕ)) where
  pub lived_more : (s t u : Session) (v w : World) (n n' : ℕ) → i < length rows → limits s.book.ledger ≡ l → memory u ≡ memory t →
      memory t ≡ (first_program (limits s.book.ledger)).next (memory s) (read_call_lem (get_or rows i d).now) → left t ≡ (first_program (limits s.book.ledger)).does (memory s) (read_call_lem (get_or rows i d).now) →
      w ≡ after_acts v (take n (left t)) → n' ≡ n - length (left t) →
      after_acts w (take n' (acts (first_program l) (memory u) (drop (i + 1) (rows_read rows)))) ≡ after_acts v (take n (acts (first_program l) (memory s) (drop i (rows_read rows))))
  lived_more s t u v w n n' lt e m x y p q =
      let c = read_call_lem (get_or rows i d).now in
      ap (λ k. after_acts w (take n' (acts (first_program l) (memory u) (drop k (rows_read rows))))) (add-one i)
      ∙ live_step l (memory s) (memory u) c (drop (suc i) (rows_read rows)) (left t) v w n n' (m ∙ x ∙ ap (λ k. (first_program k).next (memory s) c) e) (y ∙ ap (λ k. (first_program k).does (memory s) c) e) p q
      ∙ ap (λ k. after_acts v (take n (acts (first_program l) (memory s) k))) (sym (rest_cons rows i d lt))

-- no call is left
pub lived_all : (l : Limits) (rows : List (Bor (List ℕ))) (i : ℕ) (m : Memory Call Bank) (v : World) (n : ℕ) → length rows ≤ i → after_acts v (take n (acts (first_program l) m (drop i (rows_read rows)))) ≡ v
unfolding acts after_acts
lived_all l rows i m v zero h = refl
lived_all l rows i m v (suc n) h = rw (rest_none rows i h) refl

-- the budget is used up
pub lived_out : (v : World) (n : ℕ) (xs : List Act) → n ≡ 0 → after_acts v (take n xs) ≡ v
unfolding after_acts
lived_out v n xs h = rw h refl
