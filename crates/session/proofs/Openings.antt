-- Blocks that are read while a session is opened.
use Rattle.std.proofs.Common.{◌≡◌, ℕ, ◌+◌, ◌*◌, max, Bool, true, false, ◌&&◌, eqb, ltb, leb, List, ◌++◌, Some, None, Option, is_some, IfSome, sym, ap, ◌∙◌, subst}
use Rattle.std.proofs.lemmas.Option.{cond_some}
use Rattle.std.proofs.lemmas.Bool.{and_parts, false≢true}
use Rattle.device.specs.Device.{pick}
use Rattle.device.specs.Rows.{rows_in}
use Rattle.bank.specs.Calls.{Call, Limits}
use Rattle.bank.specs.Promise.{allowed}
use Rattle.columns.specs.Sizes.{cents_for, numbers_for}
use Rattle.ledger.specs.Opened.{misfit as ledger-misfit}
use Rattle.ledger.specs.declared.opening.Misfit.{Misfit}
use Rattle.ledger.specs.declared.opening.Misfit.TheVariants.{Memory, Bounds}
use Rattle.model.specs.JournalBlock.{call_row}
use Rattle.device.specs.Book.{ran_by}
use Rattle.bank.specs.Calls.{new_bank}
use Rattle.model.specs.Core.{book}
use Rattle.ledger.specs.Meaning.{bank, limits}
use Rattle.journal.specs.declared.journal.Journal.{Journal}
use Rattle.journal.specs.Tail.{bounds, Stands}
use Rattle.journal.specs.Recovery.{accepts, accepts_next, next_rows, rows_of, Took}
use Rattle.desk.specs.declared.Book.{Book}
use Rattle.session.specs.declared.Session.{Session}
use Rattle.session.specs.declared.opening.Opening.{Opening}
use Rattle.session.specs.Session.{At}
use Rattle.session.specs.Replay.{Grown}
use Rattle.session.specs.Opening.{Advanced, outer_misfit, misfit}

-- tests of a block by the first stage's journal
first_accepts : (s : Session) (bs : List ℕ) → accepts s.journal.label.format (bounds s.journal) s.journal.label.epoch s.journal.read s.journal.count bs
    ≡ accepts 1 (limits s.book.ledger) 0 s.journal.read s.journal.count bs
first_accepts s bs =
    ap (λ (f : ℕ). accepts f (bounds s.journal) s.journal.label.epoch s.journal.read s.journal.count bs) s.joined.format_is
    ∙ ap (λ (l : Limits). accepts 1 l s.journal.label.epoch s.journal.read s.journal.count bs) s.joined.bounds_are
    ∙ ap (λ (e : ℕ). accepts 1 (limits s.book.ledger) e s.journal.read s.journal.count bs) s.joined.epoch_is

first_rows : (s : Session) (bs : List ℕ) → next_rows s.journal bs ≡ rows_of 1 (limits s.book.ledger) 0 bs
first_rows s bs =
    ap (λ (f : ℕ). rows_of f (bounds s.journal) s.journal.label.epoch bs) s.joined.format_is
    ∙ ap (λ (l : Limits). rows_of 1 l s.journal.label.epoch bs) s.joined.bounds_are
    ∙ ap (λ (e : ℕ). rows_of 1 (limits s.book.ledger) e bs) s.joined.epoch_is

-- a block was taken, and its rows
module _ (s : Session) (j : Journal) (bs : List ℕ) (n : ℕ) (t : Took s.journal j bs (Some n)) where
  pub taken_rows : n ≡ rows_of 1 (limits s.book.ledger) 0 bs
  taken_rows = sym (cond_some (accepts_next s.journal bs) (next_rows s.journal bs) n (sym t.found)).1 ∙ first_rows s bs

  next_accepted : accepts_next s.journal bs ≡ true
  next_accepted = (cond_some (accepts_next s.journal bs) (next_rows s.journal bs) n (sym t.found)).0

  pub taken_accepted : accepts 1 (limits s.book.ledger) 0 s.journal.read s.journal.count bs ≡ true
  taken_accepted = sym (first_accepts s bs) ∙ (and_parts (ltb s.journal.read s.journal.blocks) _ next_accepted).1

  pub taken_read : j.read ≡ s.journal.read + 1
  taken_read = t.read ∙ ap (λ (b : Bool). s.journal.read + pick b 1 0) next_accepted

-- what holds of a value holds where it is not missing
pub where_some : {X : Type 0} (r : Option X) (P : Type 0) → IfSome r (λ _. P) → is_some r ≡ true → P
where_some (Some x) P h e = h
where_some None P h e = absurd (false≢true e)

-- one block more
pub advances : (o p : Opening) (q : Session) (bs : List ℕ) (n : ℕ) → o.refused ≡ false → p.refused ≡ false → Took o.session.journal q.journal bs (Some n) → q.book ≡ o.session.book → q.stage ≡ o.session.stage →
    ((b : List Call) → Stands o.session.journal b → Stands q.journal b) → Grown q p.session (rows_in call_row 32 n bs) → Advanced o p bs
advances o p q bs n w v t e f st g =
    record {
      was_open = w;
      still_open = v;
      accepted = taken_accepted o.session q.journal bs n t;
      limits_stay = g.limits_stay ∙ ap (λ (b : Book). limits b.ledger) e;
      read_is = g.read_stays ∙ taken_read o.session q.journal bs n t;
      blocks_stay = g.blocks_stay ∙ t.blocks;
      stage_stays = g.stage_stays ∙ f;
      stands = λ base at.
          subst (λ (k : ℕ). At p.session (base ++ rows_in call_row 32 k bs)) (taken_rows o.session q.journal bs n t)
          (g.stands base (record { bank_is = ap (λ (b : Book). bank b.ledger) e ∙ at.bank_is ∙ ap (λ (b : Book). ran_by (book (limits b.ledger)) new_bank base) (sym e); stands = st base at.stands }));
    }

-- what misfits before the book's own cells are looked at misfits; and where nothing does, what the book says does
outside_bools : (a s t : Bool) (m : Misfit) → pick a (pick t None (Some Memory)) (Some Bounds) ≡ Some m → pick a (pick (s && t) None (Some Memory)) (Some Bounds) ≡ Some m
outside_bools true true t m e = e
outside_bools true false true m e = cc
outside_bools true false false m e = e
outside_bools false s t m e = e

inside_bools : (a s t : Bool) (r : Option Misfit) → pick a (pick t None (Some Memory)) (Some Bounds) ≡ None → pick a (pick s None (Some Memory)) (Some Bounds) ≡ r →
    pick a (pick (s && t) None (Some Memory)) (Some Bounds) ≡ r
inside_bools true true true r e f = f
inside_bools true false true r e f = f
inside_bools true s false r e f = cc
inside_bools false s t r e f = cc

module _ (l : Limits) (cents numbers block bytes : ℕ) where
  pub misfit_outside : (m : Misfit) → outer_misfit l block bytes ≡ Some m → misfit l cents numbers block bytes ≡ Some m
  misfit_outside m e = outside_bools (allowed l) (leb (cents_for l) cents && leb (numbers_for l) numbers) (eqb block 512 && leb (max 17 (9 + 56 * l.bookings)) bytes) m e

  pub misfit_inside : (r : Option Misfit) → outer_misfit l block bytes ≡ None → ledger-misfit l cents numbers ≡ r → misfit l cents numbers block bytes ≡ r
  misfit_inside r e f = inside_bools (allowed l) (leb (cents_for l) cents && leb (numbers_for l) numbers) (eqb block 512 && leb (max 17 (9 + 56 * l.bookings)) bytes) r e f
