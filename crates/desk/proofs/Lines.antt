-- The lines of a statement: those from a booking on, one by one.
use Rattle.std.proofs.Common.{◌≡◌, ℕ, zero, suc, ◌+◌, ◌<◌, ◌≤◌, Bool, true, false, ◌&&◌, ◌||◌, eqb, ltb, leb, List, [], ◌∷◌, length, get_or, drop, sym, refl, ap, ◌∙◌, arith}
use Rattle.std.proofs.Math.Logic.{∥∥₁_elim}
use Rattle.std.proofs.Props.{props}
use Rattle.std.proofs.lemmas.List.{at_drop_more, at_drop_all, get_or-drop, get_or-map, length-drop, length-map}
use Rattle.std.proofs.lemmas.List.Sorted.{IsNonDecreasingBy-from_default}
use Rattle.std.proofs.lemmas.Bool.{and_left, and_right, lt-leb, ltb-true, ltb-false}
use Rattle.std.specs.List.Sorted.{IsNonDecreasingBy, IsPartitionPoint}
use Rattle.columns.specs.Rows.{booked_days}
use Rattle.bank.specs.Book.{pick, Booking, Bank}
use Rattle.bank.specs.Bounds.{InOrder}
use Rattle.bank.specs.Builders.{booking_at}
use Rattle.bank.specs.Calls.{statement, told, lines, lines_of, none_there}
use Rattle.bank.proofs.Order.{in_order}
use Rattle.model.proofs.ReachedRegister.{reached_bank}
use Rattle.ledger.specs.Meaning.{bank, register, limits}
use Rattle.ledger.specs.declared.Ledger.{Ledger}
use Rattle.wire.proofs.Answers.{few_lines}
use Rattle.desk.specs.Desk.{Kept}
use Rattle.desk.specs.Statements.{lines_left}
use Rattle.desk.specs.declared.statement.Statement.{Statement}

-- is a booking a line of account a, from day d to day e
abbrev pub is_line : ℕ → ℕ → ℕ → Booking → Bool
is_line a d e b = (eqb b.from a || eqb b.to a) && (leb d b.on && leb b.on e)

module _ (a d e : ℕ) where
  pub early_none : (b : Booking) → b.on < d → is_line a d e b ≡ false
  early_none b h = and_right (eqb b.from a || eqb b.to a) _ (and_left (leb d b.on) _ (lt-leb _ _ h))

  pub late_none : (b : Booking) → e < b.on → is_line a d e b ≡ false
  late_none b h = and_right (eqb b.from a || eqb b.to a) _ (and_right (leb d b.on) _ (lt-leb _ _ h))

  pub lines_more : (bs : List Booking) (i : ℕ) → i < length bs → lines_of a d e (drop i bs) ≡
      pick (is_line a d e (get_or bs i none_there)) (get_or bs i none_there ∷ lines_of a d e (drop (i + 1) bs)) (lines_of a d e (drop (i + 1) bs))
  unfolding lines_of
  lines_more bs i h = at_drop_more (lines_of a d e) bs i none_there h

  pub lines_end : (bs : List Booking) (i : ℕ) → length bs ≤ i → lines_of a d e (drop i bs) ≡ []
  unfolding lines_of
  lines_end bs i h = at_drop_all (lines_of a d e) bs i h

  lines_none : (bs : List Booking) → ((k : ℕ) → k < length bs → is_line a d e (get_or bs k none_there) ≡ false) → lines_of a d e bs ≡ []
  unfolding lines_of
  lines_none [] h = refl
  lines_none (b ∷ bs) h = rw (h 0 (omega arith)) (lines_none bs (λ k u. h (suc k) (omega arith)))

  -- the bookings before the first day are no lines
  pub lines_skip : (bs : List Booking) (i : ℕ) → i ≤ length bs → ((k : ℕ) → k < i → (get_or bs k none_there).on < d) → lines_of a d e (drop i bs) ≡ lines_of a d e bs
  unfolding lines_of
  lines_skip bs zero u h = refl
  lines_skip [] (suc i) u h = absurd (omega arith)
  lines_skip (b ∷ bs) (suc i) u h = rw (early_none b (h 0 (omega arith))) (lines_skip bs i (omega arith) (λ k v. h (suc k) (omega arith)))

  -- from a booking after the last day on there is no line
  pub lines_late : (n : Bank) → InOrder n → (i : ℕ) → i < length n.bookings → e < (booking_at n i).on → lines_of a d e (drop i n.bookings) ≡ []
  lines_late n o i u h =
      lines_none (drop i n.bookings)
      (λ k v.
      let w : i + k < length n.bookings = omega (arith, v, length-drop i n.bookings) in
      ap (is_line a d e) (get_or-drop i n.bookings k none_there) ∙ late_none (booking_at n (i + k)) (omega (arith, h, o.ordered i (i + k) none_there (omega arith) w)))

-- a statement at its next booking: it is handed out, passed over, or after the last day
module _ (n : Bank) (s : Statement) (b : Booking) (q : b ≡ booking_at n s.next) (u : s.next < length n.bookings) where
  abbrev passed : Statement
  passed = record { account = s.account; first = s.first; last = s.last; next = s.next + 1 }

  more : lines_left n s ≡ pick (is_line s.account s.first s.last b) (b ∷ lines_left n passed) (lines_left n passed)
  more = lines_more s.account s.first s.last n.bookings s.next u ∙ ap (λ (x : Booking). pick (is_line s.account s.first s.last x) (x ∷ lines_left n passed) (lines_left n passed)) (sym q)

  pub line_is : (t : Bool) → t ≡ is_line s.account s.first s.last b → t ≡ true → lines_left n s ≡ b ∷ lines_left n passed
  line_is t w e = more ∙ ap (λ (x : Bool). pick x (b ∷ lines_left n passed) (lines_left n passed)) (sym w ∙ e)

  pub line_is_not : (t : Bool) → t ≡ is_line s.account s.first s.last b → t ≡ false → lines_left n s ≡ lines_left n passed
  line_is_not t w e = more ∙ ap (λ (x : Bool). pick x (b ∷ lines_left n passed) (lines_left n passed)) (sym w ∙ e)

  pub line_late : InOrder n → s.last < b.on → lines_left n s ≡ []
  line_late o h = lines_late s.account s.first s.last n o s.next u (omega (arith, h, ap (λ (x : Booking). x.on) q))

-- all lines, from the first booking of the first day on
pub lines_begin : (n : Bank) (a d e i : ℕ) → i ≤ length n.bookings → ((k : ℕ) → k < i → (booking_at n k).on < d) → told n (statement a d e) ≡ lines (lines_of a d e (drop i n.bookings))
unfolding told
lines_begin n a d e i u h = ap lines (sym (lines_skip a d e n.bookings i u h))

-- how many there can be
pub left_few : (n : Bank) (s : Statement) → length (lines_left n s) ≤ length n.bookings
left_few n s = omega (arith, few_lines s.account s.first s.last (drop s.next n.bookings), length-drop s.next n.bookings)

-- a search over the days on which bookings were booked finds the first of a day or a later one
module _ (n : Bank) where
  pub days_rise : InOrder n → IsNonDecreasingBy (λ x. x) (booked_days n.bookings)
  days_rise o =
      IsNonDecreasingBy-from_default (λ x. x) (booked_days n.bookings) none_there.on (λ i j le lt.
      let k : j < length n.bookings = omega (arith, lt, length-map n.bookings (λ b. b.on)) in
      rw (get_or-map (λ b. b.on) n.bookings i none_there none_there.on (omega arith), get_or-map (λ b. b.on) n.bookings j none_there none_there.on k) (o.ordered i j none_there le k))

  module _ (day i : ℕ) (u : i ≤ length n.bookings) (p : IsPartitionPoint (λ x. ltb x day ≡ true) (λ x. ltb x day ≡ false) (booked_days n.bookings) i) where
    pub point_before : (k : ℕ) → k < i → (booking_at n k).on < day
    point_before k h = let e = get_or-map (λ b. b.on) n.bookings k none_there none_there.on (omega arith) in ltb-true _ _ (rw (sym e) (p.0 k none_there.on (omega arith) h))

    pub point_from : i < length n.bookings → day ≤ (booking_at n i).on
    point_from h =
        let e = get_or-map (λ b. b.on) n.bookings i none_there none_there.on h in
        ltb-false _ _ (rw (sym e) (p.1 i none_there.on (omega arith) (omega (arith, h, length-map n.bookings (λ b. b.on)))))

-- bookings of a book stand in their order
pub booked_in_order : (g : Ledger) → Kept g → InOrder (bank g)
booked_in_order g k = ∥∥₁_elim k.reached (hlevel props) (λ r. in_order (bank g) (reached_bank (limits g) (register g) r))
