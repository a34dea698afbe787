-- Laws of bookings and rates in columns: one more row, and a row that is marked.
use Rattle.std.proofs.Common.{◌≡◌, ℕ, zero, suc, ◌+◌, ◌*◌, ◌<◌, ◌≤◌, Bool, eqb, ◌≢◌, [], ◌∷◌, length, get_or, set, take, sym, refl, ap, ◌∙◌, inl, inr, arith}
use Rattle.std.proofs.Math.ListN.{get_or-map}
use Rattle.std.proofs.lemmas.List.{ext_get_or, length-map, length-take-le, get_or-take, get_or-set_same, get_or-set_other, get_or_append_left, get_or_push}
use Rattle.std.proofs.lemmas.Bool.{cases_eq}
use Rattle.bank.specs.Book.{pick, Booking}
use Rattle.bank.specs.Calls.{none_there, marked}
use Rattle.bank.specs.Sums.{tally}
use Rattle.bank.proofs.Tally.{tally_append, pick_at_most}
use Rattle.model.specs.Register.{Dated}
use Rattle.wire.specs.Booked.{kind_number, mark, booked}
use Rattle.wire.specs.declared.booking.Booking.{Booking as Entry}
use Rattle.wire.specs.declared.booking.Kind.{Kind}
use Rattle.wire.specs.declared.booking.Kind.TheVariants.{Order, Interest}
use Rattle.columns.specs.Firsts.{first_of}
use Rattle.columns.specs.Rows.{row, rows, booked_days, Appended, Marked}
use Rattle.columns.specs.RateRows.{rate_row, Rated, RateAdded}
use Rattle.columns.specs.declared.bookings.Bookings.{Bookings}
use Rattle.columns.specs.declared.rates.Rates.{Rates}
use Rattle.columns.proofs.First.{length_first, get_or_first, first_more, first_none, first_push, first_set}
use Rattle.columns.proofs.Cell.{cell_same, cell_other}

-- a kind read back from its number
kind_read : (k : Kind) (n : ℕ) → n ≡ kind_number k → pick (eqb n 0) 0 1 ≡ kind_number k
kind_read Order n e = rw e refl
kind_read Interest n e = rw e refl

-- a booking written into cell i of every column
pub record Put (c d : Bookings) (i : ℕ) (b : Entry) : Type 0 where
  pub on : d.on.now ≡ set c.on.now i b.on
  pub value : d.value.now ≡ set c.value.now i b.value
  pub from : d.from.now ≡ set c.from.now i b.from
  pub to : d.to.now ≡ set c.to.now i b.to
  pub amount : d.amount.now ≡ set c.amount.now i b.amount
  pub kind : d.kind.now ≡ set c.kind.now i (kind_number b.kind)
  pub back : d.back.now ≡ set c.back.now i (mark b.back)

put_other : (c d : Bookings) (i k : ℕ) (b : Entry) → Put c d i b → k ≢ i → row d k ≡ row c k
put_other c d i k b p h =
    let e1 = cell_other _ _ i k _ p.on h in
    let e2 = cell_other _ _ i k _ p.value h in
    let e3 = cell_other _ _ i k _ p.from h in
    let e4 = cell_other _ _ i k _ p.to h in
    let e5 = cell_other _ _ i k _ p.amount h in
    let e6 = cell_other _ _ i k _ p.kind h in
    let e7 = cell_other _ _ i k _ p.back h in
    cc

put_same : (c d : Bookings) (i : ℕ) (b : Entry) → i < c.capacity → Put c d i b → row d i ≡ booked b
put_same c d i b h p =
    let e1 = cell_same _ _ i _ p.on (omega arith) in
    let e2 = cell_same _ _ i _ p.value (omega arith) in
    let e3 = cell_same _ _ i _ p.from (omega arith) in
    let e4 = cell_same _ _ i _ p.to (omega arith) in
    let e5 = cell_same _ _ i _ p.amount (omega arith) in
    let e6 = kind_read b.kind _ (cell_same _ _ i _ p.kind (omega arith)) in
    let e7 = cell_same _ _ i _ p.back (omega arith) in
    cc

pub put_appended : (c d : Bookings) (b : Entry) → c.count < c.capacity → Put c d c.count b → d.count ≡ c.count + 1 → d.capacity ≡ c.capacity → Appended c d (booked b)
put_appended c d b h p e f =
    record {
      rows = ap (first_of (row d)) e ∙ first_push (row c) (row d) c.count (booked b) (λ k u. put_other c d c.count k b p (omega arith)) (put_same c d c.count b h p);
      count = e;
      capacity = f;
    }

-- columns of which only the marks differ
pub record SameButBack (c d : Bookings) : Type 0 where
  pub on : d.on.now ≡ c.on.now
  pub value : d.value.now ≡ c.value.now
  pub from : d.from.now ≡ c.from.now
  pub to : d.to.now ≡ c.to.now
  pub amount : d.amount.now ≡ c.amount.now
  pub kind : d.kind.now ≡ c.kind.now
  pub count : d.count ≡ c.count
  pub capacity : d.capacity ≡ c.capacity

pub put_marked : (c d : Bookings) (i day : ℕ) → i < c.count → d.back.now ≡ set c.back.now i (suc day) → SameButBack c d → Marked c d i day
put_marked c d i day h e s =
    let other : (k : ℕ) → k < c.count → k ≢ i → row d k ≡ row c k = λ k u ne. let o = cell_other _ _ i k _ e ne in cc in
    let same : row d i ≡ marked day (get_or (rows c) i none_there) =
    let o = cell_same _ _ i _ e (omega arith) in
    let g = get_or_first (row c) c.count i none_there h in
    cc in
    record {
      rows = ap (first_of (row d)) s.count ∙ first_set (row c) (row d) c.count i _ h other same;
      count = s.count;
      capacity = s.capacity;
    }

-- rows after one more, and their parties after a mark
pub appended_row : (c d : Bookings) (b : Booking) (k : ℕ) → Appended c d b → k < c.count → row d k ≡ row c k
appended_row c d b k p u =
    sym (get_or_first (row d) d.count k none_there (omega arith)) ∙ ap (λ bs. get_or bs k none_there) p.rows
    ∙ get_or_append_left (rows c) (b ∷ []) none_there k (omega (arith, length_first (row c) c.count)) ∙ get_or_first (row c) c.count k none_there u

pub appended_last : (c d : Bookings) (b : Booking) → Appended c d b → row d c.count ≡ b
appended_last c d b p =
    sym (get_or_first (row d) d.count c.count none_there (omega arith)) ∙ ap (λ bs. get_or bs c.count none_there) p.rows
    ∙ get_or_push (rows c) b none_there c.count (length_first (row c) c.count)

pub marked_here : (c d : Bookings) (i t : ℕ) → Marked c d i t → i < c.count → row d i ≡ marked t (row c i)
marked_here c d i t p v =
    sym (get_or_first (row d) d.count i none_there (omega arith)) ∙ ap (λ bs. get_or bs i none_there) p.rows
    ∙ get_or-set_same (rows c) i (marked t (get_or (rows c) i none_there)) none_there (omega (arith, length_first (row c) c.count)) ∙ ap (marked t) (get_or_first (row c) c.count i none_there v)

pub marked_other : (c d : Bookings) (i t k : ℕ) → Marked c d i t → k < c.count → k ≢ i → row d k ≡ row c k
marked_other c d i t k p u ne =
    sym (get_or_first (row d) d.count k none_there (omega arith)) ∙ ap (λ bs. get_or bs k none_there) p.rows
    ∙ get_or-set_other (rows c) i k (marked t (get_or (rows c) i none_there)) none_there ne ∙ get_or_first (row c) c.count k none_there u

-- what a mark does not change
pub marked_keeps : (f : Booking → ℕ) → ((t : ℕ) (b : Booking) → f (marked t b) ≡ f b) → (c d : Bookings) (i t k : ℕ) → Marked c d i t → i < c.count → k < c.count → f (row d k) ≡ f (row c k)
marked_keeps f same c d i t k p v u =
    elim (cases_eq k i) [
      | inl q ↦ rw q (ap f (marked_here c d i t p v) ∙ same t (row c i))
      | inr q ↦ ap f (marked_other c d i t k p u q)
    ]

-- the days of all rows are the first cells of their column
pub days_are : (c : Bookings) → take c.count c.on.now ≡ booked_days (rows c)
days_are c =
    let m : length (booked_days (rows c)) ≡ c.count = length-map (rows c) (λ (b : Booking). b.on) ∙ length_first (row c) c.count in
    let l : length (take c.count c.on.now) ≡ c.count = length-take-le c.count c.on.now (omega arith) in
    ext_get_or 0 _ _ (l ∙ sym m)
    (λ k u. let v : k < c.count = omega (arith, l) in
    get_or-take c.count c.on.now k 0 v ∙ sym (get_or-map (λ (b : Booking). b.on) (rows c) k none_there ∙ ap (λ b. b.on) (get_or_first (row c) c.count k none_there v)))

-- sums over the first n rows
pub tally_more : (p : Booking → Bool) (c : Bookings) (n : ℕ) → tally p (first_of (row c) (n + 1)) ≡ tally p (first_of (row c) n) + pick (p (row c n)) (row c n).amount 0
tally_more p c n = ap (tally p) (first_more (row c) n) ∙ omega (arith, tally_append p (first_of (row c) n) (row c n ∷ []))

pub tally_none : (p : Booking → Bool) (c : Bookings) → tally p (first_of (row c) 0) ≡ 0
tally_none p c = ap (tally p) (first_none (row c))

tally_upto : (p : Booking → Bool) (c : Bookings) (n : ℕ) → ((i : ℕ) → i < n → get_or c.amount.now i 0 ≤ 4000000000000) → tally p (first_of (row c) n) ≤ n * 4000000000000
tally_upto p c zero h = omega (arith, tally_none p c)
tally_upto p c (suc n) h =
    let e : tally p (first_of (row c) (suc n)) ≡ tally p (first_of (row c) (n + 1)) = ap (λ m. tally p (first_of (row c) m)) (omega arith) in
    omega (arith, e, tally_more p c n, pick_at_most (p (row c n)) (row c n).amount, h n (omega arith), tally_upto p c n (λ i u. h i (omega arith)))

-- no sum over bookings is large
pub tally_small : (p : Booking → Bool) (c : Bookings) → tally p (rows c) ≤ 4000000000000000000
tally_small p c = omega (arith, tally_upto p c c.count c.small)

-- a rate written behind the others
pub record PutRate (r q : Rates) (x : Dated) : Type 0 where
  pub account : q.account.now ≡ set r.account.now r.count x.account
  pub since : q.since.now ≡ set r.since.now r.count x.since
  pub rate : q.rate.now ≡ set r.rate.now r.count x.rate
  pub count : q.count ≡ r.count + 1
  pub capacity : q.capacity ≡ r.capacity

put_rated : (r q : Rates) (x : Dated) (n : ℕ) → r.count < r.capacity → PutRate r q x → Rated r n → x.account < n → Rated q n
put_rated r q x n v f o u = record {
  owners = λ i w. elim (cases_eq i r.count) [
    | inl z ↦ rw z (omega (arith, cell_same _ _ r.count _ f.account (omega arith)))
    | inr z ↦ omega (arith, cell_other _ _ r.count i _ f.account z, o.owners i (omega (arith, z)))
  ];
}

pub put_rate_added : (r q : Rates) (x : Dated) → r.count < r.capacity → PutRate r q x → RateAdded r q x
put_rate_added r q x v f =
    let other : (k : ℕ) → k < r.count → rate_row q k ≡ rate_row r k = λ k u.
    let ne : k ≢ r.count = omega arith in
    let e1 = cell_other _ _ r.count k _ f.account ne in
    let e2 = cell_other _ _ r.count k _ f.since ne in
    let e3 = cell_other _ _ r.count k _ f.rate ne in
    cc in
    let same : rate_row q r.count ≡ x =
    let e1 = cell_same _ _ r.count _ f.account (omega arith) in
    let e2 = cell_same _ _ r.count _ f.since (omega arith) in
    let e3 = cell_same _ _ r.count _ f.rate (omega arith) in
    (λ i. record { account = e1 i; since = e2 i; rate = e3 i }) in
    record {
      rows = ap (first_of (rate_row q)) f.count ∙ first_push (rate_row r) (rate_row q) r.count x other same;
      rated = λ m p u. put_rated r q x m v f p u;
      count = f.count;
      capacity = f.capacity;
    }
