-- Laws of running sums: after one more booking, after one is taken back, and with one more account.
use Rattle.std.proofs.Common.{◌≡◌, ℕ, ◌+◌, ◌-◌, ◌<◌, ◌≤◌, Bool, ◌≢◌, List, [], ◌∷◌, ◌++◌, length, get_or, set, sym, ap, ◌∙◌, inl, inr, arith}
use Rattle.std.proofs.lemmas.Bool.{cases_eq}
use Rattle.std.proofs.lemmas.Bool.Decides.{nat_tests}
use Rattle.bank.specs.Book.{pick, Booking}
use Rattle.bank.specs.Sums.{tally, orders}
use Rattle.bank.proofs.Tally.{tally_append, tally_set}
use Rattle.columns.specs.Parts.{live, live_order, live_to, live_from}
use Rattle.columns.specs.Cells.{limits_in_lem, Sums, AccountAdded, Credited, Debited}
use Rattle.columns.specs.declared.accounts.Accounts.{Accounts}
use Rattle.columns.proofs.First.{first_push}
use Rattle.columns.specs.Firsts.{first_of}
use Rattle.columns.proofs.Cell.{cell_same, cell_other}

-- a column of sums over the bookings that pass a test, by account
abbrev Column : (ℕ → Booking → Bool) → ℕ → List ℕ → List Booking → Type 0
Column p n xs bs = (a : ℕ) → a < n → get_or xs a 0 ≡ tally (p a) bs

-- a booking b gives x to account t and nothing to others
pub record Gives (p : ℕ → Booking → Bool) (b : Booking) (t x : ℕ) : Type 0 where
  pub same : pick (p t b) b.amount 0 ≡ x
  pub other : (a : ℕ) → a ≢ t → pick (p a b) b.amount 0 ≡ 0

-- after one more booking
column_push : (p : ℕ → Booking → Bool) (n : ℕ) (xs ys : List ℕ) (t x : ℕ) (bs : List Booking) (b : Booking) → n ≤ length xs → t < n → Gives p b t x →
    ys ≡ set xs t (get_or xs t 0 + x) → Column p n xs bs → Column p n ys (bs ++ (b ∷ []))
column_push p n xs ys t x bs b l u g e s a h =
    let m = tally_append (p a) bs (b ∷ []) in
    elim (cases_eq a t) [
      | inl q ↦ rw q (omega (arith, cell_same xs ys t _ e (omega arith), s t u, g.same, tally_append (p t) bs (b ∷ [])))
      | inr q ↦ omega (arith, cell_other xs ys t a _ e q, s a h, g.other a q)
    ]

-- after booking i was changed to one that does not count
column_drop : (p : ℕ → Booking → Bool) (n : ℕ) (xs ys : List ℕ) (t x : ℕ) (bs : List Booking) (i : ℕ) (b y d : Booking) → n ≤ length xs → t < n → i < length bs → get_or bs i d ≡ b → Gives p b t x →
    ((a : ℕ) → pick (p a y) y.amount 0 ≡ 0) → ys ≡ set xs t (get_or xs t 0 - x) → Column p n xs bs → Column p n ys (set bs i y)
column_drop p n xs ys t x bs i b y d l u v q g none e s a h =
    let of : (k : ℕ) → pick (p k (get_or bs i d)) (get_or bs i d).amount 0 ≡ pick (p k b) b.amount 0 = λ k. ap (λ z. pick (p k z) z.amount 0) q in
    elim (cases_eq a t) [
      | inl z ↦ rw z (omega (arith, cell_same xs ys t _ e (omega arith), s t u, g.same, none t, of t, tally_set (p t) bs i y d v))
      | inr z ↦ omega (arith, cell_other xs ys t a _ e z, s a h, g.other a z, none a, of a, tally_set (p a) bs i y d v)
    ]

-- what a booking that is there gives is in the sum
column_covers : (p : ℕ → Booking → Bool) (n : ℕ) (xs : List ℕ) (t x : ℕ) (bs : List Booking) (i : ℕ) (b y d : Booking) → t < n → i < length bs → get_or bs i d ≡ b → Gives p b t x →
    ((a : ℕ) → pick (p a y) y.amount 0 ≡ 0) → Column p n xs bs → x ≤ get_or xs t 0
column_covers p n xs t x bs i b y d u v q g none s =
    let of : pick (p t (get_or bs i d)) (get_or bs i d).amount 0 ≡ pick (p t b) b.amount 0 = ap (λ z. pick (p t z) z.amount 0) q in
    omega (arith, s t u, g.same, none t, of, tally_set (p t) bs i y d v)

gives_to : (b : Booking) → Gives live_to b b.to (live b)
gives_to b = record { same = grind (arith, nat_tests); other = λ a ne. grind (arith, nat_tests) }

gives_from : (b : Booking) → Gives live_from b b.from (live b)
gives_from b = record { same = grind (arith, nat_tests); other = λ a ne. grind (arith, nat_tests) }

gives_order : (b : Booking) → Gives orders b b.to (live_order b)
gives_order b = record { same = grind (arith, nat_tests); other = λ a ne. grind (arith, nat_tests) }

-- what was taken back gives nothing
to_back : (b : Booking) → b.back ≢ 0 → (a : ℕ) → pick (live_to a b) b.amount 0 ≡ 0
to_back b ne a = grind (arith, nat_tests)

from_back : (b : Booking) → b.back ≢ 0 → (a : ℕ) → pick (live_from a b) b.amount 0 ≡ 0
from_back b ne a = grind (arith, nat_tests)

order_back : (b : Booking) → b.back ≢ 0 → (a : ℕ) → pick (orders a b) b.amount 0 ≡ 0
order_back b ne a = grind (arith, nat_tests)

-- one more booking
pub sums_push : (c d : Accounts) (bs : List Booking) (b : Booking) → b.from < c.count → b.to < c.count → Sums c bs → Credited c d b → Sums d (bs ++ (b ∷ []))
sums_push c d bs b f t s e = record {
  came = λ a u. column_push live_to c.count c.came.now d.came.now b.to (live b) bs b (omega arith) t (gives_to b) e.came s.came a (omega arith);
  left = λ a u. column_push live_from c.count c.left.now d.left.now b.from (live b) bs b (omega arith) f (gives_from b) e.left s.left a (omega arith);
  ordered = λ a u. column_push orders c.count c.ordered.now d.ordered.now b.to (live_order b) bs b (omega arith) t (gives_order b) e.ordered s.ordered a (omega arith);
}

-- booking i is taken back and is y then
module _ (c : Accounts) (bs : List Booking) (i : ℕ) (b y none : Booking) (f : b.from < c.count) (t : b.to < c.count) (v : i < length bs) (q : get_or bs i none ≡ b) (z : y.back ≢ 0) (s : Sums c bs) where
  pub sums_drop : (d : Accounts) → Debited c d b → Sums d (set bs i y)
  sums_drop d e = record {
    came = λ a u. column_drop live_to c.count c.came.now d.came.now b.to (live b) bs i b y none (omega arith) t v q (gives_to b) (to_back y z) e.came s.came a (omega arith);
    left = λ a u. column_drop live_from c.count c.left.now d.left.now b.from (live b) bs i b y none (omega arith) f v q (gives_from b) (from_back y z) e.left s.left a (omega arith);
    ordered = λ a u. column_drop orders c.count c.ordered.now d.ordered.now b.to (live_order b) bs i b y none (omega arith) t v q (gives_order b) (order_back y z) e.ordered s.ordered a (omega arith);
  }

  pub covers_came : live b ≤ get_or c.came.now b.to 0
  covers_came = column_covers live_to c.count c.came.now b.to (live b) bs i b y none t v q (gives_to b) (to_back y z) s.came

  pub covers_left : live b ≤ get_or c.left.now b.from 0
  covers_left = column_covers live_from c.count c.left.now b.from (live b) bs i b y none f v q (gives_from b) (from_back y z) s.left

  pub covers_ordered : live_order b ≤ get_or c.ordered.now b.to 0
  covers_ordered = column_covers orders c.count c.ordered.now b.to (live_order b) bs i b y none t v q (gives_order b) (order_back y z) s.ordered

-- one more account, to and from which no booking goes
column_added : (p : ℕ → Booking → Bool) (n : ℕ) (xs ys : List ℕ) (bs : List Booking) → n < length xs → ys ≡ set xs n 0 → tally (p n) bs ≡ 0 → Column p n xs bs → Column p (n + 1) ys bs
column_added p n xs ys bs l e z s a h =
    elim (cases_eq a n) [
      | inl q ↦ rw q (cell_same xs ys n _ e l ∙ sym z)
      | inr q ↦ cell_other xs ys n a _ e q ∙ s a (omega (arith, q))
    ]

pub sums_added : (c d : Accounts) (l : ℕ) (bs : List Booking) → c.count < c.capacity → AccountAdded c d l →
    tally (live_to c.count) bs ≡ 0 → tally (live_from c.count) bs ≡ 0 → tally (orders c.count) bs ≡ 0 → Sums c bs → Sums d bs
sums_added c d l bs u e x y z s = record {
  came = λ a v. column_added live_to c.count c.came.now d.came.now bs (omega arith) e.came x s.came a (omega arith);
  left = λ a v. column_added live_from c.count c.left.now d.left.now bs (omega arith) e.left y s.left a (omega arith);
  ordered = λ a v. column_added orders c.count c.ordered.now d.ordered.now bs (omega arith) e.ordered z s.ordered a (omega arith);
}

-- limits after one more account, and where the columns of limits are the same
pub limits_added : (c d : Accounts) (l : ℕ) → c.count < c.capacity → AccountAdded c d l → limits_in_lem d ≡ limits_in_lem c ++ (l ∷ [])
limits_added c d l u e =
    ap (first_of (λ a. get_or d.limit.now a 0)) e.count
    ∙ first_push (λ a. get_or c.limit.now a 0) (λ a. get_or d.limit.now a 0) c.count l (λ k v. cell_other _ _ c.count k _ e.limit (omega arith)) (cell_same _ _ c.count _ e.limit (omega arith))

pub limits_same : (c d : Accounts) → d.limit.now ≡ c.limit.now → d.count ≡ c.count → limits_in_lem d ≡ limits_in_lem c
limits_same c d e f = ap (λ ls. first_of (λ a. get_or ls a 0) d.count) e ∙ ap (first_of (λ a. get_or c.limit.now a 0)) f
