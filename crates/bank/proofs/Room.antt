-- What decides refusal 10.
use Rattle.std.proofs.Common.{◌≡◌, ℕ, suc, ◌%◌, ◌<◌, ◌≤◌, Bool, true, false, ◌&&◌, eqb, ltb, leb, List, [], ◌∷◌, ◌++◌, length, get_or, set, sym, refl, ap, ◌∙◌, subst, inl, inr, arith, length-append, length-set}
use Rattle.std.proofs.lemmas.Bool.{le-leb, ltb-true, cases_eq, not-true}
use Rattle.bank.specs.Book.{Account, Bank}
use Rattle.bank.specs.Calls.{Call, opens, rated, move, take_back, day_ends, balance, statement, sums, taken_so_far, garbled, Limits, fits, rates_in, orders_fit, turned_by, changed, ended, marked, none_there, limit_of}
use Rattle.bank.specs.Bounds.{orders_left}
use Rattle.bank.specs.Checks.{Check, check, fails, fails_at, own_checks, checks}
use Rattle.bank.specs.Room.{ReachedUnder, has_room, room_checks, RoomDecides}
use Rattle.bank.proofs.Checks.{by_checks, passed}
use Rattle.bank.proofs.Tally.{pick_both}
use Rattle.bank.proofs.Filled.{only_orders_fill, always_fits}
use Rattle.bank.proofs.Limited.{fits_parts, pick_zero}
use Rattle.bank.proofs.Count.{rates-++, rates_set}

-- the test of a book by its parts
abbrev tests : Bool → Bool → Bool → Bool → Bool → Bool
tests d a r b o = (d && (a && r)) && (b && o)

-- for each call: which of the parts are as they were
opening : (a r : Bool) → tests true a r true true ≡ (a && r)
opening true true = refl
opening true false = refl
opening false r = refl

rating : (r : Bool) → tests true true r true true ≡ r
rating true = refl
rating false = refl

booking : (b o : Bool) → tests true true true b o ≡ (b && o)
booking b o = refl

turning : (d b : Bool) → tests d true true b true ≡ (d && b)
turning true true = refl
turning true false = refl
turning false b = refl

-- an end of a day is one day more, and no account
ended_today : (n : Bank) → (ended n).today ≡ suc n.today
unfolding ended
ended_today n = pick_both (λ (x : Bank). x.today ≡ suc n.today) (eqb (suc n.today % 30) 0) _ _ (λ _. refl) (λ _. refl)

ended_accounts : (n : Bank) → (ended n).accounts ≡ n.accounts
unfolding ended
ended_accounts n = pick_both (λ (x : Bank). x.accounts ≡ n.accounts) (eqb (suc n.today % 30) 0) _ _ (λ _. refl) (λ _. refl)

-- the parts of a book that is within its limits
record Holds (l : Limits) (n : Bank) : Type 0 where
  days : leb n.today 3650 ≡ true
  accounts : leb (length n.accounts) l.accounts ≡ true
  rates : leb (rates_in n.accounts) l.rates ≡ true
  bookings : leb (length n.bookings) l.bookings ≡ true

holds : (l : Limits) (n : Bank) → fits l n ≡ true → Holds l n
holds l n h =
    let p = fits_parts l n h in
    record {
      days = le-leb n.today 3650 p.days;
      accounts = le-leb (length n.accounts) l.accounts p.accounts;
      rates = le-leb (rates_in n.accounts) l.rates p.rates;
      bookings = le-leb (length n.bookings) l.bookings p.bookings;
    }

module _ (l : Limits) (n : Bank) (h : Holds l n) where
  decided : (c : Call) → turned_by n c ≡ 0 → orders_fit (changed n c).bookings (length (changed n c).accounts) ≡ orders_left n c → fits l (changed n c) ≡ has_room l n c
  unfolding changed has_room orders_left turned_by rates_in
  decided (opens m r) t o =
      let a : length (n.accounts ++ (record { limit = m; rates = record { since = n.today; rate = r } ∷ [] } ∷ [])) ≡ suc (length n.accounts) = simp length-append (omega arith) in
      let b : rates_in (n.accounts ++ (record { limit = m; rates = record { since = n.today; rate = r } ∷ [] } ∷ [])) ≡ suc (rates_in n.accounts) = rw (rates-++ n.accounts) (omega arith) in
      rw (o, h.days, h.bookings, b) (ap (λ (x : ℕ). tests true (leb x l.accounts) (ltb (rates_in n.accounts) l.rates) true true) a ∙ opening (ltb (length n.accounts) l.accounts) (ltb (rates_in n.accounts) l.rates))
  decided (rated a r) t o =
      let none : Account = record { limit = 0; rates = [] } in
      let more : Account = record { limit = limit_of n a; rates = (get_or n.accounts a none).rates ++ (record { since = n.today; rate = r } ∷ []) } in
      let there : a < length n.accounts = ltb-true a (length n.accounts) (pick_zero (ltb a (length n.accounts)) 3 t) in
      let e : rates_in (set n.accounts a more) ≡ suc (rates_in n.accounts) = rates_set n.accounts a none more there (simp length-append (omega arith)) in
      let s : length (set n.accounts a more) ≡ length n.accounts = length-set n.accounts a more in
      rw (o, h.days, h.bookings, e)
      (ap (λ (x : ℕ). tests true (leb x l.accounts) (ltb (rates_in n.accounts) l.rates) true true) s
      ∙ ap (λ (x : Bool). tests true x (ltb (rates_in n.accounts) l.rates) true true) h.accounts
      ∙ rating (ltb (rates_in n.accounts) l.rates))
  decided (move v a b x) t o =
      let e : length (n.bookings ++ (record { on = n.today; value = v; from = a; to = b; amount = x; kind = 0; back = 0 } ∷ [])) ≡ suc (length n.bookings) = simp length-append (omega arith) in
      rw (o, h.days, h.accounts, h.rates, e) refl
  decided (take_back k) t o =
      let e : length (set n.bookings k (marked n.today (get_or n.bookings k none_there))) ≡ length n.bookings = length-set n.bookings k (marked n.today (get_or n.bookings k none_there)) in
      rw (o, h.days, h.accounts, h.rates, e, h.bookings) refl
  decided day_ends t o =
      rw (o, ended_today n, ended_accounts n, h.accounts, h.rates) (turning (ltb n.today 3650) (leb (length (ended n).bookings) l.bookings))
  decided (balance a d k) t o = rw (o, h.days, h.accounts, h.rates, h.bookings) refl
  decided (statement a d e) t o = rw (o, h.days, h.accounts, h.rates, h.bookings) refl
  decided sums t o = rw (o, h.days, h.accounts, h.rates, h.bookings) refl
  decided taken_so_far t o = rw (o, h.days, h.accounts, h.rates, h.bookings) refl
  decided (garbled k) t o = rw (o, h.days, h.accounts, h.rates, h.bookings) refl

-- a call that passes its own checks is turned away by none of them
own_passed : (n : Bank) (c : Call) → fails (own_checks n c) ≡ 0 → turned_by n c ≡ 0
unfolding own_checks turned_by
own_passed n (opens m r) e = refl
own_passed n (rated a r) e = let (range, (there, rest)) = passed (own_checks n (rated a r)) refl e in rw there
own_passed n (move v a b x) e =
    let (range, (payer, (payee, (apart, (early, (covered, rest)))))) = passed (own_checks n (move v a b x)) refl e in
    rw (payer, payee, not-true (eqb a b) apart, early, covered)
own_passed n (take_back k) e = let (there, rest) = passed (own_checks n (take_back k)) refl e in rw there
own_passed n day_ends e = refl
own_passed n (balance a d k) e = let (there, (known, rest)) = passed (own_checks n (balance a d k)) refl e in rw (there, known)
own_passed n (statement a d k) e = let (there, rest) = passed (own_checks n (statement a d k)) refl e in rw there
own_passed n sums e = refl
own_passed n taken_so_far e = refl
own_passed n (garbled k) e = absurd (omega arith)

-- where a check fails, those behind it do not matter
fails_front : (xs ys : List Check) → (fails xs ≡ 0 → ⊥) → (fails (xs ++ ys) ≡ fails xs) × (fails_at (xs ++ ys) ≡ fails_at xs)
fails_front [] ys h = absurd (h refl)
fails_front (x ∷ xs) ys h = go x.passes refl (λ g. fails_front xs ys g)
  where
    go : (b : Bool) → x.passes ≡ b → ((fails xs ≡ 0 → ⊥) → (fails (xs ++ ys) ≡ fails xs) × (fails_at (xs ++ ys) ≡ fails_at xs)) →
        (fails ((x ∷ xs) ++ ys) ≡ fails (x ∷ xs)) × (fails_at ((x ∷ xs) ++ ys) ≡ fails_at (x ∷ xs))
    go true e more = rw e (more (λ z. h (rw e z)))
    go false e more = rw e (refl, refl)

fits_room : (l : Limits) (n : Bank) (c : Call) → 2 ≤ l.accounts → ReachedUnder l n → turned_by n c ≡ 0 → fits l (changed n c) ≡ has_room l n c
fits_room l n c two r t =
    let e : fits l n ≡ true = subst (λ (x : Bank). fits l x ≡ true) r.1 (always_fits l r.0 two) in
    decided l n (holds l n e) c t (only_orders_fill n c (l, r.0, r.1) t)

alike : (l : Limits) (n : Bank) (c : Call) → 2 ≤ l.accounts → ReachedUnder l n → (fails (checks l n c) ≡ fails (room_checks l n c)) × (fails_at (checks l n c) ≡ fails_at (room_checks l n c))
alike l n c two r =
    elim (cases_eq (fails (own_checks n c)) 0) [
      | inl e ↦ (let same = ap (λ (b : Bool). own_checks n c ++ (check b 10 0 ∷ [])) (fits_room l n c two r (own_passed n c e)) in (ap fails same, ap fails_at same))
      | inr h ↦ (let p = fails_front (own_checks n c) (check (fits l (changed n c)) 10 0 ∷ []) h in let q = fails_front (own_checks n c) (check (has_room l n c) 10 0 ∷ []) h in
          (p.0 ∙ sym q.0, p.1 ∙ sym q.1))
    ]

pub room_decides : RoomDecides
room_decides =
    record {
      fits_is = fits_room;
      number_is = λ l n c two r. by_checks.number_is l n c ∙ (alike l n c two r).0;
      place_is = λ l n c two r. by_checks.place_is l n c ∙ (alike l n c two r).1;
    }
