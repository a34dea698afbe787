-- The rates in the order in which they were set give each account's: what always holds of the bank with its rates in order.
use Rattle.std.proofs.Common.{◌≡◌, ℕ, zero, suc, ◌+◌, ◌%◌, ◌<◌, ◌≤◌, Bool, true, false, eqb, ltb, leb, ◌≢◌, List, [], ◌∷◌, ◌++◌, length, get_or, set, sym, refl, ap, ◌∙◌, ap₂, append-nil, arith, length-append, length-set, eq-eqb, ne_eqb}
use Rattle.std.proofs.lemmas.Bool.{and_parts, leb-true, ltb-true}
use Rattle.bank.specs.Book.{pick, Rate, Account, Bank}
use Rattle.bank.specs.Calls.{Call, opens, rated, move, take_back, day_ends, balance, statement, sums, taken_so_far, garbled, rates_in, turned_by, good_call, changed, ended}
use Rattle.bank.proofs.Tally.{pick_both, Each, each_append, each_like}
use Rattle.model.specs.Register.{Dated, sets}
use Rattle.model.specs.Snapshot.{limits_of, rates_of, accounts_of}
use Rattle.bank.proofs.Limited.{pick_zero}
use Rattle.bank.proofs.Count.{rates-++, rates_set}

-- limits of accounts with one more, or one changed
pub limits_snoc : (xs : List Account) (y : Account) → limits_of (xs ++ (y ∷ [])) ≡ limits_of xs ++ (y.limit ∷ [])
unfolding limits_of
limits_snoc [] y = refl
limits_snoc (x ∷ xs) y = ap (λ (r : List ℕ). x.limit ∷ r) (limits_snoc xs y)

pub limits_set : (xs : List Account) (a : ℕ) (d y : Account) → y.limit ≡ (get_or xs a d).limit → limits_of (set xs a y) ≡ limits_of xs
unfolding limits_of
limits_set [] a d y e = refl
limits_set (x ∷ xs) zero d y e = ap (λ (m : ℕ). m ∷ limits_of xs) e
limits_set (x ∷ xs) (suc a) d y e = ap (λ (r : List ℕ). x.limit ∷ r) (limits_set xs a d y e)

pub limits_length : (xs : List Account) → length (limits_of xs) ≡ length xs
unfolding limits_of
limits_length [] = refl
limits_length (x ∷ xs) = ap suc (limits_length xs)

-- one rate more, of this account or of another
abbrev pub rate_of_lem : Dated → Rate
rate_of_lem x = record { since = x.since; rate = x.rate }

pub same_rates : (a : ℕ) (rs : List Dated) (x : Dated) → x.account ≡ a → rates_of a (rs ++ (x ∷ [])) ≡ rates_of a rs ++ (rate_of_lem x ∷ [])
unfolding rates_of
same_rates a [] x e = let z : eqb x.account a ≡ true = eq-eqb x.account a e in rw z
same_rates a (y ∷ rs) x e = go (eqb y.account a) (same_rates a rs x e)
  where
    go : (t : Bool) → rates_of a (rs ++ (x ∷ [])) ≡ rates_of a rs ++ (rate_of_lem x ∷ []) →
        pick t (rate_of_lem y ∷ rates_of a (rs ++ (x ∷ []))) (rates_of a (rs ++ (x ∷ []))) ≡ pick t (rate_of_lem y ∷ rates_of a rs) (rates_of a rs) ++ (rate_of_lem x ∷ [])
    go true q = ap (λ (r : List Rate). rate_of_lem y ∷ r) q
    go false q = q

pub other_rates : (a : ℕ) (rs : List Dated) (x : Dated) → x.account ≢ a → rates_of a (rs ++ (x ∷ [])) ≡ rates_of a rs
unfolding rates_of
other_rates a [] x e = let z : eqb x.account a ≡ false = ne_eqb x.account a e in rw z
other_rates a (y ∷ rs) x e = ap (λ (r : List Rate). pick (eqb y.account a) (rate_of_lem y ∷ r) r) (other_rates a rs x e)

pub no_rates : (a : ℕ) (rs : List Dated) → Each (λ x. x.account < a) rs → rates_of a rs ≡ []
unfolding rates_of
no_rates a [] h = refl
no_rates a (y ∷ rs) h =
    let l : y.account < a = h.0 in
    let z : eqb y.account a ≡ false = ne_eqb y.account a (λ e. omega arith) in
    rw z (no_rates a rs h.1)

-- accounts put together with one rate more, or with one account more
pub accounts_skip : (a : ℕ) (ms : List ℕ) (rs : List Dated) (x : Dated) → ((b : ℕ) → a ≤ b → b < a + length ms → x.account ≢ b) → accounts_of a ms (rs ++ (x ∷ [])) ≡ accounts_of a ms rs
unfolding accounts_of
accounts_skip a [] rs x o = refl
accounts_skip a (m ∷ ms) rs x o =
    ap₂ (λ (q : List Rate) (r : List Account). record { limit = m; rates = q } ∷ r) (other_rates a rs x (o a (omega arith) (omega arith)))
    (accounts_skip (suc a) ms rs x (λ b h g. o b (omega arith) (omega arith)))

abbrev pub with_rate : Account → Rate → Account
with_rate y r = record { limit = y.limit; rates = y.rates ++ (r ∷ []) }

pub accounts_put : (a : ℕ) (ms : List ℕ) (rs : List Dated) (x : Dated) (d : Account) (i : ℕ) → x.account ≡ a + i → i < length ms →
    accounts_of a ms (rs ++ (x ∷ [])) ≡ set (accounts_of a ms rs) i (with_rate (get_or (accounts_of a ms rs) i d) (rate_of_lem x))
unfolding accounts_of
accounts_put a [] rs x d i e h = absurd (omega arith)
accounts_put a (m ∷ ms) rs x d zero e h =
    ap₂ (λ (q : List Rate) (r : List Account). record { limit = m; rates = q } ∷ r) (same_rates a rs x (omega arith))
    (accounts_skip (suc a) ms rs x (λ b l g z. omega arith))
accounts_put a (m ∷ ms) rs x d (suc i) e h =
    ap₂ (λ (q : List Rate) (r : List Account). record { limit = m; rates = q } ∷ r) (other_rates a rs x (λ z. omega arith))
    (accounts_put (suc a) ms rs x d i (omega arith) (omega arith))

pub accounts_snoc : (a : ℕ) (ms : List ℕ) (m : ℕ) (rs : List Dated) (b : ℕ) → b ≡ a + length ms →
    accounts_of a (ms ++ (m ∷ [])) rs ≡ accounts_of a ms rs ++ (record { limit = m; rates = rates_of b rs } ∷ [])
unfolding accounts_of
accounts_snoc a [] m rs b e = let z : b ≡ a = omega arith in rw z
accounts_snoc a (x ∷ ms) m rs b e = ap (λ (r : List Account). record { limit = x; rates = rates_of a rs } ∷ r) (accounts_snoc (suc a) ms m rs b (omega arith))

-- a rate that was set by day t in a book with m accounts
pub record DatedWell (t m : ℕ) (x : Dated) : Type 0 where
  pub there : x.account < m
  pub by_then : x.since ≤ t
  pub low : x.rate ≤ 2000

-- of accounts and rates in order on day t
pub record Well (t : ℕ) (xs : List Account) (rs : List Dated) : Type 0 where
  pub dates : Each (DatedWell t (length xs)) rs
  pub small : Each (λ m. m ≤ 100000000000) (limits_of xs)
  pub rebuilt : accounts_of 0 (limits_of xs) rs ≡ xs
  pub long : length rs ≡ rates_in xs

well_later : (t u : ℕ) (xs : List Account) (rs : List Dated) → t ≤ u → Well t xs rs → Well u xs rs
well_later t u xs rs h w =
    record {
      dates = each_like (DatedWell t (length xs)) (DatedWell u (length xs)) (λ x q. record { there = q.there; by_then = omega arith; low = q.low }) rs w.dates;
      small = w.small;
      rebuilt = w.rebuilt;
      long = w.long;
    }

well_opens : (t : ℕ) (xs : List Account) (rs : List Dated) (m r : ℕ) → m ≤ 100000000000 → r ≤ 2000 → Well t xs rs →
    Well t (xs ++ (record { limit = m; rates = record { since = t; rate = r } ∷ [] } ∷ [])) (rs ++ (record { account = length xs; since = t; rate = r } ∷ []))
well_opens t xs rs m r h g w =
    record {
      dates = each_append (DatedWell t (length (xs ++ (new ∷ [])))) rs (x ∷ [])
          (each_like (DatedWell t (length xs)) (DatedWell t (length (xs ++ (new ∷ [])))) (λ y q. record { there = omega (arith, more, q.there); by_then = q.by_then; low = q.low }) rs w.dates)
          (record { there = omega (arith, more); by_then = omega arith; low = g }, tt);
      small = rw (limits_snoc xs new) (each_append (λ (z : ℕ). z ≤ 100000000000) (limits_of xs) (m ∷ []) w.small (h, tt));
      rebuilt =
          ap (λ (ms : List ℕ). accounts_of 0 ms (rs ++ (x ∷ []))) (limits_snoc xs new)
          ∙ accounts_snoc 0 (limits_of xs) m (rs ++ (x ∷ [])) (length xs) (omega (arith, limits_length xs))
          ∙ ap₂ (λ (ys : List Account) (qs : List Rate). ys ++ (record { limit = m; rates = qs } ∷ []))
          (accounts_skip 0 (limits_of xs) rs x (λ b l q z. omega (arith, limits_length xs)) ∙ w.rebuilt)
          (same_rates (length xs) rs x refl ∙ ap (λ (qs : List Rate). qs ++ (rate_of_lem x ∷ [])) (no_rates (length xs) rs (each_like (DatedWell t (length xs)) (λ y. y.account < length xs) (λ y q. q.there) rs w.dates)));
      long = rates_one;
    }
  where
    new : Account
    new = record { limit = m; rates = record { since = t; rate = r } ∷ [] }

    x : Dated
    x = record { account = length xs; since = t; rate = r }

    more : length (xs ++ (new ∷ [])) ≡ length xs + 1
    more = length-append xs (new ∷ [])

    one_rate : rates_in (new ∷ []) ≡ 1
    one_rate = unfold rates_in in refl

    rates_one : length (rs ++ (x ∷ [])) ≡ rates_in (xs ++ (new ∷ []))
    rates_one = length-append rs (x ∷ []) ∙ ap (λ (z : ℕ). z + 1) w.long ∙ sym (rates-++ xs (new ∷ []) ∙ ap (λ (z : ℕ). rates_in xs + z) one_rate)

well_rated : (t : ℕ) (xs : List Account) (rs : List Dated) (a r : ℕ) (d : Account) → a < length xs → r ≤ 2000 → Well t xs rs →
    Well t (set xs a (with_rate (get_or xs a d) (record { since = t; rate = r }))) (rs ++ (record { account = a; since = t; rate = r } ∷ []))
well_rated t xs rs a r d h g w =
    record {
      dates = rw (length-set xs a y) (each_append (DatedWell t (length xs)) rs (x ∷ []) w.dates (record { there = h; by_then = omega arith; low = g }, tt));
      small = rw (limits_set xs a d y refl) w.small;
      rebuilt =
          ap (λ (ms : List ℕ). accounts_of 0 ms (rs ++ (x ∷ []))) (limits_set xs a d y refl)
          ∙ accounts_put 0 (limits_of xs) rs x d a (omega arith) (omega (arith, limits_length xs))
          ∙ ap (λ (ys : List Account). set ys a (with_rate (get_or ys a d) (rate_of_lem x))) w.rebuilt;
      long = length-append rs (x ∷ []) ∙ omega (arith, w.long, rates_set xs a d y h (simp length-append (omega arith)));
    }
  where
    x : Dated
    x = record { account = a; since = t; rate = r }

    y : Account
    y = with_rate (get_or xs a d) (record { since = t; rate = r })

-- a call that is taken leaves them so
pub well_stays : (n : Bank) (rs : List Dated) (c : Call) → good_call c ≡ true → turned_by n c ≡ 0 → Well n.today n.accounts rs →
    Well (changed n c).today (changed n c).accounts (rs ++ sets n c)
unfolding good_call turned_by changed ended sets
well_stays n rs (opens m r) g y w =
    let s = and_parts (leb m 100000000000) (leb r 2000) g in
    well_opens n.today n.accounts rs m r (leb-true m 100000000000 s.0) (leb-true r 2000 s.1) w
well_stays n rs (rated a r) g y w =
    well_rated n.today n.accounts rs a r (record { limit = 0; rates = [] })
    (ltb-true a (length n.accounts) (pick_zero (ltb a (length n.accounts)) 3 y)) (leb-true r 2000 g) w
well_stays n rs (move v a b x) g y w = rw (append-nil rs) w
well_stays n rs (take_back k) g y w = rw (append-nil rs) w
well_stays n rs day_ends g y w =
    rw (append-nil rs)
    (pick_both (λ (m : Bank). Well m.today m.accounts rs) (eqb (suc n.today % 30) 0) _ _
    (λ e. well_later n.today (suc n.today) n.accounts rs (omega arith) w) (λ e. well_later n.today (suc n.today) n.accounts rs (omega arith) w))
well_stays n rs (balance a d k) g y w = rw (append-nil rs) w
well_stays n rs (statement a d e) g y w = rw (append-nil rs) w
well_stays n rs sums g y w = rw (append-nil rs) w
well_stays n rs taken_so_far g y w = rw (append-nil rs) w
well_stays n rs (garbled k) g y w = rw (append-nil rs) w
