-- What each effect leaves of a ledger.
use Rattle.std.proofs.Common.{◌≡◌, ℕ, zero, suc, ◌+◌, ◌<◌, ◌≤◌, true, false, eqb, ◌≢◌, List, [], ◌∷◌, ◌++◌, length, get_or, set, sym, refl, ap, ◌∙◌, subst, inl, inr, append-nil, arith}
use Rattle.std.proofs.lemmas.Bool.{cases_eq, ne_eqb}
use Rattle.std.proofs.lemmas.List.{get_or_push, length-append}
use Rattle.std.proofs.Math.Seq.{set-append_seam}
use Rattle.bank.specs.Book.{pick, Booking, Bank}
use Rattle.bank.specs.Builders.{no_account, new_account, booking_at}
use Rattle.bank.specs.Calls.{marked, none_there, rates_in}
use Rattle.bank.specs.Effects.{books, marks, adds, rates, made}
use Rattle.bank.proofs.Count.{rates-++}
use Rattle.model.specs.Register.{Dated}
use Rattle.model.specs.Snapshot.{rates_of}
use Rattle.model.proofs.Register.{no_rates, accounts_put, accounts_snoc}
use Rattle.columns.specs.Cells.{limits_in_lem, Sums, AccountAdded, Credited, Debited}
use Rattle.columns.specs.Links.{Linkable, Chained, BegunBoth, LinkedBoth}
use Rattle.columns.specs.Parts.{live, live_order}
use Rattle.columns.specs.RateRows.{rate_row, rate_rows, Rated, RateAdded}
use Rattle.columns.specs.Rows.{row, rows, Appended, Marked}
use Rattle.columns.specs.Spare.{Spare}
use Rattle.columns.proofs.Cell.{cell_same, cell_other}
use Rattle.columns.proofs.Chain.{chained_same, linkable_linked, chained_push, linkable_begun, chained_begun}
use Rattle.columns.proofs.First.{length_first, get_or_first, each_first}
use Rattle.columns.proofs.Put.{appended_row, appended_last, marked_here, marked_other, marked_keeps}
use Rattle.columns.proofs.Running.{covers_came, covers_left, covers_ordered, sums_push, sums_drop, sums_added, limits_added, limits_same}
use Rattle.columns.specs.declared.accounts.Accounts.{Accounts}
use Rattle.columns.specs.declared.bookings.Bookings.{Bookings}
use Rattle.columns.specs.declared.chains.Chains.{Chains}
use Rattle.columns.specs.declared.rates.Rates.{Rates}
use Rattle.columns.specs.declared.scratch.Scratch.{Scratch}
use Rattle.ledger.specs.Facts.{Fit, backs, most_calls}
use Rattle.ledger.specs.Meaning.{bank, rates_set, bare_account}
use Rattle.ledger.specs.Made.{Made, Becomes}
use Rattle.ledger.specs.declared.Ledger.{Ledger}
use Rattle.ledger.proofs.Bank.{bank_accounts, bank_count, bank_row, bank_today}
use Rattle.ledger.proofs.Live.{none_to, none_from, none_ordered}

-- what a ledger's type says of its parts
abbrev pub Holds : Accounts → Rates → Bookings → Chains → Scratch → ℕ → ℕ → Type 0
Holds a r b c s t d = record {
  small : (k : ℕ) → k < a.count → get_or a.limit.now k 0 ≤ 100000000000;
  owners : Rated r a.count;
  fit : (i : ℕ) → i < b.count → Fit t a.count (row b i);
  sums : Sums a (rows b);
  linkable : Linkable c a.capacity b.capacity;
  incoming : Chained c.incoming (λ i. (row b i).to) b.count a.count;
  outgoing : Chained c.outgoing (λ i. (row b i).from) b.count a.count;
  spare : Spare s a.capacity;
  last_day : t ≤ 3650;
  most : d ≤ most_calls r.count b.count (backs (rows b)) t;
}

-- how many were taken back, after one more booking and after one is taken back
backs_push : (bs : List Booking) (b : Booking) → backs (bs ++ (b ∷ [])) ≡ backs bs + pick (eqb b.back 0) 0 1
unfolding backs
backs_push [] b = omega arith
backs_push (x ∷ bs) b = omega (arith, backs_push bs b)

backs_set : (bs : List Booking) (i : ℕ) (d y : Booking) → i < length bs → (get_or bs i d).back ≡ 0 → eqb y.back 0 ≡ false → backs (set bs i y) ≡ suc (backs bs)
unfolding backs
backs_set [] i d y h e f = absurd (omega arith)
backs_set (x ∷ bs) zero d y h e f = let z : eqb x.back 0 ≡ true = rw e refl in rw (f, z) (omega arith)
backs_set (x ∷ bs) (suc i) d y h e f = omega (arith, backs_set bs i d y (omega arith) e f)

backs_le : (bs : List Booking) → backs bs ≤ length bs
unfolding backs
backs_le [] = omega arith
backs_le (x ∷ bs) = elim (eqb x.back 0) as (λ t. pick t 0 1 + backs bs ≤ suc (length bs)) [ true ↦ omega (arith, backs_le bs) | false ↦ omega (arith, backs_le bs) ]

-- so many calls can have changed the book
pub done_small : (g : Ledger) → g.done ≤ 4296987330
done_small g =
    omega (arith, g.most, g.last_day, g.rates.within, g.rates.few, g.bookings.within, g.bookings.few, backs_le (rows g.bookings), length_first (row g.bookings) g.bookings.count)

fit_more : (t m u n : ℕ) (b : Booking) → t ≤ u → m ≤ n → Fit t m b → Fit u n b
fit_more t m u n b h k f = record { on = omega arith; value = omega arith; back = omega arith; from = omega arith; to = omega arith }

-- what a caller knows of the bank, of the cells
pub fit_here : (g : Ledger) (b : Booking) → Fit (bank g).today (length (bank g).accounts) b → Fit g.today g.accounts.count b
fit_here g b f = fit_more (bank g).today (length (bank g).accounts) g.today g.accounts.count b (omega (arith, bank_today g)) (omega (arith, bank_accounts g)) f

-- one more booking
module _ (g : Ledger) (n : ℕ) (b : Booking) (a : Accounts) (y : Bookings) (c : Chains) (f : Fit (bank g).today (length (bank g).accounts) b) (v : length (bank g).bookings < g.bookings.capacity) (q : n ≡ g.bookings.count)
    (k : Credited g.accounts a b) (p : Appended g.bookings y b) (l : LinkedBoth g.chains c b n) where
  booked_at : LinkedBoth g.chains c b g.bookings.count
  booked_at = subst (LinkedBoth g.chains c b) q l

  booked_fits : Fit g.today g.accounts.count b
  booked_fits = fit_here g b f

  booked_fit : (i : ℕ) → i < y.count → Fit g.today a.count (row y i)
  booked_fit i u =
      rw k.count
      (elim (cases_eq i g.bookings.count) [
        | inl e ↦ subst (Fit g.today g.accounts.count) (sym (ap (row y) e ∙ appended_last g.bookings y b p)) booked_fits
        | inr e ↦ let z : i < g.bookings.count = omega (arith, e, p.count) in subst (Fit g.today g.accounts.count) (sym (appended_row g.bookings y b i p z)) (g.fit i z)
      ])

  booked_most : suc (most_calls g.rates.count g.bookings.count (backs (rows g.bookings)) g.today) ≤ most_calls g.rates.count y.count (backs (rows y)) g.today
  booked_most = omega (arith, p.count, ap backs p.rows, backs_push (rows g.bookings) b)

  pub booked_holds : Holds a g.rates y c g.scratch g.today g.done
  booked_holds = record {
    small = rw (k.count, k.limit) g.small;
    owners = rw k.count g.owners;
    fit = booked_fit;
    sums = rw p.rows (sums_push g.accounts a (rows g.bookings) b booked_fits.from booked_fits.to g.sums k);
    linkable = rw (k.capacity, p.capacity) (linkable_linked g.chains c b g.bookings.count _ _ g.linkable booked_at);
    incoming = rw (p.count, k.count)
        (chained_push g.chains.incoming c.incoming (λ i. (row g.bookings i).to) (λ i. (row y i).to) b.to g.bookings.count g.accounts.count
        (omega (arith, g.linkable.heads_in)) (omega (arith, g.linkable.links_in, bank_count g)) g.incoming booked_at.incoming booked_fits.to
        (λ i u. ap (λ x. x.to) (appended_row g.bookings y b i p u)) (ap (λ x. x.to) (appended_last g.bookings y b p)));
    outgoing = rw (p.count, k.count)
        (chained_push g.chains.outgoing c.outgoing (λ i. (row g.bookings i).from) (λ i. (row y i).from) b.from g.bookings.count g.accounts.count
        (omega (arith, g.linkable.heads_out)) (omega (arith, g.linkable.links_out, bank_count g)) g.outgoing booked_at.outgoing booked_fits.from
        (λ i u. ap (λ x. x.from) (appended_row g.bookings y b i p u)) (ap (λ x. x.from) (appended_last g.bookings y b p)));
    spare = rw k.capacity g.spare;
    last_day = g.last_day;
    most = omega (arith, g.most, booked_most);
  }

  pub made_booked : (h : Ledger) → h.today ≡ g.today → h.done ≡ g.done → h.accounts ≡ a → h.bookings ≡ y → h.rates ≡ g.rates → Made g h (books b)
  unfolding rates_set bank made
  made_booked h t d x o r = record {
    bank_is = let m = limits_same g.accounts a k.limit k.count in let e = p.rows in cc;
    rates_are = ap rate_rows r ∙ sym (append-nil (rate_rows g.rates));
    limits_stay = let m = k.capacity in let e = p.capacity in cc;
    unit = omega (arith, g.most, t, d, ap (λ (z : Rates). z.count) r, ap (λ (z : Bookings). z.count) o, ap (λ (z : Bookings). backs (rows z)) o, booked_most);
  }

-- booking i, which is b
module _ (g : Ledger) (i : ℕ) (b : Booking) (u : i < length (bank g).bookings) (e : b ≡ row g.bookings i) where
  there : i < g.bookings.count
  there = omega (arith, bank_count g)

  in_rows : i < length (rows g.bookings)
  in_rows = omega (arith, there, length_first (row g.bookings) g.bookings.count)

  at : get_or (rows g.bookings) i none_there ≡ b
  at = get_or_first (row g.bookings) g.bookings.count i none_there there ∙ sym e

  parties : Fit g.today g.accounts.count b
  parties = rw e (g.fit i there)

  -- its amount is in the running sums
  pub covered : record {
    from : b.from < g.accounts.count;
    to : b.to < g.accounts.count;
    left : live b ≤ get_or g.accounts.left.now b.from 0;
    came : live b ≤ get_or g.accounts.came.now b.to 0;
    ordered : live_order b ≤ get_or g.accounts.ordered.now b.to 0;
  }
  covered =
      let y : Booking = marked g.today b in
      let n : y.back ≢ 0 = λ z. omega (arith, z) in
      record {
        from = parties.from;
        to = parties.to;
        left = covers_left g.accounts (rows g.bookings) i b y none_there parties.from parties.to in_rows at n g.sums;
        came = covers_came g.accounts (rows g.bookings) i b y none_there parties.from parties.to in_rows at n g.sums;
        ordered = covers_ordered g.accounts (rows g.bookings) i b y none_there parties.from parties.to in_rows at n g.sums;
      }

-- booking i, which is b, marked as taken back today
module _ (g : Ledger) (i : ℕ) (b : Booking) (a : Accounts) (y : Bookings) (u : i < length (bank g).bookings) (e : b ≡ row g.bookings i) (z : (booking_at (bank g) i).back ≡ 0) (k : Debited g.accounts a b)
    (p : Marked g.bookings y i g.today) where
  was : i < g.bookings.count
  was = there g i b u e

  marked_most : backs (rows y) ≡ suc (backs (rows g.bookings))
  marked_most =
      let x : Booking = marked g.today (get_or (rows g.bookings) i none_there) in
      ap backs p.rows
      ∙ backs_set (rows g.bookings) i none_there x (in_rows g i b u e) (ap (λ c. c.back) (at g i b u e ∙ e ∙ sym (bank_row g i was)) ∙ z) (ne_eqb (suc g.today) 0 (λ n. omega (arith, n)))

  marked_fit : (j : ℕ) → j < y.count → Fit g.today a.count (row y j)
  marked_fit j v =
      let w : j < g.bookings.count = omega (arith, p.count) in
      rw k.count
      (elim (cases_eq j i) [
        | inl n ↦ subst (Fit g.today g.accounts.count) (sym (ap (row y) n ∙ marked_here g.bookings y i g.today p was))
            (let f = g.fit i was in record { on = f.on; value = f.value; back = omega arith; from = f.from; to = f.to })
        | inr n ↦ subst (Fit g.today g.accounts.count) (sym (marked_other g.bookings y i g.today j p w n)) (g.fit j w)
      ])

  pub marked_holds : Holds a g.rates y g.chains g.scratch g.today g.done
  marked_holds = record {
    small = rw (k.count, k.limit) g.small;
    owners = rw k.count g.owners;
    fit = marked_fit;
    sums = rw p.rows (sums_drop g.accounts (rows g.bookings) i b (marked g.today (get_or (rows g.bookings) i none_there)) none_there (parties g i b u e).from (parties g i b u e).to (in_rows g i b u e) (at g i b u e)
        (λ n. omega (arith, n)) g.sums a k);
    linkable = rw (k.capacity, p.capacity) g.linkable;
    incoming = rw (p.count, k.count) (chained_same g.chains.incoming (λ j. (row g.bookings j).to) (λ j. (row y j).to) g.bookings.count g.accounts.count g.incoming
        (λ j v. marked_keeps (λ c. c.to) (λ m c. refl) g.bookings y i g.today j p was v));
    outgoing = rw (p.count, k.count) (chained_same g.chains.outgoing (λ j. (row g.bookings j).from) (λ j. (row y j).from) g.bookings.count g.accounts.count g.outgoing
        (λ j v. marked_keeps (λ c. c.from) (λ m c. refl) g.bookings y i g.today j p was v));
    spare = rw k.capacity g.spare;
    last_day = g.last_day;
    most = omega (arith, g.most, marked_most, p.count);
  }

  pub made_marked : (h : Ledger) → h.today ≡ g.today → h.done ≡ g.done → h.accounts ≡ a → h.bookings ≡ y → h.rates ≡ g.rates → Made g h (marks i)
  unfolding rates_set bank made
  made_marked h t d f o q = record {
    bank_is = let c = limits_same g.accounts a k.limit k.count in let r = p.rows in cc;
    rates_are = ap rate_rows q ∙ sym (append-nil (rate_rows g.rates));
    limits_stay = let c = k.capacity in let r = p.capacity in cc;
    unit = omega (arith, g.most, t, d, ap (λ (r : Rates). r.count) q, ap (λ (r : Bookings). r.count) o, ap (λ (r : Bookings). backs (rows r)) o, p.count, marked_most);
  }

-- what is not accounts, bookings or chains may be another: a later day, other rates, another count of calls, other scratch
pub like_holds : (g : Ledger) (r : Rates) (s : Scratch) (t d : ℕ) → Rated r g.accounts.count → Spare s g.accounts.capacity → g.today ≤ t → t ≤ 3650 →
    d ≤ most_calls r.count g.bookings.count (backs (rows g.bookings)) t → Holds g.accounts r g.bookings g.chains s t d
like_holds g r s t d o p u v m = record {
  small = g.small;
  owners = o;
  fit = λ j w. fit_more g.today g.accounts.count t g.accounts.count (row g.bookings j) u (omega arith) (g.fit j w);
  sums = g.sums;
  linkable = g.linkable;
  incoming = g.incoming;
  outgoing = g.outgoing;
  spare = p;
  last_day = v;
  most = m;
}

-- scratch cells mean nothing: whoever writes them leaves the book as it was
pub scratch_free : (g h : Ledger) → h.today ≡ g.today → h.done ≡ g.done → h.accounts ≡ g.accounts → h.rates ≡ g.rates → h.bookings ≡ g.bookings → Becomes g h (bank g)
unfolding bank rates_set
scratch_free g h t d a r b = record { bank_is = cc; rates_are = ap rate_rows r; limits_stay = cc }

rated_more : (r : Rates) (m n : ℕ) → m ≤ n → Rated r m → Rated r n
rated_more r m n h o = record { owners = λ i u. omega (arith, o.owners i u) }

-- one more rate of an account that is there
module _ (g : Ledger) (r : Rates) (x : Dated) (u : x.account < length (bank g).accounts) (f : RateAdded g.rates r x) where
  rated_there : x.account < g.accounts.count
  rated_there = omega (arith, bank_accounts g)

  pub rated_holds : Holds g.accounts r g.bookings g.chains g.scratch g.today g.done
  rated_holds = like_holds g r g.scratch g.today g.done (f.rated g.accounts.count g.owners rated_there) g.spare (omega arith) g.last_day (omega (arith, g.most, f.count))

  pub made_rated : (h : Ledger) → h.today ≡ g.today → h.done ≡ g.done → h.accounts ≡ g.accounts → h.bookings ≡ g.bookings → h.rates ≡ r →
      Made g h (rates x.account (record { since = x.since; rate = x.rate }))
  unfolding rates_set bank made
  made_rated h t d a b q = record {
    bank_is =
        let ms : List ℕ = limits_in_lem g.accounts in
        let e = accounts_put 0 ms (rate_rows g.rates) x no_account x.account (omega arith) (omega (arith, rated_there, length_first (λ c. get_or g.accounts.limit.now c 0) g.accounts.count)) in
        let p = f.rows in
        cc;
    rates_are = ap rate_rows q ∙ f.rows;
    limits_stay = let c = f.capacity in cc;
    unit = omega (arith, g.most, d, t, f.count, ap (λ (z : Rates). z.count) q, ap (λ (z : Bookings). z.count) b, ap (λ (z : Bookings). backs (rows z)) b);
  }

-- one more account
module _ (g : Ledger) (n l : ℕ) (a : Accounts) (c : Chains) (small : l ≤ 100000000000) (v : length (bank g).accounts < g.accounts.capacity) (e : AccountAdded g.accounts a l) (q : n ≡ g.accounts.count)
    (j : BegunBoth g.chains c n) where
  added_room : g.accounts.count < g.accounts.capacity
  added_room = omega (arith, bank_accounts g)

  begun : BegunBoth g.chains c g.accounts.count
  begun = subst (BegunBoth g.chains c) q j

  added_small : (k : ℕ) → k < a.count → get_or a.limit.now k 0 ≤ 100000000000
  added_small k u =
      elim (cases_eq k g.accounts.count) [
        | inl z ↦ rw z (omega (arith, cell_same _ _ g.accounts.count _ e.limit (omega (arith, added_room))))
        | inr z ↦ omega (arith, cell_other _ _ g.accounts.count k _ e.limit z, g.small k (omega (arith, z, e.count)))
      ]

  added_like : (r : Rates) → Rated r (g.accounts.count + 1) → g.rates.count ≤ r.count → Holds a r g.bookings c g.scratch g.today g.done
  added_like r o m =
      let k : ℕ = g.accounts.count in
      record {
        small = added_small;
        owners = rw e.count o;
        fit = rw e.count (λ i w. fit_more g.today k g.today (k + 1) (row g.bookings i) (omega arith) (omega arith) (g.fit i w));
        sums = sums_added g.accounts a l (rows g.bookings) added_room e (none_to g) (none_from g) (none_ordered g) g.sums;
        linkable = rw e.capacity (linkable_begun g.chains c k _ _ g.linkable begun);
        incoming = rw e.count (chained_begun g.chains.incoming c.incoming (λ i. (row g.bookings i).to) g.bookings.count k (omega (arith, g.linkable.heads_in, added_room)) g.incoming begun.incoming (λ i w. (g.fit i w).to));
        outgoing = rw e.count (chained_begun g.chains.outgoing c.outgoing (λ i. (row g.bookings i).from) g.bookings.count k (omega (arith, g.linkable.heads_out, added_room)) g.outgoing begun.outgoing (λ i w. (g.fit i w).from));
        spare = rw e.capacity g.spare;
        last_day = g.last_day;
        most = omega (arith, g.most, m);
      }

  pub bare_holds : Holds a g.rates g.bookings c g.scratch g.today g.done
  bare_holds = added_like g.rates (rated_more g.rates g.accounts.count (g.accounts.count + 1) (omega arith) g.owners) (omega arith)

  length_limits : length (limits_in_lem g.accounts) ≡ g.accounts.count
  length_limits = length_first (λ c. get_or g.accounts.limit.now c 0) g.accounts.count

  -- it has no rate before
  unrated : rates_of g.accounts.count (rate_rows g.rates) ≡ []
  unrated = no_rates g.accounts.count (rate_rows g.rates) (each_first (λ y. y.account < g.accounts.count) (rate_row g.rates) g.rates.count g.owners.owners)

  -- without a rate
  pub bare : (h : Ledger) → h.today ≡ g.today → h.done ≡ g.done → h.bookings ≡ g.bookings → h.accounts ≡ a → h.rates ≡ g.rates → Becomes g h (made (bank g) (adds (bare_account l)))
  unfolding rates_set bank made
  bare h t d b x r = record {
    bank_is =
        let e1 = limits_added g.accounts a l added_room e in
        let e2 = accounts_snoc 0 (limits_in_lem g.accounts) l (rate_rows g.rates) g.accounts.count (omega (arith, length_limits)) in
        let e3 = unrated in
        cc;
    rates_are = ap rate_rows r;
    limits_stay = let k = e.capacity in cc;
  }

-- an account without a rate: one more account, as many rates; and then it is given one
pub bare_length : (n : Bank) (l : ℕ) → length (made n (adds (bare_account l))).accounts ≡ length n.accounts + 1
unfolding made
bare_length n l = length-append n.accounts (bare_account l ∷ [])

pub bare_rates : (n : Bank) (l : ℕ) → rates_in (made n (adds (bare_account l))).accounts ≡ rates_in n.accounts
unfolding made rates_in
bare_rates n l = omega (arith, rates-++ n.accounts (bare_account l ∷ []))

bare_rated : (n : Bank) (a t l r : ℕ) → a ≡ length n.accounts → made (made n (adds (bare_account l))) (rates a (record { since = t; rate = r })) ≡ made n (adds (new_account t l r))
unfolding made
bare_rated n a t l r e =
    let x = get_or_push n.accounts (bare_account l) no_account a (sym e) in
    let y = set-append_seam n.accounts (bare_account l) [] (new_account t l r) in
    cc

pub made_added : (g m h : Ledger) (a t l r : ℕ) → a ≡ length (bank g).accounts → Becomes g m (made (bank g) (adds (bare_account l))) → Made m h (rates a (record { since = t; rate = r })) →
    Made g h (adds (new_account t l r))
made_added g m h a t l r e b k = record {
  bank_is = k.bank_is ∙ ap (λ n. made n (rates a (record { since = t; rate = r }))) b.bank_is ∙ bare_rated (bank g) a t l r e;
  rates_are =
      k.rates_are ∙ ap (λ rs. rs ++ (record { account = a; since = t; rate = r } ∷ [])) b.rates_are
      ∙ ap (λ (z : ℕ). rates_set g ++ (record { account = z; since = t; rate = r } ∷ [])) e;
  limits_stay = k.limits_stay ∙ b.limits_stay;
  unit = k.unit;
}
