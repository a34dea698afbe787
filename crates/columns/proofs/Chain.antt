-- Laws of chains.
use Rattle.std.proofs.Common.{◌≡◌, ℕ, zero, suc, ◌+◌, ◌<◌, ◌≤◌, Bool, true, false, eqb, ◌≢◌, length, sym, refl, ap, ◌∙◌, inl, inr, add-one, arith}
use Rattle.std.proofs.lemmas.Bool.{cases_eq, eq-eqb, ne_eqb}
use Rattle.bank.specs.Book.{pick, Booking}
use Rattle.bank.specs.Sums.{tally}
use Rattle.columns.specs.Firsts.{first_of}
use Rattle.columns.specs.Rows.{row}
use Rattle.columns.specs.Links.{latest, Linkable, Chained, Begun, Linked, BegunBoth, LinkedBoth}
use Rattle.columns.specs.declared.bookings.Bookings.{Bookings}
use Rattle.columns.specs.declared.chains.Chain.{Chain}
use Rattle.columns.specs.declared.chains.Chains.{Chains}
use Rattle.columns.proofs.Cell.{cell_same, cell_other, cell_length}
use Rattle.columns.proofs.Put.{tally_more}

-- the two cases of a step
latest_yes : (f : ℕ → ℕ) (a n : ℕ) → f n ≡ a → latest f a (suc n) ≡ suc n
unfolding latest
latest_yes f a n e = rw (eq-eqb (f n) a e)

latest_no : (f : ℕ → ℕ) (a n : ℕ) → (f n ≡ a → ⊥) → latest f a (suc n) ≡ latest f a n
unfolding latest
latest_no f a n e = rw (ne_eqb (f n) a e)

pub latest_none : (f : ℕ → ℕ) (a : ℕ) → latest f a 0 ≡ 0
unfolding latest
latest_none f a = refl

pub latest_le : (f : ℕ → ℕ) (a n : ℕ) → latest f a n ≤ n
unfolding latest
latest_le f a zero = omega arith
latest_le f a (suc n) = elim (eqb (f n) a) as (λ t. pick t (suc n) (latest f a n) ≤ suc n) [ true ↦ omega arith | false ↦ omega (arith, latest_le f a n) ]

latest_same : (f g : ℕ → ℕ) (a n : ℕ) → ((k : ℕ) → k < n → g k ≡ f k) → latest g a n ≡ latest f a n
unfolding latest
latest_same f g a zero h = refl
latest_same f g a (suc n) h = rw (h n (omega arith), latest_same f g a n (λ k u. h k (omega arith)))

-- the head of a chain is an end of it
pub latest_hit : (f : ℕ → ℕ) (a i : ℕ) → latest f a (suc i) ≡ suc i → f i ≡ a
latest_hit f a i e = elim (cases_eq (f i) a) [ inl q ↦ q | inr q ↦ absurd (omega (arith, latest_no f a i q, latest_le f a i)) ]

pub latest_fix : (f : ℕ → ℕ) (a n : ℕ) → latest f a (latest f a n) ≡ latest f a n
unfolding latest
latest_fix f a zero = refl
latest_fix f a (suc n) =
    elim (cases_eq (f n) a) [
      | inl q ↦ ap (latest f a) (latest_yes f a n q)
      | inr q ↦ ap (latest f a) (latest_no f a n q) ∙ latest_fix f a n ∙ sym (latest_no f a n q)
    ]

-- a sum over bookings of which only those of party a count does not change after the latest of them
pub tally_latest : (t : Booking → Bool) (p : Booking → ℕ) (a : ℕ) (c : Bookings) (n : ℕ) → ((b : Booking) → (p b ≡ a → ⊥) → t b ≡ false) →
    tally t (first_of (row c) n) ≡ tally t (first_of (row c) (latest (λ i. p (row c i)) a n))
unfolding latest
tally_latest t p a c zero h = refl
tally_latest t p a c (suc n) h =
    elim (cases_eq (p (row c n)) a) [
      | inl q ↦ ap (λ m. tally t (first_of (row c) m)) (sym (latest_yes (λ i. p (row c i)) a n q))
      | inr q ↦ ap (λ m. tally t (first_of (row c) m)) (sym (add-one n)) ∙ tally_more t c n ∙ omega (arith, ap (λ x. pick x (row c n).amount 0) (h (row c n) q))
          ∙ tally_latest t p a c n h ∙ ap (λ m. tally t (first_of (row c) m)) (sym (latest_no (λ i. p (row c i)) a n q))
    ]

pub chained_same : (c : Chain) (f g : ℕ → ℕ) (n m : ℕ) → Chained c f n m → ((k : ℕ) → k < n → g k ≡ f k) → Chained c g n m
chained_same c f g n m h e = record {
  heads = λ a u. h.heads a u ∙ sym (latest_same f g a n e);
  links = λ i u. h.links i u ∙ sym (latest_same f g (f i) i (λ k v. e k (omega arith))) ∙ ap (λ p. latest g p i) (sym (e i u));
}

pub linkable_linked : (c d : Chains) (x : Booking) (n m b : ℕ) → Linkable c m b → LinkedBoth c d x n → Linkable d m b
linkable_linked c d x n m b h l = record {
  heads_in = cell_length _ _ _ _ _ l.incoming.newest h.heads_in;
  links_in = cell_length _ _ _ _ _ l.incoming.before h.links_in;
  heads_out = cell_length _ _ _ _ _ l.outgoing.newest h.heads_out;
  links_out = cell_length _ _ _ _ _ l.outgoing.before h.links_out;
}

pub chained_push : (c d : Chain) (f g : ℕ → ℕ) (a n m : ℕ) → m ≤ length c.newest.now → n < length c.before.now → Chained c f n m → Linked c d a n → a < m →
    ((k : ℕ) → k < n → g k ≡ f k) → g n ≡ a → Chained d g (n + 1) m
chained_push c d f g a n m o v h l u e q =
    let s = chained_same c f g n m h e in
    record {
      heads = λ k w. elim (cases_eq k a) [
        | inl r ↦ rw r (cell_same _ _ a _ l.newest (omega arith) ∙ add-one n ∙ sym (ap (latest g a) (add-one n) ∙ latest_yes g a n q))
        | inr r ↦ cell_other _ _ a k _ l.newest r ∙ s.heads k w ∙ sym (ap (latest g k) (add-one n) ∙ latest_no g k n (λ z. r (sym z ∙ q)))
      ];
      links = λ i w. elim (cases_eq i n) [
        | inl r ↦ rw r (cell_same _ _ n _ l.before v ∙ s.heads a u ∙ ap (λ p. latest g p n) (sym q))
        | inr r ↦ cell_other _ _ n i _ l.before r ∙ s.links i (omega (arith, r))
      ];
    }

-- one more account, of which there is no booking
latest_absent : (f : ℕ → ℕ) (a n : ℕ) → ((k : ℕ) → k < n → f k ≢ a) → latest f a n ≡ 0
unfolding latest
latest_absent f a zero h = refl
latest_absent f a (suc n) h = latest_no f a n (h n (omega arith)) ∙ latest_absent f a n (λ k u. h k (omega arith))

pub linkable_begun : (c d : Chains) (a m b : ℕ) → Linkable c m b → BegunBoth c d a → Linkable d m b
linkable_begun c d a m b h l = record {
  heads_in = cell_length _ _ _ _ _ l.incoming.newest h.heads_in;
  links_in = rw l.incoming.before h.links_in;
  heads_out = cell_length _ _ _ _ _ l.outgoing.newest h.heads_out;
  links_out = rw l.outgoing.before h.links_out;
}

pub chained_begun : (c d : Chain) (f : ℕ → ℕ) (n m : ℕ) → m < length c.newest.now → Chained c f n m → Begun c d m → ((k : ℕ) → k < n → f k < m) → Chained d f n (m + 1)
chained_begun c d f n m u h l p = record {
  heads = λ a v. elim (cases_eq a m) [
    | inl q ↦ rw q (cell_same _ _ m _ l.newest u ∙ sym (latest_absent f m n (λ k w z. omega (arith, p k w, z))))
    | inr q ↦ cell_other _ _ m a _ l.newest q ∙ h.heads a (omega (arith, q))
  ];
  links = λ i v. rw l.before (h.links i v);
}
