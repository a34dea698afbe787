-- Laws of lists by number: one more at the end, one changed, the same.
use Rattle.std.proofs.Common.{◌≡◌, ℕ, zero, suc, ◌+◌, ◌<◌, ◌≢◌, List, [], ◌∷◌, ◌++◌, length, get_or, set, sym, refl, ap, ◌∙◌, inl, inr, add-one, arith}
use Rattle.std.proofs.lemmas.List.FromFn.{length-map-range_with_len, get_or-map-range_with_len, map-range_with_len_more}
use Rattle.std.proofs.lemmas.List.{ext_get_or, get_or-set_same, get_or-set_other, length-set}
use Rattle.std.proofs.lemmas.Bool.{cases_eq}
use Rattle.bank.proofs.Tally.{Each, each_append}
use Rattle.columns.specs.Firsts.{first_of}

module _ {X : Type 0} where
  pub length_first : (f : ℕ → X) (n : ℕ) → length (first_of f n) ≡ n
  unfolding first_of
  length_first f n = length-map-range_with_len f 0 n

  pub get_or_first : (f : ℕ → X) (n i : ℕ) (d : X) → i < n → get_or (first_of f n) i d ≡ f i
  unfolding first_of
  get_or_first f n i d h = get_or-map-range_with_len f 0 n i i d h (omega arith)

  pub first_more : (f : ℕ → X) (n : ℕ) → first_of f (n + 1) ≡ first_of f n ++ (f n ∷ [])
  unfolding first_of
  first_more f n = map-range_with_len_more f 0 n n (omega arith)

  pub first_none : (f : ℕ → X) → first_of f 0 ≡ []
  unfolding first_of
  first_none f = refl

  -- a list that has f k at each k below n
  pub first_is : (f : ℕ → X) (n : ℕ) (ys : List X) → length ys ≡ n → ((k : ℕ) → k < n → get_or ys k (f 0) ≡ f k) → first_of f n ≡ ys
  first_is f n ys e h =
      let l : length (first_of f n) ≡ n = length_first f n in
      ext_get_or (f 0) _ _ (l ∙ sym e) (λ k u. let v : k < n = omega (arith, l) in get_or_first f n k (f 0) v ∙ sym (h k v))

  pub first_same : (f g : ℕ → X) (n : ℕ) → ((k : ℕ) → k < n → g k ≡ f k) → first_of g n ≡ first_of f n
  first_same f g n h = first_is g n (first_of f n) (length_first f n) (λ k u. get_or_first f n k (g 0) u ∙ sym (h k u))

  -- one more, and the others as they were
  pub first_push : (f g : ℕ → X) (n : ℕ) (x : X) → ((k : ℕ) → k < n → g k ≡ f k) → g n ≡ x → first_of g (n + 1) ≡ first_of f n ++ (x ∷ [])
  first_push f g n x h e = first_more g n ∙ ap (λ ys. ys ++ (g n ∷ [])) (first_same f g n h) ∙ ap (λ y. first_of f n ++ (y ∷ [])) e

  -- one changed, and the others as they were
  pub first_set : (f g : ℕ → X) (n i : ℕ) (x : X) → i < n → ((k : ℕ) → k < n → k ≢ i → g k ≡ f k) → g i ≡ x → first_of g n ≡ set (first_of f n) i x
  first_set f g n i x l h e =
      let len : length (first_of f n) ≡ n = length_first f n in
      let below : i < length (first_of f n) = omega (arith, len) in
      first_is g n (set (first_of f n) i x) (length-set (first_of f n) i x ∙ len)
      (λ k u. elim (cases_eq k i) [
        | inl same ↦ rw same (get_or-set_same (first_of f n) i x (g 0) below ∙ sym e)
        | inr other ↦ get_or-set_other (first_of f n) i k x (g 0) other ∙ get_or_first f n k (g 0) u ∙ sym (h k u other)
      ])

  -- what holds of each below n
  pub each_first : (P : X → Type 0) (f : ℕ → X) (n : ℕ) → ((k : ℕ) → k < n → P (f k)) → Each P (first_of f n)
  each_first P f zero h = rw (first_none f) tt
  each_first P f (suc n) h =
      rw (ap (first_of f) (sym (add-one n)) ∙ first_more f n) (each_append P (first_of f n) (f n ∷ []) (each_first P f n (λ k u. h k (omega arith))) (h n (omega arith), tt))
