-- Lists cut into chunks of p, of which each goes into a block.
use Rattle.std.proofs.Common.{◌≡◌, ℕ, zero, suc, ◌+◌, ◌*◌, ◌/◌, ◌<◌, ◌≤◌, Bool, true, ◌≢◌, List, [], ◌∷◌, ◌++◌, length, take, drop, refl, mul-le-mul_right, suc-mul, div-lt_iff_lt-mul, zero-mul, div-mul-le_self, add-one, arith, length-append, length-drop, length-take, take_all, take-add}
use native.Mathlib.Nat.{lt-div-mul-add, div-eq_of_eq-mul_left, div-eq_of_lt-le}
use native.Mathlib.Decide.{dec_lt}
use lib.Seq.{take-nil, take-append-le, drop-append-le}
use Rattle.std.proofs.lemmas.Bool.{and_parts, and_from}
use Rattle.std.proofs.lemmas.List.{drop_all}
use Rattle.device.specs.Device.{Device}
use Rattle.device.specs.Book.{every}
use Rattle.device.specs.Journal.{chunk, gather_each, gather}

module _ {C : Type 0} (ok : C → Bool) where
  pub every_snoc : (s : List C) (c : C) → every ok s ≡ true → ok c ≡ true → every ok (s ++ (c ∷ [])) ≡ true
  unfolding every
  every_snoc [] c h g = and_from _ _ g refl
  every_snoc (x ∷ s) c h g = let r = and_parts _ _ h in and_from _ _ r.0 (every_snoc s c r.1 g)

  pub every_take : (k : ℕ) (s : List C) → every ok s ≡ true → every ok (take k s) ≡ true
  unfolding every
  every_take zero s h = refl
  every_take (suc k) [] h = refl
  every_take (suc k) (x ∷ s) h = let r = and_parts _ _ h in and_from _ _ r.0 (every_take k s r.1)

  pub every_drop : (k : ℕ) (s : List C) → every ok s ≡ true → every ok (drop k s) ≡ true
  unfolding every
  every_drop zero s h = h
  every_drop (suc k) [] h = h
  every_drop (suc k) (x ∷ s) h = every_drop k s (and_parts _ _ h).1

-- a block further on is p calls further on
pub apart : (p i j : ℕ) → i < j → i * p + p ≤ j * p
apart p i j h = rw (suc-mul i p) at (mul-le-mul_right p h)

module _ (p : ℕ) (pos : 0 < p) where
  pub block_begins : (n : ℕ) → n / p * p ≤ n
  block_begins n = div-mul-le_self n p

  pub block_ends : (n : ℕ) → n < n / p * p + p
  block_ends n = lt-div-mul-add pos

  pub block_there : (n r : ℕ) → n < r * p → n / p < r
  block_there n r h = (div-lt_iff_lt-mul pos).1 h

  -- chunks of a list with one more at its end
  module _ {C : Type 0} where
    chunk_before : (j : ℕ) (s : List C) (c : C) → j * p + p ≤ length s → chunk p j (s ++ (c ∷ [])) ≡ chunk p j s
    chunk_before j s c h =
        let a : j * p ≤ length s = omega arith in
        let l : p ≤ length (drop (j * p) s) = simp length-drop (omega arith) in
        rw (drop-append-le (j * p) s (c ∷ []) a, take-append-le p (drop (j * p) s) (c ∷ []) l)

    pub chunk_at : (j : ℕ) (s : List C) (c : C) → j * p ≤ length s → length s < j * p + p → chunk p j (s ++ (c ∷ [])) ≡ chunk p j s ++ (c ∷ [])
    chunk_at j s c a h =
        let l : length (drop (j * p) s) ≤ p = simp length-drop (omega arith) in
        let m : length (drop (j * p) s ++ (c ∷ [])) ≤ p = simp (length-append, length-drop) (omega arith) in
        rw (drop-append-le (j * p) s (c ∷ []) a, take_all p (drop (j * p) s ++ (c ∷ [])) m, take_all p (drop (j * p) s) l)

    chunk_past : (j : ℕ) (s : List C) (c : C) → length s < j * p → chunk p j (s ++ (c ∷ [])) ≡ chunk p j s
    chunk_past j s c h =
        let l : length (s ++ (c ∷ [])) ≤ j * p = simp length-append (omega arith) in
        let m : length s ≤ j * p = omega arith in
        rw (drop_all (j * p) (s ++ (c ∷ [])) l, drop_all (j * p) s m)

    pub chunk_other : (j : ℕ) (s : List C) (c : C) → j ≢ length s / p → chunk p j (s ++ (c ∷ [])) ≡ chunk p j s
    chunk_other j s c h =
        let b = block_begins (length s) in
        let e = block_ends (length s) in
        elim (dec_lt j (length s / p)) [
          | yes l ↦ chunk_before j s c (omega (arith, apart p j (length s / p) l))
          | no l ↦ let m : length s / p < j = omega arith in chunk_past j s c (omega (arith, apart p (length s / p) j m))
        ]

    -- the last chunk has room
    pub chunk_fits : (s : List C) → length (chunk p (length s / p) s) < p
    chunk_fits s = let e = block_ends (length s) in simp (length-take, length-drop) (omega arith)

    -- what is gathered from chunks, and from blocks that hold them
    pub gathered_each : (g : ℕ → List C) (s : List C) (k : ℕ) → ((j : ℕ) → j < k → g j ≡ chunk p j s) → gather_each g k ≡ take (k * p) s
    unfolding gather_each
    gathered_each g s zero h = rw zero-mul
    gathered_each g s (suc k) h = rw (suc-mul k p, take-add (k * p) p s, gathered_each g s k (λ j l. h j (omega arith)), h k (omega arith))

    pub gathered : (decode : List ℕ → List C) (d : Device) (s : List C) (k : ℕ) → ((j : ℕ) → j < k → decode (d j) ≡ chunk p j s) → gather decode d k ≡ take (k * p) s
    gathered decode d s k h = gathered_each (λ i. decode (d i)) s k h

    -- the last chunk with one more: it is full and the next one is begun, or it goes on
    pub length_last : (s : List C) → length (chunk p (length s / p) s) + length s / p * p ≡ length s
    length_last s = let b = block_begins (length s) in let e = block_ends (length s) in simp (length-take, length-drop) (omega arith)

    pub last_full : (s : List C) (c : C) → suc (length (chunk p (length s / p) s)) ≡ p → chunk p (suc (length s) / p) (s ++ (c ∷ [])) ≡ []
    last_full s c h =
        let l = length_last s in
        let q : suc (length s) / p ≡ suc (length s / p) = div-eq_of_eq-mul_left pos (omega (arith, suc-mul (length s / p) p)) in
        let m : length (s ++ (c ∷ [])) ≤ suc (length s / p) * p = rw (suc-mul (length s / p) p, length-append s (c ∷ [])) (omega arith) in
        rw (q, drop_all (suc (length s / p) * p) (s ++ (c ∷ [])) m, take-nil {A = C} p)

    pub last_open : (s : List C) (c : C) → suc (length (chunk p (length s / p) s)) ≢ p → chunk p (suc (length s) / p) (s ++ (c ∷ [])) ≡ chunk p (length s / p) s ++ (c ∷ [])
    last_open s c h =
        let l = length_last s in
        let f = chunk_fits s in
        let b = block_begins (length s) in
        let e = block_ends (length s) in
        let q : suc (length s) / p ≡ length s / p = div-eq_of_lt-le p (omega arith) (rw (add-one, suc-mul) (omega arith)) in
        rw q (chunk_at (length s / p) s c b e)
