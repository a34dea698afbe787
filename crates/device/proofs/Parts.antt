-- Laws of parts: what bytes written at a place leave there, before it and behind it.
use Rattle.std.proofs.Common.{◌≡◌, ℕ, ◌+◌, ◌-◌, ◌<◌, ◌≤◌, List, [], ◌∷◌, ◌++◌, length, take, drop, set, sym, refl, ap, ◌∙◌, append_assoc, add-one, add-zero, add_assoc, arith, rules}
use borrow.Rule.Slice.PartMut.{put_mid}
use Rattle.std.proofs.lemmas.List.{length-take, length-append, length-take-le, set_split, take_at, drop_at, take-append-drop, take-append-le, take-take, drop-take, drop-drop, places}
use Rattle.std.proofs.lemmas.Slice.{drop-put_mid}
use Rattle.device.specs.Rows.{with_bytes}

module _ (at : ℕ) (ys xs : List ℕ) (room : at + length ys ≤ length xs) where
  pub with_length : length (with_bytes xs at ys) ≡ length xs
  with_length = search (rules, places)

  pub with_front : (n : ℕ) → n ≤ at → take n (with_bytes xs at ys) ≡ take n xs
  with_front n le =
      let l : n ≤ length (take at xs) = simp length-take (omega arith) in
      take-append-le n (take at xs) (ys ++ drop (at + length ys) xs) l ∙ take-take n at xs le

  pub with_there : drop at (with_bytes xs at ys) ≡ ys ++ drop (at + length ys) xs
  with_there = drop_at (take at xs) (ys ++ drop (at + length ys) xs) at (length-take-le at xs (omega arith))

  pub with_rest : (n : ℕ) → at + length ys ≤ n → drop n (with_bytes xs at ys) ≡ drop n xs
  with_rest n le =
      ap (λ r. drop n (take at xs ++ (ys ++ r))) (sym (drop-drop (length ys) at xs)) ∙ drop-put_mid at (length ys) xs ys n le (omega arith) refl

  pub with_same : (n : ℕ) → length ys ≡ n → take n (drop at (with_bytes xs at ys)) ≡ ys
  with_same n whole = ap (take n) with_there ∙ take_at ys (drop (at + length ys) xs) n whole

  pub with_before : (b n : ℕ) → b + n ≤ at → take n (drop b (with_bytes xs at ys)) ≡ take n (drop b xs)
  with_before b n le = sym (drop-take b n (with_bytes xs at ys)) ∙ (ap (drop b) (with_front (b + n) le) ∙ drop-take b n xs)

-- nothing, one byte, and more bytes behind those that were written
pub with_none : (xs : List ℕ) (at : ℕ) → with_bytes xs at [] ≡ xs
with_none xs at = rw (add-zero at) (take-append-drop at xs)

pub with_one : (xs : List ℕ) (at b : ℕ) → at < length xs → set xs at b ≡ with_bytes xs at (b ∷ [])
with_one xs at b h = rw (add-one at) (set_split xs at b h)

pub with_more : (xs ys zs : List ℕ) (at e : ℕ) → at + length ys ≡ e → e ≤ length xs → with_bytes (with_bytes xs at ys) e zs ≡ with_bytes xs at (ys ++ zs)
with_more xs ys zs at e s h =
    let l : length (take at xs ++ ys) ≡ e = simp (length-append, length-take) (omega arith) in
    rw (← append_assoc (take at xs) ys (drop (at + length ys) xs), s, ← drop-drop (length zs) e, take_at (take at xs ++ ys) (drop e xs) e l, drop_at (take at xs ++ ys) (drop e xs) e l)
    (simp (append_assoc, drop-drop, length-append, ← s, add_assoc) refl)

-- and as code fills it
pub part_written : (at end n : ℕ) (bs cs xs : List ℕ) → end ≡ at + n → length cs ≡ n → bs ≡ cs → put_mid at (end - at) xs bs ≡ with_bytes xs at cs
part_written at end n bs cs xs s l q =
    let m : end - at ≡ length cs = omega arith in
    ap (λ k. put_mid at k xs bs) m ∙ (ap (λ r. take at xs ++ (bs ++ r)) (drop-drop (length cs) at xs) ∙ ap (λ b. take at xs ++ (b ++ drop (at + length cs) xs)) q)
