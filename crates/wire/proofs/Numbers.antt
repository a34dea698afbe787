-- Laws of numbers in bytes and of bytes written into others.
use Rattle.std.proofs.Common.{◌≡◌, ℕ, zero, suc, ◌+◌, ◌-◌, ◌*◌, ◌/◌, ◌%◌, ◌<◌, ◌≤◌, true, ltb, leb, List, [], ◌∷◌, ◌++◌, length, get_or, take, drop, set, replicate, sym, refl, ap, ◌∙◌, append_assoc, suc-add, zero-add, arith, length-drop}
use native.Mathlib.Nat.{div-div-eq-div-mul}
use lib.ListN.{length-replicate}
use Rattle.std.proofs.Math.Seq.{take-add}
use Rattle.std.proofs.lemmas.List.{places, take_more_set, drop_all, drop_more, drop-set-lt, drop-drop, take-append-drop, drop-replicate, take-replicate}
use Rattle.std.proofs.lemmas.Slice.{between_is}
use borrow.Rule.Slice.PartMut.{put_mid}
use Rattle.device.specs.Rows.{bytes_of, number_of, numbers, row, top, width, with_bytes}
use Rattle.device.proofs.Parts.{with_more, with_none}
use Rattle.device.proofs.Rows.{length_bytes, row_length, zeros}
use Rattle.std.proofs.lemmas.Bool.{and_parts, leb-true, ltb-true}
use Rattle.device.specs.Device.{all_bytes}
use Rattle.wire.specs.Bytes.{eights, form, narrow}

-- what to_le_bytes writes
pub bytes_8 : (n : ℕ) → bytes_of 8 n ≡ n % 256 ∷ n / 256 % 256 ∷ n / 65536 % 256 ∷ n / 16777216 % 256 ∷ n / 4294967296 % 256 ∷ n / 1099511627776 % 256 ∷ n / 281474976710656 % 256 ∷ n / 72057594037927936 % 256 ∷ []
unfolding bytes_of
bytes_8 n = simp div-div-eq-div-mul

-- fewer bytes of a number are the first of more
pub bytes_front : (k m n : ℕ) → take k (bytes_of (k + m) n) ≡ bytes_of k n
unfolding bytes_of
bytes_front zero m n = refl
bytes_front (suc k) m n = rw suc-add (ap (λ (r : List ℕ). n % 256 ∷ r) (bytes_front k m (n / 256)))

-- one byte more, and bytes that are not there count as 0
number_none : (k : ℕ) → number_of k [] ≡ 0
unfolding number_of
number_none zero = refl
number_none (suc k) = refl

pub number_more : (k i : ℕ) (xs : List ℕ) → number_of (suc k) (drop i xs) ≡ get_or xs i 0 + 256 * number_of k (drop (suc i) xs)
unfolding number_of
number_more k zero [] = omega (arith, number_none k)
number_more k (suc i) [] = omega (arith, number_none k)
number_more k zero (x ∷ xs) = refl
number_more k (suc i) (x ∷ xs) = number_more k i xs

-- what from_le_bytes reads
pub number_8 : (xs : List ℕ) → number_of 8 xs ≡ get_or xs 0 0 + get_or xs 1 0 * 256 + get_or xs 2 0 * 65536 + get_or xs 3 0 * 16777216 + get_or xs 4 0 * 4294967296 + get_or xs 5 0 * 1099511627776 + get_or xs 6 0 * 281474976710656 + get_or xs 7 0 * 72057594037927936
unfolding number_of
number_8 xs = omega (arith, number_more 7 0 xs, number_more 6 1 xs, number_more 5 2 xs, number_more 4 3 xs, number_more 3 4 xs, number_more 2 5 xs, number_more 1 6 xs, number_more 0 7 xs)

-- zeros behind a number's bytes do not change it
pub number_front : (k m : ℕ) (xs : List ℕ) → k ≤ length xs → number_of (k + m) (take k xs ++ replicate m 0) ≡ number_of k xs
unfolding number_of
number_front zero m xs h = rw zero-add (zeros m m)
number_front (suc k) m [] h = absurd (omega arith)
number_front (suc k) m (x ∷ xs) h = rw suc-add (ap (λ (r : ℕ). x + 256 * r) (number_front k m xs (omega arith)))

-- the first bytes of a word of eight, and a word of which the first bytes were written
pub word_front : (k n : ℕ) (word : List ℕ) → k ≤ 8 → word ≡ bytes_of 8 n → take (k - 0) word ≡ bytes_of k n
word_front k n word h e =
    let same : k - 0 ≡ k = omega arith in
    let eight : k + (8 - k) ≡ 8 = omega arith in
    rw (same, e, ← eight) (bytes_front k (8 - k) n)

pub word_filled : (k at : ℕ) (bytes part : List ℕ) → k ≤ 8 → at + k ≤ length bytes → part ≡ take (at + k - at) (drop at bytes) →
    number_of 8 (put_mid 0 (k - 0) (replicate 8 0) part) ≡ number_of k (drop at bytes)
word_filled k at bytes part h l e =
    let same : k - 0 ≡ k = omega arith in
    let wide : at + k - at ≡ k = omega arith in
    let eight : 8 ≡ k + (8 - k) = omega arith in
    let long : k ≤ length (drop at bytes) = simp length-drop (omega arith) in
    let filled : put_mid 0 (k - 0) (replicate 8 0) part ≡ take k (drop at bytes) ++ replicate (8 - k) 0 = rw (same, e, wide, drop-replicate {X = ℕ} k 8 0) refl in
    ap (number_of 8) filled ∙ ap (λ m. number_of m (take k (drop at bytes) ++ replicate (8 - k) 0)) eight ∙ number_front k (8 - k) (drop at bytes) long

pub length_numbers : (ks bs : List ℕ) → length (numbers ks bs) ≡ length ks
unfolding numbers
length_numbers [] bs = refl
length_numbers (k ∷ ks) bs = ap suc (length_numbers ks (drop k bs))

-- zeros behind a list are what stands past its end
pub get_or_zeros : (xs : List ℕ) (m i : ℕ) → get_or (xs ++ replicate m 0) i 0 ≡ get_or xs i 0
get_or_zeros xs m i = grind (arith, places)

-- widths of eight
pub eights_front : (n : ℕ) → n ≤ 8 → take (n - 0) (replicate 8 8) ≡ eights n
eights_front n h = let same : n - 0 ≡ n = omega arith in rw same (take-replicate {X = ℕ} n 8 8 h)

pub width_eights : (n : ℕ) → width (eights n) ≡ 8 * n
width_eights zero = refl
width_eights (suc n) = omega (arith, width_eights n)

pub narrow_eights : (n : ℕ) → narrow (eights n) ≡ true
narrow_eights zero = refl
narrow_eights (suc n) = narrow_eights n

pub length_form : (t : ℕ) (ns : List ℕ) → length (form t ns) ≡ 1 + 8 * length ns
length_form t ns = omega (arith, row_length (eights (length ns)) ns, width_eights (length ns))

-- bytes are those of the number that they are
pub bytes_again : (k : ℕ) (bs : List ℕ) → all_bytes bs ≡ true → k ≤ length bs → bytes_of k (number_of k bs) ≡ take k bs
unfolding bytes_of number_of all_bytes
bytes_again zero bs b h = refl
bytes_again (suc k) [] b h = absurd (omega arith)
bytes_again (suc k) (x ∷ bs) b h =
    let q = and_parts (ltb x 256) (all_bytes bs) b in
    let small : x < 256 = ltb-true x 256 q.0 in
    let low : (x + 256 * number_of k bs) % 256 ≡ x = omega arith in
    let high : (x + 256 * number_of k bs) / 256 ≡ number_of k bs = omega arith in
    rw (low, high) (ap (λ r. x ∷ r) (bytes_again k bs q.1 (omega arith)))

pub bytes_tail : (x : ℕ) (bs : List ℕ) → all_bytes (x ∷ bs) ≡ true → all_bytes bs ≡ true
unfolding all_bytes
bytes_tail x bs b = (and_parts (ltb x 256) (all_bytes bs) b).1

bytes_rest : (k : ℕ) (bs : List ℕ) → all_bytes bs ≡ true → all_bytes (drop k bs) ≡ true
unfolding all_bytes
bytes_rest zero bs b = b
bytes_rest (suc k) [] b = refl
bytes_rest (suc k) (x ∷ bs) b = bytes_rest k bs (bytes_tail x bs b)

pub row_again : (ks bs : List ℕ) → all_bytes bs ≡ true → width ks ≤ length bs → row ks (numbers ks bs) ≡ take (width ks) bs
unfolding row numbers
row_again [] bs b h = refl
row_again (k ∷ ks) bs b h =
    let long : width ks ≤ length (drop k bs) = simp length-drop (omega arith) in
    ap (λ r. r ++ row ks (numbers ks (drop k bs))) (bytes_again k bs b (omega arith))
    ∙ ap (λ r. take k bs ++ r) (row_again ks (drop k bs) (bytes_rest k bs b) long)
    ∙ sym (take-add k (width ks) bs)

-- and it is below what so many bytes can hold
number_small : (k : ℕ) (bs : List ℕ) → all_bytes bs ≡ true → number_of k bs < top k
unfolding number_of all_bytes
number_small zero bs b = omega arith
number_small (suc k) [] b = omega (arith, number_small k [] refl)
number_small (suc k) (x ∷ bs) b =
    let q = and_parts (ltb x 256) (all_bytes bs) b in
    omega (arith, ltb-true x 256 q.0, number_small k bs q.1)

top_grows : (k m : ℕ) → top k ≤ top (m + k)
top_grows k zero = rw zero-add (omega arith)
top_grows k (suc m) = rw suc-add (omega (arith, top_grows k m))

word_small : (k : ℕ) → k ≤ 8 → (n : ℕ) → n < top k → n < 18446744073709551616
word_small k h n l = let s : 8 - k + k ≡ 8 = omega arith in omega (arith, rw s at (top_grows k (8 - k)))

pub numbers_small : (ks bs : List ℕ) → all_bytes bs ≡ true → narrow ks ≡ true → (i : ℕ) → get_or (numbers ks bs) i 0 < 18446744073709551616
unfolding numbers
numbers_small [] bs b n i = omega arith
numbers_small (k ∷ ks) bs b n zero = let q = and_parts (leb k 8) (narrow ks) n in word_small k (leb-true k 8 q.0) (number_of k bs) (number_small k bs b)
numbers_small (k ∷ ks) bs b n (suc i) = numbers_small ks (drop k bs) (bytes_rest k bs b) (and_parts (leb k 8) (narrow ks) n).1 i

-- numbers are read from the bytes that they have
pub number_within : (k n : ℕ) (bs : List ℕ) → k ≤ n → number_of k (take n bs) ≡ number_of k bs
unfolding number_of
number_within zero n bs h = refl
number_within (suc k) zero bs h = absurd (omega arith)
number_within (suc k) (suc n) [] h = refl
number_within (suc k) (suc n) (b ∷ bs) h = ap (λ r. b + 256 * r) (number_within k n bs (omega arith))

front_numbers : (ks bs : List ℕ) (n : ℕ) → width ks ≤ n → numbers ks (take n bs) ≡ numbers ks bs
unfolding numbers
front_numbers [] bs n h = refl
front_numbers (k ∷ ks) bs n h =
    ap (λ x. x ∷ numbers ks (drop k (take n bs))) (number_within k n bs (omega arith))
    ∙ ap (λ x. number_of k bs ∷ x) (ap (numbers ks) (sym (between_is bs k n)) ∙ front_numbers ks (drop k bs) (n - k) (omega arith))

pub numbers_within : (ks bs : List ℕ) (i n : ℕ) → i + width ks ≤ n → numbers ks (drop i (take n bs)) ≡ numbers ks (drop i bs)
numbers_within ks bs i n h = ap (numbers ks) (sym (between_is bs i n)) ∙ front_numbers ks (drop i bs) (n - i) (omega arith)

-- a number more is written behind those that were
pub row_begun : (xs out : List ℕ) (at k n : ℕ) (ks ns : List ℕ) → at + k ≤ length xs → out ≡ with_bytes xs at (bytes_of k n) → with_bytes out (at + k) (row ks ns) ≡ with_bytes xs at (row (k ∷ ks) (n ∷ ns))
unfolding row
row_begun xs out at k n ks ns h e = ap (λ o. with_bytes o (at + k) (row ks ns)) e ∙ with_more xs (bytes_of k n) (row ks ns) at (at + k) (ap (λ m. at + m) (length_bytes k n)) h

pub row_done : (out : List ℕ) (at : ℕ) (ks ns : List ℕ) → length ks ≡ 0 → with_bytes out at (row ks ns) ≡ out
unfolding row
row_done out at [] ns h = with_none out at
row_done out at (k ∷ ks) ns h = absurd (omega arith)

-- a number more is read behind those that were, with zeros behind it still
pub one_wide : (ks : List ℕ) (i : ℕ) → i < length ks → narrow (drop i ks) ≡ true →
    (width (drop i ks) ≡ get_or ks i 0 + width (drop (i + 1) ks)) × (narrow (drop (i + 1) ks) ≡ true)
one_wide ks i h e = (ap width (drop_more ks i 0 h), (and_parts _ _ (rw (drop_more ks i 0 h) at e)).1)

pub zeros_next : (ns : List ℕ) (i n m k : ℕ) → drop i ns ≡ replicate m 0 → m - 1 ≡ k → drop (i + 1) (set ns i n) ≡ replicate k 0
zeros_next ns i n m k e s = rw (← s) (drop-set-lt (i + 1) ns i n (omega arith) ∙ sym (drop-drop 1 i ns) ∙ ap (drop 1) e ∙ drop-replicate {X = ℕ} 1 m 0)

pub numbers_next : (ns ks bytes zs : List ℕ) (end i n m : ℕ) → i < length ks → 0 < m → drop i ns ≡ replicate m 0 → n ≡ number_of (get_or ks i 0) (drop end bytes) →
    take (i + 1) (set ns i n) ++ (numbers (drop (i + 1) ks) (drop (end + get_or ks i 0) bytes) ++ zs) ≡ take i ns ++ (numbers (drop i ks) (drop end bytes) ++ zs)
unfolding numbers
numbers_next ns ks bytes zs end i n m h p z e =
    let l : i < length ns = omega (arith, length-drop i ns, ap length z, length-replicate {A = ℕ} m 0) in
    rw (take_more_set ns i n l, append_assoc, drop_more ks i 0 h, e, drop-drop) refl

pub numbers_done : (ns ks bs whole : List ℕ) (i m k : ℕ) → length ks ≤ i → drop i ns ≡ replicate m 0 → m ≡ k → take i ns ++ (numbers (drop i ks) bs ++ replicate k 0) ≡ whole → ns ≡ whole
unfolding numbers
numbers_done ns ks bs whole i m k h z s e = sym (take-append-drop i ns) ∙ (rw (drop_all i ks h, ← s, ← z) at e)
