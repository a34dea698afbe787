-- Laws of blocks: what a write to one leaves in it and in the others.
use Rattle.std.proofs.Common.{◌≡◌, ℕ, ◌+◌, ◌-◌, ◌*◌, ◌≤◌, List, ◌++◌, length, take, drop, replicate, sym, ap, ◌∙◌, inl, inr, arith}
use mathlib.Core.Path.{fun_ext}
use Rattle.std.proofs.lemmas.Bool.{cases_eq, cases_lt, eq-eqb, ne_eqb}
use Rattle.std.proofs.lemmas.List.{length-take, length-drop, length-append, take-append-le}
use lib.ListN.{length-replicate}
use Rattle.device.specs.Device.{put, pick}
use Rattle.blocks.specs.Blocks.{part, block, put_block, device_of}
use Rattle.device.proofs.Parts.{with_length, with_rest, with_same, with_before}

-- a part as code hands it on, from its start to its end
pub part_read : (at end n : ℕ) (xs : List ℕ) → end ≡ at + n → take (end - at) (drop at xs) ≡ part at n xs
part_read at end n xs s = let m : end - at ≡ n = omega arith in rw m

-- a block that is there
pub length_block : (k : ℕ) (bytes : List ℕ) → 512 * k + 512 ≤ length bytes → length (block k bytes) ≡ 512
length_block k bytes room = simp (length-take, length-drop) (omega arith)

pub device_block : (k : ℕ) (bytes : List ℕ) → 512 * k + 512 ≤ length bytes → device_of bytes k ≡ block k bytes
unfolding device_of
device_block k bytes room =
    let l : 512 ≤ length (drop (512 * k) bytes) = simp length-drop (omega arith) in
    take-append-le 512 (drop (512 * k) bytes) (replicate 512 0) l

-- every block of it is whole
pub device_whole : (bytes : List ℕ) (k : ℕ) → length (device_of bytes k) ≡ 512
unfolding device_of
device_whole bytes k = simp (length-take, length-append, length-replicate) (omega arith)

module _ (k : ℕ) (bs bytes : List ℕ) (room : 512 * k + 512 ≤ length bytes) (whole : length bs ≡ 512) where
  fits : 512 * k + length bs ≤ length bytes
  fits = omega arith

  pub length_put : length (put_block k bs bytes) ≡ length bytes
  length_put = with_length (512 * k) bs bytes fits

  pub device_same : device_of (put_block k bs bytes) k ≡ bs
  device_same =
      let l : 512 * k + 512 ≤ length (put_block k bs bytes) = omega (arith, length_put) in
      device_block k (put_block k bs bytes) l ∙ with_same (512 * k) bs bytes fits 512 whole

  pub device_other : (j : ℕ) → (j ≡ k → ⊥) → device_of (put_block k bs bytes) j ≡ device_of bytes j
  unfolding device_of
  device_other j ne = elim (cases_lt j k) [
    | inl lt ↦
        let l : 512 * j + 512 ≤ length (put_block k bs bytes) = omega (arith, length_put) in
        device_block j (put_block k bs bytes) l ∙ (with_before (512 * k) bs bytes fits (512 * j) 512 (omega arith) ∙ sym (device_block j bytes (omega arith)))
    | inr ge ↦ ap (λ r. take 512 (r ++ replicate 512 0)) (with_rest (512 * k) bs bytes fits (512 * j) (omega arith))
  ]

  -- the device with the block put
  pub device_put : device_of (put_block k bs bytes) ≡ put (device_of bytes) k bs
  device_put = fun_ext (λ j. elim (cases_eq j k) [
    | inl e ↦ ap (device_of (put_block k bs bytes)) e ∙ (device_same ∙ sym (ap (λ b. pick b bs (device_of bytes j)) (eq-eqb j k e)))
    | inr ne ↦ device_other j ne ∙ sym (ap (λ b. pick b bs (device_of bytes j)) (ne_eqb j k ne))
  ])
