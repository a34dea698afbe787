-- The header as bytes.
use Rattle.std.proofs.Common.{◌≡◌, ℕ, List, take, arith}
use Rattle.std.specs.Int.{from_le_bytes, w16, w32}
use Rattle.device.specs.Rows.{number_of}
use Rattle.wire.proofs.Numbers.{number_more, number_within}

-- the number in the first two or four bytes
pub number_2 : (bs : List ℕ) → from_le_bytes w16 (take 2 bs) ≡ number_of 2 bs
unfolding number_of
number_2 bs = let xs : List ℕ = take 2 bs in omega (arith, number_more 1 0 xs, number_more 0 1 xs, number_within 2 2 bs (omega arith))

pub number_4 : (bs : List ℕ) → from_le_bytes w32 (take 4 bs) ≡ number_of 4 bs
unfolding number_of
number_4 bs =
    let xs : List ℕ = take 4 bs in omega (arith, number_more 3 0 xs, number_more 2 1 xs, number_more 1 2 xs, number_more 0 3 xs, number_within 4 4 bs (omega arith))
