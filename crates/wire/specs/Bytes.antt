-- Numbers in bytes, beside what the device says of them. Assumes nothing: these are definitions.
use Rattle.std.specs.Prelude.{◌≡◌, ℕ, ◌<◌, ◌≤◌, Bool, true, ◌&&◌, List, [], ◌∷◌, length, replicate, Some, None, Option, nat_le}
use Rattle.device.specs.Rows.{row, with_bytes}

-- are the widths at most eight bytes each
abbrev pub narrow : List ℕ → Bool
narrow [] = true
narrow (k ∷ ks) = nat_le k 8 && narrow ks

-- the widths of so many numbers of eight bytes each
abbrev pub eights : ℕ → List ℕ
eights n = replicate n 8

-- a byte, and numbers of eight bytes each
abbrev pub form : ℕ → List ℕ → List ℕ
form t ns = t ∷ row (eights (length ns)) ns

-- a row is written at the beginning of lent bytes, and its length is said; or there is no room, and nothing is written
abbrev pub Wrote : List ℕ → List ℕ → List ℕ → Option ℕ → Type 0
Wrote before bs after (Some end) = (after ≡ with_bytes before 0 bs) × (end ≡ length bs) × (end ≤ length before)
Wrote before bs after None = (after ≡ before) × (length before < length bs)
