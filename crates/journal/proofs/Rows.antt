-- The rows of a block, one by one.
use Rattle.std.proofs.Common.{◌≡◌, ℕ, zero, suc, ◌+◌, ◌*◌, ◌<◌, List, get_or, drop, ap, ◌∙◌, mul-suc, arith}
use Rattle.std.proofs.lemmas.List.{drop-drop}
use Rattle.device.specs.Rows.{Row, thing_in, rows_at}

-- row i of some
pub row_in : {X : Type 0} (r : Row X) (n i : ℕ) (bs : List ℕ) (d : X) → i < n → get_or (rows_at r n bs) i d ≡ thing_in r (drop (r.size * i) bs)
unfolding rows_at
row_in r zero i bs d h = absurd (omega arith)
row_in r (suc n) zero bs d h = let z : r.size * 0 ≡ 0 = omega arith in rw z
row_in r (suc n) (suc i) bs d h =
    row_in r n i (drop r.size bs) d (omega arith) ∙ ap (thing_in r) (drop-drop (r.size * i) r.size bs ∙ ap (λ m. drop m bs) (next r.size i))
  where
    next : (s j : ℕ) → s + s * j ≡ s * suc j
    next s j = rw (mul-suc s j) (omega arith)
