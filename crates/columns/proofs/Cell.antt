-- Laws of a column of which one cell was written.
use Rattle.std.proofs.Common.{◌≡◌, ℕ, ◌<◌, ◌≤◌, ◌≢◌, List, length, get_or, set}
use Rattle.std.proofs.lemmas.List.{get_or-set_same, get_or-set_other, length-set}

pub cell_same : (xs ys : List ℕ) (i v : ℕ) → ys ≡ set xs i v → i < length xs → get_or ys i 0 ≡ v
cell_same xs ys i v e h = rw e (get_or-set_same xs i v 0 h)

pub cell_other : (xs ys : List ℕ) (i k v : ℕ) → ys ≡ set xs i v → k ≢ i → get_or ys k 0 ≡ get_or xs k 0
cell_other xs ys i k v e h = rw e (get_or-set_other xs i k v 0 h)

pub cell_length : (xs ys : List ℕ) (i v m : ℕ) → ys ≡ set xs i v → m ≤ length xs → m ≤ length ys
cell_length xs ys i v m e h = rw (e, length-set) h
