-- A row of bytes is a call that fields can carry, or none.
use Rattle.std.proofs.Common.{◌≡◌, ℕ, suc, ◌^◌, ◌<◌, true, List, [], ◌∷◌, length, get_or, refl, lt-ltb}
use Rattle.std.proofs.lemmas.Bool.{and_from}
use Rattle.device.specs.Device.{all_bytes}
use Rattle.bank.specs.Promise.{readable}
use Rattle.wire.specs.Format.{read_call_lem}
use Rattle.wire.proofs.Calls.{always_readable}

-- each is a byte
pub bytes_all : (bs : List ℕ) → ((i : ℕ) → get_or bs i 0 < 256) → all_bytes bs ≡ true
unfolding all_bytes
bytes_all [] h = refl
bytes_all (b ∷ bs) h = and_from _ _ (lt-ltb b 256 (h 0)) (bytes_all bs (λ i. h (suc i)))

pub row_readable : (bs : List ℕ) → ((i : ℕ) → get_or bs i 0 < 256) → length bs < 2 ^ 64 → readable (read_call_lem bs) ≡ true
row_readable bs h n = always_readable bs (bytes_all bs h) n
