-- Whether there is room for what a call makes of a book: what decides refusal 10. Assumes nothing: these are definitions.
use Rattle.std.specs.Prelude.{◌≡◌, ◌+◌, ◌≤◌, Bool, true, ◌&&◌, List, [], ◌∷◌, ◌++◌, length, nat_le, nat_lt}
use Rattle.bank.specs.Book.{Bank}
use Rattle.bank.specs.Calls.{Call, opens, rated, move, take_back, day_ends, balance, statement, sums, taken_so_far, garbled, Limits, fits, rates_in, ordered, turned_by, turned, place, changed, ended, ran, new_bank}
use Rattle.bank.specs.Checks.{Check, check, fails, fails_at, own_checks}

-- banks that calls bring about under some limits
abbrev pub ReachedUnder : Limits → Bank → Type 0
ReachedUnder l n = (cs : List Call) × (ran l new_bank cs ≡ n)

-- an account and a rate more, a rate more, a booking more and not too much for the payee, a day more and its bookings; no other call asks for room
unfoldable pub has_room : Limits → Bank → Call → Bool
has_room l n (opens m r) = nat_lt (length n.accounts) l.accounts && nat_lt (rates_in n.accounts) l.rates
has_room l n (rated a r) = nat_lt (rates_in n.accounts) l.rates
has_room l n (move v a b x) = nat_lt (length n.bookings) l.bookings && nat_le (ordered b n.bookings + x) 100000000000
has_room l n (take_back k) = true
has_room l n day_ends = nat_lt n.today 3650 && nat_le (length (ended n).bookings) l.bookings
has_room l n (balance a d k) = true
has_room l n (statement a d e) = true
has_room l n sums = true
has_room l n taken_so_far = true
has_room l n (garbled k) = true

-- the checks of a call, the last of them by room
abbrev pub room_checks : Limits → Bank → Call → List Check
room_checks l n c = own_checks n c ++ (check (has_room l n c) 10 0 ∷ [])

-- ROOM DECIDES: of a book that calls brought about, a call that passes all other checks leaves it within its limits just where there is room; so number and place of a refusal are
-- those of the first check that fails
pub record RoomDecides : Type 0 where
  pub fits_is : (l : Limits) (n : Bank) (c : Call) → 2 ≤ l.accounts → ReachedUnder l n → turned_by n c ≡ 0 → fits l (changed n c) ≡ has_room l n c
  pub number_is : (l : Limits) (n : Bank) (c : Call) → 2 ≤ l.accounts → ReachedUnder l n → turned l n c ≡ fails (room_checks l n c)
  pub place_is : (l : Limits) (n : Bank) (c : Call) → 2 ≤ l.accounts → ReachedUnder l n → place l n c ≡ fails_at (room_checks l n c)
