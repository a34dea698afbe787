-- Chains through the bookings: for each account the number of its newest booking, for each booking that of the one before it. Assumes nothing: these are definitions.
use Rattle.std.specs.Prelude.{◌≡◌, ℕ, zero, suc, ◌+◌, ◌<◌, ◌≤◌, length, Some, None, Option, ◌==◌, slice_index, slice_set}
use Rattle.bank.specs.Book.{pick, Booking}
use Rattle.columns.specs.declared.chains.Chain.{Chain}
use Rattle.columns.specs.declared.chains.Chains.{Chains}

-- what a cell holds: one more than a booking's number, or 0
abbrev pub link_of : Option ℕ → ℕ
link_of None = 0
link_of (Some i) = suc i

-- of the bookings below n, one more than the number of the last whose party is a, or 0
unfoldable pub latest : (ℕ → ℕ) → ℕ → ℕ → ℕ
latest f a zero = 0
latest f a (suc n) = pick (f n == a) (suc n) (latest f a n)

-- chains of the first n bookings by a party, through m accounts
pub record Chained (c : Chain) (f : ℕ → ℕ) (n m : ℕ) : Type 0 where
  pub heads : (a : ℕ) → a < m → slice_index c.newest.now a ≡ latest f a n
  pub links : (i : ℕ) → i < n → slice_index c.before.now i ≡ latest f (f i) i

-- room for m accounts and b bookings, on both sides
pub record Linkable (c : Chains) (m b : ℕ) : Type 0 where
  pub heads_in : m ≤ length c.incoming.newest.now
  pub links_in : b ≤ length c.incoming.before.now
  pub heads_out : m ≤ length c.outgoing.newest.now
  pub links_out : b ≤ length c.outgoing.before.now

-- room, and the empty chains of the first two accounts
pub record NewChain (c : Chain) (m b : ℕ) : Type 0 where
  pub heads_room : m ≤ length c.newest.now
  pub links_room : b ≤ length c.before.now
  pub heads : (a : ℕ) → a < 2 → slice_index c.newest.now a ≡ 0

pub record NewChains (c : Chains) (m b : ℕ) : Type 0 where
  pub incoming : NewChain c.incoming m b
  pub outgoing : NewChain c.outgoing m b

-- the empty chain of account a
pub record Begun (c d : Chain) (a : ℕ) : Type 0 where
  pub newest : d.newest.now ≡ slice_set c.newest.now a 0
  pub before : d.before.now ≡ c.before.now

pub record BegunBoth (c d : Chains) (a : ℕ) : Type 0 where
  pub incoming : Begun c.incoming d.incoming a
  pub outgoing : Begun c.outgoing d.outgoing a

-- booking n put at the head of the chain of account a
pub record Linked (c d : Chain) (a n : ℕ) : Type 0 where
  pub newest : d.newest.now ≡ slice_set c.newest.now a (n + 1)
  pub before : d.before.now ≡ slice_set c.before.now n (slice_index c.newest.now a)

-- booking n, which is b, put at the head of its two chains
pub record LinkedBoth (c d : Chains) (b : Booking) (n : ℕ) : Type 0 where
  pub incoming : Linked c.incoming d.incoming b.to n
  pub outgoing : Linked c.outgoing d.outgoing b.from n
