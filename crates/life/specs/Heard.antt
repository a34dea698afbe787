-- What is told a session in rows of bytes, and what was heard of it in lent bytes. Assumes nothing: these are definitions.
use Rattle.std.specs.Prelude.{◌≡◌, ℕ, ◌-◌, ◌≤◌, List, map, length, take, drop}
use Rattle.std.specs.Borrow.{Bor}
use Rattle.bank.specs.Calls.{Call}
use Rattle.wire.specs.Format.{read_call_lem}
use Rattle.life.specs.declared.heard.Heard.{Heard}

-- the calls that rows of bytes are
abbrev pub rows_read : List (Bor (List ℕ)) → List Call
rows_read rows = map (λ r. read_call_lem r.now) rows

-- the bytes that were heard
abbrev pub spoken_in : List ℕ → Heard → List ℕ
spoken_in bs h = take h.bytes bs

-- and how many more can be
abbrev pub free_in : List ℕ → Heard → ℕ
free_in bs h = length bs - h.bytes

-- more was heard, and the bytes behind it are as they were
pub record Behind (before : List ℕ) (h : Heard) (after : List ℕ) (k : Heard) : Type 0 where
  pub grown : h.bytes ≤ k.bytes
  pub stays : drop k.bytes after ≡ drop k.bytes before
