-- The end of the journal in memory. Assumes nothing: these are definitions.
use Rattle.std.specs.Prelude.{◌≡◌, suc, ◌+◌, ◌/◌, List, [], ◌∷◌, ◌++◌, length, ◌==◌}
use Rattle.device.specs.Device.{pick}
use Rattle.device.specs.Journal.{chunk}
use Rattle.bank.specs.Calls.{Call, Limits}
use Rattle.columns.specs.Sizes.{limits_of}
use Rattle.journal.specs.Blocks.{block_with, tail_in}
use Rattle.journal.specs.declared.journal.Journal.{Journal}

-- the limits of its book
abbrev pub bounds : Journal → Limits
bounds j = limits_of j.label.limits

-- the calls of the block that is written next; one that is full is left behind
abbrev pub tail : Journal → List Call
tail j = tail_in j.label j.count j.block.now

-- a journal of the same book, with as many blocks, of which as many were read
pub record Alike (j k : Journal) : Type 0 where
  pub label : k.label ≡ j.label
  pub blocks : k.blocks ≡ j.blocks
  pub read : k.read ≡ j.read

-- one call more, in the block's bytes and in meaning
pub record Appended (j k : Journal) (c : Call) : Type 0 where
  pub alike : Alike j k
  pub count : k.count ≡ j.count + 1
  pub bytes : k.block.now ≡ block_with j.label (tail j ++ (c ∷ []))
  pub tail : tail k ≡ pick (suc (length (tail j)) == 24) [] (tail j ++ (c ∷ []))

-- it stands at the end of the calls s
pub record Stands (j : Journal) (s : List Call) : Type 0 where
  pub count : j.count ≡ length s
  pub tail : tail j ≡ chunk 24 (length s / 24) s
