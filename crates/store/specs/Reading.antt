-- Reading a device block by block. Assumes nothing: these are definitions.
use Rattle.std.specs.Prelude.{◌≡◌, ℕ, List, Some, Option}
use Rattle.std.specs.Fn.{Mut, AlwaysReturns}
use denote.Ref.{MutBor}
use Rattle.blocks.specs.Blocks.{device_of}

module _ {F : Type 0} (g : Mut F (ℕ × (MutBor (List ℕ) × Unit {0})) (Option (Unit {0}) × (MutBor (List ℕ) × Unit {0}))) (read : F) where
  -- what is read, call after call, are the blocks of an image
  abbrev pub ReadsBlocks : List ℕ → Type 0
  ReadsBlocks image = AlwaysReturns g (λ a r. r.0 ≡ Some tt → r.1.0.now ≡ device_of image a.0) read

  -- no block fails to be read
  abbrev pub NeverFails : Type 0
  NeverFails = AlwaysReturns g (λ a r. r.0 ≡ Some tt) read
