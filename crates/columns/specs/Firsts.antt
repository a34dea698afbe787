-- Lists by number: the first n of things that are given by their numbers. Assumes nothing: these are definitions.
use Rattle.std.specs.Prelude.{ℕ, List, map}
use Rattle.std.specs.List.{range_with_len}

-- f 0, f 1, .. , n of them
unfoldable pub first_of : {X : Type 0} → (ℕ → X) → ℕ → List X
first_of f n = map f (range_with_len 0 n)
