-- What the numbers of a line are, as a list. Assumes nothing: these are definitions.
use Rattle.std.specs.Prelude.{ℕ, List, take, Option}
use Rattle.std.specs.Option.{option_map}
use Rattle.text.specs.declared.numbers.Numbers.{Numbers}

-- the numbers in their order
abbrev pub listed : Numbers → List ℕ
listed ns = take ns.count ns.list

-- the numbers that the code found
abbrev pub found : Option Numbers → Option (List ℕ)
found o = option_map (λ ns. listed ns) o
