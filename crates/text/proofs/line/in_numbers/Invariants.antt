use Rattle.std.proofs.Common.{◌≡◌, ◌+◌, ◌≤◌, length}
use Rattle.text.specs.Words.{words}
use Rattle.text.specs.Listed.{listed}
use Rattle.text.specs.Lines.{all_numbers, behind}
use Rattle.text.proofs.line.in_numbers.Given as goal

-- what is left gives what all gives
abbrev pub invariant-loop-word : goal.invariant-loop-word
invariant-loop-word l =
    (all_numbers (words l.line) ≡ behind (listed l.numbers) (all_numbers l.word-iterator))
    × (length (words l.line) ≡ l.numbers.count + length l.word-iterator)
