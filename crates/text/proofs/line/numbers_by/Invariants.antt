use Rattle.std.proofs.Common.{◌≡◌, ◌+◌, ◌≤◌, length, Some}
use Rattle.text.specs.Words.{words}
use Rattle.text.specs.Listed.{listed}
use Rattle.text.specs.Lines.{behind, followed, form_numbers}
use Rattle.text.proofs.line.numbers_by.Given as goal

-- what is left gives what all gives
abbrev pub invariant-loop-mark : goal.invariant-loop-mark
invariant-loop-mark l =
    (followed (Some l.number) (form_numbers (words l.form) (words l.line)) ≡ behind (listed l.numbers) (form_numbers l.mark-iterator l.words))
    × (l.numbers.count + length l.mark-iterator ≤ 9)
