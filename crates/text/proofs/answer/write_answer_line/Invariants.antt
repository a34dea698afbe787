use Rattle.std.proofs.Common.{◌≡◌, ◌++◌, string_bytes}
use Rattle.std.specs.Slice.Iter.{chunks_exact_rest, chunks_exact_size}
use Rattle.text.specs.Lines.{number_line, row_numbers}
use Rattle.text.proofs.Numerals.{each_eight, line_behind}
use Rattle.text.proofs.answer.write_answer_line.Given as goal

-- what is written, and what the bytes that are left give behind it
abbrev pub invariant-loop-field : goal.invariant-loop-field
invariant-loop-field l = (chunks_exact_size l.field-iterator ≡ 8)
    × (number_line (row_numbers l.answer) ≡ string_bytes l.line ++ line_behind (each_eight (chunks_exact_rest l.field-iterator)))
