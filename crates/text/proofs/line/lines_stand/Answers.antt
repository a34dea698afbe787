use Rattle.text.proofs.Back.{numbers_back, words_back}
use Rattle.text.proofs.Numerals.{examples, told_back}
use Rattle.text.proofs.line.lines_stand.Goals as goal

pub returns : goal.returns
returns c = record { words = words_back; numbers = numbers_back; told = told_back; examples = examples }
