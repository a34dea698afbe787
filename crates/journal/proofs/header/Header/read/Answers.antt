use Rattle.std.proofs.Common.{arith}
use Rattle.std.proofs.lemmas.List.{drop-drop}
use Rattle.device.specs.Rows.{numbers, thing_in}
use Rattle.journal.proofs.Headers.{number_2, number_4}
use Rattle.journal.proofs.header.Header.read.Goals as goal

pub returns : goal.returns
unfolding thing_in numbers
returns c = grind (arith, number_2, number_4, drop-drop)
