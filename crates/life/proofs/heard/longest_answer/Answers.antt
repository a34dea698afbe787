use Rattle.std.proofs.Common.{arith}
use Rattle.session.proofs.Readable.{row_readable}
use Rattle.life.proofs.heard.longest_answer.Goals as goal

pub returns : goal.returns
returns c = record { most = omega (arith, c.most_answer.ensures.is); readable = row_readable c.args.row.now (λ i. omega (arith, c.type_inv.row i)) (omega arith) }
