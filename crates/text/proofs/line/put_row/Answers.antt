use Rattle.std.proofs.Common.{◌≡◌, ◌∷◌, arith, rules}
use Rattle.std.proofs.lemmas.Grind.{common_steps}
use Rattle.text.proofs.Rows.{row_put}
use Rattle.text.proofs.line.put_row.Goals as goal

pub returns-clause-written : goal.returns-clause-written
returns-clause-written c =
    let parts : c.args.numbers.now ≡ c.in_ok-byte.byte ∷ c.in_ok-first.fields.now = grind (arith, common_steps) in
    row_put c.args.numbers.now c.args.row.now c.put_form.new.out c.in_ok-first.fields.now c.in_ok-byte.byte c.put_form.result
    parts (search rules) c.put_form.ensures.after c.put_form.ensures.end
