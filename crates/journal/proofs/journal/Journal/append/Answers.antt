use Rattle.std.proofs.Common.{refl, ◌∙◌, arith, rules}
use Rattle.journal.proofs.Tails.{row_put_before, kept, appended, stands_more}
use Rattle.journal.proofs.journal.Journal.append.Goals as goal

pub invariant_of-self : goal.invariant_of-self
invariant_of-self c =
    let j = c.args.self.now in
    let k = kept j (omega arith) (omega arith) _ c.requires.kept _ (c.put_row.ensures ∙ row_put_before j (omega arith) (omega arith) _ c.requires.kept) in
    record { lawful = j.lawful; named = j.named; whole = search rules; bytes = k.bytes; long = k.long; rows = k.rows }

pub returns-clause-appended : goal.returns-clause-appended
returns-clause-appended c =
    let j = c.args.self.now in
    appended j _ _ (omega arith) (omega arith) c.requires.kept (record { label = refl; blocks = refl; read = refl }) refl
    (c.put_row.ensures ∙ row_put_before j (omega arith) (omega arith) _ c.requires.kept)

pub returns-clause-stands : goal.returns-clause-stands
returns-clause-stands c = λ s at. stands_more _ _ _ s (returns-clause-appended c) at
