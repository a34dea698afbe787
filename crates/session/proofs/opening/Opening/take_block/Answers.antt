use Rattle.std.proofs.Common.{◌≡◌, true, false, not, refl, ◌∙◌, arith}
use Rattle.std.proofs.lemmas.Bool.{not-true}
use Rattle.std.proofs.lemmas.Grind.{common_steps}
use Rattle.session.proofs.Openings.{advances, where_some}
use Rattle.session.proofs.opening.Opening.take_block.Goals as goal

pub returns-clause-opens : goal.returns-clause-opens
returns-clause-opens c = λ o e.
    let n : not c.is_none-refused.result ≡ true = grind (arith, common_steps) in
    (where_some c.replay_block.result _ c.replay_block.ensures.grown (c.is_none-refused.ensures ∙ n)).onward (o c.if-self.false)

pub returns-clause-advanced : goal.returns-clause-advanced
returns-clause-advanced c = λ e.
    let o = c.args.self.now in
    let t = c.in-Some.ensures in
    let g = where_some c.replay_block.result _ c.replay_block.ensures.grown (c.is_none-refused.ensures ∙ e) in
    let n : c.is_none-refused.result ≡ false = not-true _ e in
    advances o _ _ c.args.bytes.now c.in-Some.rows c.if-self.false (grind (arith, common_steps)) t.took refl refl t.stands g
