use Rattle.std.proofs.Common.{◌≡◌, ℕ, ◌+◌, ◌-◌, List, length, drop, refl, ap, ◌∙◌, arith}
use borrow.Rule.Slice.PartMut.{put_mid}
use Rattle.device.specs.Rows.{with_bytes}
use Rattle.device.proofs.Parts.{with_rest, part_written}
use Rattle.life.proofs.heard.Listener.hear.Goals as goal

pub returns-clause-behind : goal.returns-clause-behind
returns-clause-behind c =
    let at : ℕ = c.args.self.now.heard.bytes in
    let xs : List ℕ = c.args.self.now.said.now in
    let ys : List ℕ = c.args.answer.now in
    let e : put_mid at ((at + length ys) - at) xs c.copy_from_slice.new.self ≡ with_bytes xs at ys = part_written at (at + length ys) (length ys) _ ys xs refl refl c.copy_from_slice.ensures.after in
    record { grown = omega arith; stays = ap (drop (at + length ys)) e ∙ with_rest at ys xs (omega arith) (at + length ys) (omega arith) }
