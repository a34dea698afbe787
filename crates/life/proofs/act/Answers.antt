use Rattle.std.proofs.Common.{◌≡◌}
use Rattle.wire.specs.Answered.{written_answer}
use Rattle.session.specs.Session.{answer_of_lem}
use Rattle.life.proofs.Saying.{said_bytes, said_world}
use Rattle.life.proofs.act.Goals as goal

pub returns-in-Say-clause-acted : goal.returns-in-Say-clause-acted
returns-in-Say-clause-acted c =
    let o = c.in-Say.ensures in
    let s = c.args.session.now in
    let t = c.next_act.new.self in
    let rs = c.first.result.now in
    let e : rs ≡ written_answer (answer_of_lem s) = said_bytes s t c.in-Say.n _ rs o.said o.same.bytes c.answer_bytes.ensures c.first.ensures in
    let p = c.hear.ensures in
    (_, o.act, said_world c.args.disk.now c.args.listener.now c.hear.new.self s t rs e o.act p.spoken p.answers)
