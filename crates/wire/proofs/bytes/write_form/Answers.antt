use Rattle.std.proofs.Common.{sym, refl, ◌∙◌, arith}
use Rattle.wire.proofs.Numbers.{length_form}
use Rattle.wire.proofs.bytes.write_form.Goals as goal

pub returns-then-out-ns : goal.returns-then-out-ns
returns-then-out-ns c = (refl, omega (arith, length_form c.args.number c.args.ns.now))

pub returns : goal.returns
returns c = (c.put_form.ensures.after, c.put_form.ensures.end ∙ sym (length_form c.args.number c.args.ns.now), omega (arith, c.put_form.ensures.end))
