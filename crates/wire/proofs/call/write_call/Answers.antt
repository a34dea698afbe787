use Rattle.std.proofs.Common.{subst}
use Rattle.wire.specs.Bytes.{Wrote}
use Rattle.wire.proofs.Calls.{call_written}
use Rattle.wire.proofs.call.write_call.Goals as goal

pub returns : goal.returns
returns c =
    subst (λ bs. Wrote c.args.out.now bs c.write_form.new.out c.write_form.result)
    (call_written c.args.call c.number-number.result c.fields.result c.number-number.ensures c.fields.ensures) c.write_form.ensures
