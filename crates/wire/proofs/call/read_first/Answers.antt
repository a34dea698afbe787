use Rattle.std.proofs.Common.{◌≡◌, ◌<◌, arith}
use Rattle.wire.specs.Format.{arity}
use Rattle.wire.proofs.Calls.{first_read}
use Rattle.wire.proofs.call.read_first.Goals as goal

pub returns : goal.returns
returns c =
    let number = c.in-Some.field-0-0.now in
    let known : number < 9 = omega (arith, c.in-Some-get.ensures.lookup) in
    let many : c.in-Some-get.field-0.now ≡ arity number = c.in-Some-get.ensures.lookup.4 (omega arith) 0 in
    first_read _ _ _ _ number _ _ _ c.in-Some.ensures.cases.0 known many (omega arith) c.eights.ensures.is c.numbers_at-fields.ensures c.from_fields.ensures
