use Rattle.std.proofs.Common.{sym, refl}
use Rattle.columns.specs.Sizes.{limits_of}
use Rattle.ledger.proofs.Fresh.{fresh_holds, fresh}
use Rattle.ledger.proofs.Ledger.open.Goals as goal

pub invariant_of-result : goal.invariant_of-result
invariant_of-result c = fresh_holds (limits_of c.args.limits) _ _ _ _ _ c.lay.ensures c.lay-2.ensures c.lay-3.ensures c.lay-4.ensures c.lay-5.ensures

pub returns : goal.returns
returns c =
    (sym c.in_default.ensures, fresh (limits_of c.args.limits) _ _ _ _ _ c.lay.ensures c.lay-2.ensures c.lay-3.ensures c.lay-4.ensures c.lay-5.ensures _ refl refl refl refl refl)
