use Rattle.std.proofs.Common.{refl}
use Rattle.ledger.proofs.Effect.{bare_holds, bare}
use Rattle.ledger.proofs.Ledger.restore_account.Goals as goal

pub invariant_of-self : goal.invariant_of-self
invariant_of-self c =
    bare_holds c.args.self.now c.count-number.result c.args.limit _ _ c.requires.small c.requires.account c.append.ensures c.count-number.ensures c.begin.ensures

pub returns : goal.returns
returns c =
    bare c.args.self.now c.count-number.result c.args.limit _ _ c.requires.small c.requires.account c.append.ensures c.count-number.ensures c.begin.ensures _ refl refl refl refl refl
