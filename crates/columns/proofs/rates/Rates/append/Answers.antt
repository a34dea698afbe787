use Rattle.std.proofs.Common.{refl}
use Rattle.columns.proofs.Put.{put_rate_added}
use Rattle.columns.proofs.rates.Rates.append.Goals as goal

pub returns : goal.returns
returns c =
    put_rate_added c.args.self.now _ _ c.requires.space
    (record { account = refl; since = refl; rate = refl; count = refl; capacity = refl })
