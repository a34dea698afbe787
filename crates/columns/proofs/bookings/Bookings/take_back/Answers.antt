use Rattle.std.proofs.Common.{set, refl, ap, add-one}
use Rattle.columns.proofs.Put.{put_marked}
use Rattle.columns.proofs.bookings.Bookings.take_back.Goals as goal

pub returns : goal.returns
returns c =
    let s = c.args.self.now in
    put_marked s _ c.args.i c.args.day c.requires.there (ap (set s.back.now c.args.i) (add-one c.args.day))
    (record { on = refl; value = refl; from = refl; to = refl; amount = refl; kind = refl; count = refl; capacity = refl })
