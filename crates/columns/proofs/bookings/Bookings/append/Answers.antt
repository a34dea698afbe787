use Rattle.std.proofs.Common.{set, refl, ap}
use Rattle.columns.proofs.Put.{put_appended}
use Rattle.columns.proofs.bookings.Bookings.append.Goals as goal

pub returns : goal.returns
returns c =
    let s = c.args.self.now in
    put_appended s _ c.args.b c.requires.space
    (record {
      on = refl;
      value = refl;
      from = refl;
      to = refl;
      amount = refl;
      kind = ap (set s.kind.now s.count) c.from.ensures;
      back = ap (set s.back.now s.count) c.mark_number.ensures;
    })
    refl refl
