use Rattle.std.proofs.Common.{None, sym, refl, length}
use Rattle.columns.specs.Sizes.{limits_of}
use Rattle.session.proofs.Openings.{misfit_outside, misfit_inside}
use Rattle.session.proofs.opening.open.Goals as goal

pub returns-in-Some : goal.returns-in-Some
returns-in-Some c =
    let m = c.args.lent in
    (misfit_outside (limits_of c.args.limits) (length m.cents.now) (length m.numbers.now) (length m.block.now) (length m.bytes.now) c.in-Some.misfit (sym c.in-Some.ensures), refl, refl, refl, refl)

pub returns-in-Ok : goal.returns-in-Ok
returns-in-Ok c =
    let m = c.args.lent in
    (misfit_inside (limits_of c.args.limits) (length m.cents.now) (length m.numbers.now) (length m.block.now) (length m.bytes.now) None (sym c.in_default.ensures) c.in-Ok.ensures.opened.0, c.begin.ensures)

pub returns-in-Err : goal.returns-in-Err
returns-in-Err c =
    let m = c.args.lent in
    let o = c.in-Err.ensures.opened in
    (misfit_inside (limits_of c.args.limits) (length m.cents.now) (length m.numbers.now) (length m.block.now) (length m.bytes.now) _ (sym c.in_default.ensures) o.0, o.1, o.2, refl, refl)
