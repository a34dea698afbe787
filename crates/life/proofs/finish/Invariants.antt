use Rattle.std.proofs.Common.{◌≡◌, ◌-◌, length, take}
use Rattle.session.specs.Session.{left, Same}
use Rattle.life.specs.Life.{world, after_acts, space, FitsOn, Stays}
use Rattle.life.proofs.finish.Given as goal

-- what is left of the run gives what the whole run gives
abbrev pub invariant-loop-left : goal.invariant-loop-left
invariant-loop-left l = record {
  world : after_acts (world l.disk l.listener) (take l.left (left l.session)) ≡ after_acts (world l.initial.disk l.initial.listener) (take l.budget (left l.initial.session));
  budget : l.left - length (left l.session) ≡ l.budget - length (left l.initial.session);
  same : Same l.initial.session l.session;
  stays : Stays l.initial.disk l.disk l.initial.listener l.listener;
  fits : FitsOn (space l.initial.disk l.initial.listener) (left l.initial.session) (space l.disk l.listener) (left l.session);
}

abbrev pub decreases-loop-left : goal.decreases-loop-left
decreases-loop-left l = l.left
