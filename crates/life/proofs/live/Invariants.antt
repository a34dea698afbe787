use Rattle.std.proofs.Common.{◌≡◌, ◌-◌, ◌*◌, ◌<◌, ◌≤◌, length, take, drop}
use Rattle.device.specs.Device.{acts}
use Rattle.model.specs.First.{first_program}
use Rattle.ledger.specs.Meaning.{limits}
use Rattle.session.specs.Session.{memory}
use Rattle.life.specs.Heard.{rows_read, free_in}
use Rattle.life.specs.Life.{world, after_acts, Stays}
use Rattle.life.proofs.live.Given as goal

-- what is left of the life gives what the whole life gives
abbrev pub invariant-loop-row : goal.invariant-loop-row
invariant-loop-row l = record {
  world :
      after_acts (world l.disk l.listener) (take l.left (acts (first_program (limits l.initial.session.book.ledger)) (memory l.session) (drop l.row-index (rows_read l.calls))))
      ≡ after_acts (world l.initial.disk l.initial.listener) (take l.budget (acts (first_program (limits l.initial.session.book.ledger)) (memory l.initial.session) (rows_read l.calls)));
  limits_stay : limits l.session.book.ledger ≡ limits l.initial.session.book.ledger;
  stays : Stays l.initial.disk l.disk l.initial.listener l.listener;
  rests : 0 < l.left → (l.disk.count ≡ 0) × (17 * (length l.calls - l.row-index) ≤ free_in l.listener.said.now l.listener.heard);
}
