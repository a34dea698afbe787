use Rattle.bank.proofs.Room.{room_decides}
use Rattle.bank.proofs.room_decides_stands.Goals as goal

pub returns : goal.returns
returns c = room_decides
