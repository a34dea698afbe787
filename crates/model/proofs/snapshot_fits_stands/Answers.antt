use Rattle.model.proofs.ReachedRegister.{reached_sized}
use Rattle.model.proofs.snapshot_fits_stands.Goals as goal

pub returns : goal.returns
returns c = reached_sized
