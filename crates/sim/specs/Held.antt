-- A device while it has power: what is safe, and the writes since the last flush, oldest first. Assumes nothing: these are definitions.
use Rattle.std.specs.Prelude.{List, [], ◌∷◌, ◌++◌}
use Rattle.device.specs.Device.{Device, Act, write, flush, say}
use Rattle.device.specs.Plan.{Write, put_all}

pub record Held : Type 0 where
  pub durable : Device
  pub pending : List Write

-- a device of which everything is safe
abbrev pub at_rest : Device → Held
at_rest d = record { durable = d; pending = [] }

-- what it holds after an act
unfoldable pub done : {A : Type 0} → Held → Act A → Held
done h (write k bs) = record { durable = h.durable; pending = h.pending ++ (record { block = k; bytes = bs } ∷ []) }
done h flush = record { durable = put_all h.durable h.pending; pending = [] }
done h (say a) = h

-- and after some
unfoldable pub dones : {A : Type 0} → Held → List (Act A) → Held
dones h [] = h
dones h (x ∷ xs) = dones (done h x) xs
