-- Blocks of 512 bytes in a row of bytes. Assumes nothing: these are definitions.
use Rattle.std.specs.Prelude.{ℕ, ◌*◌, List, ◌++◌, take, drop, replicate}
use Rattle.device.specs.Device.{Device}
use Rattle.device.specs.Rows.{with_bytes}

-- n bytes at a place
abbrev pub part : ℕ → ℕ → List ℕ → List ℕ
part at n bytes = take n (drop at bytes)

-- block k
abbrev pub block : ℕ → List ℕ → List ℕ
block k bytes = part (512 * k) 512 bytes

-- the bytes with block k written
abbrev pub put_block : ℕ → List ℕ → List ℕ → List ℕ
put_block k bs bytes = with_bytes bytes (512 * k) bs

-- a row of bytes as a device: past its end there are zeros
unfoldable pub device_of : List ℕ → Device
device_of bytes k = take 512 (drop (512 * k) bytes ++ replicate 512 0)
