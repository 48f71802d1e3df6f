-- A log on a volume, one record after the other. Our own rule.
use Rattle.std.specs.Prelude.{ℕ, ◌+◌, ◌≤◌, length}
use Rattle.uring_volume.specs.Writes.{Write}
use Rattle.uring_volume.specs.Events.{History, writes}
use Rattle.uring_volume.specs.Images.{IsIn}

-- no write of the file goes past this offset
abbrev pub EndsBy : ℕ → History → Type 0
EndsBy end h = (m : Write) → IsIn m (writes h) → m.off + length m.bytes ≤ end
