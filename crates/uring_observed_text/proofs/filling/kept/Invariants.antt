use Rattle.std.proofs.Common.{◌≡◌, take}
use Rattle.uring_text.specs.KeptLine.{kept_of}
use Rattle.uring_observed_text.proofs.filling.kept.Given as goal

-- the bytes so far are kept
abbrev pub invariant-loop-byte : goal.invariant-loop-byte
invariant-loop-byte g l = l.kept ≡ kept_of (take l.byte-index l.line)
