use Rattle.std.proofs.Common.{◌≡◌, ◌*◌, length, take}
use Rattle.uring_entry.specs.Layout.{bytes_of}
use Rattle.uring_entry.proofs.payload.bytes_of_words.Given as goal

-- the words so far stand in the first bytes
abbrev pub invariant-loop-i : goal.invariant-loop-i
invariant-loop-i l = (take (8 * l.i) l.bytes ≡ bytes_of (take l.i l.words)) × (length l.bytes ≡ 64)
