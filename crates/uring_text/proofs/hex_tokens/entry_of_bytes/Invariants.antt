use Rattle.std.proofs.Common.{◌≡◌, ◌*◌, length, take}
use Rattle.uring_entry.specs.Layout.{bytes_of, AreWords}
use Rattle.uring_text.proofs.hex_tokens.entry_of_bytes.Given as goal

-- the first words hold the bytes so far
abbrev pub invariant-loop-i : goal.invariant-loop-i
invariant-loop-i l = (bytes_of (take l.i l.words) ≡ take (8 * l.i) l.bytes) × (length l.words ≡ 16)
    × AreWords l.words
