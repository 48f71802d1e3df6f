use Rattle.std.proofs.Common.{ℕ, List, ◌++◌, take}
use Rattle.uring_play_text.specs.Readings.{Has}
use Rattle.uring_play_text.proofs.reading.Reading.feed.Given as goal

-- what was to be shown, as far as the loop has come
abbrev pub invariant-loop-byte : goal.invariant-loop-byte
invariant-loop-byte g l = (size : ℕ) (before : List ℕ) → Has size l.initial.self before
    → Has size l.self (before ++ take l.byte-index l.bytes)
