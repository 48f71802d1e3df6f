use Rattle.std.proofs.Common.{ℕ, List, ◌++◌, take}
use Rattle.uring_pictures.proofs.Common.{HasTold, Setup, string_bytes}
use Rattle.uring_pictures.proofs.watching.watch_bytes.Given as goal

-- the bytes so far are taken in, by both
abbrev pub invariant-loop-byte : goal.invariant-loop-byte
invariant-loop-byte g l =
    ((setup : Setup) (before told noted : List ℕ) → HasTold setup l.initial.explainer before (told ++ string_bytes l.initial.text) (noted ++ string_bytes l.initial.notes)
    → HasTold setup l.explainer (before ++ take l.byte-index l.bytes) (told ++ string_bytes l.text) (noted ++ string_bytes l.notes))
    × ((first : _) (before : List ℕ) → g.W.Watcher.follows first l.initial.watcher before
    → g.W.Watcher.follows first l.watcher (before ++ take l.byte-index l.bytes))
