use Rattle.std.proofs.Common.{ℕ, List, ◌++◌, take}
use Rattle.uring_trace.proofs.Common.{HasToldBy, IsGrantedTo, Telling, string_bytes}
use Rattle.uring_trace.proofs.explainer.Explainer.take_all.Given as goal

-- what was to be shown, as far as the loop has come
abbrev pub invariant-loop-byte : goal.invariant-loop-byte
invariant-loop-byte g l =
    (telling : Telling) → IsGrantedTo telling ((n : ℕ) → g.M.Memory.grants l.memory n)
    → (before told noted : List ℕ) → HasToldBy telling l.initial.self before (told ++ string_bytes l.initial.text) (noted ++ string_bytes l.initial.notes)
    → HasToldBy telling l.self (before ++ take l.byte-index l.bytes) (told ++ string_bytes l.text) (noted ++ string_bytes l.notes)
