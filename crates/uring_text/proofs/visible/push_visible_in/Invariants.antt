use Rattle.std.proofs.Common.{◌≡◌, ◌++◌, drop, string_bytes}
use Rattle.uring_text.specs.Visible.{visible}
use Rattle.uring_text.proofs.visible.push_visible_in.Given as goal

-- what is appended of the rest is appended of all
abbrev pub invariant-loop-byte : goal.invariant-loop-byte
invariant-loop-byte g l =
    string_bytes l.text ++ visible (drop l.byte-index l.bytes) ≡ string_bytes l.initial.text ++ visible l.bytes
