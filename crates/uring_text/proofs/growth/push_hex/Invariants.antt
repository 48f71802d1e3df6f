use Rattle.std.proofs.Common.{◌≡◌, ◌++◌, drop, string_bytes}
use Rattle.hex.specs.Hex.{encode_lower}
use Rattle.uring_text.proofs.growth.push_hex.Given as goal

-- what is appended of the rest is appended of all
abbrev pub invariant-loop-byte : goal.invariant-loop-byte
invariant-loop-byte g l =
    string_bytes l.text ++ encode_lower (drop l.byte-index l.bytes) ≡ string_bytes l.initial.text ++ encode_lower l.bytes
