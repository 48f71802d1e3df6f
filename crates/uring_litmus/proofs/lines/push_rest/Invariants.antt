use Rattle.std.proofs.Common.{◌≡◌, ◌++◌, take}
use Rattle.uring_litmus.proofs.Common.{flat_map, parted, string_bytes, texts_of}
use Rattle.uring_litmus.proofs.lines.push_rest.Given as goal

abbrev pub invariant-loop-part : goal.invariant-loop-part
invariant-loop-part g l = string_bytes l.line
    ≡ string_bytes l.fn.line ++ flat_map parted (texts_of (take l.part-index l.parts))
