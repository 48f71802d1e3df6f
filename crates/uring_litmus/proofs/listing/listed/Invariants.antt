use Rattle.std.proofs.Common.{◌≡◌, take}
use Rattle.uring_litmus.proofs.Common.{lines_text, string_bytes, texts_of}
use Rattle.uring_litmus.proofs.listing.listed.Given as goal

abbrev pub invariant-loop-line : goal.invariant-loop-line
invariant-loop-line g l = string_bytes l.text ≡ lines_text (texts_of (take l.line-index l.lines))
