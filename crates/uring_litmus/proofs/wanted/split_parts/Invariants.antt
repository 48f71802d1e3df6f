use Rattle.std.proofs.Common.{◌≡◌, [], ◌∷◌, ◌++◌, length}
use denote.Text.{Utf8}
use denote.Shadow.{shadow}
use Rattle.uring_litmus.specs.Lines.{joined}
use Rattle.uring_litmus.specs.Parts.{texts_of}
use Rattle.uring_litmus.specs.Wanted.{IsWhole}
use Rattle.std.specs.Prelude.{All}
use Rattle.uring_litmus.proofs.wanted.split_parts.Given as goal

abbrev pub invariant-loop-part : goal.invariant-loop-part
invariant-loop-part g l = shadow (Utf8 l.rest) × (l.fn.line ≡ joined (texts_of l.parts.items ++ l.rest ∷ [])) × All IsWhole (texts_of l.parts.items)

abbrev pub decreases-loop-part : goal.decreases-loop-part
decreases-loop-part g l = length l.rest
