use Rattle.std.proofs.Common.{◌≡◌, ℕ, List, [], ◌∷◌, drop, refl, ap, ◌∙◌, arith}
use Rattle.uring_text.specs.Flaws.{column_after}
use Rattle.uring_text.proofs.flaw.column_after.Goals as goal

-- after no blank stands the first column
first_column : (line : List ℕ) → column_after line 0 ≡ 1
first_column [] = refl
first_column (b ∷ line) = refl

pub returns-then-left-eq0 : goal.returns-then-left-eq0
returns-then-left-eq0 c =
    let first = ap (column_after (drop c.loop-i.i c.args.line.now)) c.if-left-eq0.true ∙ first_column (drop c.loop-i.i c.args.line.now) in
    omega (arith, first, c.loop-i.invariant)
