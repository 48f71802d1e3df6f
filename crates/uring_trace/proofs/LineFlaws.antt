-- What is wrong with a line of at most 300 bytes.
use Rattle.std.proofs.Common.{◌≡◌, ℕ, ◌≤◌, List, length, true, false, refl, sym}
use Rattle.uring_trace.proofs.Common.{codes, eqb-true, le-ltb, line_flaw, line_reach, ◌==◌}
use Rattle.uring_text.specs.Tokens.{tokens_of}
use Rattle.uring_text.specs.Flaws.{flaw_text}
use Rattle.uring_trace.specs.declared.flaws.Language.{Language}

pub empty_flaw : (l : Language) (line : List ℕ) → true ≡ (length line == 0) → line_flaw l line ≡ codes "an empty line"
empty_flaw l line empty = rw (eqb-true (length line) 0 (sym empty)) refl

pub short_flaw : (l : Language) (line : List ℕ) → length line ≤ 300 → false ≡ (length line == 0)
    → line_flaw l line ≡ flaw_text line (tokens_of line) (line_reach l (tokens_of line))
short_flaw l line short some = rw (le-ltb 300 (length line) short, ← some) refl
