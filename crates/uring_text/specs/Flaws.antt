-- The words for the first place at which a line isn't one of the language. They are our own rule.
use Rattle.std.specs.Prelude.{ℕ, ◌+◌, ◌-◌, ◌==◌, List, [], ◌∷◌, ◌++◌, drop, if◌then◌else◌, codes}
use Rattle.std.specs.Fmt.{decimal}
use Rattle.uring_text.specs.Places.{place_text}
use Rattle.uring_text.specs.Visible.{visible}
use Rattle.uring_text.specs.declared.reach.Reach.{Reach}

-- the column of the first byte after so many blanks of a line, from 1 on
abbrev pub column_after : List ℕ → ℕ → ℕ
column_after [] blanks = 1
column_after (b ∷ line) blanks =
    if blanks == 0 then 1 else
    column_after line (if b == 32 then blanks - 1 else blanks) + 1

-- what stands where these tokens are left
abbrev pub found_text : List (List ℕ) → List ℕ
found_text [] = codes "the end of the line"
found_text ([] ∷ tokens) = codes "a blank too many"
found_text ((b ∷ token) ∷ tokens) = codes "`" ++ visible (b ∷ token) ++ codes "`"

-- a column, and what stands there
abbrev pub stop_text : ℕ → List (List ℕ) → List ℕ
stop_text column tokens = codes "column " ++ decimal column ++ codes ": " ++ found_text tokens

-- where a line of these tokens stops fitting, what stands there and what may
abbrev pub flaw_text : List ℕ → List (List ℕ) → Reach → List ℕ
flaw_text line tokens reach =
    stop_text (column_after line reach.tokens) (drop reach.tokens tokens)
    ++ (codes ", wanted: " ++ place_text reach.wanted)
