-- Glue. What a line is read as.
use Rattle.std.specs.Prelude.{◌≡◌, ℕ, ◌^◌, ◌<◌, ◌≤◌, List, [], length, Option, MatchOption}
use Rattle.std.specs.Borrow.{Bor}
use Rattle.uring_text.specs.Spelling.{SpellsNumber}
use Rattle.uring_ports.specs.declared.item.Item.{Item}
use Rattle.uring_play_text.specs.ItemLines.{IsItemLine, IsBadLine, SpellsItem}
use Rattle.uring_play_text.specs.declared.line_read.LineRead.{LineRead}
use Rattle.uring_play_text.specs.declared.line_read.LineRead.TheVariants as read

-- the line as a reader is given it: whole, or not at all if it has more than 300 bytes
abbrev pub IsGiven : List ℕ → Option (Bor (List ℕ)) → Type 0
IsGiven line given =
    MatchOption given (300 < length line) (λ bytes. (bytes.now ≡ line) × (length line ≤ 300))

-- the token is a number that isn't below the size
abbrev pub IsBadWord : ℕ → List ℕ → ℕ → Type 0
IsBadWord size token word = SpellsNumber (2 ^ 32) token word × (size ≤ word)

-- the token is no such number
abbrev pub IsNoBadWord : ℕ → List ℕ → Type 0
IsNoBadWord size token = (word : ℕ) → IsBadWord size token word → ⊥

-- the tokens spell no item
abbrev pub IsNoItem : ℕ → List (List ℕ) → Type 0
IsNoItem size tokens = (i : Item) → SpellsItem size tokens i → ⊥

-- what a line says
abbrev pub IsReadAs : ℕ → List ℕ → LineRead → Type 0
IsReadAs size line read.Blank = line ≡ []
IsReadAs size line (read.Submits i) = IsItemLine size line i
IsReadAs size line read.Bad = IsBadLine size line
