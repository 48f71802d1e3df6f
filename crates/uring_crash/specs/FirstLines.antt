-- The first lines of bytes. Our own rule.
use Rattle.std.specs.Prelude.{◌≡◌, ℕ, ◌≤◌, ◌⊎◌, List, [], ◌++◌, length}
use Rattle.uring_text.specs.Lines.{Splits, with_last}

-- These are the lines of the bytes, the newest first, if there are no more than so many, and else the first so many. The last line may lack its end.
pub record AreFirstLines (most : ℕ) (bytes : List ℕ) (lines : List (List ℕ)) : Type 0 where
  pub taken : List ℕ
  pub passed : List ℕ
  pub all : bytes ≡ taken ++ passed
  pub ended : List (List ℕ)
  pub last : List ℕ
  pub splits : Splits taken ended last
  pub are : lines ≡ with_last ended last
  pub few : length lines ≤ most
  -- something is passed over only after the end of the last of so many lines
  pub enough : (passed ≡ []) ⊎ ((length lines ≡ most) × (last ≡ []))
