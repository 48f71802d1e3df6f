-- What a power failure may show of calls, line by line, and claims of the lines. Our own rule.
use Rattle.std.specs.Prelude.{◌≡◌, ℕ, ◌+◌, Bool, true, false, List, [], ◌∷◌, ◌++◌, length, Contains, Option, codes, string_bytes}
use Rattle.std.specs.Fmt.{decimal}
use Rattle.std.specs.Ordering.{nat_cmp}
use Rattle.std.specs.Cmp.Lexicographic.{slice_cmp}
use Rattle.std.specs.Io.KnownBytes.{Appends}
use Rattle.std.specs.List.Sorted.{IsStrictlySortedBy}
use Rattle.uring_entry.specs.Setup.{Setup}
use Rattle.uring_entry.specs.Layout.{Sqe}
use Rattle.uring_text.specs.Tokens.{hex_or_dash}
use Rattle.uring_crash_outcomes.specs.Shown.{Crash}
use Rattle.uring_crash_outcomes.specs.Moves.{CanShow}
use Rattle.uring_crash_outcomes.specs.Found.{MayBeMany}
use Rattle.uring_litmus.specs.declared.claims.Claim.{Claim}
use Rattle.uring_litmus.specs.declared.claims.Claim.TheVariants as claims
use Rattle.uring_litmus.specs.declared.crashes.CrashesJudged.{CrashesJudged}
use Rattle.uring_litmus.specs.declared.crashes.CrashesJudged.TheVariants as judged
use Rattle.uring_litmus.specs.declared.crashes.CrashesListed.{CrashesListed}
use Rattle.uring_litmus.specs.declared.crashes.CrashesListed.TheVariants as listed
use Rattle.uring_litmus.specs.Claims.{StandsSome}
use Rattle.uring_litmus.specs.Items.{ReadsEntries}
use Rattle.uring_litmus.specs.Lines.{joined}
use Rattle.uring_litmus.specs.Listings.{lines_text, told_count}
use Rattle.uring_litmus.specs.Parts.{completion_parts}
use Rattle.uring_litmus.specs.Wanted.{IsCut}

-- a file of which these bytes are left
abbrev pub left_text : ℕ → List ℕ → List ℕ
left_text fd bytes =
    codes "file " ++ decimal fd ++ codes " len " ++ decimal (length bytes) ++ codes " data " ++ hex_or_dash bytes

-- files, the first of this descriptor
abbrev pub left_texts : ℕ → List (List ℕ) → List (List ℕ)
left_texts fd [] = []
left_texts fd (bytes ∷ left) = left_text fd bytes ∷ left_texts (fd + 1) left

-- what a power failure shows: the completions, or `none`, and what is left of each file
abbrev pub crash_parts : Crash → List (List ℕ)
crash_parts c = completion_parts c.posted ++ left_texts 0 c.left

abbrev pub crash_line : Crash → List ℕ
crash_line c = joined (crash_parts c)

-- Lines of what a power failure may show of these calls, each once, in the order of their bytes; if they are all, nothing that it may show is left out.
pub record AreCrashLines (unit : ℕ) (g : Setup) (calls : List (List Sqe)) (is_all : Bool) (lines : List (List ℕ)) : Type 0 where
  pub right : (line : List ℕ) → Contains lines line
      → (c : Crash) × CanShow unit g calls c × (line ≡ crash_line c)
  pub all : is_all ≡ true → (c : Crash) → CanShow unit g calls c → Contains lines (crash_line c)
  pub once : IsStrictlySortedBy (slice_cmp nat_cmp) lines

-- the claim is so of what has these parts: none of the lines stands among them, or some does
abbrev pub IsSoOfParts : Claim → List (List (List ℕ)) → List (List ℕ) → Type 0
IsSoOfParts claims.Never wanted parts = StandsSome wanted parts → ⊥
IsSoOfParts claims.Always wanted parts = StandsSome wanted parts

-- The claim is so of a line.
pub record IsSoOfLine (claim : Claim) (wanted : List (List (List ℕ))) (line : List ℕ) : Type 0 where
  pub parts : List (List ℕ)
  pub cut : IsCut line parts
  pub so : IsSoOfParts claim wanted parts

-- It isn't.
pub record IsNotSoOfLine (claim : Claim) (wanted : List (List (List ℕ))) (line : List ℕ) : Type 0 where
  pub parts : List (List ℕ)
  pub cut : IsCut line parts
  pub against : IsSoOfParts claim wanted parts → ⊥

-- It is so of so many lines, and they are all, or some.
pub record HoldsOfLines (unit : ℕ) (g : Setup) (calls : List (List Sqe)) (claim : Claim) (wanted : List (List (List ℕ))) (is_all : Bool) (count : ℕ) : Type 0 where
  pub lines : List (List ℕ)
  pub are : AreCrashLines unit g calls is_all lines
  pub so : (line : List ℕ) → Contains lines line → IsSoOfLine claim wanted line
  pub many : length lines ≡ count

-- It isn't so of this line, which shows what a power failure may show.
pub record FailsOfLine (unit : ℕ) (g : Setup) (calls : List (List Sqe)) (claim : Claim) (wanted : List (List (List ℕ))) (line : List ℕ) : Type 0 where
  pub crash : Crash
  pub can : CanShow unit g calls crash
  pub shown : line ≡ crash_line crash
  pub against : IsNotSoOfLine claim wanted line

-- what became of a claim of all that a power failure may show of these calls
abbrev pub IsCrashVerdict : ℕ → Setup → List (List Sqe) → Claim → List (List (List ℕ)) → CrashesJudged → Type 0
IsCrashVerdict unit g calls claim wanted (judged.Holds count) =
    HoldsOfLines unit g calls claim wanted true count
IsCrashVerdict unit g calls claim wanted (judged.Unknown count) =
    HoldsOfLines unit g calls claim wanted false count
IsCrashVerdict unit g calls claim wanted (judged.Fails line) =
    FailsOfLine unit g calls claim wanted (string_bytes line)
IsCrashVerdict unit g calls claim wanted judged.TooMany = MayBeMany unit g calls 1000

-- The text of what a power failure may show of these calls: lines of it, sorted by their bytes, each once, and how many these are. If the walk went to its end, nothing is left out.
pub record IsCrashListOf (unit : ℕ) (g : Setup) (calls : List (List Sqe)) (is_all : Bool) (most : ℕ) (text : List ℕ) : Type 0 where
  pub lines : List (List ℕ)
  pub are : AreCrashLines unit g calls is_all lines
  pub is : text ≡ lines_text lines ++ codes "crashes " ++ told_count (length lines) is_all most

-- such a text was written
pub record WritesCrashList (unit : ℕ) (g : Setup) (calls : List (List Sqe)) (is_all : Bool) (most : ℕ) (held_before held_after : Option (List ℕ)) : Type 0 where
  pub text : List ℕ
  pub list : IsCrashListOf unit g calls is_all most text
  pub written : Appends held_before held_after text

-- A file may be left in more ways than are listed, and nothing was written.
pub record ListsNone (unit : ℕ) (g : Setup) (calls : List (List Sqe)) (held_before held_after : Option (List ℕ)) : Type 0 where
  pub many : MayBeMany unit g calls 1000
  pub kept : held_after ≡ held_before

-- what became of a list of all that a power failure may show of these calls
abbrev pub IsCrashListing : ℕ → Setup → List (List Sqe) → ℕ → CrashesListed → Option (List ℕ) → Option (List ℕ) → Type 0
IsCrashListing unit g calls most listed.All = WritesCrashList unit g calls true most
IsCrashListing unit g calls most listed.Stopped = WritesCrashList unit g calls false most
IsCrashListing unit g calls most listed.TooMany = ListsNone unit g calls

-- Calls were read to the end of the input, and this became of a list of all that a power failure may show of them.
pub record ListsCrashes (unit : ℕ) (g : Setup) (most : ℕ) (said : CrashesListed) (left_before left_after held_before held_after : Option (List ℕ)) : Type 0 where
  pub calls : List (List Sqe)
  pub reads : ReadsEntries g calls left_before left_after
  pub listing : IsCrashListing unit g calls most said held_before held_after
