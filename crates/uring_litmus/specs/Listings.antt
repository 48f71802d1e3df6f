-- What is written of all that calls may come to. Our own rule.
use Rattle.std.specs.Prelude.{◌≡◌, ℕ, Bool, true, false, List, ◌++◌, length, map, flat_map, Contains, Option, Some, Ok, codes, slice_get}
use Rattle.std.specs.Fmt.{decimal}
use Rattle.std.specs.Ordering.{nat_cmp}
use Rattle.std.specs.Cmp.Lexicographic.{slice_cmp}
use Rattle.std.specs.List.{AllZip}
use Rattle.std.specs.List.Sorted.{IsStrictlySortedBy}
use Rattle.std.specs.Io.KnownBytes.{Consumes, Appends, IsAtEnd}
use Rattle.uring_entry.specs.Setup.{Setup}
use Rattle.uring_entry.specs.Layout.{Sqe}
use Rattle.uring_text.specs.Lines.{ended}
use Rattle.uring_ports.specs.declared.item.Item.{Item}
use Rattle.uring_play_text.specs.Inputs.{IsTold}
use Rattle.uring_outcomes.specs.Outcomes.{Ending, AreEndings, AreAllEndings, AreOnce}
use Rattle.uring_litmus.specs.declared.form.Form.{Form}
use Rattle.uring_litmus.specs.Items.{accepted_of}
use Rattle.uring_litmus.specs.Parts.{completion_parts}
use Rattle.uring_litmus.specs.Lines.{joined, AreLinesOf, IsSortedOnce}

-- the completions of an outcome, in their order, as a line
abbrev pub order_text : Ending → List ℕ
order_text e = joined (completion_parts e.posted)

-- an outcome has this line and this order, which stand at its place among the lines and the orders of outcomes
abbrev pub HasBoth : List (List ℕ) → List (List ℕ) → List ℕ → List ℕ → Type 0
HasBoth each orders line order =
    (k : ℕ) × (slice_get each k ≡ Some line) × (slice_get orders k ≡ Some order)

-- A line has so many orders: these, each once, are those of the outcomes that have the line, if outcomes have these lines and orders.
pub record CountsOrders (each orders : List (List ℕ)) (line : List ℕ) (count : ℕ) : Type 0 where
  pub own : List (List ℕ)
  pub right : (order : List ℕ) → Contains own order → HasBoth each orders line order
  pub all : (order : List ℕ) → HasBoth each orders line order → Contains own order
  pub once : IsStrictlySortedBy (slice_cmp nat_cmp) own
  pub many : length own ≡ count

-- a line with a note of how many orders it has
abbrev pub IsNotedBy : List (List ℕ) → List (List ℕ) → List ℕ → List ℕ → Type 0
IsNotedBy each orders line shown =
    (n : ℕ) × CountsOrders each orders line n × (shown ≡ line ++ codes "  # orders " ++ decimal n)

-- a line as it is written: by itself, or, if completions are sorted, with the number of its orders; outcomes have these lines and orders
abbrev pub IsNoted : Bool → List (List ℕ) → List (List ℕ) → List ℕ → List ℕ → Type 0
IsNoted false each orders line shown = shown ≡ line
IsNoted true each orders line shown = IsNotedBy each orders line shown

-- how many there are; after so many paths, how many at least
abbrev pub told_count : ℕ → Bool → ℕ → List ℕ
told_count count true most = decimal count ++ codes "\n"
told_count count false most =
    decimal count ++ codes " or more: stopped after " ++ decimal most ++ codes " paths\n"

-- how many lines of outcomes there are
abbrev pub count_text : ℕ → Bool → ℕ → List ℕ
count_text count is_all most = codes "outcomes " ++ told_count count is_all most

-- lines, each with its end
abbrev pub lines_text : List (List ℕ) → List ℕ
lines_text lines = flat_map ended lines

-- The text of these outcomes: the lines that show them, one each, sorted and each once, and how many these are.
pub record IsListOf (form : Form) (endings : List Ending) (is_all : Bool) (most : ℕ) (text : List ℕ) : Type 0 where
  pub each : List (List ℕ)
  pub show_each : AreLinesOf form endings each
  pub lines : List (List ℕ)
  pub sorted : IsSortedOnce each lines
  pub shown : List (List ℕ)
  pub noted : AllZip (IsNoted form.is_sorted each (map order_text endings)) lines shown
  pub is : text ≡ lines_text shown ++ count_text (length shown) is_all most

-- these are endings of these calls, each one that moves lead to; if the walk went to its end, all
pub record AreFound (setup : Setup) (calls : List (List Sqe)) (endings : List Ending) (is_all : Bool) : Type 0 where
  pub right : AreEndings setup calls endings
  pub all : is_all ≡ true → AreAllEndings setup calls endings
  pub once : AreOnce endings

-- Of the calls that were read, these are endings, each one that moves lead to; if the walk went to its end, all.
pub record Finds (setup : Setup) (endings : List Ending) (is_all : Bool) (left_before left_after : Option (List ℕ)) : Type 0 where
  pub bytes : List ℕ
  pub consumed : Consumes left_before left_after bytes
  pub at_end : IsAtEnd left_after
  pub calls : List (List Item)
  pub told : IsTold setup.sq bytes (Ok calls)
  pub found : AreFound setup (map accepted_of calls) endings is_all

-- Calls were read to the end of the input, and a list of their outcomes was written, which are all if it is said: each line shows one, each outcome has one, sorted by their bytes, each once; with sorted completions each tells in how many orders; and after them it says how many they are.
pub record Lists (form : Form) (setup : Setup) (most : ℕ) (is_all : Bool) (left_before left_after held_before held_after : Option (List ℕ)) : Type 0 where
  pub endings : List Ending
  pub finding : Finds setup endings is_all left_before left_after
  pub text : List ℕ
  pub list : IsListOf form endings is_all most text
  pub written : Appends held_before held_after text
