-- Which requests are to find their files in their turn: before one after them starts, or the call sleeps or returns. By what has happened, the newest first. Our own rules: a ring keeps two numbers in the place of a list.
use Rattle.std.specs.Prelude.{◌≡◌, ℕ, ◌-◌, ◌≤◌, ◌<◌, min, max, Bool, true, false, not, ◌&&◌, ◌||◌, ◌==◌, nat_le, nat_lt, List, [], ◌∷◌, ◌++◌, Option, Some, None, if◌then◌else◌}
use Rattle.uring_enter.specs.declared.going_on.due.Due.{Due}
use Rattle.uring_enter.specs.declared.going_on.due.DueSpan.{DueSpan}

pub data Happening : Type 0 where
  -- it was noted that this request finds its files in its turn
  Noted : ℕ → Happening
  -- those before this one have found theirs
  FoundBefore : ℕ → Happening

-- a request is due if it was noted, and those before a later one haven't found theirs since
abbrev pub is_due : List Happening → ℕ → Bool
is_due [] number = false
is_due (Noted noted ∷ earlier) number = number == noted || is_due earlier number
is_due (FoundBefore end ∷ earlier) number = not (nat_lt number end) && is_due earlier number

-- whether one may be due up to this number: it or a lesser one was noted, and those before a greater one haven't found theirs since
abbrev pub may_be_up_to : List Happening → ℕ → Bool
may_be_up_to [] number = false
may_be_up_to (Noted noted ∷ earlier) number = nat_le noted number || may_be_up_to earlier number
may_be_up_to (FoundBefore end ∷ earlier) number = not (nat_lt number end) && may_be_up_to earlier number

-- what a ring keeps of it: each that is due stands from the first to the last; the last is due, and none may be before the first
pub record KeepsDue (log : List Happening) (d : Due) : Type 0 where
  pub within : (number : ℕ) → is_due log number ≡ true → (d.is_any ≡ true) × ((d.first ≤ number) × (number ≤ d.last))
  pub last : d.is_any ≡ true → is_due log d.last ≡ true
  pub first : (number : ℕ) → d.is_any ≡ true → d.first ≤ number → may_be_up_to log number ≡ true

abbrev pub joined : Due → (number : ℕ) → Due
joined d number = record {
  is_any = true;
  first = if d.is_any then min d.first number else number;
  last = if d.is_any then max d.last number else number;
}

abbrev pub cut : Due → (end : ℕ) → Due
cut d end = record {
  is_any = d.is_any && nat_le end d.last;
  first = max d.first end;
  last = d.last;
}

-- which are looked at for those that are due before a request: none where all that may be come later
abbrev pub span_before : Due → (number : ℕ) → Option DueSpan
span_before d number =
    if d.is_any && nat_lt d.first number then Some (record { first = d.first; last = min d.last (number - 1) }) else None

abbrev pub IsIn : (number : ℕ) → Option DueSpan → Type 0
IsIn number None = ⊥
IsIn number (Some span) = (span.first ≤ number) × (number ≤ span.last)

-- each that is due before a request is looked at
abbrev pub LooksAtEachDue : Type 0
LooksAtEachDue = (log : List Happening) (d : Due) (number end : ℕ) → KeepsDue log d → is_due log number ≡ true → number < end
    → IsIn number (span_before d end)

-- and none that isn't before it
abbrev pub LooksBefore : Type 0
LooksBefore = (d : Due) (number end : ℕ) → IsIn number (span_before d end) → number < end

-- whether one up to this number is noted
abbrev pub notes_up_to : List Happening → ℕ → Bool
notes_up_to [] number = false
notes_up_to (Noted noted ∷ earlier) number = nat_le noted number || notes_up_to earlier number
notes_up_to (FoundBefore end ∷ earlier) number = notes_up_to earlier number

-- nor one of those that have found theirs, unless it or one before it was noted since: so what is outstanding isn't looked through at each start
abbrev pub LooksAtNoneAgain : Type 0
LooksAtNoneAgain = (newer earlier : List Happening) (d : Due) (found number end : ℕ)
    → KeepsDue (newer ++ FoundBefore found ∷ earlier) d → number < found → notes_up_to newer number ≡ false
    → IsIn number (span_before d end) → ⊥
