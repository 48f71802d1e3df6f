-- What calls may come to: the outcomes that lawful histories give them, and those that moves give them.
use Rattle.std.specs.Prelude.{◌≡◌, ℕ, ◌%◌, ◌^◌, Bool, true, false, List, [], ◌∷◌, length, map, flat_map, count_by, Option, Some, None}
use Rattle.std.specs.List.{filter_map}
use Rattle.uring_entry.specs.Setup.{Setup}
use Rattle.uring_entry.specs.Layout.{Sqe, Cqe}
use Rattle.uring_entry.specs.Submission.{Published, with_entry, bad_word, published_items, dropped}
use Rattle.uring_entry.specs.Requests.{outstanding_in}
use Rattle.uring_files.specs.Contents.{FileContents}
use Rattle.uring_core.specs.CalledFor.{IsLawful, files_of}
use Rattle.uring_core.specs.Histories.{History, world}
use Rattle.uring_machine.specs.Machine.{IsUnrefused}
use Rattle.uring_outcomes.specs.Moments.{Moment, starting, after_moves}
use Rattle.uring_outcomes.specs.declared.move_of_calls.Move.{Move}

-- What calls came to: the completions posted, in order, the files that are left, and the count of dropped words.
pub record CallsOutcome : Type 0 where
  pub posted : List Cqe
  pub files : List FileContents
  pub dropped : ℕ

-- Calls, each with the items at its positions.

-- the items of these calls, in order
abbrev pub items_in : List (List Published) → List Published
items_in calls = flat_map (λ call. call) calls

-- the entry of an item: a bad word has none
abbrev pub entry_in : Published → Option Sqe
entry_in (with_entry entry) = Some entry
entry_in (bad_word word) = None

-- the entries that a call of these items accepts
abbrev pub entries_in : List Published → List Sqe
entries_in items = filter_map entry_in items

abbrev pub is_bad : Published → Bool
is_bad (with_entry entry) = false
is_bad (bad_word word) = true

-- how many of these items are dropped
abbrev pub bad_in : List Published → ℕ
bad_in items = count_by is_bad items

-- no memory was refused in a history
abbrev pub RefusesNone : Setup → History → Type 0
RefusesNone g [] = Unit {0}
RefusesNone g ((s, a) ∷ before) = IsUnrefused g (world g before) s a × RefusesNone g before

-- A history comes to this with these calls: it is lawful and refused no memory, it published exactly their items, in order, and took them in by calls of these lengths, and of its requests none is outstanding.
pub record ComesTo (g : Setup) (calls : List (List Published)) (h : History) (o : CallsOutcome) : Type 0 where
  pub lawful : IsLawful g h
  pub refuses_none : RefusesNone g h
  pub published : published_items (world g h).submission ≡ items_in calls
  pub cut : (world g h).submission.calls ≡ map length calls
  pub none_outstanding : outstanding_in (world g h).requests ≡ 0
  pub posted : (world g h).completions.posted ≡ o.posted
  pub files : files_of g (world g h) ≡ o.files
  pub dropped_words : dropped (world g h).submission ≡ o.dropped

-- An outcome of calls: what some history comes to with them.
pub record IsOutcomeOf (g : Setup) (calls : List (List Published)) (o : CallsOutcome) : Type 0 where
  pub history : History
  pub comes : ComesTo g calls history o

-- a moment after which there is none: each call was accepted, and no request is outstanding
pub record IsOver (m : Moment) : Type 0 where
  pub none_left : m.left ≡ []
  pub none_outstanding : outstanding_in m.requests ≡ 0

-- some moves lead from a moment to one that is over, with these completions posted and these files
pub record LeadsTo (from : Moment) (posted : List Cqe) (files : List FileContents) : Type 0 where
  pub moves : List Move
  pub last : Moment
  pub leads : after_moves from moves ≡ Some last
  pub over : IsOver last
  pub posts : last.posted ≡ posted
  pub leaves : last.files ≡ files

-- What moves give these calls: they lead from the start to it, and each bad word was dropped.
pub record IsMovedTo (g : Setup) (calls : List (List Published)) (o : CallsOutcome) : Type 0 where
  pub leads : LeadsTo (starting g (map entries_in calls)) o.posted o.files
  pub dropped_words : o.dropped ≡ bad_in (items_in calls) % 2 ^ 32
