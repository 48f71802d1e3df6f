-- What is written of completions. That they are sorted, and how, is our own rule.
use Rattle.std.specs.Prelude.{◌≡◌, ℕ, ◌<◌, List, [], ◌∷◌, ◌++◌, length, Option, Result, Ok, Err, codes}
use Rattle.std.specs.Fmt.{decimal}
use Rattle.std.specs.Ordering.{is_lt, ordering_then, nat_cmp, int_cmp}
use Rattle.std.specs.declared.cmp.Ordering.{Ordering}
use Rattle.std.specs.Cmp.Lexicographic.{slice_cmp}
use Rattle.std.specs.List.Sorted.{IsSortedBy}
use Rattle.std.specs.Io.KnownBytes.{Appends}
use Rattle.uring_entry.specs.Layout.{Cqe}
use Rattle.uring_text.specs.Completions.{completion_text}
use Rattle.uring_text.specs.Lines.{ended}
use Rattle.uring_play_text.specs.declared.play_fault.PlayFault.{PlayFault}
use Rattle.uring_play_text.specs.declared.play_fault.PlayFault.TheVariants as fault

-- completions are compared by user data, then by result, then by their bytes from the first on
abbrev pub completion_cmp : Cqe → Cqe → Ordering
completion_cmp c d =
    ordering_then (ordering_then (nat_cmp c.user_data d.user_data) (int_cmp c.res d.res)) (slice_cmp nat_cmp c.payload d.payload)

-- none comes before the one in front of it
abbrev pub IsInOrder : List Cqe → Type 0
IsInOrder completions = IsSortedBy (λ c d. is_lt (completion_cmp c d)) completions

-- the lines of completions
abbrev pub lines_text : List Cqe → List ℕ
lines_text [] = []
lines_text (c ∷ completions) = ended (completion_text c) ++ lines_text completions

-- the line of the counts
abbrev pub counts_text : ℕ → ℕ → List ℕ
counts_text taken dropped =
    codes "taken " ++ decimal taken ++ codes " dropped " ++ decimal dropped ++ 10 ∷ []

-- what a text became, by what is returned: it was written, or its beginning, or nothing
abbrev pub IsWritten : Result (Unit {0}) PlayFault → List ℕ → List ℕ → Type 0
IsWritten (Ok done) text written = written ≡ text
IsWritten (Err fault.Write) text written =
    (more : List ℕ) × (0 < length more) × (text ≡ written ++ more)
IsWritten (Err fault.Memory) text written = written ≡ []
IsWritten (Err fault.Read) text written = ⊥
IsWritten (Err (fault.Line k)) text written = ⊥
IsWritten (Err (fault.Long k)) text written = ⊥

-- What was written of a text: the writer held `before` and holds `after`.
abbrev pub Writes : Result (Unit {0}) PlayFault → Option (List ℕ) → Option (List ℕ) → List ℕ
    → Type 0
Writes answer before after text =
    (written : List ℕ) × Appends before after written × IsWritten answer text written
