-- The text of completions, line by line.
use Rattle.std.proofs.Common.{◌≡◌, ℕ, ◌+◌, ◌<◌, List, [], ◌∷◌, ◌++◌, length, take, get_or, refl, sym, append_assoc}
use Rattle.uring_play_text.proofs.Common.{Appends-nil, Cqe, Err, Ok, Option, PlayFault, Result, append-nil, take_more}
use Rattle.uring_text.specs.Lines.{ended}
use Rattle.uring_text.specs.Completions.{completion_text}
use Rattle.uring_play_text.specs.Outputs.{Writes, lines_text}
use Rattle.uring_play_text.specs.declared.play_fault.PlayFault.TheVariants as fault
use Rattle.std.specs.Result.{IsErrAnd}

lines_append : (cs : List Cqe) (c : Cqe)
    → lines_text (cs ++ c ∷ []) ≡ lines_text cs ++ ended (completion_text c)
lines_append [] c = append-nil (ended (completion_text c))
lines_append (d ∷ cs) c = rw (lines_append cs c) (sym (append_assoc (ended (completion_text d)) (lines_text cs) (ended (completion_text c))))

-- one line more
pub line_more : (cs : List Cqe) (i : ℕ) (c : Cqe) (before so mid after : List ℕ) → i < length cs
    → c ≡ get_or cs i c → so ≡ before ++ lines_text (take i cs) → mid ≡ so ++ completion_text c
    → after ≡ mid ++ 10 ∷ [] → after ≡ before ++ lines_text (take (i + 1) cs)
line_more cs i c before so mid after lt is a b d =
    let line : after ≡ so ++ ended (completion_text c) = cc (append_assoc so (completion_text c) (10 ∷ [])) in
    cc (append_assoc before (lines_text (take i cs)) (ended (completion_text c)), take_more cs i c lt, lines_append (take i cs) c)

-- nothing is written
pub unwritten : (answer : Result (Unit {0}) PlayFault) (before : Option (List ℕ)) (text : List ℕ)
    → IsErrAnd answer (λ f. f ≡ fault.Memory) → Writes answer before before text
unwritten (Ok done) before text h = absurd h
unwritten (Err f) before text h = rw h ([], Appends-nil before, refl)
