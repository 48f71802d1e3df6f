-- Moves change neither the number of files nor, so, that there are few.
use Rattle.std.proofs.Common.{◌≡◌, ◌≤◌, List, [], ◌∷◌, length, Option, Some, None, refl, sym, ap, ◌∙◌, arith}
use Rattle.uring_outcomes.proofs.Common.{IsReached, Moment, Move, Sqe, after_moves, empty_file, length-replicate, moved, option_and_then, starting, unwrap_or}
use Rattle.uring_files.proofs.OperationCases.{many_after}

one_count : (m next : Moment) (x : Move) → moved m x ≡ Some next → length next.files ≡ length m.files
one_count m next x e = grind (arith, many_after)

count_on : (moves : List Move) (m last : Moment) → after_moves m moves ≡ Some last
    → length last.files ≡ length m.files
count_on [] m last e = ap (λ (o : Option Moment). length (unwrap_or o m).files) (sym e)
count_on (first ∷ later) m last e =
    by_first (moved m first) refl e (λ next. count_on later next last) where
      by_first : (next : Option Moment) → moved m first ≡ next → option_and_then (λ n. after_moves n later) next ≡ Some last → ((n : Moment) → after_moves n later ≡ Some last → length last.files ≡ length n.files) → length last.files ≡ length m.files
      by_first None is e go_on = absurd cc
      by_first (Some next) is e go_on = go_on next e ∙ one_count m next first is

pub few_files : (calls : List (List Sqe)) (m : Moment) → IsReached calls m → length m.files ≤ 64
few_files calls m r =
    grind (arith, (count_on r.moves (starting r.setup calls) m r.leads), (length-replicate r.setup.files empty_file))
