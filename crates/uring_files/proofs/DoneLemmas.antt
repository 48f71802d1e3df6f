-- Operations that were carried out, by the last of them.
-- Stable: other crates may import what is pub.
use Rattle.std.proofs.Common.{◌≡◌, List, [], ◌∷◌, ◌++◌, refl}
use Rattle.uring_files.proofs.Common.{FileContents, IsOutcome, after}
use Rattle.uring_files.specs.Done.{Done, files_left, AreDone}

pub left_snoc : (files : List FileContents) (done : List Done) (d : Done)
    → files_left files (done ++ d ∷ []) ≡ after (files_left files done) d.op d.outcome.res
left_snoc files [] d = refl
left_snoc files (first ∷ later) d = left_snoc (after files first.op first.outcome.res) later d

pub done_snoc : (files : List FileContents) (done : List Done) (d : Done) → AreDone files done
    → IsOutcome (files_left files done) d.op d.outcome → AreDone files (done ++ d ∷ [])
done_snoc files [] d all last = (last, tt)
done_snoc files (first ∷ later) d all last = (all.0, done_snoc (after files first.op first.outcome.res) later d all.1 last)

-- all but the last, and the last
pub done_unsnoc : (files : List FileContents) (done : List Done) (d : Done)
    → AreDone files (done ++ d ∷ [])
    → AreDone files done × IsOutcome (files_left files done) d.op d.outcome
done_unsnoc files [] d all = (tt, all.0)
done_unsnoc files (first ∷ later) d all = let rest = done_unsnoc (after files first.op first.outcome.res) later d all.1 in ((all.0, rest.0), rest.1)
