use Rattle.uring_observed_text.proofs.Answered.{far_reach, far_whole, found_at, never_none}
use Rattle.uring_observed_text.proofs.filling.told_wrong.Goals as goal
use Rattle.uring_observed_text.proofs.filling.told_wrong.Goals.{in-Whole, in-Nothing, in-GaveUp}

pub far_text-requires : goal.far_text-requires
far_text-requires g c = record {
  far = elim c.match-filled.branch [
    | in-Whole w ↦ rw w.reach-is (far_whole _ _ _ (found_at _ _ _ _ _ c.as_slice.ensures.value w.in-Whole.is c.in_ok-filled.ensures.found))
    | in-Nothing w ↦ rw w.reach-is (let found = found_at _ _ _ _ _ c.as_slice.ensures.value w.in-Nothing.is c.in_ok-filled.ensures.found in far_reach _ _ _ _ found.1)
    | in-GaveUp w ↦ rw w.reach-is (far_reach _ _ _ _ (found_at _ _ _ _ _ c.as_slice.ensures.value w.in-GaveUp.is c.in_ok-filled.ensures.found))
  ];
  paired = c.requires.paired;
}

pub returns-clause-told : goal.returns-clause-told
returns-clause-told g c = (never_none _ _ c.requires.never, c.in_ok-text.ensures.far)
