use Rattle.uring_observed_text.proofs.Common.{history_of}
use Rattle.uring_observed_text.proofs.Answered.{far_reach, fills_by, filling_begins, found_at, none_by}
use Rattle.uring_observed_text.proofs.filling.told_of.Goals as goal

pub text_of-text-requires : goal.text_of-text-requires
text_of-text-requires g c = record {
  begins = rw c.as_slice-in-Whole.ensures.value (filling_begins _ _ _ (found_at _ _ _ _ _ c.as_slice.ensures.value c.in-Whole.is c.in_ok-filled.ensures.found));
  paired = c.requires.paired;
}

pub returns-in_ok-text-in-Whole-clause-told : goal.returns-in_ok-text-in-Whole-clause-told
returns-in_ok-text-in-Whole-clause-told g c = (
  history_of c.in-Whole.events.items,
  fills_by c.args.setup.now _ c.args.seen.now.events.items _ c.requires.reads (found_at _ _ _ _ _ c.as_slice.ensures.value c.in-Whole.is c.in_ok-filled.ensures.found),
  rw c.as_slice-in-Whole.ensures.value at c.in_ok-text-in-Whole.ensures.tells,
)

pub far_text-requires : goal.far_text-requires
far_text-requires g c =
    let found = found_at _ _ _ _ _ c.as_slice.ensures.value c.in-Nothing.is c.in_ok-filled.ensures.found in
    record { far = far_reach _ _ _ _ found.1; paired = c.requires.paired }

pub returns-in_ok-text-in-Nothing-clause-told : goal.returns-in_ok-text-in-Nothing-clause-told
returns-in_ok-text-in-Nothing-clause-told g c =
    let found = found_at _ _ _ _ _ c.as_slice.ensures.value c.in-Nothing.is c.in_ok-filled.ensures.found in
    (none_by _ _ _ _ c.requires.reads found.0, c.in_ok-text-in-Nothing.ensures.far)

pub far_text-requires-in-GaveUp : goal.far_text-requires-in-GaveUp
far_text-requires-in-GaveUp g c =
    record { far = far_reach _ _ _ _ (found_at _ _ _ _ _ c.as_slice.ensures.value c.in-GaveUp.is c.in_ok-filled.ensures.found); paired = c.requires.paired }

pub returns-in_ok-text-in-GaveUp-clause-told : goal.returns-in_ok-text-in-GaveUp-clause-told
returns-in_ok-text-in-GaveUp-clause-told g c = c.in_ok-text-in-GaveUp.ensures.far
