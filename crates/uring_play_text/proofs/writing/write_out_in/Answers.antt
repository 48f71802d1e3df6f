use Rattle.std.proofs.Common.{refl, ◌∙◌}
use Rattle.uring_play_text.proofs.Outputs.{unwritten}
use Rattle.uring_play_text.proofs.writing.write_out_in.Goals as goal

pub returns-in-Ok-clause-text : goal.returns-in-Ok-clause-text
returns-in-Ok-clause-text g c = let w = c.in-Ok.ensures.text in
    (w.0, w.1, w.2 ∙ rw (c.as_bytes.ensures.value, c.in_ok-push_counts.ensures.bytes, c.in_ok-push_all.ensures.bytes, c.new-text.ensures.bytes) refl)

pub returns-clause-text : goal.returns-clause-text
returns-clause-text g c = let w = c.in-Err.ensures.text in
    (w.0, w.1, (w.2.1, w.2.2, rw (c.as_bytes.ensures.value, c.in_ok-push_counts.ensures.bytes, c.in_ok-push_all.ensures.bytes, c.new-text.ensures.bytes) at w.2.3))

pub returns-in_err-push_counts-clause-text : goal.returns-in_err-push_counts-clause-text
returns-in_err-push_counts-clause-text g c = unwritten _ _ _ c.from_residual-in_err-push_counts.ensures.1

pub returns-in_err-push_all-clause-text : goal.returns-in_err-push_all-clause-text
returns-in_err-push_all-clause-text g c = unwritten _ _ _ c.from_residual.ensures.1
