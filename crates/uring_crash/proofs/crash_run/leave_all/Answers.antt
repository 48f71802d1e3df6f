use Rattle.std.proofs.Common.{List, ℕ, true, false, refl, sym, subst, ◌∙◌}
use Rattle.uring_crash.proofs.Common.{Appends}
use Rattle.uring_crash.proofs.Runs.{image_left, image_told, none_left}
use Rattle.uring_crash.proofs.crash_run.leave_all.Goals as goal

pub returns-then-has_bad-clause-left : goal.returns-then-has_bad-clause-left
returns-then-has_bad-clause-left g c = λ setup f.
    none_left c.args.asked.now setup true c.reads_bad_line.new.follower _ _ _ (c.in_ok-has_bad.ensures.read c.args.asked.now.unit setup c.args.asked.now.fd c.args.asked.now.lines f) (sym c.if-has_bad.true ∙ c.in_ok-has_bad.ensures.bad) refl

pub returns-clause-left : goal.returns-clause-left
returns-clause-left g c = λ setup f.
    let written = c.in_ok-write_all.ensures.text in
    let told = image_told c.in_ok-image.image.items _ c.as_str.result.now _ _ _ c.deref-3.ensures.value c.new-text.ensures.bytes c.in_ok-push_image.ensures.bytes c.in_ok-push_text.ensures.bytes in
    image_left c.args.asked.now setup false c.reads_bad_line.new.follower c.watch-watch.result.now c.in_ok-image.image.items c.as_str.result.now _ _ _ _ (c.in_ok-has_bad.ensures.read c.args.asked.now.unit setup c.args.asked.now.fd c.args.asked.now.lines f) (sym c.if-has_bad.false ∙ c.in_ok-has_bad.ensures.bad) refl c.watch-watch.ensures
    (subst (λ (l : List ℕ). Appends (g.W.Write.contents c.args.writer.now) (g.W.Write.contents c.write_all.new.writer) l) (written.2 ∙ c.as_bytes.ensures.value ∙ told) written.1)
    c.in_ok-image.ensures.image
