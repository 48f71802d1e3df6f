use Rattle.std.proofs.Common.{Err, List, ℕ, ◌++◌, ap, ◌∙◌}
use Rattle.uring_crash.proofs.Common.{Log, count_text, length-map}
use Rattle.uring_crash.proofs.Watching.{the_images_in}
use Rattle.uring_crash.proofs.questions.replied.Goals as goal

pub returns-in_ok-push_count-in-Count-clause-reply : goal.returns-in_ok-push_count-in-Count-clause-reply
returns-in_ok-push_count-in-Count-clause-reply g c = λ unit setup fd h w.
    let found = c.in_ok-count-in-Count.ensures.count in
    rw c.in-Count.is (
      found.0,
      the_images_in unit setup fd _ _ h c.volume.result.now found.0 w (c.volume.ensures ∙ ap (λ (l : Log). l.volume) c.log.ensures) found.1,
      c.in_ok-push_count-in-Count.ensures.bytes ∙ ap (λ (l : List ℕ). l ++ count_text c.in_ok-count-in-Count.count) c.new-text.ensures.bytes ∙ ap count_text found.2,
    )

pub returns-in_ok-text_of_images-in-Ok-clause-reply : goal.returns-in_ok-text_of_images-in-Ok-clause-reply
returns-in_ok-text_of_images-in-Ok-clause-reply g c = λ unit setup fd h w.
    rw c.in-All.is (_, c.in-Ok.ensures.images unit setup fd h w, rw (length-map c.in-Ok.images.items (λ b. b.items)) c.in-Ok.ensures.within, rw c.deref.ensures.value at c.in_ok-text_of_images-in-Ok.ensures.text)

pub returns-in-Err-TooMany-clause-reply : goal.returns-in-Err-TooMany-clause-reply
returns-in-Err-TooMany-clause-reply g c = λ unit setup fd h w.
    rw c.in-All.is (c.in-Err-TooMany.ensures.too_many (λ i. Err (c.in-Err-TooMany.field-0-is i)) unit setup fd h w, c.new.ensures.bytes)
