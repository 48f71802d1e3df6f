use Rattle.std.proofs.Common.{List, ℕ, ◌++◌, ap, ◌∙◌}
use Rattle.uring_crash.proofs.Common.{codes, image_text, kept_text}
use Rattle.uring_crash.proofs.Replies.{four_parts}
use Rattle.uring_crash.proofs.questions.kept.Goals as goal

pub returns-in_ok-push_wanted-in-Nowhere-clause-reply : goal.returns-in_ok-push_wanted-in-Nowhere-clause-reply
returns-in_ok-push_wanted-in-Nowhere-clause-reply g c = λ unit setup fd h w. (
  (rw c.in-Nowhere.is at c.in_ok-find.ensures.found) unit setup fd h w,
  c.in_ok-push_wanted-in-Nowhere.ensures.bytes ∙ ap (λ (l : List ℕ). l ++ kept_text c.args.off c.args.bytes.now) c.new-text.ensures.bytes,
)

pub returns-in-TooMany-clause-reply : goal.returns-in-TooMany-clause-reply
returns-in-TooMany-clause-reply g c = λ unit setup fd h w.
    let found = (rw c.in-TooMany.is at c.in_ok-find.ensures.found) unit setup fd h w in
    (found, c.new.ensures.bytes, λ within plain. c.in_ok-find.ensures.not_plain c.in-TooMany.is within unit setup fd h w plain)

pub returns-in_ok-push_text-in-Without-2-clause-reply : goal.returns-in_ok-push_text-in-Without-2-clause-reply
returns-in_ok-push_text-in-Without-2-clause-reply g c = λ unit setup fd h w. record {
  image = c.in-Without.image.items;
  words = c.as_str.result.now;
  without = (rw c.in-Without.is at c.in_ok-find.ensures.found) unit setup fd h w;
  written = four_parts _ _ _ _ _ (codes "not ") (kept_text c.args.off c.args.bytes.now) (image_text c.in-Without.image.items) c.as_str.result.now c.new-text-in-Without.ensures.bytes c.in_ok-push_text-in-Without.ensures.bytes c.in_ok-push_wanted-in-Without.ensures.bytes (rw c.deref-in-Without.ensures.value at c.in_ok-push_image-in-Without.ensures.bytes) c.in_ok-push_text-in-Without-2.ensures.bytes;
}
