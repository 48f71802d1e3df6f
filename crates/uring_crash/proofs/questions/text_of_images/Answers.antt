use Rattle.std.proofs.Common.{◌++◌, ℕ, List, length, map, take, sym, ap, ◌∙◌}
use Rattle.uring_crash.proofs.Common.{count_text, image_lines, image_text, length-map, take_all}
use Rattle.uring_crash.proofs.Replies.{lines_more}
use Rattle.uring_crash.proofs.questions.text_of_images.Goals as goal

pub loop-image-preserved : goal.loop-image-preserved
loop-image-preserved g c =
    c.in_ok-push_image.ensures.bytes
    ∙ ap (λ (l : List ℕ). l ++ image_text c.deref.result.now) c.loop-image.invariant
    ∙ ap (λ (l : List ℕ). image_lines (map (λ v. v.items) (take c.loop-image.image-index c.args.images.now)) ++ image_text l) c.deref.ensures.value
    ∙ sym (lines_more (λ v. v.items) c.args.images.now c.loop-image.image-index c.image-item.result c.loop-image-test.true c.image-item.is)

pub returns-clause-text : goal.returns-clause-text
returns-clause-text g c =
    c.in_ok-push_count.ensures.bytes
    ∙ ap (λ (l : List ℕ). l ++ count_text (length c.args.images.now)) (c.loop-image.invariant ∙ ap (λ xs. image_lines (map (λ v. v.items) xs)) (take_all c.loop-image.image-index c.args.images.now c.loop-image-test.false))
    ∙ ap (λ (n : ℕ). image_lines (map (λ v. v.items) c.args.images.now) ++ count_text n) (sym (length-map c.args.images.now (λ v. v.items)))
