use Rattle.std.proofs.Common.{◌≡◌, map, take}
use Rattle.uring_crash.proofs.Common.{image_lines, string_bytes}
use Rattle.uring_crash.proofs.questions.text_of_images.Given as goal

abbrev pub invariant-loop-image : goal.invariant-loop-image
invariant-loop-image g l =
    string_bytes l.text ≡ image_lines (map (λ b. b.items) (take l.image-index l.images))
