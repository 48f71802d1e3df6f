use Rattle.std.proofs.Common.{◌≡◌, ◌∷◌, ◌++◌, ◌+◌, [], ℕ, suc, List, map, subst, sym, ap, ◌∙◌, arith}
use Rattle.std.proofs.lemmas.List.{map-append}
use Rattle.uring_crash_machine.proofs.EpochCrashes.{ImagesUpTo, images_more, images_all, log_read}
use Rattle.uring_crash_machine.proofs.crash_machine.images.Goals as goal

pub loop-place-preserved : goal.loop-place-preserved
loop-place-preserved g c =
    let choices : List (List ℕ) = map (λ b. b.items) c.args.choices.now in
    let old : List (List ℕ) = map (λ b. b.items) c.loop-place.left.items in
    let all : map (λ b. b.items) c.push_reserved.new.self.items ≡ _ = ap (λ bs. map (λ b. b.items) bs) (c.push_reserved.ensures.items ∙ ap (λ ls. ls ++ c.in_ok-image_at.field-0 ∷ []) c.reserve.ensures.items) ∙ map-append (λ b. b.items) c.loop-place.left.items (c.in_ok-image_at.field-0 ∷ []) in
    let next : suc c.loop-place.place ≡ c.loop-place.place + 1 = omega arith in
    subst (λ (k : ℕ). ImagesUpTo c.args.logs.now choices (map (λ b. b.items) c.push_reserved.new.self.items) k) next
    (subst (λ (bs : List (List ℕ)). ImagesUpTo c.args.logs.now choices bs (suc c.loop-place.place)) (sym all)
    (images_more c.args.logs.now choices old c.loop-place.place c.index-logs-place.result c.in_ok-image_at.field-0.items
    (log_read c.args.logs.now c.loop-place.place c.index-logs-place.result (omega arith) c.index-logs-place.is) c.in_ok-image_at.ensures.image c.loop-place.invariant))

pub returns-clause-images : goal.returns-clause-images
returns-clause-images g c =
    images_all c.args.logs.now (map (λ b. b.items) c.args.choices.now) (map (λ b. b.items) c.loop-place.left.items) c.loop-place.place (omega arith) c.loop-place.invariant
