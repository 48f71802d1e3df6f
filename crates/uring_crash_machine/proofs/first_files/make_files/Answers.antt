use Rattle.std.proofs.Common.{◌≡◌, ◌+◌, ℕ, suc, List, [], length, map, take, get_or, sym, ap, ◌∙◌, arith}
use Rattle.uring_crash_machine.proofs.Common.{FileContents, file_of_bytes, first_files, get_or-map, length-map, set}
use Rattle.uring_crash_machine.proofs.Noted.{first_many, first_empty, first_put}
use Rattle.uring_crash_machine.proofs.first_files.make_files.Goals as goal

pub loop-place-init : goal.loop-place-init
loop-place-init g c = c.in_ok-files.ensures.ok ∙ first_empty c.args.count

pub put-requires-clause-there : goal.put-requires-clause-there
put-requires-clause-there g c =
    let all : List (List ℕ) = map (λ b. b.items) c.args.contents.now in
    let many = ap (λ (fs : List FileContents). length fs) c.loop-place.invariant ∙ first_many c.args.count (take c.loop-place.place all) in
    omega (arith, many, c.loop-place-test.true, c.requires.few)

pub put-requires-clause-short : goal.put-requires-clause-short
put-requires-clause-short g c =
    let is = c.in_ok-copied.ensures.bytes ∙ c.deref.ensures.value ∙ ap (λ b. b.items) c.index-contents-place.is
    ∙ sym (get_or-map (λ b. b.items) c.args.contents.now c.loop-place.place c.index-contents-place.result [] (omega arith)) in
    omega (arith, ap (λ (bs : List ℕ). length bs) is, c.requires.short c.loop-place.place)

pub loop-place-preserved : goal.loop-place-preserved
loop-place-preserved g c =
    let all : List (List ℕ) = map (λ b. b.items) c.args.contents.now in
    let place : ℕ = c.loop-place.place in
    let many = length-map c.args.contents.now (λ b. b.items) in
    let is = c.in_ok-copied.ensures.bytes ∙ c.deref.ensures.value ∙ ap (λ b. b.items) c.index-contents-place.is
    ∙ sym (get_or-map (λ b. b.items) c.args.contents.now place c.index-contents-place.result [] (omega arith)) in
    c.put.ensures ∙ ap (λ (bs : List ℕ). set c.loop-place.files place (file_of_bytes bs)) is
    ∙ ap (λ (fs : List FileContents). set fs place (file_of_bytes (get_or all place []))) c.loop-place.invariant
    ∙ first_put c.args.count all place (omega (arith, c.requires.few)) (omega (arith, many))
    ∙ ap (λ (k : ℕ). first_files c.args.count (take k all)) (let next : suc place ≡ place + 1 = omega arith in next)
