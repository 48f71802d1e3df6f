use Rattle.std.proofs.Common.{◌≡◌, false, true, is_some, sym, ◌∙◌, rules}
use Rattle.uring_effect_points.proofs.Common.{IsForFiles, is_lengthening, not-false, not-true}
use Rattle.uring_effect_points.proofs.Adding.{adds_called, adds_for, adds_refused, ready_by}
use Rattle.uring_effect_points.proofs.takers.add_takers.Goals as goal

pub returns-in_ok-add_taker-2-clause-adds : goal.returns-in_ok-add_taker-2-clause-adds
returns-in_ok-add_taker-2-clause-adds g c =
    let idle : is_some c.in-Some.one.taken ≡ false = search (rules, not-true) in
    let asks : IsForFiles c.in-Some.one.op = search (rules, not-false) in
    let longer : is_lengthening c.args.files.now c.in-Some.one.op ≡ true = sym c.lengthens.ensures ∙ c.if-lengthens.true in
    adds_refused c.args.files.now c.args.running.now c.args.left.now c.args.number c.in-Some.one.op c.args.takers.now.items c.add_taker.new.takers.items c.add_taker-then-lengthens.new.takers.items (ready_by c.args.running.now c.args.left.now c.args.number c.in-Some.one c.in-Some.ensures idle asks c.requires) longer (adds_for c.args.left.now c.args.number _ _ _ _ _ c.end_of-wanted.ensures c.called_for-called.ensures c.in_ok-add_taker.ensures.adds) (adds_for c.args.left.now c.args.number _ _ _ _ _ c.end_of-wanted.ensures c.ended_with.ensures c.in_ok-add_taker-2.ensures.adds)

pub returns-else-lengthens-clause-adds : goal.returns-else-lengthens-clause-adds
returns-else-lengthens-clause-adds g c =
    let idle : is_some c.in-Some.one.taken ≡ false = search (rules, not-true) in
    let asks : IsForFiles c.in-Some.one.op = search (rules, not-false) in
    let short : is_lengthening c.args.files.now c.in-Some.one.op ≡ false = sym c.lengthens.ensures ∙ c.if-lengthens.false in
    adds_called c.args.files.now c.args.running.now c.args.left.now c.args.number c.in-Some.one.op c.args.takers.now.items c.add_taker.new.takers.items (ready_by c.args.running.now c.args.left.now c.args.number c.in-Some.one c.in-Some.ensures idle asks c.requires) short (adds_for c.args.left.now c.args.number _ _ _ _ _ c.end_of-wanted.ensures c.called_for-called.ensures c.in_ok-add_taker.ensures.adds)
