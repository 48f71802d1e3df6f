use Rattle.std.proofs.Common.{◌≤◌, ◌≡◌, true, false, refl, sym, subst, arith, rules}
use Rattle.uring_outcomes.proofs.Common.{MadeAs, StandsAt, after_moves, both_ways, entries_of, not-true, starting}
use Rattle.uring_outcomes.proofs.Covering.{spot_made, stage_anew}
use Rattle.uring_outcomes.proofs.stage.CallMovesMoves.resume.Goals as goal

pub replay-requires : goal.replay-requires
replay-requires g c =
    let w = c.args.self.now in
    let few : w.setup.now.files ≤ 64 = c.files.ensures.limits.files_limit in
    let same : c.files.result ≡ w.setup.now.files = c.files.ensures.value in
    let calls = entries_of w.calls.now in
    record { moment = starting w.setup.now calls; at = c.in_ok-run.ensures.stands w.setup.now calls (sym same) (omega arith) }

pub prove-unreachable-requires : goal.prove-unreachable-requires
prove-unreachable-requires g c =
    let w = c.args.self.now in
    let few : w.setup.now.files ≤ 64 = c.files.ensures.limits.files_limit in
    let same : c.files.result ≡ w.setup.now.files = c.files.ensures.value in
    let calls = entries_of w.calls.now in
    let start = starting w.setup.now calls in
    let at = c.in_ok-run.ensures.stands w.setup.now calls (sym same) (omega arith) in
    let off : c.in_ok-made.made ≡ false = search (rules, not-true) in
    both_ways c.in_ok-made.made off (spot_made w.setup.now calls c.args.path.items c.requires.0 c.in_ok-made.made (StandsAt calls c.replay.new.self) c.requires.1
    (subst (λ p. MadeAs c.in_ok-made.made (after_moves start p) (StandsAt calls c.replay.new.self)) c.as_slice.ensures.value (c.in_ok-made.ensures.made start at)))

pub returns-clause-stands : goal.returns-clause-stands
returns-clause-stands g c = λ path spot.
    let w = c.args.self.now in
    let few : w.setup.now.files ≤ 64 = c.files.ensures.limits.files_limit in
    let same : c.files.result ≡ w.setup.now.files = c.files.ensures.value in
    let calls = entries_of w.calls.now in
    let start = starting w.setup.now calls in
    let at = c.in_ok-run.ensures.stands w.setup.now calls (sym same) (omega arith) in
    stage_anew w.setup.now calls c.args.path.items path _ c.in_ok-made.made spot refl
    (subst (λ p. MadeAs c.in_ok-made.made (after_moves start p) (StandsAt calls c.replay.new.self)) c.as_slice.ensures.value (c.in_ok-made.ensures.made start at))
