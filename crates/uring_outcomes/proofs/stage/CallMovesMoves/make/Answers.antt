use Rattle.std.proofs.Common.{◌≡◌, ◌+◌, ◌++◌, ◌∷◌, [], length, true, false, sym, ap, ◌∙◌, rules, arith}
use Rattle.uring_outcomes.proofs.Common.{IsReason, StandsAt, both_ways, entries_of, false≢true, moved, not-true}
use Rattle.uring_outcomes.specs.declared.fault.WalkFault.TheVariants as fault
use Rattle.uring_outcomes.proofs.Covering.{can_here, made_so, stage_on}
use Rattle.uring_outcomes.proofs.Faulting.{told}
use Rattle.uring_outcomes.proofs.stage.CallMovesMoves.make.Goals as goal

pub make-requires : goal.make-requires
make-requires g c = let at = c.requires.1 in record { moment = at.led.last; at = at.led.at }

pub prove-unreachable-requires : goal.prove-unreachable-requires
prove-unreachable-requires g c =
    let w = c.args.self.now in
    let at = c.requires.1 in
    let off : c.in_ok-made.made ≡ false = search (rules, not-true) in
    both_ways c.in_ok-made.made off (made_so c.in_ok-made.made (moved at.led.last c.args.next) (StandsAt (entries_of w.calls.now) c.make.new.self) (c.in_ok-made.ensures.made at.led.last at.led.at) (can_here w.setup.now (entries_of w.calls.now) c.requires.0 c.args.next c.args.stage at c.requires.2))

pub returns-clause-made : goal.returns-clause-made
returns-clause-made g c = λ path stands can.
    stage_on c.args.self.now.setup.now (entries_of c.args.self.now.calls.now) path c.args.next c.args.stage _ c.in_ok-made.made stands can c.in_ok-made.ensures.made (c.push_reserved.ensures.items ∙ ap (λ xs. xs ++ c.args.next ∷ []) c.reserve.ensures.items)

pub returns-in_err-reserve-clause-fault : goal.returns-in_err-reserve-clause-fault
returns-in_err-reserve-clause-fault g c =
    told c.from_residual-in_err-reserve.result (IsReason (g.M.Memory.grants c.args.self.now.memory.now) (entries_of c.args.self.now.calls.now)) fault.Memory c.from_residual-in_err-reserve.ensures.1
    (λ all. false≢true (c.in_err-reserve.ensures.granted (length c.args.stage.path.items + 1) (all _) (omega arith)))
