use Rattle.std.proofs.Common.{◌≡◌, List, [], ◌∷◌, length, refl, sym, ap, ◌∙◌, arith}
use Rattle.std.proofs.lemmas.List.{append_cancel_left}
use Rattle.rtrb.specs.Ring.{sent, received}
use Rattle.uring_files.specs.Done.{Done}
use Rattle.uring_workers.specs.Worker.{Worker}
use Rattle.uring_files.proofs.OperationCases.{many_after}
use Rattle.uring_workers.proofs.Working.{goes_on, done_of_snoc, done_as, same_ring, same_worker}
use Rattle.uring_workers.proofs.worker.Worker.turn_in.Goals as goal

pub invariant_of-self : goal.invariant_of-self
invariant_of-self g c = rw c.is_full.ensures.looked.1 c.self.invariant

pub invariant_of-self-2 : goal.invariant_of-self-2
invariant_of-self-2 g c =
    rw (c.in-Ok.ensures.ok.0, c.push_reserved.ensures.sent.0, c.is_full.ensures.looked.1, c.carry_out-outcome.ensures.files)
    (goes_on (received c.self.inside.jobs) (sent c.self.inside.results) c.self.inside.files c.self.invariant c.in-Ok.job c.carry_out-outcome.result c.carry_out-outcome.ensures.outcome)

pub returns-clause-turns : goal.returns-clause-turns
returns-clause-turns g c =
    let inside = c.self.inside in
    let popped = c.in-Ok.ensures in
    let full = c.is_full.ensures.looked in
    let pushed = c.push_reserved.ensures in (
      done_as c.in-Ok.job c.carry_out-outcome.result,
      refl,
      record {
        outcome = rw (← c.self.view_is) c.carry_out-outcome.ensures.outcome;
        done =
            rw (← c.self.view_is) (same_worker inside.place (same_ring c.pop.new.self.end inside.jobs.end popped.ring.0.0 popped.ring.0.1 popped.ring.0.2)
            (same_ring c.push_reserved.new.self.end inside.results.end (pushed.ring.0.0 ∙ full.0.0.0) (pushed.ring.0.1 ∙ full.0.0.1) (pushed.ring.0.2 ∙ full.0.0.2))
            (rw (popped.ok.0, pushed.sent.0, full.1) (done_of_snoc (received inside.jobs) (sent inside.results) inside.files c.self.invariant c.in-Ok.job c.carry_out-outcome.result))
            c.carry_out-outcome.ensures.files c.carry_out-outcome.ensures.once.0 c.carry_out-outcome.ensures.once.1);
        first = rw (← c.self.view_is) popped.ok.1;
        room = rw (← c.self.view_is) (let before = full.2 in let after = pushed.sent.1 in omega arith);
      },
    )

pub returns-clause-pairing : goal.returns-clause-pairing
returns-clause-pairing g c = ap (λ (w : Worker). w.pairing) (returns-clause-turns g c).2.done

pub returns-clause-files : goal.returns-clause-files
returns-clause-files g c =
    let turned = returns-clause-turns g c in
    ap (λ (w : Worker). length w.files) turned.2.done ∙ many_after c.args.self.now.files turned.0.op turned.0.outcome.res

pub returns-clause-granted : goal.returns-clause-granted
unfolding returns-clause-turns
returns-clause-granted g c n grants enough d is =
    let turned = returns-clause-turns g c in
    let carried : Done = done_as c.in-Ok.job c.carry_out-outcome.result in
    let before : List Done = c.args.self.now.done in
    let last = append_cancel_left before (d ∷ []) (carried ∷ []) (sym is ∙ ap (λ (w : Worker). w.done) turned.2.done) in
    let same : d ≡ carried = cc last in
    rw same (rw (← c.self.view_is) (c.carry_out-outcome.ensures.granted n grants enough))
