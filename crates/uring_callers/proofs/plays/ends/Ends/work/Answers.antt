use Rattle.std.proofs.Common.{ap, rules, length, ◌∙◌}
use Rattle.uring_workers.specs.Worker.{Worker}
use Rattle.uring_threads.proofs.SameEnds.{worker_stays}
use Rattle.uring_callers.proofs.plays.ends.Ends.work.Goals as goal

pub invariant_of-self : goal.invariant_of-self
invariant_of-self g c =
    let ends = c.args.self.now in
    let here = c.index_mut.ensures.value in
    record { together = worker_stays ends.workers.items c.args.place c.index_mut.result.now c.turn.new.self (search rules) ends.app ends.kernel (c.turn.ensures.pairing ∙ ap (λ (w : Worker). w.pairing) here) (c.turn.ensures.files ∙ ap (λ (w : Worker). length w.files) here) ends.together }
