use Rattle.std.proofs.Common.{refl}
use Rattle.uring_crash_outcomes.proofs.Common.{entries_of, map_same}
use Rattle.uring_outcomes.specs.declared.move_of_calls.Move.TheVariants as move
use Rattle.uring_crash_outcomes.proofs.Trying.{tried, if_ok_then}
use Rattle.uring_crash_outcomes.proofs.trial.Trial.make.Goals as goal

pub returns-in-Accept-clause-tried : goal.returns-in-Accept-clause-tried
returns-in-Accept-clause-tried g c = λ unit g moves h. rw c.in-Accept.is
    (if_ok_then c.accept.result _ _ (λ made so. tried unit g (entries_of c.args.calls.now) moves move.Accept (λ log. log) c.args.self.now.run c.accept.new.self c.args.self.now.logs.items c.args.self.now.logs.items made h so (λ is. map_same (λ log. log) c.args.self.now.logs.items (λ log. refl)) (λ next is log. refl))
    (c.accept.ensures.made h.last h.at))
