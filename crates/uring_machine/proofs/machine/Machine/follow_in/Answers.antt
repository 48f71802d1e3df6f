use Rattle.std.proofs.lemmas.Result.{IfErr-weaker, on_ok_weaker}
use Rattle.uring_machine.proofs.Common.{no_finish, world}
use Rattle.uring_machine.proofs.RecordedEnds.{follows_some, resumed_fits, refused_apart, lacks_apart}
use Rattle.uring_machine.proofs.Fitting.{step_fits}
use Rattle.uring_machine.proofs.machine.Machine.follow_in.Goals as goal

pub invariant_of-self : goal.invariant_of-self
invariant_of-self g c =
    follows_some c.self.inside.core c.follow_in.new.self c.self.inside.files c.args.step c.args.given c.follow_in.result c.self.invariant.0 c.follow_in.ensures.setup (no_finish c.args.step c.in_default.not-Finish) c.self.invariant.1
    c.follow_in.ensures.ok c.follow_in.ensures.resumed

pub returns-in_default-clause-setup : goal.returns-in_default-clause-setup
returns-in_default-clause-setup g c = rw (← c.self.view_is) c.follow_in.ensures.setup

pub returns-in_default-clause-ok : goal.returns-in_default-clause-ok
returns-in_default-clause-ok g c =
    rw (← c.self.view_is)
    (on_ok_weaker c.follow_in.result (λ goes h fits. step_fits c.self.inside.core c.follow_in.new.self c.self.inside.files c.args.step c.args.given h c.follow_in.ensures.setup (no_finish c.args.step c.in_default.not-Finish) fits (goes h fits.core))
    c.follow_in.ensures.ok)

pub returns-in_default-clause-refused : goal.returns-in_default-clause-refused
returns-in_default-clause-refused g c =
    rw (← c.self.view_is)
    (IfErr-weaker c.follow_in.result _ _ (λ refusal told h fits. refused_apart c.self.inside.core.setup (world c.self.inside.core.setup h) c.args.step c.args.given refusal (no_finish c.args.step c.in_default.not-Finish) (told h fits.core)) c.follow_in.ensures.refused)

pub returns-in_default-clause-resumed : goal.returns-in_default-clause-resumed
returns-in_default-clause-resumed g c =
    rw (← c.self.view_is)
    (IfErr-weaker c.follow_in.result _ _ (λ refusal goes h fits. resumed_fits c.self.inside.core c.follow_in.new.self c.self.inside.files c.args.step refusal h c.follow_in.ensures.setup (no_finish c.args.step c.in_default.not-Finish) fits (goes h fits.core))
    c.follow_in.ensures.resumed)

pub returns-in_default-clause-no_memory : goal.returns-in_default-clause-no_memory
returns-in_default-clause-no_memory g c =
    rw (← c.self.view_is) (λ e h fits. lacks_apart (record { core = c.self.inside.core; files = c.self.inside.files }) (world c.self.inside.core.setup h) c.args.step (no_finish c.args.step c.in_default.not-Finish) (c.follow_in.ensures.no_memory e h fits.core))

pub returns-in_default-clause-memory : goal.returns-in_default-clause-memory
returns-in_default-clause-memory g c = rw (← c.self.view_is) c.follow_in.ensures.memory
