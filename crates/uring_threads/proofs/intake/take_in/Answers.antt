use Rattle.uring_threads.proofs.Common.{IsTaken, Setup, Tied, false≢true, is_shut, now}
use Rattle.std.proofs.Common.{[], inl, inr, ◌∙◌, sym, subst, ap, refl, arith, length, ◌+◌, ◌*◌}
use Rattle.uring_threads.proofs.Collecting.{on_err}
use Rattle.uring_threads.proofs.Recording.{again_recorded, intake_recorded, none_pulled, pulled_as}
use Rattle.uring_threads.proofs.Tying.{completions_after, once_unmoved, pulled_at, takes_after, takes_nothing, takes_then}
use Rattle.uring_threads.proofs.TraceSteps.{appends_none, appends_then, unmoved_now}
use Rattle.uring_threads.proofs.intake.take_in.Goals as goal

-- What waited was not begun.

pub returns-in_err-retry-clause-tied : goal.returns-in_err-retry-clause-tied
returns-in_err-retry-clause-tied g c =
    c.retry.ensures.tied (g.P.KernelPort.pulled c.args.port.now) c.requires.tied

pub returns-in_err-retry-clause-once : goal.returns-in_err-retry-clause-once
returns-in_err-retry-clause-once g c = c.retry.ensures.once

pub returns-in_err-retry-clause-row : goal.returns-in_err-retry-clause-row
returns-in_err-retry-clause-row g c = again_recorded c.args.kept.now c.retry.new.kept c.args.intake.now c.retry.new.intake (g.P.KernelPort.pulled c.args.port.now) c.retry.ensures.row

pub returns-in_err-retry-clause-granted : goal.returns-in_err-retry-clause-granted
returns-in_err-retry-clause-granted g c = λ all. absurd (false≢true (c.in_err-retry.ensures.granted all))

pub returns-in_err-retry-clause-begun : goal.returns-in_err-retry-clause-begun
returns-in_err-retry-clause-begun g c = λ all. absurd (false≢true (c.in_err-retry.ensures.granted all))

-- Nothing is to be pulled.

pub returns-in_default-clause-row : goal.returns-in_default-clause-row
returns-in_default-clause-row g c = again_recorded c.args.kept.now c.retry.new.kept c.args.intake.now c.retry.new.intake (g.P.KernelPort.pulled c.args.port.now) c.retry.ensures.row

-- There is no room for what is pulled.

pub returns-in_err-reserve-clause-tied : goal.returns-in_err-reserve-clause-tied
returns-in_err-reserve-clause-tied g c =
    let before = g.P.KernelPort.pulled c.args.port.now in
    subst (λ w. Tied c.args.kept.now.setup w before c.retry.new.intake) (sym (unmoved_now c.retry.new.kept c.reserve.new.self c.reserve.ensures.unmoved)) (c.retry.ensures.tied before c.requires.tied)

pub returns-in_err-reserve-clause-completions : goal.returns-in_err-reserve-clause-completions
returns-in_err-reserve-clause-completions g c = completions_after c.retry.new.kept c.reserve.new.self c.reserve.new.self c.reserve.ensures.unmoved refl ∙ c.retry.ensures.completions

pub returns-in_err-reserve-clause-err : goal.returns-in_err-reserve-clause-err
returns-in_err-reserve-clause-err g c = on_err c.from_residual-in_err-reserve.result (takes_then c.args.kept.now c.retry.new.kept c.reserve.new.self 0 0 0 c.retry.ensures.taken (takes_nothing c.retry.new.kept c.reserve.new.self c.reserve.ensures.unmoved) refl)

pub returns-in_err-reserve-clause-row : goal.returns-in_err-reserve-clause-row
returns-in_err-reserve-clause-row g c =
    let r = c.retry.ensures.row in
    let before = g.P.KernelPort.pulled c.args.port.now in
    intake_recorded c.args.kept.now c.retry.new.kept c.reserve.new.self c.args.intake.now before before r.steps [] r.is (inl refl) (none_pulled c.args.kept.now.setup before) r.row (appends_none c.retry.new.kept c.reserve.new.self c.reserve.ensures.unmoved)

pub returns-in_err-reserve-clause-once : goal.returns-in_err-reserve-clause-once
returns-in_err-reserve-clause-once g c = λ once.
    once_unmoved c.retry.new.kept c.reserve.new.self c.retry.new.intake c.reserve.ensures.unmoved (c.retry.ensures.once once)

pub returns-in_err-reserve-clause-granted : goal.returns-in_err-reserve-clause-granted
returns-in_err-reserve-clause-granted g c = λ all. absurd (false≢true (c.in_err-reserve.ensures.granted (length c.retry.new.kept.trace + (6 * c.sq-size.result + 1)) (all (length c.retry.new.kept.trace + (6 * c.sq-size.result + 1))) (omega arith)))

-- What was pulled is taken.

pub take_pulled-requires-clause-tied : goal.take_pulled-requires-clause-tied
take_pulled-requires-clause-tied g c =
    let before = g.P.KernelPort.pulled c.args.port.now in
    let after = g.P.KernelPort.pulled c.pull-pulled.new.self in
    let setup = c.retry.ensures.taken.adds.appends.setup in
    let tied = subst (λ (s : Setup). Tied s (now c.retry.new.kept) before c.retry.new.intake) (sym setup) (c.retry.ensures.tied before c.requires.tied) in
    let at = pulled_at c.retry.new.kept c.reserve.new.self before after _ c.pull-pulled.result c.pull-pulled.new.items.items c.deref.result.now c.retry.new.intake
    c.reserve.ensures.unmoved (c.requires.sizes ∙ ap (λ (s : Setup). s.sq) (sym setup)) c.deref.ensures.value tied c.pull-pulled.ensures.pulled in
    (before, after, at.0, at.1)

pub returns-clause-tied : goal.returns-clause-tied
returns-clause-tied g c =
    let before = g.P.KernelPort.pulled c.args.port.now in
    let after = g.P.KernelPort.pulled c.pull-pulled.new.self in
    let setup = c.retry.ensures.taken.adds.appends.setup in
    let tied = subst (λ (s : Setup). Tied s (now c.retry.new.kept) before c.retry.new.intake) (sym setup) (c.retry.ensures.tied before c.requires.tied) in
    let at = pulled_at c.retry.new.kept c.reserve.new.self before after _ c.pull-pulled.result c.pull-pulled.new.items.items c.deref.result.now c.retry.new.intake
    c.reserve.ensures.unmoved (c.requires.sizes ∙ ap (λ (s : Setup). s.sq) (sym setup)) c.deref.ensures.value tied c.pull-pulled.ensures.pulled in
    subst (λ (s : Setup). Tied s (now c.take_pulled.new.kept) after c.take_pulled.new.intake) (c.reserve.ensures.unmoved.setup ∙ setup) (c.take_pulled.ensures.tied before after at.0 at.1)

pub returns-clause-completions : goal.returns-clause-completions
returns-clause-completions g c = completions_after c.retry.new.kept c.reserve.new.self c.take_pulled.new.kept c.reserve.ensures.unmoved c.take_pulled.ensures.completions ∙ c.retry.ensures.completions

pub returns-clause-taken : goal.returns-clause-taken
returns-clause-taken g c = takes_then c.args.kept.now c.retry.new.kept c.take_pulled.new.kept 0 c.take_pulled.result c.take_pulled.result c.retry.ensures.taken (takes_after c.retry.new.kept c.reserve.new.self c.take_pulled.new.kept c.take_pulled.result c.reserve.ensures.unmoved c.take_pulled.ensures.taken) (omega arith)

pub returns-clause-row : goal.returns-clause-row
returns-clause-row g c =
    let before = g.P.KernelPort.pulled c.args.port.now in
    let after = g.P.KernelPort.pulled c.pull-pulled.new.self in
    let again = c.retry.ensures.row in
    let taken = c.take_pulled.ensures.row in
    intake_recorded c.args.kept.now c.retry.new.kept c.take_pulled.new.kept c.args.intake.now before after again.steps taken.0 again.is (inr (again.all c.in-Ready.is))
    (pulled_as _ c.args.kept.now.setup before after c.pull-pulled.result c.pull-pulled.new.items.items c.deref.result.now taken.0 c.requires.sizes c.deref.ensures.value c.pull-pulled.ensures.pulled (subst (λ (s : Setup). IsTaken s c.pull-pulled.result c.deref.result.now taken.0) (c.reserve.ensures.unmoved.setup ∙ c.retry.ensures.taken.adds.appends.setup) taken.1))
    again.row (appends_then (appends_none c.retry.new.kept c.reserve.new.self c.reserve.ensures.unmoved) taken.2)

pub returns-clause-once : goal.returns-clause-once
returns-clause-once g c = λ once. c.take_pulled.ensures.once (once_unmoved c.retry.new.kept c.reserve.new.self c.retry.new.intake c.reserve.ensures.unmoved (c.retry.ensures.once once))

pub returns-clause-most : goal.returns-clause-most
returns-clause-most g c = λ ready none. c.pull-pulled.ensures.looked (c.take_pulled.ensures.none none ready) (sym (c.retry.ensures.tied (g.P.KernelPort.pulled c.args.port.now) c.requires.tied).shut ∙ ap is_shut c.in-Ready.is)

pub returns-in_default-clause-tied : goal.returns-in_default-clause-tied
returns-in_default-clause-tied g c = c.retry.ensures.tied (g.P.KernelPort.pulled c.args.port.now) c.requires.tied
