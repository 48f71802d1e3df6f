use Rattle.std.proofs.Common.{◌≡◌, ℕ, sym, refl, ap, ◌∙◌, arith}
use Rattle.uring_threads.proofs.Common.{Setup, TakesIn, awaits_memory}
use Rattle.uring_core.specs.declared.step.Step.TheVariants as step
use Rattle.uring_threads.proofs.Turning.{HasMoved, HasTaken, delivers, delivers_none, goes, goes_collected, goes_issued, goes_taken, has_taken, refused, same_next, turned}
use Rattle.uring_threads.proofs.Tying.{waits_not}
use Rattle.uring_threads.proofs.turns.make_turn.Given.{Over}
use Rattle.uring_threads.proofs.turns.make_turn.Goals.{After-deliver, After-issue_all, After-take_in}
use Rattle.uring_threads.proofs.turns.make_turn.Goals as goal

-- what the turn took in, of the end that it began with
taken : (g : Over) (c : After-take_in g) {n : ℕ} → TakesIn c.args.kept.now c.take_in.new.kept n
    → HasTaken (record { kept = c.args.kept.now; intake = c.args.intake.now; lanes = c.args.lanes.now; pairing = g.P.KernelPort.pairing c.args.port.now; sizes = g.P.KernelPort.sizes c.args.port.now; pulled = g.P.KernelPort.pulled c.args.port.now; saw_calls = g.P.KernelPort.saw_calls c.args.port.now; reaped = g.P.KernelPort.delivered c.args.port.now; free = g.P.KernelPort.free c.args.port.now; room_looks = g.P.KernelPort.room_looks c.args.port.now; dropped = g.P.KernelPort.dropped c.args.port.now }) c.take_in.new.kept (g.P.KernelPort.pulled c.take_in.new.port) c.take_in.new.intake n
taken g c took = has_taken c.requires.is.ties took c.take_in.ensures.row c.take_in.ensures.tied c.take_in.ensures.once c.take_in.ensures.completions

-- the results that it took in, and what it issued
collected : (g : Over) (c : After-issue_all g)
    → HasMoved step.Finish c.take_in.new.kept c.collect_all.new.kept c.args.lanes.now c.collect_all.new.lanes c.in_ok-finished.finished
collected g c = record { repeats = c.in_ok-finished.ensures.ok; carried = c.collect_all.ensures.carried; lanes = c.collect_all.ensures.lanes }

issued : (g : Over) (c : After-deliver g)
    → HasMoved step.Issue c.collect_all.new.kept c.issue_all.new.kept c.collect_all.new.lanes c.issue_all.new.lanes c.in_ok-issued.issued
issued g c = record { repeats = c.in_ok-issued.ensures.ok; carried = c.issue_all.ensures.carried; lanes = c.issue_all.ensures.lanes }

pub returns-in_err-popped-clause-turned : goal.returns-in_err-popped-clause-turned
returns-in_err-popped-clause-turned g c =
    refused c.from_residual.ensures.0 c.requires.is (goes_taken (taken g (goal.at.returns-in_err-popped-clause-turned g c).After-take_in c.in_err-popped.ensures.err)) refl c.take_in.ensures.delivered c.take_in.ensures.pairing c.take_in.ensures.sizes c.take_in.ensures.dropped c.in_err-popped.ensures.granted

pub collect_all-requires : goal.collect_all-requires
collect_all-requires g c = record { some = c.requires.is.some; few = c.requires.is.few; carried = (taken g (goal.at.collect_all-requires g c).After-take_in c.in_ok-popped.ensures.taken).ties.carried }

pub returns-in_err-finished-clause-turned : goal.returns-in_err-finished-clause-turned
returns-in_err-finished-clause-turned g c =
    refused c.from_residual-in_err-finished.ensures.0 c.requires.is (goes_collected (taken g (goal.at.returns-in_err-finished-clause-turned g c).After-take_in c.in_ok-popped.ensures.taken) c.collect_all.ensures.few (record { repeats = c.in_err-finished.ensures.err.1; carried = c.collect_all.ensures.carried; lanes = c.collect_all.ensures.lanes })) refl c.take_in.ensures.delivered c.take_in.ensures.pairing c.take_in.ensures.sizes c.take_in.ensures.dropped c.in_err-finished.ensures.granted

pub issue_all-requires : goal.issue_all-requires
issue_all-requires g c = record { some = omega (arith, c.requires.is.some, c.collect_all.ensures.lanes.many); few = omega (arith, c.requires.is.few, c.collect_all.ensures.lanes.many); carried = c.collect_all.ensures.carried }

pub returns-in_err-issued-clause-turned : goal.returns-in_err-issued-clause-turned
returns-in_err-issued-clause-turned g c =
    let at = goal.at.returns-in_err-issued-clause-turned g c in
    refused c.from_residual-in_err-issued.ensures.0 c.requires.is (goes_issued (taken g at.After-take_in c.in_ok-popped.ensures.taken) c.collect_all.ensures.few (collected g at.After-issue_all) (record { repeats = c.in_err-issued.ensures.err.1; carried = c.issue_all.ensures.carried; lanes = c.issue_all.ensures.lanes })) refl c.take_in.ensures.delivered c.take_in.ensures.pairing c.take_in.ensures.sizes c.take_in.ensures.dropped c.in_err-issued.ensures.granted

pub deliver-requires : goal.deliver-requires
deliver-requires g c =
    let at = goal.at.deliver-requires g c in
    let u = goes_issued (taken g at.After-take_in c.in_ok-popped.ensures.taken) c.collect_all.ensures.few (collected g at.After-issue_all) (record { repeats = c.in_ok-issued.ensures.ok; carried = c.issue_all.ensures.carried; lanes = c.issue_all.ensures.lanes }) in
    rw (c.take_in.ensures.sizes, c.take_in.ensures.delivered) (record { sizes = c.requires.is.cq ∙ ap (λ (s : Setup). s.cq) (sym u.counts.adds.appends.setup); delivered = u.ties.delivered })

pub returns-in_err-delivered-clause-turned : goal.returns-in_err-delivered-clause-turned
returns-in_err-delivered-clause-turned g c =
    let at = goal.at.returns-in_err-delivered-clause-turned g c in
    refused c.from_residual-in_err-delivered.ensures.0 c.requires.is (goes (taken g at.After-take_in c.in_ok-popped.ensures.taken) c.collect_all.ensures.few (collected g at.After-issue_all) (issued g at.After-deliver) (delivers_none c.in_err-delivered.ensures.err c.deliver.ensures.keeps c.deliver.ensures.delivered)) c.deliver.ensures.pulled refl (c.deliver.ensures.pairing ∙ c.take_in.ensures.pairing) (c.deliver.ensures.sizes ∙ c.take_in.ensures.sizes) (c.deliver.ensures.dropped ∙ c.take_in.ensures.dropped) c.in_err-delivered.ensures.granted

pub returns-in-Waiting-clause-turned : goal.returns-in-Waiting-clause-turned
returns-in-Waiting-clause-turned g c =
    let at = goal.at.returns-in-Waiting-clause-turned g c in
    refused refl c.requires.is (goes (taken g at.After-take_in c.in_ok-popped.ensures.taken) c.collect_all.ensures.few (collected g at.After-issue_all) (issued g at.After-deliver) (delivers c.in_ok-delivered.ensures.row c.in_ok-delivered.ensures.idle c.deliver.ensures.keeps c.deliver.ensures.delivered)) c.deliver.ensures.pulled refl (c.deliver.ensures.pairing ∙ c.take_in.ensures.pairing) (c.deliver.ensures.sizes ∙ c.take_in.ensures.sizes) (c.deliver.ensures.dropped ∙ c.take_in.ensures.dropped) (λ all. sym (c.take_in.ensures.begun all) ∙ ap awaits_memory c.in-Waiting.is)

pub returns-clause-turned : goal.returns-clause-turned
returns-clause-turned g c =
    let at = goal.at.returns-clause-turned g c in
    let took = c.take_in.ensures in
    let held = c.deliver.ensures in
    let told = c.store_dropped.ensures in
    let given = c.in_ok-delivered.ensures in
    let u = goes (taken g at.After-take_in c.in_ok-popped.ensures.taken) c.collect_all.ensures.few (collected g at.After-issue_all) (issued g at.After-deliver) (delivers given.row given.idle held.keeps held.delivered) in
    let cq : c.issue_all.new.kept.setup.cq ≡ c.args.kept.now.setup.cq = ap (λ (s : Setup). s.cq) (sym given.row.setup ∙ u.counts.adds.appends.setup) in
    turned c.requires.is u (told.pulled ∙ held.pulled) told.delivered (told.pairing ∙ held.pairing ∙ took.pairing) (told.sizes ∙ held.sizes ∙ took.sizes) refl
    (record {
      counts = u.counts;
      begun = waits_not c.take_in.new.intake c.in_default.not-Waiting;
      pulls = rw (told.calls, held.calls) c.in_ok-popped.ensures.most;
      none_left = rw (same_next c.issue_all.new.kept c.deliver.new.kept held.keeps given.row.setup) c.in_ok-issued.ensures.none_left;
      all = rw (told.delivered, held.keeps.posted, ← cq) given.all;
      most = rw (told.free, ← cq) given.most;
      looked = rw (told.room_looks, ← took.room_looks) held.looked;
      stored = rw (told.dropped, c.dropped.ensures, held.dropped, took.dropped);
    }) tt (λ all. refl)
