use Rattle.std.proofs.Common.{◌≡◌, ◌+◌, ℕ, take, [], ◌∷◌, ◌++◌, List, Option, ap, sym, subst, ◌∙◌, arith}
use Rattle.uring_effect_points.proofs.Common.{Event, FitsApart, History, IsLawfulApart, IssueMeets, IssuesMeet, Mark, Setup, both_ways, history_of, history_of_snoc, known_by, known_mark, known_marks, posted_in, take_all, world}
use Rattle.uring_effect_points.proofs.Knowing.{issues_more, known_is, known_more, wrong_known}
use Rattle.uring_effect_points.proofs.Marking.{taken_next}
use Rattle.uring_effect_points.proofs.known.add_known.Goals as goal

pub loop-event-preserved : goal.loop-event-preserved
loop-event-preserved g c =
    let setup_now : Setup = c.args.core.now.setup in
    let told = c.args.told.now in
    let earlier = take c.loop-event.event-index c.args.events.now in
    let before : History = history_of earlier in
    let low = c.loop-event-test.true in
    let e = c.event-item.result in
    let grown : take (c.loop-event.event-index + 1) c.args.events.now ≡ earlier ++ e ∷ [] = taken_next c.args.events.now c.loop-event.event-index e (omega (arith, low)) c.event-item.is in
    let setup : c.follow_one.new.core.setup ≡ setup_now = c.in_ok-follow_one.ensures.setup ∙ c.loop-event.invariant.setup in
    let fits : FitsApart c.follow_one.new.core (e ∷ before) = c.in_ok-follow_one.ensures.called c.if-not-branch.false before c.loop-event.invariant.fits in
    let known : c.bytes_at-known.result ≡ known_by setup_now told before e =
    known_is told c.posted-before.result c.posted.result (posted_in setup_now before) (posted_in setup_now (e ∷ before)) c.bytes_at-known.result c.bytes_at-known.ensures
    (c.posted-before.ensures before c.loop-event.invariant.fits ∙ ap (λ (s : Setup). posted_in s before) c.loop-event.invariant.setup)
    (c.posted.ensures (e ∷ before) fits ∙ ap (λ (s : Setup). posted_in s (e ∷ before)) setup) in
    record {
      setup = setup;
      fits = subst (FitsApart c.follow_one.new.core) (sym (ap history_of grown ∙ history_of_snoc earlier e)) fits;
      meet = subst (IssuesMeet setup_now told []) (sym grown) (issues_more setup_now told earlier e c.loop-event.invariant.meet (subst (λ (k : Option (List ℕ)). IssueMeets k e) known (c.issue_meets.ensures.0 c.if-not-issue_meets.false)));
      marks =
          c.in_ok-push.ensures.items ∙ ap (λ (ms : List Mark). ms ++ c.mark_known.result ∷ []) c.loop-event.invariant.marks
          ∙ ap (λ (m : Mark). known_marks setup_now told [] earlier ++ m ∷ []) (c.mark_known.ensures (e ∷ before) fits ∙ ap (λ (s : Setup). known_mark c.bytes_at-known.result (world s (e ∷ before)).requests e) setup ∙ ap (λ (k : Option (List ℕ)). known_mark k (world setup_now (e ∷ before)).requests e) known)
          ∙ sym (known_more setup_now told earlier e)
          ∙ ap (known_marks setup_now told []) (sym grown);
    }

pub returns-then-not-branch-clause-wrong : goal.returns-then-not-branch-clause-wrong
returns-then-not-branch-clause-wrong g c = λ is.
    wrong_known c.args.core.now.setup c.loop-event.core.setup c.args.told.now c.args.events.now c.loop-event.event-index c.event-item.result (omega arith) c.event-item.is c.loop-event.invariant.setup
    (λ called meets. c.in_ok-follow_one.ensures.wrong c.if-not-branch.true (history_of (take c.loop-event.event-index c.args.events.now)) c.loop-event.invariant.fits called)

pub returns-then-not-issue_meets-clause-wrong : goal.returns-then-not-issue_meets-clause-wrong
returns-then-not-issue_meets-clause-wrong g c = λ is.
    let own : Setup = c.loop-event.core.setup in
    let before : History = history_of (take c.loop-event.event-index c.args.events.now) in
    let e = c.event-item.result in
    let fits : FitsApart c.follow_one.new.core (e ∷ before) = c.in_ok-follow_one.ensures.called c.if-not-branch.false before c.loop-event.invariant.fits in
    let known : c.bytes_at-known.result ≡ known_by own c.args.told.now before e =
    known_is c.args.told.now c.posted-before.result c.posted.result (posted_in own before) (posted_in own (e ∷ before)) c.bytes_at-known.result c.bytes_at-known.ensures
    (c.posted-before.ensures before c.loop-event.invariant.fits) (c.posted.ensures (e ∷ before) fits ∙ ap (λ (s : Setup). posted_in s (e ∷ before)) c.in_ok-follow_one.ensures.setup) in
    wrong_known c.args.core.now.setup own c.args.told.now c.args.events.now c.loop-event.event-index e (omega arith) c.event-item.is c.loop-event.invariant.setup
    (λ called meets. both_ways _ c.if-not-issue_meets.true (c.issue_meets.ensures.1 (subst (λ (k : Option (List ℕ)). IssueMeets k e) (sym known) meets)))

pub returns-clause-lawful : goal.returns-clause-lawful
returns-clause-lawful g c = λ is.
    let all = take_all c.loop-event.event-index c.args.events.now (omega arith) in
    subst (λ (s : Setup). IsLawfulApart s (history_of c.args.events.now)) c.loop-event.invariant.setup (subst (λ (es : List Event). IsLawfulApart c.loop-event.core.setup (history_of es)) all c.loop-event.invariant.fits.lawful)

pub returns-clause-meet : goal.returns-clause-meet
returns-clause-meet g c = λ is.
    subst (IssuesMeet c.args.core.now.setup c.args.told.now []) (take_all c.loop-event.event-index c.args.events.now (omega arith)) c.loop-event.invariant.meet

pub returns-clause-marks : goal.returns-clause-marks
returns-clause-marks g c = λ is.
    c.loop-event.invariant.marks ∙ ap (known_marks c.args.core.now.setup c.args.told.now []) (take_all c.loop-event.event-index c.args.events.now (omega arith))
