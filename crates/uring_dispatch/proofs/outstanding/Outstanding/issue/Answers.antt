use Rattle.std.proofs.Common.{Some, sym, ◌∙◌, ap, refl, is_some, arith, negsuc}
use Rattle.uring_dispatch.proofs.Common.{entry_of, never_success, no_bytes, runs, started}
use Rattle.uring_dispatch.specs.declared.answers.IssuedPosting.TheVariants as posting
use Rattle.uring_dispatch.proofs.Changes.{write_sound, start_held}
use Rattle.uring_dispatch.proofs.WindowLemmas.{at_keyed}
use Rattle.uring_dispatch.proofs.HeldLemmas.{outstanding_none, outstanding_some, running_some}
use Rattle.uring_dispatch.proofs.WaitingLemmas.{spared_absent, tell_outstanding, idle_listed, forgotten_keeps, restarted_listed}
use Rattle.uring_dispatch.proofs.Choosing.{ends_failing}
use Rattle.uring_dispatch.proofs.Issues.{op_some, cancel_kept, ended_idle, issued_gone, issued_runs, issued_faulty, issued_doomed, issued_late, issued_cancel, issued_run}
use Rattle.uring_dispatch.proofs.ByData.{found_on, goes_changed}
use Rattle.uring_dispatch.proofs.outstanding.Outstanding.issue.Goals as goal

pub returns-in_default-clause-answer : goal.returns-in_default-clause-answer
returns-in_default-clause-answer c = λ r h.
    issued_gone r c.args.n (outstanding_none h _ (at_keyed _ c.args.n _ (sym c.in_default.ensures.value)))

pub returns-then-request-clause-answer : goal.returns-then-request-clause-answer
returns-then-request-clause-answer c = λ r h.
    let there = at_keyed _ c.args.n _ (sym c.in-Some.ensures.value) ∙ c.by_key-request.ensures in
    issued_runs r c.args.n (outstanding_some c.args.self.now.grouped.fits h _ there) (running_some h _ there ∙ c.if-request.true)

pub group_of-group-requires : goal.group_of-group-requires
group_of-group-requires c = at_keyed _ c.args.n _ (sym c.in-Some.ensures.value) ∙ c.by_key-request.ensures

-- It ends with an error.

pub returns-in_default-op-clause-answer : goal.returns-in_default-op-clause-answer
returns-in_default-op-clause-answer c = λ r h.
    let there = at_keyed _ c.args.n _ (sym c.in-Some.ensures.value) ∙ c.by_key-request.ensures in
    ap (posting.Ended (negsuc 21)) (c.end_by_key-posts.ensures.posts r (negsuc 21) h (sym (never_success (entry_of r c.args.n) 21)))
    ∙ issued_faulty c.args.n c.args.self.now.grouped.fits h there c.if-request.false c.in_default-op.is

pub returns-in_default-op-clause-shows : goal.returns-in_default-op-clause-shows
returns-in_default-op-clause-shows c = λ r h.
    ends_failing _ _ r c.args.n 21 (c.end_by_key-posts.ensures.shows r _ no_bytes h (sym (never_success (entry_of r c.args.n) 21)))

pub returns-in_default-op-clause-counts : goal.returns-in_default-op-clause-counts
returns-in_default-op-clause-counts c = λ room between.
    ended_idle c.args.self.now.grouped.groups c.end_by_key-posts.new.self.grouped.groups c.args.n room between (at_keyed _ c.args.n _ (sym c.in-Some.ensures.value) ∙ c.by_key-request.ensures) c.if-request.false c.end_by_key-posts.ensures.counts

pub returns-then-is_doomed_in-clause-answer : goal.returns-then-is_doomed_in-clause-answer
returns-then-is_doomed_in-clause-answer c = λ r h.
    let there = at_keyed _ c.args.n _ (sym c.in-Some.ensures.value) ∙ c.by_key-request.ensures in
    ap (posting.Ended (negsuc 124)) (c.end_by_key-posts-then-is_doomed_in.ensures.posts r (negsuc 124) h (sym (never_success (entry_of r c.args.n) 124)))
    ∙ issued_doomed c.args.n c.args.self.now.grouped.fits h there c.if-request.false c.in-Some-op.is (sym c.if-is_doomed_in.true ∙ c.is_doomed_in.ensures.doomed r h)

pub returns-then-is_doomed_in-clause-shows : goal.returns-then-is_doomed_in-clause-shows
returns-then-is_doomed_in-clause-shows c = λ r h.
    ends_failing _ _ r c.args.n 124 (c.end_by_key-posts-then-is_doomed_in.ensures.shows r _ no_bytes h (sym (never_success (entry_of r c.args.n) 124)))

pub returns-then-is_doomed_in-clause-counts : goal.returns-then-is_doomed_in-clause-counts
returns-then-is_doomed_in-clause-counts c = λ room between.
    ended_idle c.args.self.now.grouped.groups c.end_by_key-posts-then-is_doomed_in.new.self.grouped.groups c.args.n room between (at_keyed _ c.args.n _ (sym c.in-Some.ensures.value) ∙ c.by_key-request.ensures) c.if-request.false c.end_by_key-posts-then-is_doomed_in.ensures.counts

pub is_doomed_in-requires-clause-there : goal.is_doomed_in-requires-clause-there
is_doomed_in-requires-clause-there c = at_keyed _ c.args.n _ (sym c.in-Some.ensures.value) ∙ c.by_key-request.ensures

pub is_ready-requires-clause-there : goal.is_ready-requires-clause-there
is_ready-requires-clause-there c = ap is_some (at_keyed _ c.args.n _ (sym c.in-Some.ensures.value) ∙ c.by_key-request.ensures)

pub returns-then-not-is_ready-clause-answer : goal.returns-then-not-is_ready-clause-answer
returns-then-not-is_ready-clause-answer c = λ r h.
    let there = at_keyed _ c.args.n _ (sym c.in-Some.ensures.value) ∙ c.by_key-request.ensures in
    issued_late c.args.n c.args.self.now.grouped.fits h there c.if-request.false (sym c.if-is_doomed_in.false ∙ c.is_doomed_in.ensures.doomed r h) (sym c.if-not-is_ready.true ∙ c.is_ready.ensures r h)

-- It is a cancel.

pub cancel-requires-clause-waits : goal.cancel-requires-clause-waits
cancel-requires-clause-waits c =
    ap runs (at_keyed _ c.args.n _ (sym c.in-Some.ensures.value) ∙ c.by_key-request.ensures) ∙ c.if-request.false

pub returns-in-Cancel-clause-answer : goal.returns-in-Cancel-clause-answer
returns-in-Cancel-clause-answer c = λ r h.
    let there = at_keyed _ c.args.n _ (sym c.in-Some.ensures.value) ∙ c.by_key-request.ensures in
    let asks = cancel_kept (entry_of r c.args.n) _ _ (sym (c.in-Some-op.is ∙ ap Some c.in-Cancel.is) ∙ (h.shown c.args.n _ there).op) in
    c.cancel.ensures.answer r h asks.0 asks.1 asks.2
    ∙ issued_cancel c.args.n c.args.self.now.grouped.fits h there c.if-request.false (sym c.if-is_doomed_in.false ∙ c.is_doomed_in.ensures.doomed r h) (sym c.if-not-is_ready.false ∙ c.is_ready.ensures r h) asks.1

pub returns-in-Cancel-clause-shows : goal.returns-in-Cancel-clause-shows
returns-in-Cancel-clause-shows c = λ r h.
    let there = at_keyed _ c.args.n _ (sym c.in-Some.ensures.value) ∙ c.by_key-request.ensures in
    let asks = cancel_kept (entry_of r c.args.n) _ _ (sym (c.in-Some-op.is ∙ ap Some c.in-Cancel.is) ∙ (h.shown c.args.n _ there).op) in
    c.cancel.ensures.shows r h asks.0 asks.1 asks.2

-- It starts.

pub start-requires-clause-waits : goal.start-requires-clause-waits
start-requires-clause-waits c =
    ap runs (at_keyed _ c.args.n _ (sym c.in-Some.ensures.value) ∙ c.by_key-request.ensures) ∙ c.if-request.false

pub invariant_of-self : goal.invariant_of-self
invariant_of-self c =
    let there = at_keyed _ c.args.n _ (sym c.in-Some.ensures.value) ∙ c.by_key-request.ensures in
    (write_sound c.args.self.now.grouped.fits there (c.start.ensures.changes _ there) refl c.start.ensures.same.end, tt)

pub start-requires-2 : goal.start-requires-2
start-requires-2 c =
    let there = at_keyed _ c.args.n _ (sym c.in-Some.ensures.value) ∙ c.by_key-request.ensures in
    record {
      tell = tell_outstanding _ _ _ c.args.n c.args.self.now.told (ap is_some there);
      free = spared_absent _ _ _ c.args.n _ _ _ (c.args.self.now.told.told c.args.n) there c.group_of-group.ensures.group c.is_doomed_in.ensures.kept c.if-is_doomed_in.false;
    }

pub invariant_of-self-2 : goal.invariant_of-self-2
invariant_of-self-2 c =
    let there = at_keyed _ c.args.n _ (sym c.in-Some.ensures.value) ∙ c.by_key-request.ensures in
    let changes = c.start.ensures.changes _ there in
    let end = c.start.ensures.same.end in
    let own = idle_listed _ c.args.self.now.grouped.groups _ _ c.args.n (Some (started c.by_key-request.result.now)) changes.here refl refl c.start-2.ensures.heads c.start-2.ensures.doomed in
    record {
      told =
          restarted_listed _ _ _ _ _ _ c.args.n (started c.by_key-request.result.now) c.args.self.now.told (ap is_some there) changes end refl
          (forgotten_keeps _ _ _ _ c.args.n own c.start-2.ensures.heads c.start-2.ensures.doomed) own;
      found = found_on _ _ _ c.args.self.now.found (goes_changed there changes end refl) (omega (arith, end, c.args.self.now.found.places));
    }

pub returns : goal.returns
returns c =
    let there = at_keyed _ c.args.n _ (sym c.in-Some.ensures.value) ∙ c.by_key-request.ensures in
    let same = c.start.ensures.same in
    record {
      stays = record {
        last = c.requires;
        window = same.room;
        groups = refl;
        memory = omega (arith, c.start-2.ensures.heads.limit, c.start-2.ensures.doomed.limit);
        places = omega arith;
      };
      answer = λ r h.
          issued_run c.args.n c.args.self.now.grouped.fits h there c.if-request.false c.in-Some-op.is (sym c.if-is_doomed_in.false ∙ c.is_doomed_in.ensures.doomed r h)
          (sym c.if-not-is_ready.false ∙ c.is_ready.ensures r h) c.in_default-op-2.not-Cancel;
      shows = λ r h.
          let does = op_some (entry_of r c.args.n) c.in-Some-op.op (sym c.in-Some-op.is ∙ (h.shown c.args.n _ there).op) in
          start_held c.args.self.now.grouped.fits h there c.if-request.false does.0 (c.start.ensures.changes _ there) same c.start.ensures.running;
      counts = λ room between. record { accepted = same.end; outstanding = same.outstanding; running = c.start.ensures.running; room = omega arith; between = refl };
    }
