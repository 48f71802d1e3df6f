use Rattle.std.proofs.Common.{◌≡◌, sym, ◌∙◌, ap, arith, refl, rules, Some}
use Rattle.uring_dispatch.proofs.Common.{at, one_if, runs, to_z-of_z, w32}
use Rattle.uring_dispatch.proofs.WindowLemmas.{at_keyed}
use Rattle.uring_dispatch.proofs.HeldLemmas.{running_none, running_some}
use Rattle.uring_dispatch.proofs.Issues.{posted_none, posted_some}
use Rattle.uring_dispatch.proofs.outstanding.Outstanding.end_running.Goals as goal

pub returns-in_default-clause-answer : goal.returns-in_default-clause-answer
returns-in_default-clause-answer c = λ r h.
    posted_none r c.args.n c.args.res (running_none h _ (at_keyed _ c.args.n _ (sym c.in_default.ensures.value)))

pub returns-then-not-request-clause-answer : goal.returns-then-not-request-clause-answer
returns-then-not-request-clause-answer c = λ r h.
    let there = at_keyed _ c.args.n _ (sym c.in-Some.ensures.value) ∙ c.by_key-request.ensures in
    posted_none r c.args.n c.args.res (running_some h _ there ∙ c.if-not-request.true)

pub group_of-group-requires : goal.group_of-group-requires
group_of-group-requires c = at_keyed _ c.args.n _ (sym c.in-Some.ensures.value) ∙ c.by_key-request.ensures

pub returns-clause-answer : goal.returns-clause-answer
returns-clause-answer c = λ r h.
    let same = to_z-of_z w32 c.args.res (search rules) in
    let there = at_keyed _ c.args.n _ (sym c.in-Some.ensures.value) ∙ c.by_key-request.ensures in
    let success = rw (same, (h.shown c.args.n _ there).entry) at c.succeeded-is_success.ensures in
    ap Some (c.end_by_key.ensures.posts r c.args.res h success)
    ∙ posted_some r c.args.n c.args.res (running_some h _ there ∙ c.if-not-request.false)

pub returns-clause-shows : goal.returns-clause-shows
returns-clause-shows c = λ r bytes h.
    let same = to_z-of_z w32 c.args.res (search rules) in
    let there = at_keyed _ c.args.n _ (sym c.in-Some.ensures.value) ∙ c.by_key-request.ensures in
    c.end_by_key.ensures.shows r c.args.res bytes h (rw (same, (h.shown c.args.n _ there).entry) at c.succeeded-is_success.ensures)

pub returns-clause-counts : goal.returns-clause-counts
returns-clause-counts c = λ room between.
    let there = at_keyed _ c.args.n _ (sym c.in-Some.ensures.value) ∙ c.by_key-request.ensures in
    let one : one_if (runs (at c.args.self.now.grouped.window c.args.n)) ≡ 1 = ap one_if (ap runs there ∙ c.if-not-request.false) in
    let lost = c.end_by_key.ensures.counts in
    record { accepted = lost.end; outstanding = lost.outstanding; running = omega (arith, lost.runs); room = omega arith; between = refl }
