use Rattle.std.proofs.Common.{sym, ◌∙◌, ap}
use Rattle.uring_entry.specs.declared.why.Why.TheVariants.{IsDoomed}
use Rattle.uring_entry.proofs.WhyLemmas.{why_doomed, why_waiting}
use Rattle.uring_dispatch.proofs.WhyHeld.{still_held, waits_for, waits_for_none}
use Rattle.uring_dispatch.proofs.grouped.Grouped.why.Goals as goal

pub returns-then-is_doomed : goal.returns-then-is_doomed
returns-then-is_doomed c = λ r h.
    ap IsDoomed (c.doom.ensures r h)
    ∙ sym
    (why_doomed r c.args.n (still_held c.args.self.now.fits h (sym c.in-Some.ensures) c.if-request.false)
    (sym (c.is_doomed.ensures r h) ∙ c.if-is_doomed.true))

pub returns-then-least-n : goal.returns-then-least-n
returns-then-least-n c = λ r h.
    waits_for_none r c.args.n c.first_holder-least.result c.if-least-n.true (c.first_holder-least.ensures.holds r h)
    ∙ sym
    (why_waiting r c.args.n (still_held c.args.self.now.fits h (sym c.in-Some.ensures) c.if-request.false)
    (sym (c.is_doomed.ensures r h) ∙ c.if-is_doomed.false))

pub returns : goal.returns
returns c = λ r h.
    waits_for r c.args.n c.first_holder-least.result c.since-since.result c.if-least-n.false (c.first_holder-least.ensures.holds r h) (c.since-since.ensures r h)
    ∙ sym
    (why_waiting r c.args.n (still_held c.args.self.now.fits h (sym c.in-Some.ensures) c.if-request.false)
    (sym (c.is_doomed.ensures r h) ∙ c.if-is_doomed.false))
