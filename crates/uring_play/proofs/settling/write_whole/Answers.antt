use Rattle.std.proofs.Common.{List, inl, refl, subst, sym, ◌∙◌, rules, arith}
use Rattle.std.specs.List.Sorted.{IsPermutation}
use Rattle.uring_entry.specs.Layout.{Cqe}
use Rattle.std.proofs.lemmas.Bool.{eqb-true}
use Rattle.std.proofs.lemmas.List.{nil_from_length}
use Rattle.std.proofs.lemmas.Grind.{common_steps}
use Rattle.uring_play.proofs.PlayedThrough.{accepted_total}
use Rattle.uring_play.proofs.settling.write_whole.Goals as goal

pub returns : goal.returns
returns g c =
    let report = c.args.report.now in
    inl (record { over = search rules; none_outstanding = search rules; none_waits = sym c.waiting.ensures ∙ nil_from_length c.waiting.result.now (eqb-true _ 0 (sym c.is_empty.ensures ∙ c.if-not-is_empty.false)) }, (_, record { sorted = c.write_out.new.completions; same = subst (λ (xs : List Cqe). IsPermutation xs c.write_out.new.completions) (first_of (search (rules, c.deref_mut.ensures.value, c.in_ok-extend_from_slice.ensures.items, c.undelivered.ensures), grind (arith, common_steps))) c.write_out.ensures.sorted.0; in_order = c.write_out.ensures.sorted.1; is = rw (c.counts-counts.ensures.accepted, c.dropped_last-dropped.ensures, c.trace.ensures, accepted_total report.setup report.trace c.is_lawful.ensures.lawful) refl }, c.write_out.ensures.text))
