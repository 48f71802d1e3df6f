use Rattle.std.proofs.Common.{◌+◌, refl, take, ap, ◌∙◌}
use Rattle.std.proofs.lemmas.List.{take_all}
use Rattle.uring_core.proofs.Common.{after_entries, after_head}
use Rattle.uring_core.specs.declared.step.Step.TheVariants as step
use Rattle.uring_core.proofs.WholeCalls.{as_called, entries_next, submission_then}
use Rattle.uring_core.proofs.cores.Core.publish.Goals as goal

pub loop-entry-init : goal.loop-entry-init
loop-entry-init c = record {
  slot = refl;
  setup = c.load_head.ensures.setup;
  fits = λ h f. as_called c.load_head.new.self c.args.self.now.setup step.LoadHead c.load_head.result _ h c.load_head.ensures.setup (λ e. e) (c.load_head.ensures.fits h f);
  others = c.load_head.ensures.others;
}

pub loop-entry-preserved : goal.loop-entry-preserved
loop-entry-preserved c =
    let i = c.loop-entry.invariant in
    record {
      slot = ap (λ n. n + 1) i.slot;
      setup = c.index.ensures.setup ∙ c.fill.ensures.setup ∙ i.setup;
      fits = λ h f.
          let g = c.args.self.now.setup in
          let head = after_head g h in
          let before = after_entries g 0 (take c.loop-entry.entry-index c.args.entries.now) head in
          let filled = as_called c.fill.new.self g (step.Fill c.loop-entry.slot c.entry-item.result) c.fill.result _ before (c.fill.ensures.setup ∙ i.setup) (λ e. e) (c.fill.ensures.fits before (i.fits h f)) in
          rw (entries_next g c.args.entries.now c.loop-entry.entry-index c.loop-entry.slot c.entry-item.result head i.slot c.loop-entry-test.true c.entry-item.is)
          (as_called c.index.new.self g (step.Index c.loop-entry.slot) c.index.result _ _ (c.index.ensures.setup ∙ c.fill.ensures.setup ∙ i.setup) (λ e. e) (c.index.ensures.fits _ filled));
      others = submission_then c.args.self.now c.fill.new.self c.index.new.self (submission_then c.args.self.now c.loop-entry.self c.fill.new.self i.others c.fill.ensures.others) c.index.ensures.others;
    }

pub returns-clause-fits : goal.returns-clause-fits
returns-clause-fits c = λ h f.
    let put = rw (take_all c.loop-entry.entry-index c.args.entries.now c.loop-entry-test.false) at (c.loop-entry.invariant.fits h f) in
    as_called c.store_tail.new.self c.args.self.now.setup step.StoreTail c.store_tail.result _ _ (c.store_tail.ensures.setup ∙ c.loop-entry.invariant.setup) (λ e. e) (c.store_tail.ensures.fits _ put)

pub returns-clause-others : goal.returns-clause-others
returns-clause-others c =
    submission_then c.args.self.now c.loop-entry.self c.store_tail.new.self c.loop-entry.invariant.others c.store_tail.ensures.others
