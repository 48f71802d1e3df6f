use Rattle.std.proofs.Common.{List, length, true, refl, sym, subst, ap, ◌∙◌}
use Rattle.std.specs.Vec.{with_items}
use Rattle.uring_crash_machine.proofs.Common.{CrashMachine, Log, OnOk, with_items_is}
use Rattle.uring_crash_machine.specs.Logs.{AreFolded, AreWhollyFolded}
use Rattle.uring_crash_machine.proofs.EpochSteps.{fold_fits}
use Rattle.uring_crash_machine.proofs.FoldedLogs.{folded_many}
use Rattle.uring_crash_machine.proofs.crash_machine.CrashMachine.fold_in.Goals as goal

pub invariant_of-self : goal.invariant_of-self
invariant_of-self g c =
    let folds = subst (λ (ls : List Log). AreFolded ls c.fold_all.new.logs) c.deref_mut.ensures.value c.fold_all.ensures.folded in
    let many = folded_many c.self.inside.logs.items c.fold_all.new.logs folds in
    (c.self.invariant.0, ap (λ (ls : List Log). length ls) (with_items_is c.self.inside.logs c.fold_all.new.logs (many ∙ sym c.self.inside.logs.ok.0)) ∙ many ∙ c.self.invariant.1)

pub returns-clause-folded : goal.returns-clause-folded
returns-clause-folded g c =
    let folds = subst (λ (ls : List Log). AreFolded ls c.fold_all.new.logs) c.deref_mut.ensures.value c.fold_all.ensures.folded in
    let many = folded_many c.self.inside.logs.items c.fold_all.new.logs folds in
    rw (← c.self.view_is)
    (subst (λ (ls : List Log). AreFolded c.self.inside.logs.items ls) (sym (with_items_is c.self.inside.logs c.fold_all.new.logs (many ∙ sym c.self.inside.logs.ok.0))) folds)

pub returns-clause-none_left : goal.returns-clause-none_left
returns-clause-none_left g c =
    let folds = subst (λ (ls : List Log). AreFolded ls c.fold_all.new.logs) c.deref_mut.ensures.value c.fold_all.ensures.folded in
    let many = folded_many c.self.inside.logs.items c.fold_all.new.logs folds in
    subst (λ (ls : List Log). OnOk c.fold_all.result (AreWhollyFolded ls)) (sym (with_items_is c.self.inside.logs c.fold_all.new.logs (many ∙ sym c.self.inside.logs.ok.0))) c.fold_all.ensures.none_left

pub returns-clause-fits : goal.returns-clause-fits
returns-clause-fits g c =
    let m : CrashMachine = record { unit = c.self.inside.unit; core = c.self.inside.core; files = c.self.inside.files; logs = c.self.inside.logs.items; is_lost = c.self.inside.is_lost; is_folded = c.self.inside.is_folded } in
    let now : CrashMachine = record { unit = c.self.inside.unit; core = c.self.inside.core; files = c.self.inside.files; logs = (with_items c.self.inside.logs c.fold_all.new.logs).items; is_lost = c.self.inside.is_lost; is_folded = true } in
    let folds = subst (λ (ls : List Log). AreFolded ls c.fold_all.new.logs) c.deref_mut.ensures.value c.fold_all.ensures.folded in
    let many = folded_many c.self.inside.logs.items c.fold_all.new.logs folds in
    rw (← c.self.view_is)
    (λ e earlier f.
    fold_fits m now e earlier c.self.invariant.0 refl refl refl
    (subst (λ (ls : List Log). AreFolded c.self.inside.logs.items ls) (sym (with_items_is c.self.inside.logs c.fold_all.new.logs (many ∙ sym c.self.inside.logs.ok.0))) folds)
    refl f)
