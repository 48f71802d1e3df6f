use Rattle.std.proofs.Common.{List, refl, sym, subst, ◌∙◌}
use Rattle.uring_crash_machine.specs.Logs.{AreNumbered}
use Rattle.uring_crash_machine.specs.declared.numbering.Numbered.{Numbered}
use Rattle.uring_crash_machine.proofs.FoldedLogs.{folded_short}
use Rattle.uring_crash_machine.proofs.LogNumbers.{numbered_folded, numbered_left}
use Rattle.uring_crash_machine.proofs.file_log.FileLog.fold_in.Goals as goal

pub invariant_of-self : goal.invariant_of-self
invariant_of-self g c =
    let f = c.fold_in-folded.ensures.folded in
    let next = f.next ∙ c.self.invariant.numbered in
    record {
      short = folded_short c.self.inside.volume c.fold_in-folded.new.self f c.self.invariant.short;
      long = c.self.invariant.long ∙ sym f.shown;
      numbered = next;
      numbers = subst (λ (ns : List Numbered). AreNumbered c.self.inside.begun.value.requests c.fold_in-folded.new.self.history ns) (sym c.leave_known.ensures)
          (numbered_left c.self.inside.begun.value.requests c.fold_in-folded.new.self c.self.inside.numbers.items next
          (numbered_folded c.self.inside.begun.value.requests c.self.inside.volume c.fold_in-folded.new.self c.self.inside.numbers.items f c.self.invariant.numbers));
    }

pub returns-clause-folded : goal.returns-clause-folded
returns-clause-folded g c = rw (← c.self.view_is) (record { fd = refl; volume = c.fold_in-folded.ensures.folded; requests = refl })
