use Rattle.std.proofs.Common.{◌≡◌, ◌==◌, ◌&&◌, false, List, sym, subst, ◌∙◌, arith}
use Rattle.std.specs.List.{list_any}
use Rattle.std.proofs.lemmas.List.{take_all}
use Rattle.uring_volume.proofs.KeptLists.{in_default}
use Rattle.uring_crash_machine.specs.declared.numbering.Numbered.{Numbered}
use Rattle.uring_crash_machine.proofs.LogNumbers.{last_found, none_found}
use Rattle.uring_crash_machine.proofs.numbering.number_of.Goals as goal

pub returns-then-is_last_of-clause-found : goal.returns-then-is_last_of-clause-found
returns-then-is_last_of-clause-found c = λ requests each.
    last_found requests c.args.n _ (each _ (in_default c.args.numbers.now c.loop-p.p-index _ (omega arith))) (sym c.is_last_of.ensures ∙ c.if-is_last_of.true)

pub returns-clause-none : goal.returns-clause-none
returns-clause-none c = λ requests each.
    none_found requests c.args.n c.args.numbers.now each
    (subst (λ (ps : List Numbered). list_any (λ (p : Numbered). p.is_last && p.request == c.args.n) ps ≡ false) (take_all c.loop-p.p-index c.args.numbers.now c.loop-p-test.false) c.loop-p.invariant)
