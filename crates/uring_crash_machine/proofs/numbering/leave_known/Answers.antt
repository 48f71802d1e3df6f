use Rattle.std.proofs.Common.{◌≡◌, List, rules, sym, ◌∙◌, arith}
use Rattle.std.proofs.lemmas.Bool.{le-leb}
use Rattle.std.proofs.lemmas.Fn.{filter_same}
use Rattle.std.specs.List.{filter}
use Rattle.std.specs.Prelude.{nat_le, true, false}
use Rattle.uring_crash_machine.proofs.Common.{cond-false, cond-true, false_from_ne_true}
use Rattle.std.proofs.lemmas.Bool.{leb-true}
use Rattle.uring_crash_machine.specs.Logs.{most_numbers}
use Rattle.uring_crash_machine.specs.declared.numbering.Numbered.{Numbered}
use Rattle.uring_volume.specs.Volume.{is_known}
use Rattle.uring_crash_machine.proofs.numbering.leave_known.Goals as goal

pub returns-then-next-le-MOST_NUMBERS : goal.returns-then-next-le-MOST_NUMBERS
returns-then-next-le-MOST_NUMBERS c =
    let known : List Numbered = filter (λ p. is_known p.number c.args.volume.now.history) c.args.numbers.now.items in
    let few : nat_le c.args.volume.now.next most_numbers ≡ true = le-leb c.args.volume.now.next most_numbers (omega arith) in
    filter_same _ (λ p. is_known p.number c.args.volume.now.history) _ (λ x b f' k. search rules) _ _ c.retain.ensures.filtered
    ∙ sym (cond-true (nat_le c.args.volume.now.next most_numbers) known c.args.numbers.now.items few)

pub returns-else-next-le-MOST_NUMBERS : goal.returns-else-next-le-MOST_NUMBERS
returns-else-next-le-MOST_NUMBERS c =
    let known : List Numbered = filter (λ p. is_known p.number c.args.volume.now.history) c.args.numbers.now.items in
    let many : nat_le c.args.volume.now.next most_numbers ≡ false = false_from_ne_true (nat_le c.args.volume.now.next most_numbers) (λ few. let within = leb-true c.args.volume.now.next most_numbers few in omega (arith, within)) in
    sym (cond-false (nat_le c.args.volume.now.next most_numbers) known c.args.numbers.now.items many)
