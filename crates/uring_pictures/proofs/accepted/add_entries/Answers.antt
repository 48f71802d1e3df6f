use Rattle.std.proofs.Common.{◌≡◌, ◌<◌, ◌≤◌, ◌++◌, sym, ◌∙◌, arith, rules}
use Rattle.std.specs.Option.{option_to_list}
use Rattle.uring_pictures.proofs.Common.{append-nil, take_all, world}
use Rattle.uring_pictures.proofs.Calls.{entry_added}
use Rattle.uring_pictures.proofs.accepted.add_entries.Goals as goal
use Rattle.uring_pictures.proofs.accepted.add_entries.Goals.{in-Some+in_ok-push_value, in_default}

pub loop-number-preserved : goal.loop-number-preserved
loop-number-preserved g c =
    let from = c.loop-number.invariant.from in
    let here : c.loop-number.number < c.args.accepted = search rules in
    let told = rw c.core.ensures at c.entry.ensures in
    let added : c.match-entry.entries.items ≡ c.loop-number.entries.items ++ option_to_list c.entry.result = elim c.match-entry.branch [
      | in-Some+in_ok-push_value w ↦ rw (w.entries-is, w.in-Some.is) w.in_ok-push_value.ensures.items
      | in_default w ↦ rw (w.entries-is, w.in_default.is) (sym (append-nil _))
    ] in
    record {
      from = omega (arith, from);
      entries = λ h fits many all. entry_added (world c.args.machine.now.core.setup h).requests c.loop-number.number _ _ c.entry.result (c.loop-number.invariant.entries h fits many all) added (told h fits.core) (omega (arith, here, many)) (all.unended c.loop-number.number from);
    }

pub returns-clause-entries : goal.returns-clause-entries
returns-clause-entries g c = λ h fits many all.
    let over : c.args.accepted ≤ c.loop-number.number = search rules in
    c.loop-number.invariant.entries h fits many all ∙ take_all c.loop-number.number (world c.args.machine.now.core.setup h).requests.accepted (omega (arith, over, many))
