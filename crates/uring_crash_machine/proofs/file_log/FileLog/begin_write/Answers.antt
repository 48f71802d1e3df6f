use Rattle.std.proofs.Common.{◌≡◌, ◌+◌, ℕ, List, length, sym, subst, ap, ◌∙◌, arith}
use Rattle.uring_crash_machine.proofs.Common.{IsShort, Volume, false≢true, shown_length, vec_len, with_write}
use Rattle.uring_crash_machine.specs.Logs.{numbered_as}
use Rattle.uring_crash_machine.proofs.FoldedLogs.{short_written}
use Rattle.uring_crash_machine.proofs.LogNumbers.{next_begun, numbered_written}
use Rattle.uring_crash_machine.proofs.file_log.FileLog.begin_write.Goals as goal

pub returns-in_err-written-clause-granted : goal.returns-in_err-written-clause-granted
returns-in_err-written-clause-granted g c = λ all. absurd (false≢true (c.in_err-written.ensures.granted (length c.args.bytes.now) (all _) (omega arith)))

pub returns-in_err-reserve-clause-granted : goal.returns-in_err-reserve-clause-granted
returns-in_err-reserve-clause-granted g c = λ all. absurd (false≢true (c.in_err-reserve.ensures.granted (vec_len c.self.inside.numbers + 1) (all _) (omega arith)))

pub invariant_of-self-2 : goal.invariant_of-self-2
invariant_of-self-2 g c =
    let v : Volume = c.self.inside.volume in
    let now : Volume = c.begin_write_in.new.self in
    let bytes : List ℕ = c.in_ok-written.written.items in
    let issued : now ≡ with_write c.args.off bytes v = c.in-Ok.ensures.issued in
    let many = ap (λ (b : List ℕ). length b) c.in_ok-written.ensures.bytes in
    let i = c.self.invariant in
    record {
      short = subst (λ (x : Volume). IsShort x) (sym issued) (short_written c.args.off bytes v (omega (arith, many, c.requires)) i.short);
      long = subst (λ (x : Volume). c.self.inside.shown ≡ shown_length x) (sym issued) i.long;
      numbered = next_begun c.args.n c.self.inside.begun.value c.tell.new.begun.value v now c.tell.ensures (ap (λ (x : Volume). x.next) issued) i.numbered;
      numbers = numbered_written c.args.n c.in-Ok.number c.args.off bytes c.self.inside.begun.value c.tell.new.begun.value v now c.self.inside.numbers.items c.put_number.new.numbers.items c.tell.ensures issued (c.put_number.ensures ∙ ap (numbered_as c.args.n c.in-Ok.number) c.reserve.ensures.items) c.in-Ok.ensures.number i.numbered i.numbers;
    }
