use Rattle.std.proofs.Common.{◌≡◌, ◌+◌, sym, subst, ap, ◌∙◌, arith}
use Rattle.uring_crash_machine.proofs.Common.{IsShort, Volume, false≢true, shown_length, vec_len, with_sync}
use Rattle.uring_volume.specs.declared.event.SyncRange.TheVariants.{Whole}
use Rattle.uring_crash_machine.proofs.LogNumbers.{next_begun, numbered_synced}
use Rattle.uring_crash_machine.specs.Logs.{numbered_as}
use Rattle.uring_crash_machine.proofs.file_log.FileLog.begin_sync.Goals as goal

pub returns-in_err-reserve-clause-granted : goal.returns-in_err-reserve-clause-granted
returns-in_err-reserve-clause-granted g c = λ all. absurd (false≢true (c.in_err-reserve.ensures.granted (vec_len c.self.inside.numbers + 1) (all _) (omega arith)))

pub invariant_of-self-2 : goal.invariant_of-self-2
invariant_of-self-2 g c =
    let v : Volume = c.self.inside.volume in
    let now : Volume = c.begin_sync_in.new.self in
    let issued : now ≡ with_sync Whole v = c.in-Ok.ensures.issued in
    let i = c.self.invariant in
    record {
      short = subst (λ (x : Volume). IsShort x) (sym issued) (record { first = i.short.first; writes = i.short.writes });
      long = subst (λ (x : Volume). c.self.inside.shown ≡ shown_length x) (sym issued) i.long;
      numbered = next_begun c.args.n c.self.inside.begun.value c.tell.new.begun.value v now c.tell.ensures (ap (λ (x : Volume). x.next) issued) i.numbered;
      numbers = numbered_synced c.args.n c.in-Ok.number Whole c.self.inside.begun.value c.tell.new.begun.value v now c.self.inside.numbers.items c.put_number.new.numbers.items c.tell.ensures issued (c.put_number.ensures ∙ ap (numbered_as c.args.n c.in-Ok.number) c.reserve.ensures.items) c.in-Ok.ensures.number i.numbered i.numbers;
    }
