use Rattle.std.proofs.Common.{◌≡◌, ◌+◌, length}
use Rattle.uring_crash_machine.proofs.Common.{IsShort, SyncFailed, Volume, shown_length, with_event}
use Rattle.uring_crash_machine.specs.Logs.{AreNumbered}
use Rattle.uring_crash_machine.proofs.LogNumbers.{either_way, numbered_sync_failure}
use Rattle.uring_crash_machine.proofs.file_log.FileLog.fail.Goals as goal

pub invariant_of-self : goal.invariant_of-self
invariant_of-self c =
    let v : Volume = c.self.inside.volume in
    let more : Volume = with_event (SyncFailed c.args.number) v in
    let i = c.self.invariant in
    let q = c.self.inside.begun.value.requests in
    record {
      short = either_way c.fail_sync.result more v c.fail_sync.new.self IsShort c.fail_sync.ensures.failed (record { first = i.short.first; writes = i.short.writes }) i.short;
      long = either_way c.fail_sync.result more v c.fail_sync.new.self (λ x. c.self.inside.shown ≡ shown_length x) c.fail_sync.ensures.failed i.long i.long;
      numbered = either_way c.fail_sync.result more v c.fail_sync.new.self (λ x. x.next ≡ length q + 1) c.fail_sync.ensures.failed i.numbered i.numbered;
      numbers = either_way c.fail_sync.result more v c.fail_sync.new.self (λ x. AreNumbered q x.history c.self.inside.numbers.items) c.fail_sync.ensures.failed (numbered_sync_failure q v.history c.self.inside.numbers.items c.args.number i.numbers) i.numbers;
    }
