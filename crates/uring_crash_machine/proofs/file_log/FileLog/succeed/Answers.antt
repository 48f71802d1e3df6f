use Rattle.std.proofs.Common.{◌≡◌, ◌+◌, length}
use Rattle.uring_crash_machine.proofs.Common.{IsShort, SyncEnded, Volume, shown_length, with_event}
use Rattle.uring_crash_machine.specs.Logs.{AreNumbered}
use Rattle.uring_crash_machine.proofs.LogNumbers.{either_way, numbered_sync_end}
use Rattle.uring_crash_machine.proofs.file_log.FileLog.succeed.Goals as goal

pub invariant_of-self : goal.invariant_of-self
invariant_of-self c =
    let v : Volume = c.self.inside.volume in
    let more : Volume = with_event (SyncEnded c.args.number) v in
    let i = c.self.invariant in
    let q = c.self.inside.begun.value.requests in
    record {
      short = either_way c.end_sync.result more v c.end_sync.new.self IsShort c.end_sync.ensures.ended (record { first = i.short.first; writes = i.short.writes }) i.short;
      long = either_way c.end_sync.result more v c.end_sync.new.self (λ x. c.self.inside.shown ≡ shown_length x) c.end_sync.ensures.ended i.long i.long;
      numbered = either_way c.end_sync.result more v c.end_sync.new.self (λ x. x.next ≡ length q + 1) c.end_sync.ensures.ended i.numbered i.numbered;
      numbers = either_way c.end_sync.result more v c.end_sync.new.self (λ x. AreNumbered q x.history c.self.inside.numbers.items) c.end_sync.ensures.ended (numbered_sync_end q v.history c.self.inside.numbers.items c.args.number i.numbers) i.numbers;
    }
