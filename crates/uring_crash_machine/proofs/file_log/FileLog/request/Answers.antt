use Rattle.std.proofs.Common.{List, sym, subst}
use Rattle.uring_crash_machine.specs.Logs.{AreNumbered}
use Rattle.uring_crash_machine.specs.declared.numbering.Numbered.{Numbered}
use Rattle.uring_crash_machine.proofs.LogNumbers.{request_there}
use Rattle.uring_crash_machine.proofs.file_log.FileLog.request.Goals as goal

pub returns-clause-there : goal.returns-clause-there
returns-clause-there c =
    let q = c.self.inside.begun.value.requests in
    let h = c.self.inside.volume.history in
    let are = subst (λ (ns : List Numbered). AreNumbered q h ns) (sym c.deref.ensures.value) c.self.invariant.numbers in
    rw (← c.self.view_is)
    (λ known. request_there c.request_at.result q h c.deref.result.now c.args.number are (c.request_at.ensures.found q are.each) c.request_at.ensures.none known)
