use Rattle.std.proofs.Common.{◌≡◌, sym, ◌∙◌}
use Rattle.uring_play_text.specs.declared.play_fault.PlayFault.TheVariants as fault
use Rattle.uring_play_text.proofs.ScriptLaws.{so_far}
use Rattle.uring_play_text.proofs.script.Script.end.Goals as goal

pub returns-in-None-clause-calls : goal.returns-in-None-clause-calls
returns-in-None-clause-calls g c = λ size lines h. let e = c.in_ok-end_call.ensures.ended in
    rw e.calls (so_far (rw (sym e.fault ∙ c.in-None.is) at h.1))

pub returns-in-Some-clause-granted : goal.returns-in-Some-clause-granted
returns-in-Some-clause-granted g c = λ sure size lines h memory.
    let is : c.in-Some.fault ≡ fault.Memory = cc in
    rw (sym c.in_ok-end_call.ensures.ended.fault ∙ c.in-Some.is, is) at h.1
