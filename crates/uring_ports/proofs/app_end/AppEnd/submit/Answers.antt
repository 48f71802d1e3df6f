use Rattle.std.proofs.Common.{rules, sym, ◌∙◌, refl}
use Rattle.uring_ports.specs.AppEnd.{IsAmiss}
use Rattle.uring_ports.proofs.AppEndLemmas.{amiss_refuses}
use Rattle.uring_ports.proofs.app_end.AppEnd.submit.Goals as goal

pub returns-in-Err-clause-refused : goal.returns-in-Err-clause-refused
returns-in-Err-clause-refused g c =
    let view = c.self.view_is in
    let inv = c.self.invariant in
    let amiss : IsAmiss c.args.self.now.sizes.sq c.args.items.now c.in-Err.refusal = rw (← view, ← inv.0) c.in-Err.ensures.refused in
    (amiss_refuses c.args.self.now c.args.items.now c.in-Err.refusal (rw (← view) (sym inv.1 ∙ c.if-self.false)) amiss, refl)

pub returns-clause-ok : goal.returns-clause-ok
returns-clause-ok g c = search rules
