use Rattle.std.proofs.Common.{leb, ◌&&◌, is_some, ◌∙◌, ap, arith}
use Rattle.uring_linux.proofs.Common.{first_member, has_fault, is_faulty_from, is_some_least_below, some_below}
use Rattle.uring_linux.proofs.drains.has_fault_from.Goals as goal

pub returns-in-Some : goal.returns-in-Some
unfolding is_faulty_from first_member
returns-in-Some c = λ r s.
    ap is_some (c.in-Some.ensures.first r s c.requires (omega arith)) ∙ is_some_least_below (λ m. leb c.args.from m && has_fault r m) c.end.result
    ∙ ap (some_below (λ m. leb c.args.from m && has_fault r m)) (c.end.ensures.value ∙ s.count)

pub returns-in-None : goal.returns-in-None
unfolding is_faulty_from first_member
returns-in-None c = λ r s.
    ap is_some (c.in-None.ensures.first r s c.requires (omega arith)) ∙ is_some_least_below (λ m. leb c.args.from m && has_fault r m) c.end.result
    ∙ ap (some_below (λ m. leb c.args.from m && has_fault r m)) (c.end.ensures.value ∙ s.count)
