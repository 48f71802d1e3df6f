use Rattle.std.proofs.Common.{false, refl, subst, rules}
use Rattle.uring_check.proofs.Common.{if_ok_both, on_ok_weaker}
use Rattle.uring_check.proofs.FirstLines.{Goes, took_first, took_missed, took_next, took_setup}
use Rattle.uring_check.proofs.checker.Checker.take_line.Goals as goal

pub returns-then-not-self-clause-looks : goal.returns-then-not-self-clause-looks
returns-then-not-self-clause-looks g c =
    if_ok_both c.take_next.result _ _ _ (λ done looks over d all lines text e k. took_next d all lines text c.args.self.now c.take_next.new.self (search rules) (λ g a ls. looks g a ls text e) over k)
    c.take_next.ensures.looks c.take_next.ensures.over

pub returns-in-Nothing-clause-looks : goal.returns-in-Nothing-clause-looks
returns-in-Nothing-clause-looks g c =
    on_ok_weaker c.take_next-in-Nothing.result
    (λ looks d all lines text e k. took_first d all lines text c.args.self.now c.take_next-in-Nothing.new.self (search rules) (rw c.in-Nothing.is at (c.in_ok-said.ensures.said text e)) (λ g a ls. looks g a ls text e) k)
    c.take_next-in-Nothing.ensures.looks

pub returns-in_ok-begin_at-in-Says-clause-looks : goal.returns-in_ok-begin_at-in-Says-clause-looks
returns-in_ok-begin_at-in-Says-clause-looks g c =
    let begun = c.in_ok-begin_at-in-Says.ensures.begun in
    let new = c.take_next-in-Says.new.self in
    on_ok_weaker c.take_next-in-Says.result
    (λ looks d all lines text e k. took_setup d all lines text c.in-Says.setup c.args.self.now new c.begin_at.new.self.follower (search rules) (rw c.in-Says.is at (c.in_ok-said.ensures.said text e)) begun.1 begun.2
    (subst (λ mid. Goes text mid new) begun.0 (λ g a ls. looks g a ls text e)) k)
    c.take_next-in-Says.ensures.looks

pub returns-in-Misses-clause-looks : goal.returns-in-Misses-clause-looks
returns-in-Misses-clause-looks g c =
    on_ok_weaker c.push_text.result
    (λ told d all lines text e k. took_missed d all lines text c.args.self.now (record c.args.self.now { awaits = false }) _ (search rules) (rw c.in-Misses.is at (c.in_ok-said.ensures.said text e)) refl refl told k)
    c.push_text.ensures.bytes
