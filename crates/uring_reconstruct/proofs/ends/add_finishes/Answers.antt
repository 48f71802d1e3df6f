use Rattle.std.proofs.Common.{◌≡◌, ℕ, ℤ, true, List, Option, None, Some, sym, subst, ap, ◌∙◌, rules}
use Rattle.uring_reconstruct.proofs.Common.{Contains, Cqe, Event, FinishFits, Sqe, completion_for, posts_completion, to_z-of_z, w32}
use Rattle.uring_core.specs.declared.step.Step.TheVariants as step
use Rattle.uring_core.specs.declared.answer.Answer.TheVariants as answer
use Rattle.uring_reconstruct.proofs.Adding.{adds_then, finish_there}
use Rattle.uring_reconstruct.proofs.ends.add_finishes.Goals as goal

told_there : (e : Sqe) (wanted : Option Cqe) (completion : Cqe) (n : ℕ) (r res : ℤ) (b bytes : List ℕ) (new : List Event)
    → wanted ≡ Some completion → r ≡ completion.res → b ≡ completion.payload
    → (FinishFits e wanted r b → Contains new (step.Finish n, answer.Ended r b))
    → posts_completion e res ≡ true → FinishFits e wanted res bytes → Contains new (step.Finish n, answer.Ended res bytes)
told_there e wanted completion n r res b bytes new is r_is b_is added posts fits =
    let told : Some completion ≡ Some (completion_for e res bytes) = sym is ∙ fits.tells posts in
    let same : completion ≡ completion_for e res bytes = cc in
    let res_is : res ≡ r = sym (r_is ∙ ap (λ (x : Cqe). x.res) same) in
    let bytes_is : bytes ≡ b = sym (b_is ∙ ap (λ (x : Cqe). x.payload) same) in
    subst (λ x. Contains new (step.Finish n, answer.Ended x bytes)) (sym res_is) (subst (λ y. Contains new (step.Finish n, answer.Ended r y)) (sym bytes_is)
    (added (subst (λ y. FinishFits e wanted r y) bytes_is (subst (λ x. FinishFits e wanted x bytes) res_is fits))))

pub returns-in_default-clause-all : goal.returns-in_default-clause-all
returns-in_default-clause-all g c = λ res bytes.
    let quiet = c.add_quiet_finish.new.next.items in
    finish_there c.args.entry.now c.args.wanted.now c.args.number res bytes quiet quiet (λ x there. there) (c.in_ok-add_quiet_finish.ensures.all res bytes)
    (λ posts fits. absurd (let f : None ≡ Some (completion_for c.args.entry.now res bytes) = sym c.in_default.is ∙ fits.tells posts in cc))

pub returns-clause-adds : goal.returns-clause-adds
returns-clause-adds g c =
    adds_then c.args.core.now c.args.wanted.now c.args.next.now.items c.add_quiet_finish.new.next.items c.add_finish.new.next.items c.in_ok-add_quiet_finish.ensures.adds c.in_ok-add_finish.ensures.adds

pub returns-clause-all : goal.returns-clause-all
returns-clause-all g c = λ res bytes.
    let same = to_z-of_z w32 c.res-res.result (search rules) in
    finish_there c.args.entry.now c.args.wanted.now c.args.number res bytes c.add_quiet_finish.new.next.items c.add_finish.new.next.items c.in_ok-add_finish.ensures.adds.kept (c.in_ok-add_quiet_finish.ensures.all res bytes)
    (told_there c.args.entry.now c.args.wanted.now c.in-Some.completion c.args.number _ res c.payload-bytes.result bytes c.add_finish.new.next.items c.in-Some.is (same ∙ c.res-res.ensures) c.payload-bytes.ensures c.in_ok-add_finish.ensures.added)
