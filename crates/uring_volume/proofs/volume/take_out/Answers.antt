use Rattle.std.proofs.Common.{rules, ◌≡◌, ◌==◌, true, not, length, ◌∙◌, ap, sym, arith}
use Rattle.std.proofs.lemmas.Fn.{filter_same}
use Rattle.uring_volume.proofs.Common.{but, cond-true, is_one_of}
use Rattle.uring_volume.proofs.Numbers.{but_is_shorter}
use Rattle.uring_volume.proofs.volume.take_out.Goals as goal

pub returns-then-is_there-clause-items : goal.returns-then-is_there-clause-items
returns-then-is_there-clause-items c =
    filter_same _ (λ m. not (m == c.args.n)) _ (λ x b f' k. search rules) _ _ c.retain.ensures.filtered
    ∙ sym (cond-true c.contains-is_there.result (but c.args.n c.args.numbers.now.items) c.args.numbers.now.items c.if-is_there.true)

pub returns-then-is_there-clause-len : goal.returns-then-is_there-clause-len
returns-then-is_there-clause-len c = λ _.
    let kept : c.retain.new.self.items ≡ but c.args.n c.args.numbers.now.items = filter_same _ (λ m. not (m == c.args.n)) _ (λ x b f' k. search rules) _ _ c.retain.ensures.filtered in
    let there : is_one_of c.args.n c.args.numbers.now.items ≡ true = ap (is_one_of c.args.n) (sym c.deref.ensures.value) ∙ sym c.contains-is_there.ensures.value ∙ c.if-is_there.true in
    omega (arith, but_is_shorter c.args.n c.args.numbers.now.items there, ap length kept)
