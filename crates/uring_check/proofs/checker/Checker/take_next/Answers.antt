use Rattle.std.proofs.Common.{◌≡◌, true, false, refl, sym, ◌∙◌, rules}
use Rattle.uring_check.proofs.Looking.{took_awaits, took_looked, took_skipped}
use Rattle.uring_check.proofs.checker.Checker.take_next.Goals as goal
use Rattle.uring_check.proofs.checker.Checker.take_next.Goals.{then-not-self+in_ok-look, else-not-self}

pub returns-clause-looks : goal.returns-clause-looks
returns-clause-looks g c = λ g all lines text e k. elim c.if-not-self.branch [
  | then-not-self+in_ok-look w ↦ rw w.self-is (took_looked g all lines c.args.self.now w.look.new.self _ text (search rules) (search rules) (w.in_ok-look.ensures.looks text e) k, took_awaits g all lines c.args.self.now w.look.new.self text (w.in_ok-look.ensures.looks text e) k)
  | else-not-self w ↦ rw w.self-is (took_skipped g all lines c.args.self.now _ text (search rules) (search rules) k, refl)
]

pub returns-clause-over : goal.returns-clause-over
returns-clause-over g c = λ over. elim c.if-not-self.branch [
  | then-not-self+in_ok-look w ↦ (let free : c.args.self.now.is_over ≡ false = search rules in let no : true ≡ false = sym over ∙ free in absurd cc)
  | else-not-self w ↦ rw w.self-is (over, refl, refl, refl)
]
