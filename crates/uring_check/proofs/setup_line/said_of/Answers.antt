use Rattle.std.proofs.Common.{List, ℕ, Bor, map, rules}
use Rattle.uring_check.proofs.SetupLaws.{set_up}
use Rattle.uring_check.proofs.setup_line.said_of.Goals as goal

pub returns-then-is_name-2 : goal.returns-then-is_name-2
returns-then-is_name-2 c =
    let all : List (List ℕ) = map (λ (t : Bor (List ℕ)). t.now) c.args.tokens.now in
    let rest : List (List ℕ) = map (λ (t : Bor (List ℕ)). t.now) c.in-Some-split_first.tokens.now in
    set_up all c.in-Some.sign.now.now c.in-Some-split_first.name.now.now rest c.setup_of.result (search rules) (search rules) (search rules) (rw c.sizes_said.ensures at c.setup_of.ensures)
