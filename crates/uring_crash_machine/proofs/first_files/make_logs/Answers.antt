use Rattle.std.proofs.Common.{◌≡◌, ◌∷◌, ◌++◌, ◌<◌, ◌^◌, ◌+◌, [], ℕ, ℤ, List, suc, length, map, get_or, w32, sym, ap, ◌∙◌, arith}
use Rattle.uring_crash_machine.proofs.Common.{Log, first_files, log_on, logs_on, pos}
use Rattle.std.proofs.lemmas.Int.{to_z_pos}
use Rattle.uring_crash_machine.proofs.Noted.{logs_more, logs_many, first_many}
use Rattle.uring_crash_machine.proofs.first_files.make_logs.Goals as goal

pub loop-place-preserved : goal.loop-place-preserved
loop-place-preserved g c =
    let all : List (List ℕ) = map (λ b. b.items) c.args.contents.now in
    let place : ℕ = c.loop-place.place in
    let small : place < 2 ^ 31 = omega (arith, c.requires.few) in
    let made = c.new.ensures
    ∙ ap (λ (fd : ℤ). log_on c.args.unit c.in_ok-first.first.items fd) (to_z_pos w32 place small)
    ∙ ap (λ (bs : List ℕ). log_on c.args.unit bs (pos place)) c.in_ok-first.ensures.bytes in
    let next : suc place ≡ place + 1 = omega arith in
    let is = c.push_reserved.ensures.items ∙ ap (λ (l : Log). c.loop-place.logs.items ++ l ∷ []) made
    ∙ ap (λ (ls : List Log). ls ++ log_on c.args.unit (get_or all place []) (pos place) ∷ []) c.loop-place.invariant.logs
    ∙ sym (logs_more c.args.unit place all) ∙ ap (λ (k : ℕ). logs_on c.args.unit 0 (first_files k all)) next in
    record {
      logs = is;
      many = ap (λ (ls : List Log). length ls) is ∙ logs_many c.args.unit 0 (first_files (place + 1) all) ∙ first_many (place + 1) all;
      room = omega (arith, c.loop-place.invariant.room, c.push_reserved.ensures.capacity);
    }
