use Rattle.std.proofs.Common.{length, arith, rules, refl, ap, ◌∙◌}
use Rattle.uring_words.proofs.CompletionFirst.{opens}
use Rattle.uring_words.proofs.FirstTable.{start_word}
use Rattle.uring_words.proofs.Seats.{splits}
use Rattle.uring_words.proofs.completion.ends.new_ends.Goals as goal

pub new_table-requires-clause-opens : goal.new_table-requires-clause-opens
new_table-requires-clause-opens g c =
    let w = c.in_ok-words.ensures in
    rw c.deref.ensures.value (opens _ c.args.shape c.requires.power c.requires.limit (search rules) w.many w.tail w.head w.dropped)

pub new_table-requires-clause-cuts : goal.new_table-requires-clause-cuts
new_table-requires-clause-cuts g c = λ id. splits id _ refl refl

pub invariant_of-reader : goal.invariant_of-reader
invariant_of-reader g c =
    let app = c.in_ok-app.ensures.app in
    let start = start_word c.args.shape.start (search rules) in
    rw app.2 (record {
      fits = record { same_table = app.0; many = app.1 ∙ ap length c.deref.ensures.value ∙ c.in_ok-words.ensures.many; carries_none = refl; power = c.requires.power; most = c.requires.limit; sized = refl };
      is_app = refl;
      loaded = refl;
      got = refl;
      few = omega arith;
      tail_word = start;
      head_word = start;
    })

pub invariant_of-writer : goal.invariant_of-writer
invariant_of-writer g c =
    let kernel = c.in_ok-app.ensures.kernel in
    let start = start_word c.args.shape.start (search rules) in
    rw kernel.2 (record {
      fits = record { same_table = kernel.0; many = kernel.1 ∙ ap length c.deref.ensures.value ∙ c.in_ok-words.ensures.many; carries_none = refl; power = c.requires.power; most = c.requires.limit; sized = refl };
      is_kernel = refl;
      cell = refl;
      below = omega arith;
      room = omega arith;
      tail_word = start;
      head_word = start;
    })
