use Rattle.std.proofs.Common.{arith}
use Rattle.std.proofs.lemmas.Grind.{common_steps}
use Rattle.uring_entry.proofs.CompletionWords.{words_after}
use Rattle.uring_entry.proofs.cqe.Cqe.words.Goals as goal

pub returns : goal.returns
returns c = record {
  size = grind (arith, common_steps);
  range = words_after c.user_data.result c.from-second.result c.copy_from_slice.new.self c.words_of_bytes.result (omega arith) (omega arith) c.copy_from_slice.ensures.after c.words_of_bytes.ensures.words;
  first = grind (arith, common_steps);
  payload = grind (arith, common_steps);
}
