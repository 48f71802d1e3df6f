use Rattle.uring_entry.proofs.CompletionWords.{words_are_kept}
use Rattle.uring_entry.proofs.laws.completions_have_their_words.Goals as goal

pub returns-clause-kept : goal.returns-clause-kept
returns-clause-kept c = words_are_kept
