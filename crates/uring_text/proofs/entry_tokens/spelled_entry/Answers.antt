use Rattle.uring_text.proofs.Spellings.{read_entry_tells}
use Rattle.uring_text.proofs.entry_tokens.spelled_entry.Goals as goal

pub returns-clause-spells : goal.returns-clause-spells
returns-clause-spells c = read_entry_tells _ c.read_entry.result c.read_entry.ensures
