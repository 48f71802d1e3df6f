-- The words that tell what is read off a core or a machine.
use Rattle.uring_entry.specs.Layout.{Cqe}
use Rattle.uring_files.specs.declared.file.FileState.{FileState}
use Rattle.uring_core.specs.declared.cores.Counts.{Counts}
use Rattle.uring_ffi_values.specs.declared.core_words.completion_words.CompletionWords.{CompletionWords}
use Rattle.uring_ffi_values.specs.declared.core_words.count_words.CountWords.{CountWords}
use Rattle.uring_ffi_values.specs.declared.core_words.state_words.StateWords.{StateWords}

-- the words of a completion
abbrev pub words_of_completion : Cqe → CompletionWords
words_of_completion c = record { user_data = c.user_data; res = c.res; bytes = c.payload }

-- the counts that words tell
abbrev pub counts_told : CountWords → Counts
counts_told w = record {
  accepted = w.accepted;
  outstanding = w.outstanding;
  running = w.running;
  posted = w.posted;
  reaped = w.reaped;
}

-- the words of how a file stands
abbrev pub words_of_state : FileState → StateWords
words_of_state s = record { writes = s.writes; synced = s.synced; len = s.len }
