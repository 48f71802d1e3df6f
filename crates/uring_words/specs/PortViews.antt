-- Glue. What callers see of the two ports over shared words.
use Rattle.std.specs.Prelude.{ℕ, ◌+◌, ◌-◌, nat_lt, List, ◌∷◌, ◌++◌, length, Some}
use Rattle.atomic_table.specs.Seated.{TableId}
use Rattle.uring_entry.specs.Layout.{Cqe}
use Rattle.uring_ports.specs.Ports.{Sizes, Put}
use Rattle.uring_ports.specs.Seen.{SeenRoom, SeenCompletions, SeenCalls}
use Rattle.uring_words.specs.Completion.Ends.{completions_of}
use Rattle.uring_words.specs.Completion.Ends.{End as Completions}
use Rattle.uring_words.specs.Submission.Calls.{put_of}
use Rattle.uring_words.specs.Submission.Ends.{End as Calls}

-- the application's port: the numbers of its pair, the sizes, all that was put, every completion that was got, the room and the completions that it has seen, and every dropped word that was loaded
pub record AppWords : Type 0 where
  pub pairing : List ℕ
  pub sizes : Sizes
  pub put : Put
  pub got : List Cqe
  pub saw_room : SeenRoom
  pub saw_completions : SeenCompletions
  pub dropped : List ℕ

-- the dispatcher's port: the numbers of its pair, the sizes, all that was pulled, the calls that it has seen, every completion that was delivered, how many more there is certainly room for, how often it has looked for that room, and every dropped word that was stored
pub record KernelWords : Type 0 where
  pub pairing : List ℕ
  pub sizes : Sizes
  pub pulled : Put
  pub saw_calls : SeenCalls
  pub delivered : List Cqe
  pub free : ℕ
  pub room_looks : ℕ
  pub dropped : List ℕ

-- the numbers that the seats of one table have in common, and no others
abbrev pub numbers_of_table : TableId → List ℕ
numbers_of_table z = z.words ∷ z.slots ∷ z.views_name ∷ z.atom ∷ z.block ∷ z.offset ∷ z.slot_names

-- those of the submission ring's table and the completion ring's; the first number tells how many the former are
abbrev pub numbers_of_tables : TableId → TableId → List ℕ
numbers_of_tables z y = length z.slot_names ∷ (numbers_of_table z ++ numbers_of_table y)

-- the application's port over these ends of the two rings
abbrev pub app_words : Calls → Completions → AppWords
app_words calls completions =
    let a = calls.knows.app in
    let c = completions.knows.app in
    record {
      pairing = numbers_of_tables calls.table completions.table;
      sizes = record { sq = a.size; cq = c.size };
      put = put_of a.published;
      got = completions_of c.copied;
      saw_room = record { places = a.head_seen + a.size - length a.published; looks = Some a.looks };
      saw_completions = record { waiting = completions_of c.known; looks = Some c.looks };
      dropped = c.dropped;
    }

-- the dispatcher's port over these
abbrev pub kernel_words : Calls → Completions → KernelWords
kernel_words calls completions =
    let d = calls.knows.kernel in
    let c = completions.knows.kernel in
    record {
      pairing = numbers_of_tables calls.table completions.table;
      sizes = record { sq = d.size; cq = c.size };
      pulled = put_of d.copied;
      saw_calls = record { waits = nat_lt 0 (length d.known); looks = Some d.looks };
      delivered = completions_of c.put;
      free = c.head_seen + c.size - length c.put;
      room_looks = c.looks;
      dropped = c.dropped;
    }
