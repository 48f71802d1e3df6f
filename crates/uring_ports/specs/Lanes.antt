-- Glue. What callers see of the two ports over lanes.
use Rattle.std.specs.Prelude.{ℕ, List, [], ◌∷◌, ◌++◌}
use denote.RawPtr.{Ptr, block_ptr, null_ptr}
use Rattle.rtrb.specs.declared.end.End.{End}
use Rattle.uring_entry.specs.Layout.{Cqe}
use Rattle.uring_ports.specs.Ports.{Sizes, Put}
use Rattle.uring_ports.specs.Seen.{SeenRoom, SeenCompletions, SeenCalls}

-- the application's port: the numbers of its pair, the sizes, all that was put, every completion that was got, and the room and the completions that it has seen
pub record AppLanes : Type 0 where
  pub pairing : List ℕ
  pub sizes : Sizes
  pub put : Put
  pub got : List Cqe
  pub saw_room : SeenRoom
  pub saw_completions : SeenCompletions

-- the dispatcher's port: the numbers of its pair, the sizes, all that was pulled, the calls that it has seen, every completion that was delivered, and how many more there is certainly room for
pub record KernelLanes : Type 0 where
  pub pairing : List ℕ
  pub sizes : Sizes
  pub pulled : Put
  pub saw_calls : SeenCalls
  pub delivered : List Cqe
  pub free : ℕ

-- a pointer as numbers
abbrev pub numbers_of_pointer : Ptr → List ℕ
numbers_of_pointer (block_ptr block count) = 1 ∷ block ∷ count ∷ []
numbers_of_pointer null_ptr = 0 ∷ 0 ∷ 0 ∷ []

-- the nine numbers that the two ends of a lane have in common, and no others
abbrev pub numbers_of : {T A P : Type 0} → End T A P → List ℕ
numbers_of e =
    numbers_of_pointer e.words ++ numbers_of_pointer e.slots ++ (e.names.0 ∷ e.names.1.0 ∷ e.names.1.1 ∷ [])
