-- Whose a lock of a file is of which a query tells. fcntl(2), F_GETLK and F_OFD_GETLK: of those that keep another out it tells of one, by its process, or by -1 where an open file has it; F_UNLCK (2) says that there is none.
use Rattle.std.specs.Prelude.{◌≡◌, Bool, false, not, ◌&&◌, ◌||◌, pos}
use Rattle.std.specs.Ordering.{int_eq}
use Rattle.uring_operations.specs.declared.files.told_lock.ToldLock.{ToldLock}
use Rattle.uring_operations.specs.Files.Asking.{is_layers_lock}

-- it told of a lock
abbrev pub is_there : ToldLock → Bool
is_there l = l.is_told && not (int_eq l.kind (pos 2))

-- of one of the process that asked
abbrev pub is_own : ToldLock → Bool
is_own l = is_there l && int_eq l.process l.own

-- of one of another, be that a process or an open file
abbrev pub is_anothers : ToldLock → Bool
is_anothers l = is_there l && not (int_eq l.process l.own)

-- another's lock means something else than that its layer makes a call, unless it is the one by which layers keep each other out
abbrev pub is_of_others : ToldLock → Bool
is_of_others l = is_anothers l && not (is_layers_lock l.start l.length)

-- of several locks it tells of one: so after another's there may be the process's own, and the list of all is read, as it is where nothing was told
abbrev pub asks_list : ToldLock → Bool
asks_list l = not l.is_told || is_anothers l

-- where the list isn't read it was told of no lock, or of the process's own
abbrev pub KnowsUnlessAnotherHides : Type 0
KnowsUnlessAnotherHides = (l : ToldLock) → asks_list l ≡ false → is_own l ≡ is_there l
