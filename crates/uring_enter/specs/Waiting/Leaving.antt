-- What is left undone with a ring by a process that didn't make it: by a child that was forked while a call slept on it, as by a signal's handler, and that returns from that sleep. Our own rule: the ring's memory is its parent's too, another thread of the parent's may have had the lock as it was forked, and the numbers of the layer's descriptors may be the child's own by now.
use Rattle.std.specs.Prelude.{◌≡◌, ℕ, Bool, true, false, not, ◌==◌}
use Rattle.uring_enter.specs.declared.waiting.leaving.Left.{Left}

-- what is done with a ring, but by the operations of its requests
pub data Deed : Type 0 where
  -- its lock is taken again after a sleep
  LocksAgain : Deed
  -- a sleep is taken out of its list, and what wakes that is closed
  EndsSleep : Deed
  -- what is due at a moment is done (`Duties`)
  DoesDuties : Deed
  -- it is looked at for what a call is told
  Looks : Deed
  -- as a call is over, those that sleep are woken, its lock is given back, and messages are posted
  LetsGo : Deed
  -- its trace and its memory are ended
  EndsMemory : Deed

abbrev pub is_left : Left → Deed → Bool
is_left l LocksAgain = l.lock
is_left l EndsSleep = l.sleep
is_left l DoesDuties = l.duties
is_left l Looks = l.sight
is_left l LetsGo = l.end
is_left l EndsMemory = l.memory

-- whether a ring that was made by one process is another's than this
abbrev pub is_parents : (maker process : ℕ) → Bool
is_parents maker process = not (maker == process)

abbrev pub left_of : (maker process : ℕ) → Left
left_of maker process = record {
  lock = is_parents maker process;
  sleep = is_parents maker process;
  duties = is_parents maker process;
  sight = is_parents maker process;
  end = is_parents maker process;
  memory = is_parents maker process;
}

-- a child does nothing with its parent's ring
abbrev pub LeavesParents : Type 0
LeavesParents = (maker process : ℕ) (deed : Deed) → is_parents maker process ≡ true
    → is_left (left_of maker process) deed ≡ true

-- and a process does all with a ring that it made
abbrev pub LeavesNothingOfItsOwn : Type 0
LeavesNothingOfItsOwn = (maker process : ℕ) (deed : Deed) → is_parents maker process ≡ false
    → is_left (left_of maker process) deed ≡ false
