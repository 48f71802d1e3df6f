-- Which buffers a group has that the application provides, by what has happened to it, the newest first, and which one an operation takes. Those of a list count from 0, in the order in which they were provided. io_uring_enter(2), IORING_OP_PROVIDE_BUFFERS, IORING_OP_REMOVE_BUFFERS and IOSQE_BUFFER_SELECT; io_uring_register(2), IORING_REGISTER_PBUF_RING; faults and their order are what Linux 6.18 does.
use Rattle.std.specs.Prelude.{◌≡◌, ℕ, ℤ, pos, ◌+◌, ◌-◌, ◌*◌, ◌%◌, ◌^◌, ◌<◌, ◌≤◌, Bool, true, false, not, ◌&&◌, ◌||◌, ◌==◌, nat_lt, nat_le, min, length, slice_index_or, Option, Some, None, List, [], ◌∷◌, if◌then◌else◌}
use Rattle.std.specs.Int.{is_power_of_two}
use Rattle.uring_register.specs.declared.buffers.group.Buffer.{Buffer}
use Rattle.uring_register.specs.declared.buffers.group.Buffers.{Buffers}
use Rattle.uring_register.specs.declared.buffers.group.Group.{Group}
use Rattle.uring_entry.specs.Errors.{error}

pub data Change : Type 0 where
  -- these buffers were provided
  Provided : Buffers → Change
  -- so many were to be removed
  Removed : ℕ → Change
  -- an operation took the next
  Took : Change
  -- a ring of so many entries was registered
  Registered : ℕ → Change
  -- and unregistered, and the group is gone
  Unregistered : Change

abbrev pub is_there : List Change → Bool
is_there [] = false
is_there (Provided _ ∷ earlier) = true
is_there (Registered _ ∷ earlier) = true
is_there (Unregistered ∷ earlier) = false
is_there (_ ∷ earlier) = is_there earlier

-- the entries of its ring, or 0 of a list
abbrev pub entries : List Change → ℕ
entries [] = 0
entries (Registered count ∷ earlier) = count
entries (Unregistered ∷ earlier) = 0
entries (_ ∷ earlier) = entries earlier

abbrev pub is_ring : List Change → Bool
is_ring log = not (entries log == 0)

-- how many were provided to its list
abbrev pub provided : List Change → ℕ
provided [] = 0
provided (Provided asked ∷ earlier) = provided earlier + asked.count
provided (_ ∷ earlier) = provided earlier

-- how many of them, the first, were removed or taken
abbrev pub gone : List Change → ℕ
gone [] = 0
gone (Removed count ∷ earlier) = gone earlier + min count (provided earlier - gone earlier)
gone (Took ∷ earlier) =
    if is_ring earlier then gone earlier else gone earlier + min 1 (provided earlier - gone earlier)
gone (_ ∷ earlier) = gone earlier

-- how many are left
abbrev pub left : List Change → ℕ
left log = provided log - gone log

-- how many were taken of its ring
abbrev pub taken : List Change → ℕ
taken [] = 0
taken (Registered _ ∷ earlier) = 0
taken (Unregistered ∷ earlier) = 0
taken (Took ∷ earlier) = if is_ring earlier then taken earlier + 1 else taken earlier
taken (_ ∷ earlier) = taken earlier

-- buffers stand one after another, and so do their numbers, of 16 bits
abbrev pub made : Buffers → ℕ → Buffer
made asked place = record {
  address = (asked.address + place * asked.length) % 2 ^ 64;
  length = asked.length;
  id = (asked.id + place) % 2 ^ 16;
}

abbrev pub nothing : Buffer
nothing = record { address = 0; length = 0; id = 0 }

-- the buffer that was provided as the n-th
abbrev pub nth : List Change → ℕ → Buffer
nth [] n = nothing
nth (Provided asked ∷ earlier) n =
    if nat_lt n (provided earlier) then nth earlier n else made asked (n - provided earlier)
nth (_ ∷ earlier) n = nth earlier n

-- an operation takes the oldest of a list that is left; -105 (ENOBUFS) if there is none
abbrev pub next_of : List Change → Option Buffer
next_of log = if nat_lt (gone log) (provided log) then Some (nth log (gone log)) else None

-- the count that a tail of 16 bits tells: no less than what was taken, and less than 2^16 more
abbrev pub IsTold : List Change → ℕ → ℕ → Type 0
IsTold log tail n = (n % 2 ^ 16 ≡ tail) × (taken log ≤ n) × (n < taken log + 2 ^ 16)

-- of a ring, the cell of the position after those that were taken, of 16 bits; none, if the tail tells no more
abbrev pub cell_of : List Change → ℕ → Option ℕ
cell_of log n = if n == taken log then None else Some (taken log % 2 ^ 16 % entries log)

-- the buffer of such a cell of the application's memory, if that can be read. Our own rule: what can't be read has none, and so has a ring whose tail can't
abbrev pub in_cell : (is_read : Bool) → Buffer → Option Buffer
in_cell is_read buffer = if is_read then Some buffer else None

-- a list has no more than 2^16 - 1 buffers at once: of what is provided the first are taken up, so many as there is room for
abbrev pub taken_up : List Change → Buffers → Buffers
taken_up log asked = record asked { count = min asked.count (2 ^ 16 - 1 - left log) }

-- -75 (EOVERFLOW) of addresses that don't end before 2^64, and of a list with as many as it may have, -7 (E2BIG) of a first number past 16 bits, -22 (EINVAL) of a last one, and of a ring
abbrev pub providing_fault : List Change → ℕ → ℕ → ℕ → ℕ → ℤ
providing_fault log address size count id =
    if nat_le (2 ^ 64) (address + count * size) then error 75 else
    if nat_le (2 ^ 16) id then error 7 else
    if nat_lt (2 ^ 16) (id + count) || is_ring log then error 22 else
    if nat_le (2 ^ 16 - 1) (left log) then error 75 else pos 0

-- -2 (ENOENT) of no group
abbrev pub removing_fault : List Change → ℤ
removing_fault log =
    if not (is_there log) then error 2 else
    if is_ring log then error 22 else pos 0

-- the first are removed, as many as are asked for or all, and that is told
abbrev pub removed : List Change → ℕ → ℕ
removed log count = min count (left log)

-- a ring has a power of two entries, at most 2^15
abbrev pub is_size : ℕ → Bool
is_size count = is_power_of_two count && nat_le count (2 ^ 15)

-- and stands at a page's first byte
abbrev pub is_aligned : ℕ → ℕ → Bool
is_aligned address page = not (page == 0) && address % page == 0

-- -17 (EEXIST) of a group with a ring, or with buffers, -14 (EFAULT) of no address
abbrev pub registering_fault : List Change → ℕ → ℕ → ℕ → ℤ
registering_fault log address count page =
    if not (is_size count) then error 22 else
    if is_ring log || nat_lt 0 (left log) then error 17 else
    if address == 0 then error 14 else
    if is_aligned address page then pos 0 else error 22

-- a list without buffers goes where a ring of a size that one may have is to be registered, before its address is looked at: so it has gone too if that is refused. What Linux 6.18 was seen to do
abbrev pub gives_way : List Change → ℕ → Bool
gives_way log count = is_there log && is_size count && not (is_ring log || nat_lt 0 (left log))

abbrev pub unregistering_fault : List Change → ℤ
unregistering_fault log =
    if not (is_there log) then error 2 else
    if is_ring log then pos 0 else error 22

-- of both calls for rings: there is one argument, it can be read (-14), and what is reserved in it is 0
abbrev pub argument_fault : ℕ → Bool → Bool → Bool → ℤ
argument_fault count has_argument is_read reserved =
    if not (has_argument && count == 1) then error 22 else
    if not is_read then error 14 else
    if reserved then error 22 else pos 0

-- how many rows a list wants that has so many: as it has, if these are enough, else twice what it needs. Our own rule
abbrev pub room_for : ℕ → ℕ → ℕ → ℕ
room_for count more room = if nat_le (count + more) room then room else 2 * (count + more)

-- glue: what is kept, with the rows of a list, is a group to which this has happened
pub record KeepsGroup (log : List Change) (g : Group) (rows : List Buffer) : Type 0 where
  pub there : g.is_there ≡ is_there log
  pub entries : g.entries ≡ entries log
  pub head : g.head ≡ taken log % 2 ^ 16
  pub count : gone log + g.count ≡ provided log
  pub within : g.first + g.count ≤ length rows
  pub buffers : (i : ℕ) → i < g.count → slice_index_or rows (g.first + i) nothing ≡ nth log (gone log + i)
