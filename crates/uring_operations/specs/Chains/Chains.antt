-- Chains: which request is linked to which, and which one a linked timeout limits. io_uring_enter(2), IOSQE_IO_LINK and IORING_OP_LINK_TIMEOUT.
use Rattle.std.specs.Prelude.{ℕ, ◌+◌, Bool, false, not, ◌&&◌, ◌||◌, ◌==◌, length, Option, Some, None, List, [], ◌∷◌, if◌then◌else◌}
use Rattle.uring_operations.specs.declared.chains.member.Entry.{Entry}
use Rattle.uring_operations.specs.declared.chains.member.Member.{Member}

-- an entry is linked to the one before it in its call, if that says so. No chain goes past a call
abbrev pub is_linked : List Entry → Bool
is_linked [] = false
is_linked (before ∷ earlier) = before.links

abbrev pub chain_after : Bool → ℕ → ℕ → ℕ
chain_after links chain number = if links then chain else number

-- the number of the first member of the chain to which an entry belongs, after those before it in its call, the newest first, whose numbers begin with `first`
abbrev pub chain_of : ℕ → List Entry → ℕ
chain_of first [] = first
chain_of first (before ∷ earlier) =
    chain_after before.links (chain_of first earlier) (first + length (before ∷ earlier))

-- the request of an entry after these
abbrev pub member_of : ℕ → Entry → List Entry → Member
member_of first entry earlier = record {
  number = first + length earlier;
  chain = chain_of first earlier;
  is_linked = is_linked earlier;
  entry = entry;
}

-- a linked timeout limits the request right before it, if that links it
abbrev pub limits : Member → Member → Bool
limits timeout before =
    timeout.entry.is_linked_timeout && timeout.is_linked && timeout.number == before.number + 1

-- a linked timeout wants a request before it that it limits: one that links it, and that is no linked timeout. Else its entry has a fault; what the kernel does
abbrev pub has_its_place : Entry → Option Entry → Bool
has_its_place entry None = not entry.is_linked_timeout
has_its_place entry (Some before) =
    not entry.is_linked_timeout || before.links && not before.is_linked_timeout
