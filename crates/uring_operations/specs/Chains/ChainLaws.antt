-- What holds of the chains of every call. io_uring_enter(2), IOSQE_IO_LINK and IORING_OP_LINK_TIMEOUT.
use Rattle.std.specs.Prelude.{◌≡◌, ℕ, ◌+◌, Bool, true, false, ◌&&◌, length, List, [], ◌∷◌, ◌++◌}
use Rattle.uring_operations.specs.declared.chains.member.Entry.{Entry}
use Rattle.uring_operations.specs.declared.chains.member.Member.{Member}
use Rattle.uring_operations.specs.Chains.Chains.{chain_of, member_of, limits}

-- a linked timeout limits the request of the entry before it, exactly if that links it
abbrev pub LimitsTheOneBefore : Type 0
LimitsTheOneBefore = (first : ℕ) (entry before : Entry) (earlier : List Entry)
    → limits (member_of first entry (before ∷ earlier)) (member_of first before earlier)
    ≡ (entry.is_linked_timeout && before.links)

-- and no other
abbrev pub LimitsOneAtMost : Type 0
LimitsOneAtMost = (timeout one other : Member) → limits timeout one ≡ true → limits timeout other ≡ true
    → one.number ≡ other.number

-- all of these link the next
abbrev pub all_link : List Entry → Bool
all_link [] = true
all_link (e ∷ earlier) = e.links && all_link earlier

-- two requests of a call belong to one chain if all from the one to before the other link the next
abbrev pub ChainsHold : Type 0
ChainsHold = (first : ℕ) (newer earlier : List Entry) → all_link newer ≡ true
    → chain_of first (newer ++ earlier) ≡ chain_of first earlier

-- and a chain begins after one that doesn't link, with a number that none before it has
abbrev pub ChainsEnd : Type 0
ChainsEnd = (first : ℕ) (before : Entry) (earlier : List Entry) → before.links ≡ false
    → chain_of first (before ∷ earlier) ≡ first + length (before ∷ earlier)
