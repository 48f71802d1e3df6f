-- Worked moves, on which the definitions are computed: two no-ops, loose and in a chain.
-- Each line holds by computing alone: no lemma is used. Nothing cites this file.
use Rattle.std.proofs.Common.{◌≡◌, ℕ, ◌*◌, ◌^◌, List, [], ◌∷◌, Option, Some, None, map, replicate, refl, false}
use Rattle.uring_outcomes.proofs.Common.{Moment, Move, Published, Setup, Sqe, after_moves, bad_in, bad_word, entries_in, is_after_failure, is_doomed, is_joined, is_ready, items_in, option_map, some_member, starting, with_entry}
use Rattle.uring_outcomes.specs.declared.move_of_calls.Move.TheVariants.{Accept, Issue, Finish}

abbrev setup : Setup
setup = record { sq = 4; cq = 4; files = 1; start = 0; stops = false; linux = false }

-- a no-op with these flags and this user data
abbrev nop : ℕ → ℕ → Sqe
nop flags user_data = (flags * 2 ^ 8) ∷ 0 ∷ 0 ∷ 0 ∷ user_data ∷ replicate 11 0

-- the user data of what calls posted after these moves
abbrev posted_after : List (List Sqe) → List Move → Option (List ℕ)
posted_after calls moves =
    option_map (λ (m : Moment). map (λ c. c.user_data) m.posted) (after_moves (starting setup calls) moves)

abbrev loose : List (List Sqe)
loose = (nop 0 7 ∷ nop 0 8 ∷ []) ∷ []

abbrev chain : List (List Sqe)
chain = (nop 4 7 ∷ nop 0 8 ∷ []) ∷ []

-- the second may end first
turned : posted_after loose (Accept ∷ Issue 0 ∷ Issue 1 ∷ Finish 1 ∷ Finish 0 ∷ []) ≡ Some (8 ∷ 7 ∷ [])
unfolding is_doomed is_ready is_after_failure some_member is_joined
turned = refl

-- but in a chain it isn't issued before the first has ended
waits : posted_after chain (Accept ∷ Issue 0 ∷ Issue 1 ∷ []) ≡ None
unfolding is_doomed is_ready is_after_failure some_member is_joined
waits = refl

in_order : posted_after chain (Accept ∷ Issue 0 ∷ Finish 0 ∷ Issue 1 ∷ Finish 1 ∷ []) ≡ Some (7 ∷ 8 ∷ [])
unfolding is_doomed is_ready is_after_failure some_member is_joined
in_order = refl

-- nothing is issued before its call is accepted, and nothing finished that doesn't run
not_yet : posted_after loose (Issue 0 ∷ Accept ∷ []) ≡ None
unfolding is_doomed is_ready is_after_failure some_member is_joined
not_yet = refl

not_running : posted_after loose (Accept ∷ Finish 0 ∷ []) ≡ None
unfolding is_doomed is_ready is_after_failure some_member is_joined
not_running = refl

-- a bad word is no entry, and is dropped
abbrev with_bad : List (List Published)
with_bad = (with_entry (nop 0 7) ∷ bad_word 9 ∷ []) ∷ [] ∷ []

one_entry : map entries_in with_bad ≡ (nop 0 7 ∷ []) ∷ [] ∷ []
one_entry = refl

one_dropped : bad_in (items_in with_bad) ≡ 1
one_dropped = refl
