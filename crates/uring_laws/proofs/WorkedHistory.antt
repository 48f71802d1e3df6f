-- A worked history, on which definitions of histories are computed: a call of an fsync and of a bad word, and the fsync carried out.
-- Each line holds by computing alone: no lemma is used. Nothing cites this file.
use Rattle.std.proofs.Common.{◌≡◌, ◌+◌, ◌*◌, ◌^◌, pos, Some, true, false, List, [], ◌∷◌, ◌++◌, replicate, take, refl, inl}
use Rattle.uring_laws.proofs.Common.{AreDone, Completions, Cqe, Event, Fsync, IsLawful, Setup, Sqe, Stands, World, after_items, bad_word, call_counts, done_in, dropped, ends_of, files_left, files_of, first_files, history_of, in_overflow, in_ring, item_answers, no_bytes, no_completion, open_call, published_items, with_entry, with_posted, world}
use Rattle.uring_laws.specs.Published.{items_told, positions_dropped}
use Rattle.uring_core.specs.declared.step.Step.TheVariants as step
use Rattle.uring_core.specs.declared.answer.Answer.TheVariants as answer

abbrev setup : Setup
setup = record { sq = 2; cq = 2; files = 3; start = 0; stops = false; linux = false }

-- an fsync of the file of descriptor 2
abbrev sync : Sqe
sync = (3 + 2 * 2 ^ 32) ∷ 0 ∷ 0 ∷ 0 ∷ 7 ∷ replicate 11 0

abbrev call : List Event
call =
    (step.Fill 0 sync, answer.Filled) ∷ (step.Index 0, answer.Staged) ∷ (step.Index 9, answer.Staged) ∷ (step.StoreTail, answer.Tail 2)
    ∷ (step.Begin 2, answer.Call 2) ∷ (step.Take, answer.Entry sync) ∷ (step.Take, answer.Dropped) ∷ (step.End, answer.Taken 1 1 2) ∷ (step.LoadHead, answer.Head 2) ∷ []

abbrev called : World
called = world setup (history_of call)

call_lawful : IsLawful setup (history_of call)
call_lawful = (refl, (refl, (refl, (refl, (inl refl, (refl, (refl, (refl, (refl, tt)))))))))

-- What was published, taken and dropped.

items_there : published_items called.submission ≡ with_entry sync ∷ bad_word 9 ∷ []
items_there = refl

items_read : items_told 2 (history_of call) ≡ with_entry sync ∷ bad_word 9 ∷ []
items_read = refl

one_call : call_counts (history_of call) ≡ 2 ∷ []
one_call = refl

one_dropped : positions_dropped (history_of call) ≡ 1
one_dropped = refl

one_counted : dropped called.submission ≡ 1
one_counted = refl

-- while the call is open nothing counts as dropped yet
none_dropped : positions_dropped ((step.Take, answer.Dropped) ∷ (step.Take, answer.Entry sync) ∷ [])
    ≡ 0
none_dropped = refl

-- The ring stands empty at first and again after the call, whose steps are those for its two items.

stands_first : Stands (world setup []).submission [] 0
stands_first = record { fresh = refl; call = refl; head = refl; waiting = refl }

stands_again : Stands called.submission [] 0
stands_again = record { fresh = refl; call = refl; head = refl; waiting = refl }

first_steps : after_items (with_entry sync ∷ bad_word 9 ∷ []) (item_answers (with_entry sync ∷ bad_word 9 ∷ [])) []
    ≡ history_of (take 3 call)
first_steps = refl

-- A call of two entries, of which the first has a fault: in a ring that stops it ends there, and the next call takes the other.

abbrev stopping : Setup
stopping = record setup { stops = true }

-- an entry of operation 99
abbrev odd : Sqe
odd = 99 ∷ 0 ∷ 0 ∷ 0 ∷ 8 ∷ replicate 11 0

abbrev two : List Event
two =
    (step.Fill 0 odd, answer.Filled) ∷ (step.Fill 1 sync, answer.Filled) ∷ (step.Index 0, answer.Staged) ∷ (step.Index 1, answer.Staged) ∷ (step.StoreTail, answer.Tail 2)
    ∷ (step.Begin 2, answer.Call 2) ∷ (step.Take, answer.Entry odd) ∷ []

abbrev stop : List Event
stop =
    two ++ (step.Take, answer.NoMore) ∷ (step.End, answer.Taken 1 0 1) ∷ (step.Begin 2, answer.Call 1) ∷ (step.End, answer.NotAll) ∷ (step.Take, answer.Entry sync)
    ∷ (step.Take, answer.NoMore) ∷ (step.End, answer.Taken 1 0 2) ∷ []

stop_lawful : IsLawful stopping (history_of stop)
stop_lawful = (refl, (refl, (refl, (refl, (inl refl, (refl, (refl, (refl, (inl refl, (refl, (refl, (refl, (refl, (refl, tt))))))))))))))

two_calls : call_counts (history_of stop) ≡ 1 ∷ 1 ∷ []
two_calls = refl

call_stopped : open_call stopping (history_of two) ≡ Some (record { count = 1; taken = 1 })
call_stopped = refl

call_goes_on : open_call setup (history_of two) ≡ Some (record { count = 2; taken = 1 })
call_goes_on = refl

-- What was carried out.

abbrev run : List Event
run = call ++ (step.Issue 0, answer.Run) ∷ (step.Finish 0, answer.Ended (pos 0) no_bytes) ∷ []

abbrev ran : World
ran = world setup (history_of run)

sync_done : done_in setup (history_of run)
    ≡ record { number = 0; op = Fsync (pos 2); outcome = record { res = pos 0; bytes = no_bytes } } ∷ []
sync_done = refl

sync_right : AreDone (first_files setup) (done_in setup (history_of run))
sync_right = (inl refl, tt)

files_there : files_of setup ran ≡ files_left (first_files setup) (done_in setup (history_of run))
files_there = refl

end_of_its_file : ends_of (pos 2) ran.requests ran.requests.ended ≡ ran.requests.ended
end_of_its_file = refl

no_end_of_another : ends_of (pos 1) ran.requests ran.requests.ended ≡ []
no_end_of_another = refl

-- Three completions for a ring of two: the third waits for a full ring.

abbrev posted : Cqe → Cqe → Cqe → Completions
posted a b c = with_posted 2 (with_posted 2 (with_posted 2 no_completion a) b) c

two_stand : (a b c : Cqe) → in_ring (posted a b c) ≡ a ∷ b ∷ []
two_stand a b c = refl

third_waits : (a b c : Cqe) → in_overflow (posted a b c) ≡ c ∷ []
third_waits a b c = refl

ring_is_full : (a b c : Cqe) → (posted a b c).put ≡ (posted a b c).seen_head + 2
ring_is_full a b c = refl
