-- What a core shows as a submission call takes a position, and that there is room for what it took.
use Rattle.uring_core.proofs.Common.{Call, Core, FitsApart, History, Place, Setup, ShowsSubmission, ShowsWorld, Sq, Sqe, Submission, World, append-nil, asks_to_skip, common_steps, cons_option, entries_of, entry_answer, held_by, list_any_push, pending, positions_of, some_skips, stops_after, stops_at_word, take_answer_in, taken, taken_entries, taking_entry_of, taking_of, taking_on, with_stopped, with_taken, world}
use Rattle.std.proofs.Common.{◌≡◌, ℕ, ◌+◌, ◌<◌, ◌≤◌, Bool, ◌||◌, List, [], ◌∷◌, ◌++◌, length, take, Option, Some, None, slice_get, refl, sym, ap, ◌∙◌, arith, IfSome}
use Rattle.std.proofs.lemmas.Option.{slice_get_cases}
use Rattle.std.proofs.lemmas.List.Elements.{filter_map-append}
use Rattle.uring_rings.specs.SqAnswers as ring
use Rattle.uring_rings.specs.declared.answers.TakeAnswer.TheVariants as took_as
use Rattle.uring_rings.proofs.Places.{places_more, entries_and_dropped}
use Rattle.uring_core.proofs.TakenEntries.{taken_more}
use Rattle.uring_core.specs.declared.step.Step.TheVariants as step
use Rattle.uring_core.specs.declared.answer.Answer.TheVariants as answer

-- Take.

-- the parts after a take, whatever was taken, and whether or not the call stops after it
taken_shows : (p : Core) (w : World) (q : Sq) (call : Call) (entry : Option Sqe) (held : List Sqe) (has_skipped stops : Bool)
    → ShowsWorld p w → w.submission.call ≡ Some call → ring.given entry ≡ ring.take_in w.submission (Some call)
    → ShowsSubmission p.setup q (with_stopped stops (with_taken w.submission call))
    → held ≡ p.held ++ cons_option entry []
    → has_skipped ≡ some_skips (taken_entries w.submission ++ cons_option entry [])
    → ShowsWorld (record p { sq = q; held = held; has_skipped = has_skipped }) (taking_on w stops call)
taken_shows p w q call entry held has_skipped stops s is e shown holds skipped =
    let at : (place : Place) × (slice_get w.submission.published (taken w.submission + call.taken) ≡ Some place) × (place.entry ≡ entry) =
    grind (arith, (slice_get_cases w.submission.published (taken w.submission + call.taken))) in
    grind (arith, (places_more w.submission.published (taken w.submission) call.taken at.0 at.1), (taken_more w.submission call at.0 entry is at.1 at.2), filter_map-append)

-- the core answers as the ring does
called : (p : Core) (w : World) (entry : Option Sqe) (c : Option Call) → ShowsWorld p w
    → w.submission.call ≡ c → ring.given entry ≡ ring.take_in w.submission c
    → entry_answer entry ≡ take_answer_in w c
called p w entry c s is e = grind (arith, slice_get_cases)

-- what a take shows, by the call that is open, where the call stops after it or not
take_entry : (p : Core) (w : World) (q : Sq) (entry : Sqe) (has_skipped : Bool) (c : Option Call) → ShowsWorld p w
    → w.submission.call ≡ c → has_skipped ≡ (p.has_skipped || asks_to_skip entry) → took_as.Entry entry ≡ ring.take_in w.submission c
    → ShowsSubmission p.setup q (with_stopped (stops_after p.setup has_skipped entry) (ring.taken_on w.submission c))
    → ShowsWorld (record p { sq = q; held = p.held ++ entry ∷ []; has_skipped = has_skipped }) (taking_entry_of p.setup w entry c)
take_entry p w q entry has_skipped None s is skips e shown = grind arith
take_entry p w q entry has_skipped (Some call) s is skips e shown =
    let so_far : has_skipped ≡ (some_skips (taken_entries w.submission) || asks_to_skip entry) = cc (skips, s.skipped) in
    taken_shows p w q call (Some entry) _ _ _ s is e (rw so_far at shown) refl
    (so_far ∙ sym (list_any_push asks_to_skip (taken_entries w.submission) entry))

take_dropped : (p : Core) (w : World) (q : Sq) (c : Option Call) → ShowsWorld p w
    → w.submission.call ≡ c → took_as.Dropped ≡ ring.take_in w.submission c
    → ShowsSubmission p.setup q (with_stopped (stops_at_word p.setup) (ring.taken_on w.submission c))
    → ShowsWorld (record p { sq = q }) (taking_of p.setup w c)
take_dropped p w q None s is e shown = grind arith
take_dropped p w q (Some call) s is e shown =
    taken_shows p w q call None p.held p.has_skipped _ s is e shown (sym (append-nil p.held))
    (s.skipped ∙ ap some_skips (sym (append-nil (taken_entries w.submission))))

-- the ring after a take, and then with its call stopped after the entry, if it stops there
pub take_entry_goes : (p : Core) (q stops : Sq) (entry : Sqe) (has_skipped : Bool)
    → has_skipped ≡ (p.has_skipped || asks_to_skip entry)
    → ((g : Setup) (l : Submission) → ShowsSubmission g p.sq l → took_as.Entry entry ≡ ring.take_answer l)
    → ((g : Setup) (l : Submission) → ShowsSubmission g p.sq l → ShowsSubmission g q (ring.after_take l (took_as.Entry entry)))
    → ((g : Setup) (l : Submission) → ShowsSubmission g q l → ShowsSubmission g stops (with_stopped (stops_after p.setup has_skipped entry) l))
    → (h : History) → FitsApart p h
    → FitsApart (record p { sq = stops; held = p.held ++ entry ∷ []; has_skipped = has_skipped }) ((step.Take, answer.Entry entry) ∷ h)
take_entry_goes p q stops entry has_skipped is answered shown stopped h f =
    let e = answered p.setup (world p.setup h).submission f.shows.submission in
    grind (arith, (take_entry p (world p.setup h) stops entry has_skipped _ f.shows refl is e), (called p (world p.setup h) (Some entry) _ f.shows refl e))

-- the ring after a word was dropped, and then with its call stopped, if it stops there
pub take_dropped_goes : (p : Core) (q stops : Sq)
    → ((g : Setup) (l : Submission) → ShowsSubmission g p.sq l → took_as.Dropped ≡ ring.take_answer l)
    → ((g : Setup) (l : Submission) → ShowsSubmission g p.sq l → ShowsSubmission g q (ring.after_take l took_as.Dropped))
    → ((g : Setup) (l : Submission) → ShowsSubmission g q l → ShowsSubmission g stops (with_stopped (stops_at_word p.setup) l))
    → (h : History) → FitsApart p h
    → FitsApart (record p { sq = stops }) ((step.Take, answer.Dropped) ∷ h)
take_dropped_goes p q stops answered shown stopped h f =
    let e = answered p.setup (world p.setup h).submission f.shows.submission in
    grind (arith, (take_dropped p (world p.setup h) stops _ f.shows refl e), (called p (world p.setup h) None _ f.shows refl e))

-- what a call took fits its positions
pub few_entries : (places : List Place) (n : ℕ) → length (entries_of (take n places)) ≤ n
few_entries places n = grind (arith, entries_and_dropped, common_steps)

pub held_within : (l : Submission) (size : ℕ) (c : Option Call)
    → IfSome c (λ call. (call.taken ≤ call.count) × (call.count ≤ pending l))
    → length (held_by l c) ≤ positions_of c
held_within l size c fits = grind (arith, few_entries)

-- the dispatcher has room for what the open call took
pub held_accepted : (p : Core) (h : History) → FitsApart p h → length p.held ≤ p.dispatch.room
held_accepted p h f = grind (arith, held_within)

-- with a position left, fewer entries are held than the ring has
pub held_has_room : (p : Core) (h : History) (entry : Sqe) → FitsApart p h
    → ((g : Setup) (l : Submission) → ShowsSubmission g p.sq l → took_as.Entry entry ≡ ring.take_answer l)
    → length p.held < p.setup.sq
held_has_room p h entry f answered = grind (arith, few_entries)
