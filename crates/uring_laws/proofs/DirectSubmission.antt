-- The submission ring's lists, read off a history.
use Rattle.std.proofs.Common.{◌≡◌, ℕ, ◌+◌, ◌≤◌, true, false, eqb, List, [], ◌∷◌, ◌++◌, length, map, count_by, Option, Some, None, if◌then◌else◌, refl, subst, arith, append-nil, append_assoc, rules}
use Rattle.uring_laws.proofs.Common.{Answer, Call, Event, History, IsLawfulApart, Setup, Sqe, Step, SubmissionMove, World, begins, call_counts, closes, closes_call, drops, entries_taken, length_push, loaded_head, ltb-false, map-append, open_call, open_count, open_taken, opened_by, opens_call, place_of, published_words, slot_content, sound_of, staged_words, stages, stays, stores, submission_move, taken_entries, taken_since, takes, takes_last, takes_position, world, common_steps}
use Rattle.uring_core.proofs.SoundRings.{IsSoundSubmission, open_count as positions_open}
use Rattle.uring_laws.proofs.TakenPlaces.{takes_places}

-- an open call is the one that was opened last
abbrev pub IsOpened : Setup → History → Option Call → Type 0
IsOpened g h None = Unit {0}
IsOpened g h (Some call) = (call.taken ≡ taken_since h) × (call.count ≡ open_count g h)

-- how many calls are open: one or none
abbrev pub open_calls : Option Call → ℕ
open_calls None = 0
open_calls (Some call) = 1

pub record DirectSubmission (g : Setup) (h : History) (w : World) : Type 0 where
  pub content : (slot : ℕ) → w.submission.content slot ≡ slot_content h slot
  pub published : map (λ place. place.word) w.submission.published ≡ published_words h
  pub staged : published_words h ++ w.submission.fresh ≡ staged_words h
  pub calls : w.submission.calls ≡ call_counts h
  pub closed : count_by closes_call h ≡ length w.submission.calls
  pub openings : count_by opens_call h ≡ length w.submission.calls + open_calls w.submission.call
  pub seen : w.submission.seen_head ≡ loaded_head h
  pub opened : IsOpened g h w.submission.call

words_of_places : (size : ℕ) (content : ℕ → Sqe) (words : List ℕ)
    → map (λ p. p.word) (map (place_of size content) words) ≡ words
words_of_places size content [] = refl
words_of_places size content (word ∷ words) = grind (arith, (words_of_places size content words))

-- what an event leaves by which the open call takes a position
record PositionTaken (g : Setup) (h : History) (w : World) (e : Event) (call : Call) : Type 0 where
  calls : w.submission.calls ≡ call_counts (e ∷ h)
  closed : count_by closes_call (e ∷ h) ≡ length w.submission.calls
  openings : count_by opens_call (e ∷ h) ≡ length w.submission.calls + 1
  opened : (call.taken + 1 ≡ taken_since (e ∷ h)) × ((if takes_last g (entries_taken h) e then call.taken + 1 else call.count) ≡ open_count g (e ∷ h))

position_taken : (g : Setup) (h : History) (w : World) (e : Event) (call : Call)
    → w.submission.call ≡ Some call → eqb call.taken call.count ≡ false → opens_call e ≡ false
    → opened_by e ≡ None → closes_call e ≡ false
    → takes_position e ≡ true → DirectSubmission g h w → PositionTaken g h w e call
position_taken g h w e call is left none_opened none none_closed taken i =
    let so_far : (call.taken ≡ taken_since h) × (call.count ≡ open_count g h) = subst (IsOpened g h) is i.opened in
    let more : call.taken + 1 ≡ taken_since (e ∷ h) = grind (arith, common_steps, so_far, none_opened) in
    record {
      calls = rw none_closed i.calls;
      closed = grind (arith, common_steps, i.closed);
      openings = grind (arith, common_steps, i.openings);
      opened = grind arith;
    }

submission_direct : (g : Setup) (h : History) (w : World) (s : Step) (a : Answer) (v : World)
    → SubmissionMove g w s a v → IsSoundSubmission g.sq w.submission
    → entries_taken h ≡ taken_entries w.submission → DirectSubmission g h w
    → DirectSubmission g ((s, a) ∷ h) v
submission_direct g h w s a v (stays _ _ r c is_closed off left) sound entries i = grind arith
submission_direct g h w s a v (stages word room) sound entries i = grind (arith, append_assoc)
submission_direct g h w s a v (stores tail) sound entries i = grind (arith, words_of_places, map-append, append-nil)
submission_direct g h w s a v (begins count is_open no_call unspent) sound entries i =
    grind (arith, common_steps)
submission_direct g h w s a v (takes entry call place opened left at valid) sound entries i =
    grind (arith, (position_taken g h w (s, a) call opened left refl refl refl refl i))
submission_direct g h w s a v (drops call place opened left at invalid) sound entries i =
    grind (arith, (position_taken g h w (s, a) call opened left refl refl refl refl i))
submission_direct g h w s a v (closes accepted missed head call opened all counted) sound entries i =
    let so_far : (call.taken ≡ taken_since h) × (call.count ≡ open_count g h) = subst (IsOpened g h) opened i.opened in
    let within : call.taken ≤ call.count = subst (λ o. open_taken o ≤ positions_open o) opened sound.within_call in
    let whole : call.count ≡ taken_since h = omega (arith, ltb-false call.taken call.count all, within, so_far.0) in
    grind (arith, common_steps, length_push, whole)
submission_direct g h w s a v _ sound entries i = grind arith

pub direct_submission : (g : Setup) (h : History) → IsLawfulApart g h
    → DirectSubmission g h (world g h)
direct_submission g [] lawful = search rules
direct_submission g ((s, a) ∷ before) lawful =
    submission_direct g before (world g before) s a _ (submission_move g s a before lawful) (sound_of g before lawful.1).submission (takes_places g before lawful.1).entries (direct_submission g before lawful.1)

-- the call that is open
pub call_direct : (g : Setup) (h : History) (w : World) → DirectSubmission g h w
    → w.submission.call ≡ open_call g h
call_direct g h w i = grind arith
