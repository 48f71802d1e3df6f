-- The entries of published positions, read off a history.
use Rattle.std.proofs.Common.{◌≡◌, ℕ, ◌+◌, ◌-◌, ◌<◌, ◌≤◌, [], ◌∷◌, ◌++◌, length, map, Some, None, slice_get, get_or, refl, sym, ◌∙◌, ◌⊎◌, inl, inr, arith}
use Rattle.uring_laws.proofs.Common.{Answer, History, IsLawfulApart, Place, Setup, Step, SubmissionMove, World, cases_lt, get_or-append_right, get_or-map, get_or_append_left, get_or_from_slice_get, le-ltb, length-append, length-map, lt-ltb, place_of, published_entry, published_words, slice_get-get_or, slice_get_within, staged_words, stages, stays, stores, submission_move, world}
use Rattle.uring_core.specs.declared.step.Step.TheVariants as step
use Rattle.uring_core.specs.declared.answer.Answer.TheVariants as answer
use Rattle.uring_laws.proofs.DirectSubmission.{DirectSubmission, direct_submission}

abbrev pub EntriesTold : Setup → History → World → Type 0
EntriesTold g h w = (k : ℕ) (p : Place) → slice_get w.submission.published k ≡ Some p
    → p.entry ≡ published_entry g.sq h k

-- how many words there are
words_count : (g : Setup) (h : History) (w : World) → DirectSubmission g h w
    → (length (published_words h) ≡ length w.submission.published)
    × (length (staged_words h) ≡ length w.submission.published + length w.submission.fresh)
words_count g h w d = grind (arith, length-map, length-append)

entry_stored : (g : Setup) (tail : ℕ) (h : History) (w : World) → DirectSubmission g h w
    → EntriesTold g h w → (k : ℕ) (p : Place)
    → slice_get (w.submission.published ++ map (place_of g.sq w.submission.content) w.submission.fresh) k
    ≡ Some p
    → (k < length w.submission.published) ⊎ (length w.submission.published ≤ k)
    → p.entry ≡ published_entry g.sq ((step.StoreTail, answer.Tail tail) ∷ h) k
entry_stored g tail h w d i k p at (inl low) =
    let here : get_or w.submission.published k p ≡ p = sym (get_or_append_left w.submission.published _ p k low) ∙ get_or_from_slice_get _ k p p at in
    rw (lt-ltb k (length (published_words h)) (omega (arith, (words_count g h w d).0))) (i k p (rw here at (slice_get-get_or w.submission.published k p low)))
entry_stored g tail h w d i k p at (inr high) =
    let c = words_count g h w d in
    let n = length w.submission.published in
    let f = place_of g.sq w.submission.content in
    let fresh = w.submission.fresh in
    let room : k - n < length fresh = omega (arith, slice_get_within _ k p at, length-append w.submission.published (map f fresh), length-map fresh f) in
    let here : f (get_or fresh (k - n) 0) ≡ p = sym (get_or-map f fresh (k - n) 0 p room) ∙ sym (get_or-append_right w.submission.published (map f fresh) n k p refl high) ∙ get_or_from_slice_get _ k p p at in
    grind (arith, here, (get_or-append_right (published_words h) fresh n k 0 c.0 high), d.staged, d.content, (le-ltb k (length (published_words h)) (omega (arith, c.0))))

entries_direct : (g : Setup) (h : History) (w : World) (s : Step) (a : Answer) (v : World)
    → SubmissionMove g w s a v → DirectSubmission g h w → EntriesTold g h w
    → EntriesTold g ((s, a) ∷ h) v
entries_direct g h w s a v (stays _ _ r c is_closed off left) d i =
    λ k p at. rw (off.stages, off.stores_tail) (i k p at)
entries_direct g h w s a v (stages word room) d i = λ k p at. rw (get_or_append_left (staged_words h) (word ∷ []) 0 k (omega (arith, (words_count g h w d).1, slice_get_within w.submission.published k p at))) (i k p at)
entries_direct g h w s a v (stores tail) d i =
    λ k p at. entry_stored g tail h w d i k p at (cases_lt k (length w.submission.published))
entries_direct g h w s a v _ d i = i

pub direct_places : (g : Setup) (h : History) → IsLawfulApart g h → EntriesTold g h (world g h)
direct_places g [] lawful = λ k p at. absurd (let e : None ≡ Some p = at in cc)
direct_places g ((s, a) ∷ before) lawful =
    entries_direct g before (world g before) s a _ (submission_move g s a before lawful) (direct_submission g before lawful.1) (direct_places g before lawful.1)
