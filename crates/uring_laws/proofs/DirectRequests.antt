-- The accepted entries, the cuts and the completions posted, read off a history.
use Rattle.std.proofs.Common.{◌≡◌, ℕ, ◌+◌, ◌<◌, ◌==◌, true, List, [], ◌∷◌, ◌++◌, length, sum, refl, arith, append-nil, take-add}
use Rattle.uring_laws.proofs.Common.{Answer, Ending, History, IsLawfulApart, IsSound, Setup, Sqe, Step, SubmissionMove, World, accepted, accepted_by, by_manual, closes, closes_ring, completion_of, cut_counts, eq-eqb, filter_map, filter_map-append, get_or_append_left, length-append, list_any, or_left, or_right, sound_of, stays, stores, submission_move, sum_by-cons, sum_by_push, sums_from, take-append-le, told, world, zero_entry}
use Rattle.uring_core.proofs.CompletionMoves.{CompletionMove, stays as stays_off, ends, completion_move}

pub record DirectRequests (h : History) (w : World) : Type 0 where
  pub taken_in : w.requests.accepted ≡ accepted w.submission
  pub counted : sum (told accepted_by h) ≡ length w.requests.accepted
  pub cuts : w.requests.cuts ≡ cut_counts h
  pub shut : w.is_closed ≡ list_any closes_ring h

-- a sum more
sums_push : (before : ℕ) (xs : List ℕ) (x : ℕ)
    → sums_from before (xs ++ x ∷ []) ≡ sums_from before xs ++ (before + (sum xs + x)) ∷ []
sums_push before [] x = grind arith
sums_push before (y ∷ xs) x =
    grind (arith, (sum_by-cons (λ k. k) y xs), (sums_push (before + y) xs x))

-- the entries accepted later are those of no end so far
same_posts : (accepted more : List Sqe) (es : List Ending)
    → ((n : ℕ) → list_any (λ e. e.number == n) es ≡ true → n < length accepted)
    → filter_map (completion_of (accepted ++ more)) es ≡ filter_map (completion_of accepted) es
same_posts accepted more [] within = refl
same_posts accepted more (e ∷ es) within =
    rw (get_or_append_left accepted more zero_entry e.number (within e.number (or_left (e.number == e.number) _ (eq-eqb e.number _ refl))), same_posts accepted more es (λ n there. within n (or_right (e.number == n) _ there)))

-- By the manual pages' rules the entries alone tell what was posted.

posted_direct : (g : Setup) (w : World) (s : Step) (a : Answer) (v : World)
    → CompletionMove (by_manual g) w s a v → IsSound (by_manual g) w
    → w.completions.posted ≡ filter_map (completion_of w.requests.accepted) w.requests.ended
    → v.completions.posted ≡ filter_map (completion_of v.requests.accepted) v.requests.ended
posted_direct g w s a v (stays_off _ _ l r is_closed off no_end left) sound i = grind (arith, same_posts)
posted_direct g w s a v (ends _ _ n res bytes r off told same_accepted one_more) sound i =
    rw (same_accepted, one_more) (grind (arith, append-nil, filter_map-append))
posted_direct g w s a v _ sound i = i

pub direct_posted : (g : Setup) (h : History) → IsLawfulApart (by_manual g) h
    → (world (by_manual g) h).completions.posted
    ≡ filter_map (completion_of (world (by_manual g) h).requests.accepted) (world (by_manual g) h).requests.ended
direct_posted g [] lawful = refl
direct_posted g ((s, a) ∷ before) lawful = posted_direct g (world (by_manual g) before) s a _ (completion_move (by_manual g) s a before lawful) (sound_of (by_manual g) before lawful.1) (direct_posted g before lawful.1)

-- What of the requests the submission ring tells.

accepted_direct : (g : Setup) (h : History) (w : World) (s : Step) (a : Answer) (v : World)
    → SubmissionMove g w s a v → IsSound g w → DirectRequests h w → DirectRequests ((s, a) ∷ h) v
accepted_direct g h w s a v (stays _ _ r c is_closed off left) sound i = grind arith
accepted_direct g h w s a v (stores tail) sound i = grind (arith, take-append-le)
accepted_direct g h w s a v (closes accepted missed head call opened all counted) sound i =
    grind (arith, length-append, sum_by_push, take-add, filter_map-append, sums_push)
accepted_direct g h w s a v _ sound i = assumption i

pub direct_requests : (g : Setup) (h : History) → IsLawfulApart g h → DirectRequests h (world g h)
direct_requests g [] lawful = record { taken_in = refl; counted = refl; cuts = refl; shut = refl }
direct_requests g ((s, a) ∷ before) lawful = accepted_direct g before (world g before) s a _ (submission_move g s a before lawful) (sound_of g before lawful.1) (direct_requests g before lawful.1)
