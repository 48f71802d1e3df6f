-- Which positions were taken.
use Rattle.std.proofs.Common.{◌≡◌, ◌+◌, [], ◌∷◌, take, Some, None, refl, arith, append-nil}
use Rattle.uring_laws.proofs.Common.{Answer, History, IsLawfulApart, IsSoundSubmission, IsWithinLimits, Setup, Step, SubmissionMove, TakenOnceInOrder, World, begins, closes, drops, entries_of, entries_taken, ltb-false, positions_taken, reached, sound_of, stays, stores, submission_move, sum_by_push, take-append-le, taken, takes, world, common_steps}
use Rattle.uring_core.proofs.TakenEntries.{one_further}

-- as many positions were taken as the lists say, and the entries are those that they have
pub record TakesPlaces (h : History) (w : World) : Type 0 where
  pub count : positions_taken h ≡ reached w.submission
  pub entries : entries_taken h ≡ entries_of (take (reached w.submission) w.submission.published)

places_kept : (g : Setup) (h : History) (w : World) (s : Step) (a : Answer) (v : World)
    → SubmissionMove g w s a v → IsSoundSubmission g.sq w.submission → TakesPlaces h w
    → TakesPlaces ((s, a) ∷ h) v
places_kept g h w s a v (stays _ _ r c is_closed off left) sound i = grind arith
places_kept g h w s a v (stores tail) sound i = grind (arith, common_steps, take-append-le)
places_kept g h w s a v (begins count is_open no_call unspent) sound i = grind arith
places_kept g h w s a v (takes entry call place opened left at valid) sound i =
    grind (arith, common_steps, (one_further w.submission.published (taken w.submission + call.taken) place (Some entry) at valid))
places_kept g h w s a v (drops call place opened left at invalid) sound i =
    grind (arith, common_steps, (one_further w.submission.published (taken w.submission + call.taken) place None at invalid), append-nil)
places_kept g h w s a v (closes accepted missed head call opened all counted) sound i = grind (arith, sum_by_push, ltb-false)
places_kept g h w s a v _ sound i = grind (arith, common_steps)

pub takes_places : (g : Setup) (h : History) → IsLawfulApart g h → TakesPlaces h (world g h)
takes_places g [] lawful = record { count = refl; entries = refl }
takes_places g ((s, a) ∷ before) lawful =
    places_kept g before (world g before) s a _ (submission_move g s a before lawful) (sound_of g before lawful.1).submission (takes_places g before lawful.1)

pub once_in_order : (g : Setup) (h : History) → IsWithinLimits g → IsLawfulApart g h
    → TakenOnceInOrder g h
once_in_order g h setup lawful = grind (arith, sound_of, takes_places)
