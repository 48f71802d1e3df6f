use Rattle.std.proofs.Common.{◌≡◌, ℕ, ◌+◌, List, Some, None, ◌∷◌, [], ◌++◌, length, take, sym, ap, arith, ◌∙◌, length-drop}
use Rattle.uring_callers.proofs.Common.{history_of, slice_get, take_all, take_more, world}
use Rattle.std.proofs.lemmas.Option.{slice_get_cases, slice_get_within, get_or_from_slice_get}
use Rattle.uring_entry.specs.Completions.{unreaped}
use Rattle.uring_callers.proofs.settling.settled_rest.Goals as goal
use Rattle.uring_callers.proofs.settling.settled_rest.Goals.{in-Some+in_ok-push, in_default}

-- one element more is copied, and none
copied_some : {X : Type 0} (xs : List X) (i : ℕ) (x : X) → Some x ≡ slice_get xs i
    → take (i + 1) xs ≡ take i xs ++ x ∷ []
copied_some xs i x e = take_more xs i x (slice_get_within xs i x (sym e)) ∙ ap (λ y. take i xs ++ y ∷ []) (get_or_from_slice_get xs i x x (sym e))

copied_none : {X : Type 0} (xs : List X) (i : ℕ) → None ≡ slice_get xs i → take (i + 1) xs ≡ take i xs
copied_none xs i e = grind (arith, slice_get_cases, take_all)

pub loop-place-preserved : goal.loop-place-preserved
loop-place-preserved c = elim c.match-rest.branch [
  | in-Some+in_ok-push w ↦ λ h fits. rw (w.rest-is, w.in_ok-push.ensures.items, c.loop-place.invariant h fits) (sym (copied_some (unreaped (world c.settle_idle.new.self.core.setup h).completions) c.loop-place.place w.in-Some.completion (sym w.in-Some.is ∙ c.rest.ensures h fits)))
  | in_default w ↦ λ h fits. rw (w.rest-is, c.loop-place.invariant h fits) (sym (copied_none (unreaped (world c.settle_idle.new.self.core.setup h).completions) c.loop-place.place (sym w.in_default.is ∙ c.rest.ensures h fits)))
]

pub returns-clause-left : goal.returns-clause-left
returns-clause-left c = λ h setup fits.
    let s = c.settle_idle.ensures.settled h fits in
    let counts = c.counts-counts.ensures (history_of s.settles.events ++ h) s.settles.fits in
    let l = (world c.settle_idle.new.self.core.setup (history_of s.settles.events ++ h)).completions in
    record {
      events = s.settles.events;
      fits = s.settles.fits;
      ended = (c.each_ends_once.ensures c.settle_idle.new.self.core.setup (history_of s.settles.events ++ h) (rw c.settle_idle.ensures.setup setup) s.settles.fits.core.lawful).all_end s.none_outstanding;
      rest = c.loop-place.invariant (history_of s.settles.events ++ h) s.settles.fits ∙ take_all c.loop-place.place (unreaped l) (omega (arith, c.loop-place-test.false, c.saturating_sub-place-end.ensures, counts.posted, counts.reaped, length-drop (length l.reaped) l.posted));
    }
