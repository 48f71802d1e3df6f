-- The laws of where submission calls end: from the open call as it is read off the history, and by induction over it.
use Rattle.std.proofs.Common.{◌≡◌, ◌↔◌, ℕ, ◌+◌, ◌≤◌, true, false, cond, List, [], ◌∷◌, ◌++◌, length, count_by, Option, Some, None, is_some, ◌⊎◌, refl, subst, arith, append-nil}
use Rattle.uring_laws.proofs.Common.{Answer, Call, History, IsLawfulApart, Setup, Step, SubmissionMove, World, begins, cases_Bool, closes, drops, has_stopped, open_count, open_taken, opened_by, slice_get-get_or, sound_of, stays, submission_move, sum_by-cons, take_at, taken, taken_since, takes, told, world, common_steps}
use Rattle.uring_laws.specs.Stopping.{EndsThere, OpenCallEndsThere, CallsTakeAll, drops_word}
use Rattle.uring_core.proofs.SoundRings.{open_count as positions_open}
use Rattle.uring_laws.proofs.DirectSubmission.{IsOpened, direct_submission}

-- The open call.

pub ends_there : (g : Setup) → OpenCallEndsThere g
ends_there g h opened lawful there last = by_call (world g h).submission.call refl there
  where
    by_call : (c : Option Call) → (world g h).submission.call ≡ c → is_some c ≡ true → EndsThere g h opened
    by_call None is some = absurd cc
    by_call (Some call) is some =
        let w : World = world g h in
        let l = w.submission in
        let s = (sound_of g h lawful).submission in
        let told : (call.taken ≡ taken_since h) × (call.count ≡ open_count g h) = subst (IsOpened g h) is (direct_submission g h lawful).opened in
        let within : call.taken ≤ call.count = subst (λ o. open_taken o ≤ positions_open o) is s.within_call in
        let published : taken l + call.count ≤ length l.published = subst (λ o. taken l + positions_open o ≤ length l.published) is s.call_published in
        let all : (call.taken ≡ call.count) ↔ ((taken_since h ≡ opened) ⊎ (has_stopped g h ≡ true)) = grind (arith, told, last) in
        grind (arith, is, within, published, all, (slice_get-get_or l.published (taken l + call.taken) (record { word = 0; entry = None })))

-- Rings that go on.

-- how many positions the open call has
abbrev open_counts : Option Call → List ℕ
open_counts None = []
open_counts (Some call) = call.count ∷ []

-- each call has as many positions as it opened with
abbrev TakesAll : History → World → Type 0
TakesAll h w = told opened_by h ≡ w.submission.calls ++ open_counts w.submission.call

all_kept : (g : Setup) (h : History) (s : Step) (a : Answer) (v : World) → g.stops ≡ false
    → (g.linux ≡ true → count_by drops_word ((s, a) ∷ h) ≡ 0)
    → SubmissionMove g (world g h) s a v → TakesAll h (world g h) → TakesAll ((s, a) ∷ h) v
all_kept g h s a v goes none (stays _ _ r c is_closed off left) i = rw off.opens i
all_kept g h s a v goes none (begins count is_open no_call unspent) i = grind (arith, append-nil)
all_kept g h s a v goes none (takes entry call place opened left at valid) i = grind arith
all_kept g h s a v goes none (drops call place opened left at invalid) i = grind (arith, common_steps, (cases_Bool g.linux))
all_kept g h s a v goes none (closes accepted missed head call opened all counted) i = grind (arith, append-nil)
all_kept g h s a v goes none _ i = i

all_taken : (g : Setup) (h : History) → g.stops ≡ false → (g.linux ≡ true → count_by drops_word h ≡ 0)
    → IsLawfulApart g h → TakesAll h (world g h)
all_taken g [] goes none lawful = refl
all_taken g ((s, a) ∷ before) goes none lawful =
    all_kept g before s a _ goes none (submission_move g s a before lawful)
    (all_taken g before goes (λ linux. omega (arith, none linux, sum_by-cons (λ e. cond (drops_word e) 1 0) (s, a) before)) lawful.1)

pub calls_take_all : (g : Setup) → CallsTakeAll g
calls_take_all g h goes none lawful = grind (arith, direct_submission, all_taken, take_at)
