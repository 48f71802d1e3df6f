-- How many elements a call may need in one list, by how many steps were made and the submission ring's size.
-- Stable: other crates may import `accepted_within`.
use Rattle.std.proofs.Common.{◌≡◌, ℕ, ◌+◌, ◌≤◌, [], ◌∷◌, drop, length, suc, arith}
use Rattle.uring_core.proofs.Common.{Answer, Core, FitsApart, History, IsLawfulApart, Setup, Step, World, call_length, length-append, open_taken, taken, world}
use Rattle.uring_core.proofs.CoreTakes.{few_entries}
use Rattle.uring_core.proofs.Sound.{sound_of}
use Rattle.uring_core.proofs.SubmissionMoves.{SubmissionMove, stays, takes, drops, closes, submission_move}
use Rattle.std.proofs.lemmas.List.{length-drop}

-- the requests accepted, and what the open call took, are at most one more after a step
moved_within : (g : Setup) (w : World) (s : Step) (a : Answer) (v : World) → SubmissionMove g w s a v
    → (n : ℕ) → length w.requests.accepted + open_taken w.submission.call ≤ n
    → length v.requests.accepted + open_taken v.submission.call ≤ suc n
moved_within g w s a v (stays _ _ r c is_closed off leaves) n few = grind arith
moved_within g w s a v (closes accepted missed head call opened all counted) n few =
    let before : length w.requests.accepted + call.taken ≤ n = rw opened at few in
    grind (arith, before, (few_entries (drop (taken w.submission) w.submission.published) call.count), (length-append w.requests.accepted))
moved_within g w s a v (takes entry call place opened left at valid) n few =
    let before : length w.requests.accepted + call.taken ≤ n = rw opened at few in
    let after : length w.requests.accepted + (call.taken + 1) ≤ suc n = omega (arith, before) in
    after
moved_within g w s a v (drops call place opened left at invalid) n few =
    let before : length w.requests.accepted + call.taken ≤ n = rw opened at few in
    let after : length w.requests.accepted + (call.taken + 1) ≤ suc n = omega (arith, before) in
    after
moved_within g w s a v _ n few = grind arith

-- so there are at most as many as steps
pub accepted_within : (g : Setup) (h : History) → IsLawfulApart g h
    → length (world g h).requests.accepted + open_taken (world g h).submission.call ≤ length h
accepted_within g [] lawful = grind arith
accepted_within g ((s, a) ∷ before) lawful =
    moved_within g (world g before) s a _ (submission_move g s a before lawful) (length before) (accepted_within g before lawful.1)

-- a call has at most as many positions as the ring
pub positions_within : (g : Setup) (h : History) → IsLawfulApart g h → (count : ℕ)
    → call_length (world g h).submission count ≤ g.sq
positions_within g h lawful count = grind (arith, (sound_of g h lawful).submission)

-- the requests of such a call and those before it, and the completions that may wait once all have ended
pub record IsFew (p : Core) (h : History) (n : ℕ) : Type 0 where
  pub requests : p.dispatch.accepted + n ≤ length h + p.setup.sq
  pub ends : length p.cq.overflow + p.dispatch.outstanding + n ≤ length h + p.setup.sq

pub few_wanted : (p : Core) (h : History) (count n : ℕ) → FitsApart p h
    → n ≡ call_length (world p.setup h).submission count → IsFew p h n
few_wanted p h count n f is =
    let accepted = accepted_within p.setup h f.lawful in
    let positions = positions_within p.setup h f.lawful count in
    let same = f.shows.requests.accepted in
    let posts = f.shows.posts in
    record {
      requests = omega (arith, accepted, positions, same, is);
      ends = omega (arith, accepted, positions, same, is, posts, waits);
    }
  where
    waits : length p.cq.overflow ≤ length (world p.setup h).completions.posted
    waits = grind (arith, f.shows.completions.waiting, (length-drop (world p.setup h).completions.put (world p.setup h).completions.posted))
