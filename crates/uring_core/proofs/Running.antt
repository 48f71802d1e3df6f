-- What runs in a lawful history can be asked of files: its entry has no fault, since a faulty request is doomed, and it is no cancel, since a cancel ends as it is issued.
-- By `Moves` and induction over the history for the cancels, and by `started_right` for the faults.
-- Stable: other crates may import `running_asks`, `runs_with`, `no_cancel` and `entry_stays`.
use Rattle.std.proofs.Common.{◌≡◌, ℕ, ◌<◌, List, [], ◌∷◌, length, Bool, true, false, Option, Some, IfSome, arith}
use Rattle.uring_core.proofs.Common.{Answer, Core, FitsApart, History, IsCore, IsLawfulApart, LinuxRequests, Op, Requests, Setup, Sqe, Step, and_parts, cond_some, entry_of, eqb-true, get_or_append_left, has_started, is_cancel, is_running, operation_of, operation_running, requests_of, with_call, world, zero_entry}
use Rattle.uring_files.specs.Operations.{IsForFiles}
use Rattle.uring_files.proofs.Prepared.{prepared}
use Rattle.uring_core.proofs.Moves.{Move, move_of}
use Rattle.uring_core.proofs.Sound.{sound_of}
use Rattle.uring_core.proofs.ListCounts.{any_new}
use Rattle.uring_core.proofs.SoundRequests.{IsSoundRequests}
use Rattle.uring_core.proofs.Changes.{not_some}

-- a request's entry stays as more are accepted
pub entry_stays : (r : Requests) (entries : List Sqe) (n : ℕ) → n < length r.accepted
    → entry_of (with_call r entries) n ≡ entry_of r n
entry_stays r entries n lt = get_or_append_left r.accepted entries zero_entry n lt

-- no cancel was started
abbrev NoCancel : Requests → Type 0
NoCancel r = (n : ℕ) → has_started r n ≡ true → is_cancel (entry_of r n) ≡ false

no_cancel_kept : (linux : Bool) (l : LinuxRequests) (q : Requests) (s : Step) (a : Answer)
    → Move linux l s a q → IsSoundRequests l.requests → NoCancel l.requests → NoCancel q
no_cancel_kept linux l q s a move i none = grind (arith, entry_stays, any_new, eqb-true)

pub no_cancel : (g : Setup) (h : History) → IsLawfulApart g h → NoCancel (world g h).requests
no_cancel g [] lawful = λ n started. absurd (let f : false ≡ true = started in cc)
no_cancel g ((s, a) ∷ before) lawful =
    no_cancel_kept g.linux (requests_of (world g before)) _ s a (move_of g s a before lawful)
    (sound_of g before lawful.1).requests (no_cancel g before lawful.1)

-- the operation of a running request can be asked of files
pub running_asks : (g : Setup) (h : History) (n : ℕ) → IsLawfulApart g h
    → is_running (world g h).requests n ≡ true
    → IsForFiles (operation_of (entry_of (world g h).requests n))
running_asks g h n lawful running = grind (arith, sound_of, and_parts, prepared, not_some, no_cancel)

-- what runs has this operation
pub runs_with : (r : Requests) (n : ℕ) (op : Op) → Some op ≡ operation_running r n
    → (is_running r n ≡ true) × (op ≡ operation_of (entry_of r n))
runs_with r n op e = grind (arith, cond_some)

-- what runs can be asked of files
pub asks_files : (core : Core) (n : ℕ) (r : Option Op) → IsCore core
    → ((h : History) → FitsApart core h → r ≡ operation_running (world core.setup h).requests n)
    → IfSome r IsForFiles
asks_files core n r some is = grind (arith, runs_with, running_asks)
