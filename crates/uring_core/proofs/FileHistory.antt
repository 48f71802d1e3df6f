-- What an event makes of the files of a history: a Finish that ends its request does what its operation does (`files_ended`), and no other step changes a file (`files_kept`).
-- From `Moves`: doomed requests end with a fault and cancels are on no file, so their ends change none.
-- Stable: other crates may import `files_ended`, `files_kept` and `files_kept_from`.
use Rattle.std.proofs.Common.{if◌then◌else◌, ◌≡◌, ℕ, ℤ, negsuc, ◌==◌, List, [], ◌∷◌, ◌++◌, Bool, true, cond, refl, ◌∙◌, ap, arith}
use Rattle.uring_core.proofs.Common.{Answer, Ending, History, IsLawfulApart, IsNoFinish, LinuxRequests, Op, Requests, Setup, Step, entry_of, is_faulty, is_refused_drain, list_any, operation_of, requests_of, with_call, with_ended, world}
use Rattle.uring_rules.specs.Rules.{doomed_result, cancel_result, with_issued_end}
use Rattle.uring_entry.proofs.Preparations.{asks_cancel}
use Rattle.uring_files.specs.Contents.{FileContents, empty_files}
use Rattle.uring_files.specs.Operations.{after}
use Rattle.uring_files.proofs.OperationCases.{failed}
use Rattle.uring_core.specs.CalledFor.{files_after, files_of}
use Rattle.uring_core.proofs.Moves.{Move, accepts, ends_doomed, ends_cancel, move_of}
use Rattle.uring_core.proofs.Running.{entry_stays}
use Rattle.uring_core.proofs.Sound.{sound_of}
use Rattle.uring_core.proofs.SoundRequests.{IsSoundRequests}

-- the files depend on no entries but those of what ended
files_same : (r q : Requests) (files : List FileContents) (ends : List Ending)
    → ((n : ℕ) → list_any (λ e. e.number == n) ends ≡ true → entry_of q n ≡ entry_of r n)
    → files_after q files ends ≡ files_after r files ends
files_same r q files [] same = refl
files_same r q files (e ∷ later) same = grind (arith, (files_same r q (after files (operation_of (entry_of r e.number)) e.res) later))

-- the last end comes last
files_more : (r : Requests) (files : List FileContents) (ends : List Ending) (e : Ending)
    → files_after r files (ends ++ e ∷ [])
    ≡ after (files_after r files ends) (operation_of (entry_of r e.number)) e.res
files_more r files [] e = refl
files_more r files (first ∷ later) e =
    files_more r (after files (operation_of (entry_of r first.number)) first.res) later e

-- Ends that change no file.

doomed_changes_none : (files : List FileContents) (op : Op) (drain faulty linux : Bool)
    → after files op (if linux then cond drain (negsuc 94) (cond faulty (negsuc 21) (negsuc 124)) else cond faulty (negsuc 21) (negsuc 124)) ≡ files
doomed_changes_none files op drain faulty linux = grind (arith, failed)

-- what an end makes of the files
pub files_ended : (r : Requests) (n : ℕ) (res : ℤ) (bytes : List ℕ) (files : List FileContents)
    → files_after (with_ended r n res bytes) files (with_ended r n res bytes).ended
    ≡ after (files_after r files r.ended) (operation_of (entry_of r n)) res
files_ended r n res bytes files = grind (arith, files_same, files_more)

issued_end : (linux : Bool) (r : Requests) (n : ℕ) (res : ℤ) (files : List FileContents)
    → files_after (with_issued_end linux r n res) files (with_issued_end linux r n res).ended
    ≡ after (files_after r files r.ended) (operation_of (entry_of r n)) res
issued_end linux r n res files = grind (arith, files_same, files_more)

move_keeps : (linux : Bool) (l : LinuxRequests) (q : Requests) (s : Step) (a : Answer) (files : List FileContents)
    → Move linux l s a q → IsNoFinish s → IsSoundRequests l.requests
    → files_after q files q.ended ≡ files_after l.requests files l.requests.ended
move_keeps linux l q s a files (accepts accepted missed head entries) other i = files_same l.requests (with_call l.requests entries) files l.requests.ended (λ n there. entry_stays l.requests entries n (i.ended_accepted n there))
move_keeps linux l q s a files (ends_doomed n outstanding) other i =
    issued_end linux l.requests n (doomed_result linux l.requests n) files
    ∙ doomed_changes_none _ (operation_of (entry_of l.requests n)) (is_refused_drain l.requests n) (is_faulty (entry_of l.requests n)) linux
move_keeps linux l q s a files (ends_cancel n outstanding spared ready cancel) other i =
    issued_end linux l.requests n (cancel_result linux l.requests n) files
    ∙ ap (λ op. after (files_after l.requests files l.requests.ended) op (cancel_result linux l.requests n)) (asks_cancel (entry_of l.requests n) cancel)
move_keeps linux l q s a files _ other i = grind (arith, files_same)

-- a step but a finish leaves the files as they are, whatever files there were at first
pub files_kept_from : (first : List FileContents) (g : Setup) (s : Step) (a : Answer) (before : History)
    → IsLawfulApart g ((s, a) ∷ before) → IsNoFinish s
    → files_after (world g ((s, a) ∷ before)).requests first (world g ((s, a) ∷ before)).requests.ended
    ≡ files_after (world g before).requests first (world g before).requests.ended
files_kept_from first g s a before lawful other =
    move_keeps g.linux (requests_of (world g before)) _ s a first (move_of g s a before lawful) other
    (sound_of g before lawful.1).requests

pub files_kept : (g : Setup) (s : Step) (a : Answer) (before : History)
    → IsLawfulApart g ((s, a) ∷ before) → IsNoFinish s
    → files_of g (world g ((s, a) ∷ before)) ≡ files_of g (world g before)
files_kept g s a before lawful other =
    files_kept_from (empty_files g.files) g s a before lawful other
