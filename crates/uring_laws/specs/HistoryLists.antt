-- The lists that a history has made are those that are read straight off it.
use Rattle.std.specs.Prelude.{◌≡◌, ◌↔◌, ℕ, ◌+◌, ◌-◌, ◌==◌, nat_lt, min, ℤ, Bool, true, ◌&&◌, List, [], ◌∷◌, ◌++◌, length, map, Option, Some, None, is_some, if◌then◌else◌, slice_get}
use Rattle.std.specs.List.{list_any}
use Rattle.std.specs.Option.{option_and_then}
use Rattle.uring_entry.specs.Setup.{Setup}
use Rattle.uring_entry.specs.Layout.{Cqe}
use Rattle.uring_entry.specs.Submission.{Place, accepted}
use Rattle.uring_entry.specs.Requests.{Requests, Ending, entry_of, is_cancelled}
use Rattle.uring_entry.specs.Completions.{completion_for}
use Rattle.uring_rules.specs.Rules.{posts as posts_end}
use Rattle.uring_core.specs.Histories.{Event, History, world}
use Rattle.uring_core.specs.Events.{closes_ring, is_flush, is_load_cq_tail, end_told_by, Chose}
use Rattle.uring_laws.specs.Direct.{with_told, before_last, starts, ends, reaps, posts, staged_words, published_words, slot_content, published_entry, open_call, call_counts, cut_counts, loaded_head, stored_head, flushed_head}
use Rattle.uring_core.specs.declared.step.Step.TheVariants as step
use Rattle.uring_core.specs.declared.answer.Answer.TheVariants as answer

-- the completion of an end, by the rules of the set-up and the requests just before it: none, if it posts none
abbrev pub completion_by : Setup → Requests → Ending → Option Cqe
completion_by g r e =
    if posts_end g.linux r e.number e.res then Some (completion_for (entry_of r e.number) e.res e.bytes) else None

-- the completion that an event posts which comes next
abbrev pub posted_by : Setup → History → Event → Option Cqe
posted_by g before event =
    option_and_then (completion_by g (world g before).requests) (end_told_by event)

-- the completions posted, in order
abbrev pub posts_told : Setup → History → List Cqe
posts_told g [] = []
posts_told g (event ∷ before) = with_told (posts_told g before) (posted_by g before event)

-- how many completions were posted
abbrev pub posted_count : Setup → History → ℕ
posted_count g h = length (posts_told g h)

-- whether an event that comes next posts a completion
abbrev pub posts_one : Setup → History → Event → Bool
posts_one g before event = is_some (posted_by g before event)

-- How many completions were put into the ring. One that is posted goes there if none waits in the overflow list and the ring has room above the head last loaded; a flush puts as many as fit above the head last stored. io_uring_setup(2), IORING_FEAT_NODROP; that flushing is a step of its own is our own rule
abbrev pub put_count : Setup → History → ℕ
put_count g [] = 0
put_count g (event ∷ before) =
    let there = put_count g before in
    let posted = posted_count g before in
    if is_flush event then min posted (stored_head before + g.cq) else
    if posts_one g before event && (there == posted) && nat_lt (there - flushed_head before) g.cq then there + 1 else there

-- the submission ring's lists
pub record OwnSubmission (g : Setup) (h : History) : Type 0 where
  pub content : (slot : ℕ) → (world g h).submission.content slot ≡ slot_content h slot
  pub published : map (λ place. place.word) (world g h).submission.published ≡ published_words h
  pub staged : published_words h ++ (world g h).submission.fresh ≡ staged_words h
  pub entries : (position : ℕ) (place : Place)
      → slice_get (world g h).submission.published position ≡ Some place
      → place.entry ≡ published_entry g.sq h position
  pub call : (world g h).submission.call ≡ open_call g h
  pub calls : (world g h).submission.calls ≡ call_counts h
  pub seen_head : (world g h).submission.seen_head ≡ loaded_head h
  pub is_closed : (world g h).is_closed ≡ list_any closes_ring h

-- the requests' lists
pub record OwnRequests (g : Setup) (h : History) : Type 0 where
  pub accepted_taken : (world g h).requests.accepted ≡ accepted (world g h).submission
  pub cuts : (world g h).requests.cuts ≡ cut_counts h
  pub started : (world g h).requests.started ≡ starts h
  pub ended : (world g h).requests.ended ≡ ends h

-- the completion ring's lists
pub record OwnCompletions (g : Setup) (h : History) : Type 0 where
  pub posted : (world g h).completions.posted ≡ posts_told g h
  pub put : (world g h).completions.put ≡ put_count g h
  pub reaped : (world g h).completions.reaped ≡ reaps h
  pub head : (world g h).completions.head ≡ stored_head h
  pub seen_head : (world g h).completions.seen_head ≡ flushed_head h
  pub seen_tail : (world g h).completions.seen_tail ≡ put_count g (before_last is_load_cq_tail h)

-- The completions posted are those of the ends, by the entries alone: so it is by the manual pages' rules.
abbrev pub OwnPosted : Setup → History → Type 0
OwnPosted g h = (world g h).completions.posted ≡ posts (world g h).requests.accepted h

-- a cancel ended, and chose m by what stood just before
pub record IsChosenIn (g : Setup) (h : History) (m : ℕ) : Type 0 where
  pub after : History
  pub before : History
  pub number : ℕ
  pub res : ℤ
  pub bytes : List ℕ
  pub split : h ≡ after ++ (step.Issue number, answer.Ended res bytes) ∷ before
  pub chose : Chose (world g before).requests number res m

-- whom cancels chose, by the manual pages' rules
abbrev pub OwnCancelled : Setup → History → Type 0
OwnCancelled g h = (m : ℕ) → (is_cancelled (world g h).requests m ≡ true) ↔ IsChosenIn g h m
