-- A history without its bytes makes the world without them, and is lawful apart if the history is; and back, if what is reaped has the bytes that were posted.
use Rattle.std.proofs.Common.{◌≡◌, ℕ, ℤ, ◌+◌, ◌-◌, ◌==◌, ◌&&◌, nat_lt, Bool, true, false, min, List, [], ◌∷◌, length, map, Option, Some, None, if◌then◌else◌, refl, sym, ap, subst, ◌∙◌, arith}
use Rattle.uring_effect_points.proofs.Common.{Answer, CalledForApart, Cqe, FinishesApart, History, IsLawfulApart, Setup, Sqe, Step, World, blank, blank_answer, blank_completion, ending, ending_of, happens, is_running, length-map, map-append, next_answer_of, no_bytes, option_map, reap_answer_of, requests_of, slice_get, slice_get-map, with_end_of, world}
use Rattle.uring_core.specs.World.{taking}
use Rattle.uring_entry.specs.Completions.{Completions, completion_for, has_room, next_to_reap, put_by_flush, with_posted}
use Rattle.uring_entry.specs.IndexWords.{word_of}
use Rattle.uring_entry.specs.Submission.{Call, entries_from}
use Rattle.uring_linux.specs.Drains.{Drains}
use Rattle.uring_core.specs.declared.step.Step.TheVariants as step
use Rattle.uring_core.specs.declared.answer.Answer.TheVariants as answer
use Rattle.uring_effect_points.proofs.BlankRequests.{blank_requests, ends_same, running_same}
use Rattle.uring_effect_points.proofs.BlankRules.{drains_called_same, drains_ended_same, issue_same, issued_same, next_same, posts_same}

abbrev pub blank_completions : Completions → Completions
blank_completions l =
    record l { posted = map blank_completion l.posted; reaped = map blank_completion l.reaped }

abbrev pub blank_world : World → World
blank_world w =
    record w { requests = blank_requests w.requests; completions = blank_completions w.completions }

-- ---- what an event makes

room_same : (size : ℕ) (l : Completions) → has_room size (blank_completions l) ≡ has_room size l
room_same size l = ap (λ (n : ℕ). (l.put == n) && nat_lt (l.put - l.seen_head) size) (length-map l.posted blank_completion)

posted_same : (size : ℕ) (l : Completions) (e : Sqe) (res : ℤ) (bytes : List ℕ) (posts : Bool)
    → (if posts then with_posted size (blank_completions l) (completion_for e res no_bytes) else blank_completions l)
    ≡ blank_completions (if posts then with_posted size l (completion_for e res bytes) else l)
posted_same size l e res bytes false = refl
posted_same size l e res bytes true = λ i. record {
  posted = sym (map-append blank_completion l.posted (completion_for e res bytes ∷ [])) i;
  put = if room_same size l i then l.put + 1 else l.put;
  reaped = map blank_completion l.reaped;
  head = l.head;
  seen_head = l.seen_head;
  seen_tail = l.seen_tail;
}

end_same : (g : Setup) (w : World) (n : ℕ) (res : ℤ) (bytes : List ℕ)
    → with_end_of g (blank_world w) n res no_bytes ≡ blank_completions (with_end_of g w n res bytes)
end_same g w n res bytes = grind (arith, posts_same, posted_same)

put_same : (size : ℕ) (l : Completions) → put_by_flush size (blank_completions l) ≡ put_by_flush size l
put_same size l = ap (λ (n : ℕ). min n (l.head + size)) (length-map l.posted blank_completion)

reap_same : (l : Completions) → next_to_reap (blank_completions l) ≡ option_map blank_completion (next_to_reap l)
reap_same l =
    ap (λ (n : ℕ). if n == l.seen_tail then None else slice_get (map blank_completion l.posted) n) (length-map l.reaped blank_completion)
    ∙ ap (λ (o : Option Cqe). if length l.reaped == l.seen_tail then None else o) (slice_get-map blank_completion l.posted (length l.reaped))
    ∙ grind arith

take_made : (g : Setup) (w : World) (a : Answer) → taking g (blank_world w) a ≡ blank_world (taking g w a)
take_made g w a = grind arith

ending_made : (g : Setup) (w : World) (call : Option Call) → ending_of g (blank_world w) call ≡ blank_world (ending_of g w call)
ending_made g w None = refl
ending_made g w (Some call) =
    ap (λ (d : Drains). record (blank_world (ending_of g w (Some call))) { drains = d }) (drains_called_same g.linux (requests_of w) (entries_from w.submission call.count))

end_made : (g : Setup) (w : World) (a : Answer) → ending g (blank_world w) a ≡ blank_world (ending g w a)
end_made g w (answer.Taken accepted missed head) = ending_made g w w.submission.call
end_made g w _ = refl

pub made_same : (g : Setup) (w : World) (s : Step) (a : Answer)
    → happens g (blank_world w) s (blank_answer s a) ≡ blank_world (happens g w s a)
made_same g w (step.Fill slot entry) answer.Filled = refl
made_same g w (step.Index word) answer.Staged = refl
made_same g w (step.Begin count) (answer.Call length) = refl
made_same g w step.Take a = take_made g w a
made_same g w step.End a = end_made g w a
made_same g w (step.Issue n) answer.Run = refl
made_same g w (step.Issue n) (answer.Ended res bytes) = λ i. record {
  submission = w.submission;
  requests = issued_same g.linux w.requests n res i;
  drains = drains_ended_same g.linux (requests_of w) n res i;
  completions = end_same g w n res no_bytes i;
  is_closed = w.is_closed;
}
made_same g w (step.Finish n) (answer.Ended res bytes) = λ i. record {
  submission = w.submission;
  requests = record { accepted = w.requests.accepted; cuts = w.requests.cuts; started = w.requests.started; cancelled = w.requests.cancelled; ended = ends_same w.requests.ended n res bytes i };
  drains = drains_ended_same g.linux (requests_of w) n res i;
  completions = end_same g w n res bytes i;
  is_closed = w.is_closed;
}
made_same g w step.Flush a = ap (λ (n : ℕ). record w { requests = blank_requests w.requests; completions = record (blank_completions w.completions) { put = n; seen_head = w.completions.head } }) (put_same g.cq w.completions)
made_same g w step.Reap (answer.Reaped c) = λ i. record {
  submission = w.submission;
  requests = blank_requests w.requests;
  drains = w.drains;
  completions = record (blank_completions w.completions) { reaped = sym (map-append blank_completion w.completions.reaped (c ∷ [])) i };
  is_closed = w.is_closed;
}
made_same g w step.StoreCqHead a = ap (λ (n : ℕ). record w { requests = blank_requests w.requests; completions = record (blank_completions w.completions) { head = n } }) (length-map w.completions.reaped blank_completion)
made_same g w step.Close answer.Shut = refl
made_same g w _ _ = refl

pub world_same : (g : Setup) (h : History) → world g (map blank h) ≡ blank_world (world g h)
world_same g [] = refl
world_same g ((s, a) ∷ h) = grind (arith, (world_same g h), made_same)

-- ---- what is called for

-- what is reaped has the bytes that were posted
abbrev pub ReapMeets : World → Step → Answer → Type 0
ReapMeets w step.Reap (answer.Reaped c) =
    (d : Cqe) → next_to_reap w.completions ≡ Some d → c.payload ≡ d.payload
ReapMeets w s a = Unit {0}

reaped_blank : (o : Option Cqe) → blank_answer step.Reap (reap_answer_of o) ≡ reap_answer_of (option_map blank_completion o)
reaped_blank o = grind arith

finish_blank : (b : Bool) (n : ℕ) (a : Answer) → FinishesApart b a → FinishesApart b (blank_answer (step.Finish n) a)
finish_blank b n a called = grind arith

flush_same : (g : Setup) (l : Completions)
    → answer.Moved (put_by_flush g.cq (blank_completions l) - l.put) ≡ answer.Moved (put_by_flush g.cq l - l.put)
flush_same g l = ap (λ (n : ℕ). answer.Moved (n - l.put)) (put_same g.cq l)

head_same : (g : Setup) (l : Completions)
    → answer.Head (word_of g.start (length (map blank_completion l.reaped))) ≡ answer.Head (word_of g.start (length l.reaped))
head_same g l = ap (λ (n : ℕ). answer.Head (word_of g.start n)) (length-map l.reaped blank_completion)

pub called_blank : (g : Setup) (w : World) (s : Step) (a : Answer) → CalledForApart g w s a
    → CalledForApart g (blank_world w) s (blank_answer s a)
called_blank g w (step.Issue n) a called = called ∙ sym (issue_same g w (blank_world w) n refl)
called_blank g w (step.Finish n) a called =
    subst (λ b. FinishesApart b (blank_answer (step.Finish n) a)) (sym (running_same w.requests n)) (finish_blank (is_running w.requests n) n a called)
called_blank g w step.Flush a called = called ∙ sym (flush_same g w.completions)
called_blank g w step.Reap a called =
    ap (blank_answer step.Reap) called ∙ reaped_blank (next_to_reap w.completions) ∙ ap reap_answer_of (sym (reap_same w.completions))
called_blank g w step.StoreCqHead a called = called ∙ sym (head_same g w.completions)
called_blank g w step.Next a called = called ∙ ap next_answer_of (sym (next_same g.linux (requests_of w)))
called_blank g w _ a called = called

finish_back : (b : Bool) (n : ℕ) (a : Answer) → FinishesApart b (blank_answer (step.Finish n) a) → FinishesApart b a
finish_back b n a called = grind arith

reap_back : (o : Option Cqe) (w : World) (a : Answer) → next_to_reap w.completions ≡ o
    → blank_answer step.Reap a ≡ reap_answer_of (option_map blank_completion o) → ReapMeets w step.Reap a
    → a ≡ reap_answer_of o
reap_back o w a next called meets = grind arith

pub called_back : (g : Setup) (w : World) (s : Step) (a : Answer)
    → CalledForApart g (blank_world w) s (blank_answer s a) → ReapMeets w s a → CalledForApart g w s a
called_back g w (step.Issue n) a called meets = called ∙ issue_same g w (blank_world w) n refl
called_back g w (step.Finish n) a called meets =
    finish_back (is_running w.requests n) n a (subst (λ b. FinishesApart b (blank_answer (step.Finish n) a)) (running_same w.requests n) called)
called_back g w step.Flush a called meets = called ∙ flush_same g w.completions
called_back g w step.Reap a called meets =
    reap_back (next_to_reap w.completions) w a refl (called ∙ ap reap_answer_of (reap_same w.completions)) meets
called_back g w step.StoreCqHead a called meets = called ∙ head_same g w.completions
called_back g w step.Next a called meets = called ∙ ap next_answer_of (next_same g.linux (requests_of w))
called_back g w _ a called meets = called

pub lawful_blank : (g : Setup) (h : History) → IsLawfulApart g h → IsLawfulApart g (map blank h)
lawful_blank g [] lawful = lawful
lawful_blank g ((s, a) ∷ h) lawful =
    (subst (λ (w : World). CalledForApart g w s (blank_answer s a)) (sym (world_same g h)) (called_blank g (world g h) s a lawful.0), lawful_blank g h lawful.1)
