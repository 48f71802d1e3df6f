-- Worlds that are alike answer alike, and stay alike by each event, by either's rules: `alike_go_on`.
-- Each definition on requests and drains reads their lists only by what is found in them, so that the order of what started and ended is read by none.
-- Stable: other crates may import what is pub.
use Rattle.std.proofs.Common.{◌≡◌, ℕ, ℤ, true, List, [], ◌∷◌, sym, ap, ◌∙◌, rules}
use Rattle.uring_laws.proofs.Common.{AlikeAnswerAlike, AlikeGoOnAlike, Answer, AreAlike, CalledFor, Change, ChangeAnywhere, Drains, Ending, History, IsLawful, IsLawfulApart, Setup, StandAlike, Step, World, cancels, change_of, dooms, entries_from, files_ended, files_kept, files_of, finishes, happens, issue_answer, next_answer_of, no_bytes, refuses, requests_of, runs, with_end_of, world, is_in_turn, is_doomed, is_after_failure, found_by, targets_of, target_of, some_member, is_joined, keeps_back, is_found, is_candidate, is_target, is_in_faulty_group}
use Rattle.uring_core.proofs.Changes.{closes}
use Rattle.uring_core.specs.declared.step.Step.TheVariants as step
use Rattle.uring_core.specs.declared.answer.Answer.TheVariants as answer
use Rattle.uring_laws.proofs.AlikeRequests.{AreSame, ReadSame, read_same, listed, running_same, found_same}
use Rattle.uring_laws.proofs.AlikeLinux.{posts_same}
use Rattle.uring_laws.proofs.AlikeRules.{may_start_same, next_of_same, drains_called_same, drains_ended_same, issued_end_same, ended_same, pushed}
use Rattle.uring_laws.proofs.WholeLaws.{lawful_apart}

-- Answers.

abbrev with_lists : World → List ℕ → List ℕ → List Ending → Drains → World
with_lists w s c e d = record w { requests = listed w.requests s c e; drains = d }

-- by either's rules, with other lists of which the same is read, and with the same drains by Linux's
module _ (g : Setup) (w : World) (s c : List ℕ) (e : List Ending) (d : Drains) (a : ReadSame w.requests s c e) (same : g.linux ≡ true → w.drains ≡ d) where
  pub issue_same : (n : ℕ) → issue_answer g (with_lists w s c e d) n ≡ issue_answer g w n
  unfolding is_in_turn is_in_faulty_group is_doomed is_after_failure found_by targets_of target_of some_member is_joined
  issue_same n =
      simp (may_start_same (requests_of w) s c e a g.linux d same n, a.started, a.cancelled, a.ended, a.failed, keeps_back, is_found, is_candidate, is_target, found_same w.requests s c e a)

  called_same : files_of g w ≡ files_of g (with_lists w s c e d) → (x : Step) (b : Answer) → CalledFor g w x b
      → CalledFor g (with_lists w s c e d) x b
  called_same files (step.Issue n) b called = called ∙ sym (issue_same n)
  called_same files (step.Finish n) b called = rw (running_same w.requests s c e a n) (rw files at called)
  called_same files step.Next b called =
      called ∙ ap next_answer_of (sym (next_of_same (requests_of w) s c e a g.linux d same))
  called_same files _ b called = called

-- a world that is alike is the same but for the lists of requests
same_but : (g : Setup) (v w : World) → AreAlike g v w
    → with_lists v w.requests.started w.requests.cancelled w.requests.ended w.drains ≡ w
same_but g v w al = search rules

lists_of : (g : Setup) (v w : World) → AreAlike g v w
    → AreSame v.requests w.requests.started w.requests.cancelled w.requests.ended
lists_of g v w al = search rules

pub alike_answer : (g : Setup) → AlikeAnswerAlike g
alike_answer g v w s a al called =
    let same = same_but g v w al in
    rw same at (called_same g v w.requests.started w.requests.cancelled w.requests.ended w.drains (read_same v.requests w.requests.started w.requests.cancelled w.requests.ended (lists_of g v w al)) al.drains (al.files ∙ ap (files_of g) (sym same)) s a called)

-- What each event makes of worlds that are alike.

-- alike but for the files
pub record HaveSameRings (g : Setup) (v w : World) : Type 0 where
  pub submission : v.submission ≡ w.submission
  pub requests : StandAlike v.requests w.requests
  pub completions : v.completions ≡ w.completions
  pub is_closed : v.is_closed ≡ w.is_closed
  pub drains : g.linux ≡ true → v.drains ≡ w.drains

pub with_files : (g : Setup) (v w : World) → HaveSameRings g v w → files_of g v ≡ files_of g w → AreAlike g v w
with_files g v w rings files = assumption (rings, files)

module _ (g : Setup) (v : World) (s c : List ℕ) (e : List Ending) (d : Drains) (a : AreSame v.requests s c e) (same : g.linux ≡ true → v.drains ≡ d) where
  posted_same : (n : ℕ) (res : ℤ) (bytes : List ℕ)
      → with_end_of g v n res bytes ≡ with_end_of g (with_lists v s c e d) n res bytes
  posted_same n res bytes = sym (rw (posts_same v.requests s c e (read_same v.requests s c e a) n res))

  issued_rings : (n : ℕ) (res : ℤ) (bytes : List ℕ)
      → HaveSameRings g (happens g v (step.Issue n) (answer.Ended res bytes)) (happens g (with_lists v s c e d) (step.Issue n) (answer.Ended res bytes))
  issued_rings n res bytes =
      search (rules, issued_end_same (requests_of v) s c e a g.linux n res, posted_same n res no_bytes, drains_ended_same (requests_of v) s c e a g.linux d)

  rings_then : (x : Step) (b : Answer) → Change g v x b
      → HaveSameRings g (happens g v x b) (happens g (with_lists v s c e d) x b)
  rings_then x b (refuses _ _ still silent) = search rules
  rings_then x b (closes accepted missed head call opened all told) =
      let drains = λ (is : g.linux ≡ true). drains_called_same (requests_of v) s c e (read_same v.requests s c e a) g.linux d (same is) (entries_from v.submission call.count) in
      rw opened (search (rules, drains, a.started, a.cancelled, a.ended))
  rings_then x b (runs n outstanding idle spared ready no_cancel) = search (rules, pushed)
  rings_then x b (dooms n outstanding idle doomed) = search (rules, issued_rings)
  rings_then x b (cancels n outstanding idle spared ready cancel) = search (rules, issued_rings)
  rings_then x b (finishes n res bytes running) =
      search (rules, ended_same (requests_of v) s c e a n res bytes, posted_same n res bytes, drains_ended_same (requests_of v) s c e a g.linux d)
  rings_then x b _ = search (rules, a.started, a.cancelled, a.ended)

pub alike_then : (g : Setup) (h k : History) (s : Step) (a : Answer) → IsLawful g ((s, a) ∷ h)
    → IsLawful g ((s, a) ∷ k) → AreAlike g (world g h) (world g k)
    → AreAlike g (world g ((s, a) ∷ h)) (world g ((s, a) ∷ k))
alike_then g h k s a lawful other al =
    let v : World = world g h in
    let w : World = world g k in
    let apart : IsLawfulApart g ((s, a) ∷ h) = lawful_apart g ((s, a) ∷ h) lawful in
    let rings = rw (same_but g v w al) at (rings_then g v w.requests.started w.requests.cancelled w.requests.ended w.drains (lists_of g v w al) al.drains s a (change_of g v s a apart.0)) in
    with_files g (happens g v s a) (happens g w s a) rings (let lawful_k = lawful_apart g ((s, a) ∷ k) other in let f : files_of g (world g ((s, a) ∷ h)) ≡ files_of g (world g ((s, a) ∷ k)) = search (rules, files_kept, files_ended) in f)

pub alike_go_on : (g : Setup) → AlikeGoOnAlike g
alike_go_on g [] h k lawful al next = record { lawful = lawful; alike = al }
alike_go_on g ((s, a) ∷ rest) h k lawful al next =
    search (rules, (alike_go_on g rest h k lawful al next.1), alike_answer, alike_then)

pub change_anywhere : (g : Setup) → ChangeAnywhere g
change_anywhere g rest h x y c lawful = search (rules, alike_go_on)
