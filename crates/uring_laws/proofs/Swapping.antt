-- Starts that change places with starts and ends, by either's rules: `starts_change`, `start_then_end` and `end_then_start`.
-- A start changes nothing that a definition reads but who runs; an end changes who has ended and failed, which counts for those alone that wait for it.
use Rattle.std.proofs.Common.{◌≡◌, ◌≢◌, ℕ, Bool, true, false, List, [], ◌∷◌, ◌++◌, sym, subst, ◌∙◌, append-nil, arith, rules}
use Rattle.uring_laws.proofs.Common.{AreAlike, CalledFor, ChangePlaces, EndThenStart, Ends, Event, History, IsLawful, IsOutcome, Outcome, Requests, Setup, StartThenEnd, StartsChange, Step, World, doomed_fails, ends_doomed, entry_of, files_kept, files_of, happens, has_ended, has_ended_same, is_outstanding, is_running, is_running_started_other, is_running_started_same, issue_answer, list_any, list_any_push, may_start, no_bytes, operation_of, requests_of, start_of, with_started, world}
use Rattle.uring_rules.specs.Rules.{doomed_result}
use Rattle.uring_core.specs.declared.step.Step.TheVariants as step
use Rattle.uring_core.specs.declared.answer.Answer.TheVariants as answer
use Rattle.uring_laws.proofs.StartedRequests.{CanStart, can_start, start_called, ends_doomed_started, posts_started, drains_ended_started, start_beside}
use Rattle.uring_laws.proofs.EndedRequests.{start_past, start_ahead, not_ended, either_order}
use Rattle.uring_laws.proofs.WholeLaws.{lawful_apart}

-- Worlds.

pub alike_same : (g : Setup) (v w : World) → v ≡ w → AreAlike g v w
alike_same g v w same = subst (AreAlike g v) same (search rules)

pub two_pushed : {X : Type 0} (p : X → Bool) (xs : List X) (x y : X)
    → list_any p ((xs ++ x ∷ []) ++ y ∷ []) ≡ list_any p ((xs ++ y ∷ []) ++ x ∷ [])
two_pushed p xs x y = simp list_any_push (either_order (list_any p xs) (p x) (p y))

-- the world with n started
abbrev pub begun : World → ℕ → World
begun w n = record w { requests = with_started w.requests n }

-- Two starts.

pub starts_change : (g : Setup) → StartsChange g
starts_change g h m n lawful =
    let w : World = world g h in
    let one : CanStart g.linux (requests_of w) m = can_start g w m lawful.1.0 in
    let two : CanStart g.linux (requests_of (begun w m)) n = can_start g (begun w m) n lawful.0 in
    let differ : n ≢ m = grind (arith, is_running_started_same, not_ended) in
    let first = (start_beside g.linux (requests_of w) m n differ).1 two in
    let second = (start_beside g.linux (requests_of w) n m (λ e. differ (sym e))).0 one in
    record { lawful = (start_called g (begun w n) m second, (start_called g w n first, lawful.1.1)); alike = grind (arith, two_pushed, files_kept) }

-- A start and an end.

-- n ends so
abbrev pub ended : Setup → World → ℕ → Outcome → World
ended g w n x = happens g w (step.Finish n) (answer.Ended x.res x.bytes)

-- the end of a request that runs, or of a doomed one as it is issued
abbrev pub end_step : (runs : Bool) → ℕ → Step
end_step true n = step.Finish n
end_step false n = step.Issue n

abbrev pub end_by : (runs : Bool) → ℕ → Outcome → Event
end_by runs n x = (end_step runs n, answer.Ended x.res x.bytes)

-- n may end so: it runs and its operation gives this, or it is to end as doomed
abbrev pub MayEnd : Setup → World → (runs : Bool) → ℕ → Outcome → Type 0
MayEnd g w true n x = (is_running w.requests n ≡ true) × IsOutcome (files_of g w) (operation_of (entry_of w.requests n)) x
MayEnd g w false n x = (is_outstanding w.requests n ≡ true) × (is_running w.requests n ≡ false)
    × (ends_doomed g.linux w.requests n ≡ true) × (x ≡ record { res = doomed_result g.linux w.requests n; bytes = no_bytes })

-- an end that is called for, of one that is doomed if it doesn't run
pub may_end : (g : Setup) (w : World) (runs : Bool) (n : ℕ) (x : Outcome)
    → (runs ≡ false → ends_doomed g.linux w.requests n ≡ true)
    → CalledFor g w (end_step runs n) (answer.Ended x.res x.bytes) → MayEnd g w runs n x
may_end g w runs n x doomed called = grind arith

-- the step ends n so
pub record IsEnd (g : Setup) (w : World) (n : ℕ) (x : Outcome) (s : Step) : Type 0 where
  pub called : CalledFor g w s (answer.Ended x.res x.bytes)
  pub makes : happens g w s (answer.Ended x.res x.bytes) ≡ ended g w n x
  pub still : has_ended w.requests n ≡ false

pub is_end : (g : Setup) (w : World) (runs : Bool) (n : ℕ) (x : Outcome) → MayEnd g w runs n x
    → IsEnd g w n x (end_step runs n)
is_end g w runs n x may = grind (arith, doomed_fails, append-nil)

-- m may end after the start of n exactly if it could before it
may_same : (g : Setup) (w : World) (n m : ℕ) (x : Outcome) → m ≢ n → files_of g (begun w n) ≡ files_of g w → (runs : Bool)
    → (MayEnd g w runs m x → MayEnd g (begun w n) runs m x) × (MayEnd g (begun w n) runs m x → MayEnd g w runs m x)
may_same g w n m x differ files runs = grind (arith, is_running_started_other, ends_doomed_started)

-- both orders of a start and an end
both_orders : (g : Setup) (h : History) (runs : Bool) (m n : ℕ) (x : Outcome) → m ≢ n → MayEnd g (world g h) runs m x
    → CanStart g.linux (requests_of (world g h)) n → IsLawful g h
    → ChangePlaces g h (start_of n) (end_by runs m x) × ChangePlaces g h (end_by runs m x) (start_of n)
both_orders g h runs m n x differ may can lawful =
    let w : World = world g h in
    let started : IsLawful g (start_of n ∷ h) = (start_called g w n can, lawful) in
    let files : files_of g (begun w n) ≡ files_of g w = files_kept g (step.Issue n) answer.Run h (lawful_apart g (start_of n ∷ h) started) tt in
    let first : IsEnd g w m x (end_step runs m) = is_end g w runs m x may in
    let second : IsEnd g (begun w n) m x (end_step runs m) = is_end g (begun w n) runs m x ((may_same g w n m x differ files runs).0 may) in
    let could : CanStart g.linux (requests_of (ended g w m x)) n = start_past (requests_of w) m x.res x.bytes n first.still g.linux (λ e. differ (sym e)) can in
    let same : world g (end_by runs m x ∷ start_of n ∷ h) ≡ world g (start_of n ∷ end_by runs m x ∷ h) = grind (arith, second.makes, first.makes, (drains_ended_started g.linux (requests_of w) n m x.res), (posts_started g.linux w.requests n m x.res)) in
    let after : CalledFor g (world g (end_by runs m x ∷ h)) (step.Issue n) answer.Run = subst (λ u. answer.Run ≡ issue_answer g u n) (sym first.makes) (start_called g (ended g w m x) n could) in
    (record { lawful = (after, (first.called, lawful)); alike = alike_same g _ _ same }, record { lawful = (second.called, started); alike = alike_same g _ _ (sym same) })

-- an event that ends m, by what it is
pub data EndView (linux : Bool) (r : Requests) (m : ℕ) : Event → Type 0 where
  ends_by : (runs : Bool) (x : Outcome) → (runs ≡ false → ends_doomed linux r m ≡ true) → EndView linux r m (end_by runs m x)

pub view : (linux : Bool) (r : Requests) (m : ℕ) (e : Event) → Ends linux r m e → EndView linux r m e
view linux r m (step.Finish k, answer.Ended res bytes) is = rw is (ends_by true (record { res = res; bytes = bytes }) (λ no. absurd cc))
view linux r m (step.Issue k, answer.Ended res bytes) is =
    rw is.0 (ends_by false (record { res = res; bytes = bytes }) (λ idle. rw is.0 at is.1))
view linux r m _ is = absurd is

start_then : (g : Setup) (h : History) (m n : ℕ) (e : Event) → EndView g.linux (world g h).requests m e → m ≢ n
    → IsLawful g (e ∷ start_of n ∷ h) → ChangePlaces g h (start_of n) e
start_then g h m n e (ends_by runs x doomed) differ lawful =
    let w : World = world g h in
    let files : files_of g (begun w n) ≡ files_of g w = files_kept g (step.Issue n) answer.Run h (lawful_apart g (start_of n ∷ h) lawful.1) tt in
    let may : MayEnd g (begun w n) runs m x = may_end g (begun w n) runs m x (λ idle. ends_doomed_started g.linux w.requests n m ∙ doomed idle) lawful.0 in
    (both_orders g h runs m n x differ ((may_same g w n m x differ files runs).1 may) (can_start g w n lawful.1.0) lawful.1.1).0

pub start_then_end : (g : Setup) → StartThenEnd g
start_then_end g h m n e is differ lawful = search (rules, start_then, view)

then_start : (g : Setup) (h : History) (m n : ℕ) (e : Event) → EndView g.linux (world g h).requests m e
    → may_start g.linux (requests_of (world g h)) n ≡ true → IsLawful g (start_of n ∷ e ∷ h) → ChangePlaces g h e (start_of n)
then_start g h m n e (ends_by runs x doomed) ready lawful =
    let w : World = world g h in
    let may : MayEnd g w runs m x = may_end g w runs m x doomed lawful.1.0 in
    let end : IsEnd g w m x (end_step runs m) = is_end g w runs m x may in
    let could : CanStart g.linux (requests_of (ended g w m x)) n = can_start g (ended g w m x) n (subst (λ u. answer.Run ≡ issue_answer g u n) end.makes lawful.0) in
    let differ : n ≢ m = grind (arith, could.outstanding, (has_ended_same w.requests m x.res x.bytes)) in
    (both_orders g h runs m n x (λ e. differ (sym e)) may (start_ahead (requests_of w) m x.res x.bytes n end.still g.linux differ ready could) lawful.1.1).1

pub end_then_start : (g : Setup) → EndThenStart g
end_then_start g h m n e is ready lawful = then_start g h m n e (view g.linux (world g h).requests m e is) ready lawful
