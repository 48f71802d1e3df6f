-- What is so by the manual pages' rules and by Linux's. Other crates may import all of it.
use Rattle.std.proofs.Common.{◌≡◌, ℕ, ◌<◌, ℤ, neg_ℤ, Bool, true, false, not, ◌&&◌, ◌||◌, inl, inr, length, refl, ◌∙◌, rules}
use Rattle.std.specs.Prelude.{if◌then◌else◌}
use Rattle.std.proofs.lemmas.Bool.{and_parts, false_from_ne_true, both_ways, ltb-true}
use Rattle.uring_entry.specs.declared.errno.TheConstants.{EINVAL, EOPNOTSUPP, ECANCELED}
use Rattle.uring_entry.specs.declared.operation.Op.{Op}
use Rattle.uring_entry.specs.Preparation.{is_faulty, is_cancel, operation_of}
use Rattle.uring_entry.specs.Requests.{Requests, entry_of, is_outstanding, is_running}
use Rattle.uring_entry.proofs.RequestLemmas.{is_doomed_own_fault}
use Rattle.uring_dispatch.specs.declared.answers.Posts.{Posts}
use Rattle.uring_linux.specs.LinuxRequests as linux
use Rattle.uring_linux.specs.LinuxRequests.{LinuxRequests, is_in_turn, is_deferred, is_refused_drain}
use Rattle.uring_linux.proofs.Standings.{healthy}
use Rattle.uring_dispatch.specs.declared.answers.IssuedPosting.TheVariants.{Run, Ended, NotReady, Running, Unknown}
use Rattle.uring_rules.specs.Rules.{ends_doomed, may_start, doomed_result, cancel_result, is_issuable}
use Rattle.uring_rules.specs.RulesIssues.{issued, posts_of}
use Rattle.uring_rules.specs.RulesLaws.{is_refusal, IsPlain, IsDoomedResult, CancelEnds}

-- What an answer tells.

-- what is so of a request that starts
pub record Starts (is_linux : Bool) (l : LinuxRequests) (n : ℕ) : Type 0 where
  pub outstanding : is_outstanding l.requests n ≡ true
  pub idle : is_running l.requests n ≡ false
  pub spared : ends_doomed is_linux l.requests n ≡ false
  pub free : may_start is_linux l n ≡ true
  pub other : is_cancel (entry_of l.requests n) ≡ false

pub run_tells : (is_linux : Bool) (l : LinuxRequests) (n : ℕ) (op : Op) → issued is_linux l n ≡ Run op
    → Starts is_linux l n
run_tells is_linux l n op e = search rules

-- what may start and doesn't end as doomed has no fault
pub start_healthy : (is_linux : Bool) (l : LinuxRequests) (n : ℕ) → n < length l.requests.accepted
    → ends_doomed is_linux l.requests n ≡ false → may_start is_linux l n ≡ true
    → is_faulty (entry_of l.requests n) ≡ false
start_healthy true l n within spared free = search (rules, healthy)
start_healthy false l n within spared free = search (rules, false_from_ne_true, both_ways, is_doomed_own_fault)

pub start_plain : (is_linux : Bool) (l : LinuxRequests) (n : ℕ) → Starts is_linux l n
    → IsPlain (entry_of l.requests n)
start_plain is_linux l n s = record {
  healthy = start_healthy is_linux l n (ltb-true _ _ (and_parts _ _ s.outstanding).0) s.spared s.free;
  other = s.other;
}

-- Which can be issued.

refused_cases : (outstanding running doomed free cancel : Bool) (doom result : ℤ) (first second : Posts) (op : Op)
    → (outstanding && not running && (doomed || free))
    ≡ not (is_refusal (if not outstanding then Unknown else if running then Running else if doomed then Ended doom first else if not free then NotReady else if cancel then Ended result second else Run op))
refused_cases false running doomed free cancel doom result first second op = refl
refused_cases true true doomed free cancel doom result first second op = refl
refused_cases true false true free cancel doom result first second op = refl
refused_cases true false false false cancel doom result first second op = refl
refused_cases true false false true true doom result first second op = refl
refused_cases true false false true false doom result first second op = refl

turn_cases : (outstanding running turn doomed deferred : Bool)
    → (outstanding && (not running && (turn && (doomed || not deferred))))
    ≡ (outstanding && not running && ((turn && doomed) || (turn && not deferred)))
turn_cases false running turn doomed deferred = refl
turn_cases true true turn doomed deferred = refl
turn_cases true false false doomed deferred = refl
turn_cases true false true doomed deferred = refl

-- what can be issued is outstanding, doesn't run, and is to end as doomed or may start
pub issuable_is : (is_linux : Bool) (l : LinuxRequests) (n : ℕ)
    → is_issuable is_linux l n ≡ (is_outstanding l.requests n && not (is_running l.requests n) && (ends_doomed is_linux l.requests n || may_start is_linux l n))
issuable_is true l n =
    turn_cases (is_outstanding l.requests n) (is_running l.requests n) (is_in_turn l.requests n) (linux.is_doomed l.requests n) (is_deferred l n)
issuable_is false l n = refl

pub issuable_goes : (is_linux : Bool) (l : LinuxRequests) (n : ℕ)
    → is_issuable is_linux l n ≡ not (is_refusal (issued is_linux l n))
issuable_goes is_linux l n =
    let r = l.requests in
    issuable_is is_linux l n
    ∙ refused_cases (is_outstanding r n) (is_running r n) (ends_doomed is_linux r n) (may_start is_linux l n) (is_cancel (entry_of r n)) (doomed_result is_linux r n) (cancel_result is_linux r n)
    (posts_of is_linux r n (doomed_result is_linux r n)) (posts_of is_linux r n (cancel_result is_linux r n)) (operation_of (entry_of r n))

-- Results.

linux_doom : (drain own : Bool)
    → IsDoomedResult (if drain then neg_ℤ EOPNOTSUPP else if own then neg_ℤ EINVAL else neg_ℤ ECANCELED)
linux_doom true own = inr (inl refl)
linux_doom false true = inl refl
linux_doom false false = inr (inr refl)

manual_doom : (own : Bool) → IsDoomedResult (if own then neg_ℤ EINVAL else neg_ℤ ECANCELED)
manual_doom true = inl refl
manual_doom false = inr (inr refl)

pub doomed_fails : (is_linux : Bool) (r : Requests) (n : ℕ) → IsDoomedResult (doomed_result is_linux r n)
doomed_fails true r n = linux_doom (is_refused_drain r n) (is_faulty (entry_of r n))
doomed_fails false r n = manual_doom (is_faulty (entry_of r n))

pub cancel_tells : (is_linux : Bool) (r : Requests) (n : ℕ) → CancelEnds is_linux r n
cancel_tells true r n = search rules
cancel_tells false r n = search rules
