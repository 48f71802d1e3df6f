-- The laws `each_ends_once` and `least_can_go_on`.
-- From what is sound of the requests, and from what can be issued.
use Rattle.std.proofs.Common.{◌≡◌, ℕ, ◌==◌, true, false, Option, Some, None, length, refl, arith}
use Rattle.uring_laws.proofs.Common.{EachEndsOnce, History, IsLawfulApart, LeastCanGoOn, Setup, World, both_ways, by_manual, count_none, count_some, is_outstanding, least_below_out, least_below_some, least_below_tells, least_of, least_of_goes_on, lt-ltb, requests_of, sound_of, outstanding_tells, world}
use Rattle.uring_rules.specs.Rules.{is_issuable}
use Rattle.uring_core.proofs.Issuable.{issue_goes, issuable_outstanding}
use Rattle.uring_laws.proofs.ToldRequests.{tells_requests}

pub least_goes_on : (g : Setup) (w : World) (n : ℕ) → is_outstanding w.requests n ≡ true
    → LeastCanGoOn (by_manual g) w
least_goes_on g w n outstanding = by_least (least_of w.requests) refl where
  by_least : (least : Option ℕ) → least_of w.requests ≡ least → LeastCanGoOn (by_manual g) w
  by_least None e = absurd (both_ways _ (least_below_out (is_outstanding w.requests) (length w.requests.accepted) e n (outstanding_tells w.requests n outstanding).0) outstanding)
  by_least (Some m) e =
      record {
        least = m;
        is_least = e;
        goes_on = grind (arith, (least_of_goes_on w.requests m e), (least_below_tells (is_outstanding w.requests) (length w.requests.accepted) m e), (least_below_some (is_issuable false (requests_of w)) (length w.requests.accepted) m), (issuable_outstanding false (requests_of w)), (issue_goes (by_manual g) w m));
      }

pub ends_once : (g : Setup) (h : History) → IsLawfulApart g h → EachEndsOnce g h
ends_once g h lawful =
    let s = (sound_of g h lawful).requests in
    let t = tells_requests g h lawful in
    record {
      starts_once = λ n. rw t.started (s.starts_once n);
      ends_once = λ n. rw t.ended (s.ends_once n);
      accepted_start = λ n some. grind (arith, (s.started_accepted n), (count_none (λ m. m == n) (world g h).requests.started), t.started);
      accepted_end = λ n some. grind (arith, (s.ended_accepted n), (count_none (λ e. e.number == n) (world g h).requests.ended), t.ended);
      all_end = λ none n within. rw t.ended (grind (arith, (s.ends_once n), (none n), lt-ltb, count_some));
    }
