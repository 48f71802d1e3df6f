-- Who runs, or is to end as doomed, in a lawful history: by Linux's rules all earlier members of its group have ended, and it isn't deferred.
use Rattle.std.proofs.Common.{◌≡◌, ℕ, true, subst, arith, false}
use Rattle.uring_laws.proofs.Common.{History, IsBetween, IsLawfulApart, LinuxRequests, Setup, all_between, and_parts, both_ways, ends_doomed, false_from_ne_true, held_by, history_happens, is_in_turn, is_outstanding, is_running, not_doomed, outstanding_tells, requests_of, sound_of, world, is_in_some}
use Rattle.uring_linux.specs.LinuxRequests.{is_doomed}
use Rattle.uring_laws.proofs.EndedRequests.{IsApart}
use Rattle.uring_laws.proofs.LinuxSound.{IsFirst, of_linux, linux_sound, turn_first, IsSoundLinux}

-- what is so of the requests and drains of a lawful history by Linux's rules, whatever happened
pub between : (g : Setup) (h : History) → IsLawfulApart g h → g.linux ≡ true
    → IsBetween (requests_of (world g h))
between g h lawful is =
    of_linux (λ g. (h : History) → IsLawfulApart g h → IsBetween (requests_of (world g h))) (λ g h lawful. rw (← (history_happens g h lawful).made) (all_between (history_happens g h lawful).happened (history_happens g h lawful).may)) g is h lawful

-- by Linux's rules n is in its turn, and not deferred
pub record GoesOn (l : LinuxRequests) (n : ℕ) : Type 0 where
  pub first : IsFirst l.requests n
  pub apart : IsApart l n

pub running_goes_on : (g : Setup) (h : History) (n : ℕ) → IsLawfulApart g h
    → is_running (world g h).requests n ≡ true → g.linux ≡ true → GoesOn (requests_of (world g h)) n
running_goes_on g h n lawful running is =
    let l : LinuxRequests = requests_of (world g h) in
    let s = of_linux (λ g. (h : History) → IsLawfulApart g h → IsSoundLinux (world g h).requests) linux_sound g is h lawful in
    let accepted = (sound_of g h lawful).requests.started_accepted n in
    let held = held_by l.requests 0 l.drains.deferred l.drains.from n (between g h lawful is).settled.waiting in
    grind (arith, s, accepted, held, false_from_ne_true, both_ways)

pub doomed_goes_on : (g : Setup) (h : History) (n : ℕ) → IsLawfulApart g h
    → is_outstanding (world g h).requests n ≡ true → ends_doomed g.linux (world g h).requests n ≡ true
    → g.linux ≡ true → GoesOn (requests_of (world g h)) n
doomed_goes_on g h n lawful outstanding doomed is =
    let l : LinuxRequests = requests_of (world g h) in
    let p = and_parts (is_in_turn l.requests n) (is_doomed l.requests n) (subst (λ b. ends_doomed b l.requests n ≡ true) is doomed) in
    let free : is_in_some l.drains.deferred n ≡ false = false_from_ne_true _ (λ held. let k = held_by l.requests 0 l.drains.deferred l.drains.from n (between g h lawful is).settled.waiting held in both_ways _ (not_doomed l.requests k.group n k.waiting k.low k.high) p.1) in
    grind (arith, free, (outstanding_tells l.requests n outstanding), (turn_first l.requests n p.0))
