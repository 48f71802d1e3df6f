-- Where something is outstanding, the least of it runs, or something can be issued: by either's rules.
use Rattle.std.proofs.Common.{◌≡◌, ℕ, ◌<◌, Bool, true, false, not, ◌&&◌, length, Some, is_some, refl, sym, ap, subst, arith, ◌⊎◌}
use Rattle.uring_machine.proofs.Common.{History, IsLawfulApart, LinuxRequests, Setup, is_deferred, is_outstanding, is_running, least_of, least_of_goes_on, requests_of, world}
use Rattle.uring_entry.proofs.BelowLemmas.{least_below_tells, is_some_least_below, some_below_some}
use Rattle.uring_linux.specs.Happenings.{made_by}
use Rattle.uring_linux.proofs.GoingOn.{goes_on_from}
use Rattle.uring_rules.specs.Rules.{is_issuable, next_of}
use Rattle.uring_core.proofs.LinuxHistories.{by_linux, HasHappened, history_happens}
use Rattle.uring_machine.proofs.Deferring.{all_ordered}

-- What goes on.

abbrev GoesOn : Bool → LinuxRequests → ℕ → Type 0
GoesOn linux l n = (is_running l.requests n ≡ true) ⊎ (is_some (next_of linux l) ≡ true)

issuable_next : (linux : Bool) (l : LinuxRequests) (n : ℕ) → n < length l.requests.accepted
    → is_issuable linux l n ≡ true → is_some (next_of linux l) ≡ true
issuable_next linux l n lt can =
    rw is_some_least_below (some_below_some (is_issuable linux l) (length l.requests.accepted) n lt can)

by_linux_goes : (l : LinuxRequests) (n : ℕ) → HasHappened l → least_of l.requests ≡ Some n → GoesOn true l n
by_linux_goes l n so e =
    let k : LinuxRequests = made_by so.happened in
    let is : least_of k.requests ≡ Some n = cc (so.made, e) in
    let on = goes_on_from so.happened n so.may is in
    let m : ℕ = on.number in
    let free = least_below_tells (λ j. is_outstanding k.requests j && not (is_deferred k j)) (length k.requests.accepted) m on.least in
    let least = least_below_tells (is_outstanding k.requests) (length k.requests.accepted) n is in
    subst (λ l. GoesOn true l n) so.made (grind (arith, on.goes, (issuable_next true k m), all_ordered))

pub least_goes_on : (g : Setup) (h : History) (n : ℕ) → IsLawfulApart g h
    → least_of (world g h).requests ≡ Some n → GoesOn g.linux (requests_of (world g h)) n
least_goes_on g h n lawful least = go g.linux refl where
  go : (linux : Bool) → g.linux ≡ linux → GoesOn linux (requests_of (world g h)) n
  go false is =
      let l = requests_of (world g h) in
      grind (arith, (least_of_goes_on l.requests n least), (issuable_next false l n), (least_below_tells (is_outstanding l.requests) (length l.requests.accepted) n least))
  go true is =
      let same : g ≡ by_linux g = ap (λ linux. record g { linux = linux }) is in
      by_linux_goes (requests_of (world g h)) n
      (subst (λ k. HasHappened (requests_of (world k h))) (sym same) (history_happens g h (subst (λ k. IsLawfulApart k h) same lawful)))
      least
