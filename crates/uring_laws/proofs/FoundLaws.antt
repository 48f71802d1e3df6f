-- What a cancel of one request finds, from what is told of it.
use Rattle.std.proofs.Common.{◌≡◌, ℕ, length, Bool, true, false, not, ◌&&◌, Option, Some, None, refl, arith}
use Rattle.uring_laws.proofs.Common.{Cancel, Op, Requests, entry_of, if◌then◌else◌, is_candidate, is_faulty, is_outstanding, least_below_none, least_below_out, least_below_some, operation_of, result_for, target_of}
use Rattle.uring_laws.proofs.ReasonLaws.{least_of}
use Rattle.uring_entry.proofs.Preparations.{asks_cancel, cancel_asked}
use Rattle.uring_dispatch.specs.Cancels.{found_as, found_for, found_by}
use Rattle.uring_dispatch.specs.declared.answers.CancelFound.{CancelFound}
use Rattle.uring_dispatch.specs.declared.answers.CancelFound.TheVariants.{Nobody, Running, Chosen}
use Rattle.uring_laws.specs.Reasons.{IsFound, Finds, ends_with}

-- what is found, and what the cancel ends with
target_found : (r : Requests) (n : ℕ) (o : Option ℕ) → target_of r n ≡ o
    → IsFound r n (found_as r o) × (result_for r o ≡ ends_with (found_as r o))
unfolding target_of
target_found r n o e = grind (arith, (least_below_out (is_candidate r n) (length r.accepted)), (least_of (is_candidate r n) (length r.accepted)))

pub found_said : (r : Requests) (n : ℕ) (f : CancelFound) → found_by r n ≡ Some f → Finds r n f
found_said r n f e = by_standing (is_outstanding r n) (is_faulty (entry_of r n)) refl refl e
  where
    by_operation : is_outstanding r n ≡ true → is_faulty (entry_of r n) ≡ false → (op : Op) → operation_of (entry_of r n) ≡ op → found_for r n (Some op) ≡ Some f → Finds r n f
    by_operation given right (Cancel t false) does is =
        let asks = cancel_asked (entry_of r n) t false does in
        grind (arith, given, right, asks, (target_found r n (target_of r n) refl))
    by_operation given right _ does is = cc

    by_standing : (b c : Bool) → is_outstanding r n ≡ b → is_faulty (entry_of r n) ≡ c → found_for r n (if b && not c then Some (operation_of (entry_of r n)) else None) ≡ Some f → Finds r n f
    by_standing true false given right is = by_operation given right (operation_of (entry_of r n)) refl is
    by_standing _ _ given right is = cc

-- what is found is told

found_is : (r : Requests) (n : ℕ) (f : CancelFound) → IsFound r n f → found_as r (target_of r n) ≡ f
unfolding target_of
found_is r n Nobody none = rw (least_below_none (is_candidate r n) (length r.accepted) none)
found_is r n (Running m) x = rw (least_below_some (is_candidate r n) (length r.accepted) m x.0.below x.0.holds x.0.least, x.1)
found_is r n (Chosen m) x = rw (least_below_some (is_candidate r n) (length r.accepted) m x.0.below x.0.holds x.0.least, x.1)

pub said_found : (r : Requests) (n : ℕ) (f : CancelFound) → Finds r n f → found_by r n ≡ Some f
said_found r n f h = rw (h.outstanding, h.right, asks_cancel (entry_of r n) h.cancels, h.one, found_is r n f h.found)
