-- Why a call that waits ends.
use Rattle.std.proofs.Common.{◌≡◌, ℕ, ℤ, Bool, true, false, List, [], ◌∷◌, if◌then◌else◌, refl, sym, ap, ◌∙◌}
use Rattle.uring_enter.proofs.Common.{Asked, ByChoice, Chosen, Command, Endless, EndsForAReason, Failed, Heard, InOrder, Interrupted, Lazy, LeastOver, NotTaken, Policy, Reply, Sight, Stuck, Taken, TimedOut, WentOn, Woken, WrongHead, and_parts, due, ended, go_by, going, is_enough, is_reply_to, saw_enough, stuck, waits}
use Rattle.uring_enter.specs.declared.call.reply.Reply.TheVariants.{Passed}
use Rattle.uring_enter.specs.declared.call.command.Command.TheVariants as command
use Rattle.uring_enter.proofs.Commands.{if_false, going_else, stuck_else, hearing_else, least_over_else, going_waiting, stuck_waiting}
use Rattle.uring_enter.proofs.Running.{against, passing_is_else}

-- no entries were taken: the call doesn't wait
not_taken : (a : Asked) (n : ℕ) (t : Sight) (log : List Reply)
    → waits a (NotTaken n t ∷ log) ≡ true → ⊥
not_taken a n t log waits_on = against false refl (and_parts _ _ ((and_parts _ _ waits_on).0)).1

is_end : Command → Bool
is_end (command.Return _) = true
is_end _ = false

-- which of two an end is
then_of : (b : Bool) (c other : Command) (v : ℤ) → is_end other ≡ false
    → (if b then c else other) ≡ command.Return v → b ≡ true
unfolding is_end
then_of true c other v is_not is = refl
then_of false c other v is_not is = absurd (against (is_end other) is_not (ap is_end is))

go_by_no_end : (policy : Policy) (b : Bool) → is_end (go_by policy b) ≡ false
unfolding is_end
go_by_no_end InOrder b = refl
go_by_no_end Lazy b = refl
go_by_no_end ByChoice b = refl

waiting_ends : (a : Asked) (log : List Reply) (b : Bool) (s : Sight) (v : ℤ)
    → waits a log ≡ true → going a log b s ≡ command.Return v → is_enough a log s ≡ true
unfolding is_end
waiting_ends a log b s v waits_on is =
    (and_parts _ _ (and_parts _ _
    (then_of _ _ _ v (go_by_no_end a.policy _) (sym (going_waiting a log b s waits_on) ∙ is))).0).0

-- where it was offered that the call ends, there was enough
offered : (b g : Bool) (policy : Policy) (log : List Reply) (v : ℤ)
    → is_reply_to (if b then ended log v else go_by policy g) Chosen ≡ true → g ≡ true
offered true g policy log v answers = cc
offered false g InOrder log v answers = cc
offered false g Lazy log v answers = cc
offered false g ByChoice log v answers = answers

waiting_offers : (a : Asked) (log : List Reply) (b : Bool) (s : Sight)
    → waits a log ≡ true → is_reply_to (going a log b s) Chosen ≡ true → is_enough a log s ≡ true
waiting_offers a log b s waits_on answers =
    (and_parts _ _ (offered _ _ a.policy log _
    (sym (ap (λ c. is_reply_to c Chosen) (going_waiting a log b s waits_on)) ∙ answers))).0

chosen : (a : Asked) (log : List Reply) → waits a log ≡ true
    → is_reply_to (due a log) Chosen ≡ true → saw_enough a log ≡ true
chosen a [] waits_on answers = cc
chosen a (Heard s ∷ []) waits_on answers = cc
chosen a (Heard s ∷ Woken ∷ log) waits_on answers = waiting_offers a log true s waits_on answers
chosen a (Heard s ∷ LeastOver t b ∷ log) waits_on answers = waiting_offers a (LeastOver t b ∷ log) true s waits_on answers
chosen a (Heard s ∷ last ∷ log) waits_on answers =
    absurd (against _ (if_false (λ c. is_reply_to c Chosen) (is_enough a (last ∷ log) s) _ _ refl refl) answers)
chosen a (Taken n s ∷ log) waits_on answers =
    waiting_offers a (Taken n s ∷ log) false s waits_on answers
chosen a (NotTaken n s ∷ log) waits_on answers = absurd (not_taken a n s log waits_on)
chosen a (WentOn s ∷ log) waits_on answers = waiting_offers a log true s waits_on answers
chosen a (Stuck s ∷ log) waits_on answers =
    absurd (against _ (stuck_else (λ c. is_reply_to c Chosen) (λ v. refl) refl refl a log s) answers)
chosen a (Woken ∷ log) waits_on answers = cc
chosen a (WrongHead ∷ log) waits_on answers = cc
chosen a (Chosen ∷ log) waits_on answers = cc
chosen a (TimedOut t ∷ log) waits_on answers = cc
chosen a (LeastOver t b ∷ log) waits_on answers =
    absurd (against _ (least_over_else (λ c. is_reply_to c Chosen) (λ v. refl) refl log t b) answers)
chosen a (Interrupted t ∷ log) waits_on answers = cc
chosen a (Endless ∷ log) waits_on answers = cc
chosen a (Failed n ∷ log) waits_on answers = cc
chosen a (Passed ∷ log) waits_on answers = cc

-- a call that waits doesn't let time pass
passed : (a : Asked) (log : List Reply) → waits a log ≡ true
    → is_reply_to (due a log) Passed ≡ true → ⊥
passed a [] waits_on answers = cc
passed a (Heard s ∷ log) waits_on answers =
    against _ (hearing_else (λ c. is_reply_to c Passed) passing_is_else refl refl a log s) answers
passed a (Taken n s ∷ log) waits_on answers =
    against _ (going_else (λ c. is_reply_to c Passed) passing_is_else a (Taken n s ∷ log) false s) answers
passed a (NotTaken n s ∷ log) waits_on answers = not_taken a n s log waits_on
passed a (WentOn s ∷ log) waits_on answers =
    against _ (going_else (λ c. is_reply_to c Passed) passing_is_else a log true s) answers
passed a (Stuck s ∷ log) waits_on answers =
    against _ (ap (λ c. is_reply_to c Passed) (stuck_waiting a log s waits_on)) answers
passed a (Woken ∷ log) waits_on answers = cc
passed a (WrongHead ∷ log) waits_on answers = cc
passed a (Chosen ∷ log) waits_on answers = cc
passed a (TimedOut t ∷ log) waits_on answers = cc
passed a (LeastOver t b ∷ log) waits_on answers =
    against _ (least_over_else (λ c. is_reply_to c Passed) (λ v. refl) refl log t b) answers
passed a (Interrupted t ∷ log) waits_on answers = cc
passed a (Endless ∷ log) waits_on answers = cc
passed a (Failed n ∷ log) waits_on answers = cc
passed a (Passed ∷ log) waits_on answers = cc

stuck_ends : (a : Asked) (log : List Reply) (s : Sight) (v : ℤ)
    → waits a log ≡ true → stuck a log s ≡ command.Return v → ⊥
stuck_ends a log s v waits_on is =
    let heard : command.Hear true ≡ command.Return v = sym (stuck_waiting a log s waits_on) ∙ is in cc

pub ends_for_a_reason : EndsForAReason
unfolding is_end
ends_for_a_reason a [] v run waits_on is = cc
ends_for_a_reason a (Heard s ∷ []) v run waits_on is = cc
ends_for_a_reason a (Heard s ∷ Woken ∷ log) v run waits_on is = waiting_ends a log true s v waits_on is
ends_for_a_reason a (Heard s ∷ LeastOver t b ∷ log) v run waits_on is = waiting_ends a (LeastOver t b ∷ log) true s v waits_on is
ends_for_a_reason a (Heard s ∷ last ∷ log) v run waits_on is = then_of _ _ _ v refl is
ends_for_a_reason a (Taken n s ∷ log) v run waits_on is =
    waiting_ends a (Taken n s ∷ log) false s v waits_on is
ends_for_a_reason a (NotTaken n s ∷ log) v run waits_on is = absurd (not_taken a n s log waits_on)
ends_for_a_reason a (WentOn s ∷ log) v run waits_on is = waiting_ends a log true s v waits_on is
ends_for_a_reason a (Stuck s ∷ log) v run waits_on is = absurd (stuck_ends a log s v waits_on is)
ends_for_a_reason a (Woken ∷ log) v run waits_on is = cc
ends_for_a_reason a (Passed ∷ log) v run waits_on is = absurd (passed a log waits_on (and_parts _ _ run).0)
ends_for_a_reason a (Chosen ∷ log) v run waits_on is = chosen a log waits_on (and_parts _ _ run).0
ends_for_a_reason a (WrongHead ∷ log) v run waits_on is = tt
ends_for_a_reason a (TimedOut t ∷ log) v run waits_on is = tt
ends_for_a_reason a (LeastOver t b ∷ log) v run waits_on is = then_of _ _ _ v refl is
ends_for_a_reason a (Interrupted t ∷ log) v run waits_on is = tt
ends_for_a_reason a (Endless ∷ log) v run waits_on is = tt
ends_for_a_reason a (Failed n ∷ log) v run waits_on is = tt
