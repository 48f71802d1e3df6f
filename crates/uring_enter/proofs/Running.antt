-- The laws of a run.
use Rattle.std.proofs.Common.{◌≡◌, ℤ, pos, Bool, true, false, List, [], ◌∷◌, if◌then◌else◌, refl, sym, ap, ◌∙◌}
use Rattle.uring_enter.proofs.Common.{Asked, Chosen, Command, Endless, Failed, GivesUpInVain, Heard, Interrupted, IsInVain, LeastOver, NotTaken, Reply, Sight, SleepsInVain, Stuck, SubmitsOnce, Taken, TimedOut, WentOn, Woken, WrongHead, and_parts, due, ended, is_enough, is_reply_to}
use Rattle.uring_enter.specs.declared.call.reply.Reply.TheVariants.{Passed}
use Rattle.uring_enter.specs.declared.call.command.Command.TheVariants as command
use Rattle.uring_enter.proofs.Commands.{true_is_not_false, if_false, IsElse, going_else, stuck_else, stuck_unless_waiting, hearing_else, least_over_else}

-- what can't be
pub against : (x : Bool) → x ≡ false → x ≡ true → ⊥
against x is_not is = true_is_not_false (sym is ∙ is_not)

sleeps : Command → Bool
sleeps command.Sleep = true
sleeps _ = false

submits : Command → Bool
submits command.Submit = true
submits _ = false

sleeping_is_else : IsElse sleeps
unfolding sleeps
sleeping_is_else = record { at_end = λ v. refl; at_going = λ b. refl; at_going_fully = refl }

submitting_is_else : IsElse submits
unfolding submits
submitting_is_else = record { at_end = λ v. refl; at_going = λ b. refl; at_going_fully = refl }

pub hearing_is_else : (sight : Sight) → IsElse (λ c. is_reply_to c (Heard sight))
hearing_is_else sight = record { at_end = λ v. refl; at_going = λ b. refl; at_going_fully = refl }

pub passing_is_else : IsElse (λ c. is_reply_to c Passed)
passing_is_else = record { at_end = λ v. refl; at_going = λ b. refl; at_going_fully = refl }

no_sleep : (c : Command) → sleeps c ≡ false → c ≡ command.Sleep → ⊥
unfolding sleeps
no_sleep c is_not is = against (sleeps c) is_not (ap sleeps is)

no_submission : (c : Command) → submits c ≡ false → c ≡ command.Submit → ⊥
unfolding submits
no_submission c is_not is = against (submits c) is_not (ap submits is)

-- if one of two is a sleep, and the first isn't, the second was taken
few_of : (b : Bool) (log : List Reply) (v : ℤ)
    → (if b then ended log v else command.Sleep) ≡ command.Sleep → b ≡ false
few_of true log v is = cc
few_of false log v is = refl

-- after which replies the application is heard, but for a first time
heard_after : (a : Asked) (sight : Sight) (last : Reply) (log : List Reply)
    → is_reply_to (due a (last ∷ log)) (Heard sight) ≡ true
    → due a (Heard sight ∷ last ∷ log) ≡ command.Sleep → IsInVain a (Heard sight ∷ last ∷ log)
unfolding sleeps
heard_after a s (Stuck t) log answers is = (
  stuck_unless_waiting (λ c. is_reply_to c (Heard s)) (hearing_is_else s) refl a log t answers,
  few_of (is_enough a log s) (Stuck t ∷ log) (pos 0) is,
)
heard_after a s Woken log answers is = absurd (no_sleep _ (going_else sleeps sleeping_is_else a log true s) is)
heard_after a s (Heard t) log answers is =
    absurd (against _ (hearing_else (λ c. is_reply_to c (Heard s)) (hearing_is_else s) refl refl a log t) answers)
heard_after a s (Taken n t) log answers is =
    absurd (against _ (going_else (λ c. is_reply_to c (Heard s)) (hearing_is_else s) a (Taken n t ∷ log) false t) answers)
heard_after a s (NotTaken n t) log answers is =
    absurd (against _ (going_else (λ c. is_reply_to c (Heard s)) (hearing_is_else s) a (NotTaken n t ∷ log) false t) answers)
heard_after a s (WentOn t) log answers is =
    absurd (against _ (going_else (λ c. is_reply_to c (Heard s)) (hearing_is_else s) a log true t) answers)
heard_after a s WrongHead log answers is = cc
heard_after a s Chosen log answers is = cc
heard_after a s (TimedOut t) log answers is = cc
heard_after a s (LeastOver t b) log answers is =
    absurd (no_sleep _ (going_else sleeps sleeping_is_else a (LeastOver t b ∷ log) true s) is)
heard_after a s (Interrupted t) log answers is = cc
heard_after a s Endless log answers is = cc
heard_after a s (Failed n) log answers is = cc
heard_after a s Passed log answers is = cc

pub sleeps_in_vain : SleepsInVain
unfolding sleeps
sleeps_in_vain a [] run is = cc
sleeps_in_vain a (Heard s ∷ []) run is = cc
sleeps_in_vain a (Heard s ∷ last ∷ log) run is =
    heard_after a s last log (and_parts _ _ run).0 is
sleeps_in_vain a (Taken n t ∷ log) run is =
    absurd (no_sleep _ (going_else sleeps sleeping_is_else a (Taken n t ∷ log) false t) is)
sleeps_in_vain a (NotTaken n t ∷ log) run is =
    absurd (no_sleep _ (going_else sleeps sleeping_is_else a (NotTaken n t ∷ log) false t) is)
sleeps_in_vain a (WentOn t ∷ log) run is = absurd (no_sleep _ (going_else sleeps sleeping_is_else a log true t) is)
sleeps_in_vain a (Stuck t ∷ log) run is =
    absurd (no_sleep _ (stuck_else sleeps (λ v. refl) refl refl a log t) is)
sleeps_in_vain a (Woken ∷ log) run is = cc
sleeps_in_vain a (WrongHead ∷ log) run is = cc
sleeps_in_vain a (Chosen ∷ log) run is = cc
sleeps_in_vain a (TimedOut t ∷ log) run is = cc
sleeps_in_vain a (LeastOver t b ∷ log) run is = absurd (no_sleep _ (least_over_else sleeps (λ v. refl) refl log t b) is)
sleeps_in_vain a (Interrupted t ∷ log) run is = cc
sleeps_in_vain a (Endless ∷ log) run is = cc
sleeps_in_vain a (Failed n ∷ log) run is = cc
sleeps_in_vain a (Passed ∷ log) run is = cc

given_up : (c : Command) → is_reply_to c Endless ≡ true → c ≡ command.Sleep
given_up command.Sleep answers = refl
given_up command.Submit answers = cc
given_up command.PassTime answers = cc
given_up command.GoOnFully answers = cc
given_up (command.Hear b) answers = cc
given_up (command.GoOn b) answers = cc
given_up (command.Return v) answers = cc

pub gives_up_in_vain : GivesUpInVain
gives_up_in_vain a log run =
    sleeps_in_vain a log (and_parts _ _ run).1 (given_up _ (and_parts _ _ run).0)

pub submits_once : SubmitsOnce
unfolding submits
submits_once a [] run is = cc
submits_once a (Heard s ∷ []) run is = (s, refl)
submits_once a (Heard s ∷ Woken ∷ log) run is =
    absurd (no_submission _ (going_else submits submitting_is_else a log true s) is)
submits_once a (Heard s ∷ LeastOver t b ∷ log) run is =
    absurd (no_submission _ (going_else submits submitting_is_else a (LeastOver t b ∷ log) true s) is)
submits_once a (Heard s ∷ last ∷ log) run is =
    absurd (no_submission _ (if_false submits (is_enough a (last ∷ log) s) _ _ refl refl) is)
submits_once a (Taken n t ∷ log) run is =
    absurd (no_submission _ (going_else submits submitting_is_else a (Taken n t ∷ log) false t) is)
submits_once a (NotTaken n t ∷ log) run is =
    absurd (no_submission _ (going_else submits submitting_is_else a (NotTaken n t ∷ log) false t) is)
submits_once a (WentOn t ∷ log) run is =
    absurd (no_submission _ (going_else submits submitting_is_else a log true t) is)
submits_once a (Stuck t ∷ log) run is =
    absurd (no_submission _ (stuck_else submits (λ v. refl) refl refl a log t) is)
submits_once a (Woken ∷ log) run is = cc
submits_once a (WrongHead ∷ log) run is = cc
submits_once a (Chosen ∷ log) run is = cc
submits_once a (TimedOut t ∷ log) run is = cc
submits_once a (LeastOver t b ∷ log) run is = absurd (no_submission _ (least_over_else submits (λ v. refl) refl log t b) is)
submits_once a (Interrupted t ∷ log) run is = cc
submits_once a (Endless ∷ log) run is = cc
submits_once a (Failed n ∷ log) run is = cc
submits_once a (Passed ∷ log) run is = cc
