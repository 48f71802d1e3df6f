-- What a call returns, and what it leaves where it may leave nothing.
use Rattle.std.proofs.Common.{◌≡◌, ℤ, pos, Bool, true, false, ◌&&◌, ◌||◌, not, nat_lt, List, [], ◌∷◌, if◌then◌else◌, refl, sym, ap}
use Rattle.uring_enter.proofs.Common.{Asked, ByChoice, Chosen, Command, Endless, Failed, Heard, InOrder, Interrupted, IsInVain, Lazy, LeastOver, LeavesNothing, NotTaken, Policy, Reply, ReturnsWhatWasSubmitted, Sight, Stuck, Taken, TimedOut, WentOn, Woken, WrongHead, and_parts, due, ended, go_by, going, is_enough, is_lazy, is_none, is_reply_to, is_run, is_stuck, leaving, looking, looks, returned, stuck, submission, unless_ready, waiting, waits}
use Rattle.uring_enter.specs.declared.call.reply.Reply.TheVariants.{Passed}
use Rattle.uring_enter.specs.declared.call.command.Command.TheVariants as command
use Rattle.uring_enter.proofs.Commands.{if_false, going_else, stuck_else, hearing_else, least_over_else}
use Rattle.uring_enter.proofs.Running.{against, hearing_is_else, passing_is_else, sleeps_in_vain}

abbrev is_end : Command → Bool
is_end (command.Return _) = true
is_end _ = false

abbrev value : Command → ℤ
value (command.Return v) = v
value _ = pos 0

go_by_no_end : (policy : Policy) (b : Bool) → is_end (go_by policy b) ≡ false
go_by_no_end InOrder b = refl
go_by_no_end Lazy b = refl
go_by_no_end ByChoice b = refl

-- what follows from either of two commands follows from the one that is chosen
either : (b : Bool) (x y : Command) (v : ℤ) (P : Type 0) → (x ≡ command.Return v → P) → (y ≡ command.Return v → P)
    → (if b then x else y) ≡ command.Return v → P
either true x y v P f g is = f is
either false x y v P f g is = g is

-- an end is with what the submission came to
end_of : (b : Bool) (log : List Reply) (other : Command) (v : ℤ) → is_end other ≡ false
    → (if b then ended log (pos 0) else other) ≡ command.Return v → v ≡ returned log (pos 0)
end_of true log other v is_not is = sym (ap value is)
end_of false log other v is_not is = absurd (against (is_end other) is_not (ap is_end is))

going_ends : (a : Asked) (log : List Reply) (b : Bool) (s : Sight) (v : ℤ)
    → going a log b s ≡ command.Return v → v ≡ returned log (pos 0)
going_ends a log b s v is =
    either (waits a log) (waiting a log s) (if looks a log then looking a log b s else leaving a log) v (v ≡ returned log (pos 0))
    (end_of _ log _ v (go_by_no_end a.policy _))
    (either (looks a log) (looking a log b s) (leaving a log) v (v ≡ returned log (pos 0))
    (end_of _ log _ v (go_by_no_end a.policy _))
    (end_of _ log _ v (go_by_no_end a.policy _)))
    is

no_return : (c : Command) (v : ℤ) → is_end c ≡ false → c ≡ command.Return v → ⊥
no_return c v is_not is = against (is_end c) is_not (ap is_end is)

stuck_ends : (a : Asked) (log : List Reply) (s : Sight) (v : ℤ)
    → stuck a log s ≡ command.Return v → v ≡ returned log (pos 0)
stuck_ends a log s v is =
    either (waits a log) (command.Hear true) (if looks a log && not (nat_lt 0 s.ready) then command.PassTime else ended log (pos 0)) v (v ≡ returned log (pos 0))
    (λ e. absurd (no_return (command.Hear true) v refl e))
    (either (looks a log && not (nat_lt 0 s.ready)) command.PassTime (ended log (pos 0)) v (v ≡ returned log (pos 0))
    (λ e. absurd (no_return command.PassTime v refl e))
    (λ e. sym (ap value e)))
    is

-- where something was submitted, or an error came, that is returned
kept : (b : Bool) (outcome submitted v : ℤ) → b ≡ false → v ≡ (if b then outcome else submitted) → v ≡ submitted
kept true outcome submitted v is_not is = cc
kept false outcome submitted v is_not is = is

kept_of : (log : List Reply) (outcome v : ℤ) → is_none (submission log) ≡ false → v ≡ returned log outcome → v ≡ submission log
kept_of log outcome v none is = kept (is_none (submission log)) outcome (submission log) v none is

pub returns_what_was_submitted : ReturnsWhatWasSubmitted
returns_what_was_submitted a [] v is none = cc
returns_what_was_submitted a (Heard s ∷ []) v is none = cc
returns_what_was_submitted a (Heard s ∷ Woken ∷ log) v is none = kept_of log (pos 0) v none (going_ends a log true s v is)
returns_what_was_submitted a (Heard s ∷ LeastOver t b ∷ log) v is none =
    kept_of (LeastOver t b ∷ log) (pos 0) v none (going_ends a (LeastOver t b ∷ log) true s v is)
returns_what_was_submitted a (Heard s ∷ last ∷ log) v is none = kept_of (last ∷ log) (pos 0) v none (end_of _ (last ∷ log) command.Sleep v refl is)
returns_what_was_submitted a (Taken n s ∷ log) v is none =
    kept_of (Taken n s ∷ log) (pos 0) v none (going_ends a (Taken n s ∷ log) false s v is)
returns_what_was_submitted a (NotTaken n s ∷ log) v is none =
    kept_of (NotTaken n s ∷ log) (pos 0) v none (going_ends a (NotTaken n s ∷ log) false s v is)
returns_what_was_submitted a (WentOn s ∷ log) v is none = kept_of log (pos 0) v none (going_ends a log true s v is)
returns_what_was_submitted a (Stuck s ∷ log) v is none = kept_of log (pos 0) v none (stuck_ends a log s v is)
returns_what_was_submitted a (Woken ∷ log) v is none = cc
returns_what_was_submitted a (Chosen ∷ log) v is none = kept_of log _ v none (sym (ap value is))
returns_what_was_submitted a (Passed ∷ log) v is none = kept_of log _ v none (sym (ap value is))
returns_what_was_submitted a (TimedOut s ∷ log) v is none = kept_of log _ v none (sym (ap value is))
returns_what_was_submitted a (LeastOver s b ∷ log) v is none =
    either (nat_lt 0 s.ready || not b) (ended log (unless_ready s 62)) (command.Hear true) v (v ≡ submission log)
    (λ e. kept_of log (unless_ready s 62) v none (sym (ap value e)))
    (λ e. absurd (no_return (command.Hear true) v refl e))
    is
returns_what_was_submitted a (Interrupted s ∷ log) v is none = kept_of log _ v none (sym (ap value is))
returns_what_was_submitted a (Endless ∷ log) v is none = kept_of log _ v none (sym (ap value is))
returns_what_was_submitted a (Failed n ∷ log) v is none = kept_of log _ v none (sym (ap value is))
returns_what_was_submitted a (WrongHead ∷ log) v is none = kept_of log _ v none (sym (ap value is))

-- what a call may not leave it doesn't end beside
stays : (e m l : Bool) (p : Command → Bool) (x y : Command) → m ≡ false → p y ≡ false
    → p (if (e && m) && l then x else y) ≡ false
stays true true l p x y held at_y = cc
stays true false l p x y held at_y = at_y
stays false m l p x y held at_y = at_y

stays_else : (m l : Bool) (p : Command → Bool) (x y : Command) → m ≡ false → p y ≡ false → p (if m && l then x else y) ≡ false
stays_else true l p x y held at_y = cc
stays_else false l p x y held at_y = at_y

none_beside : (e m : Bool) → m ≡ false → (e && m) ≡ false
none_beside true m held = held
none_beside false m held = refl

-- going on is chosen by nobody to end, where what can go on may not be left
no_choice : (policy : Policy) (b : Bool) → b ≡ false → is_reply_to (go_by policy b) Chosen ≡ false
no_choice InOrder b held = refl
no_choice Lazy b held = refl
no_choice ByChoice b held = held

going_stays : (a : Asked) (log : List Reply) (b : Bool) (s : Sight) → a.may_leave ≡ false → is_end (going a log b s) ≡ false
going_stays a log b s held =
    if_false is_end (waits a log) _ _ (stays _ a.may_leave _ is_end _ _ held (go_by_no_end a.policy _))
    (if_false is_end (looks a log) _ _ (stays _ a.may_leave _ is_end _ _ held (go_by_no_end a.policy _))
    (stays_else a.may_leave _ is_end _ _ held (go_by_no_end a.policy _)))

abbrev chooses : Command → Bool
chooses c = is_reply_to c Chosen

going_unchosen : (a : Asked) (log : List Reply) (b : Bool) (s : Sight) → a.may_leave ≡ false → chooses (going a log b s) ≡ false
going_unchosen a log b s held =
    if_false chooses (waits a log) (waiting a log s) (if looks a log then looking a log b s else leaving a log)
    (stays (is_enough a log s) a.may_leave (is_lazy a.policy) chooses (ended log (pos 0)) (go_by a.policy (is_enough a log s && a.may_leave)) held
    (no_choice a.policy (is_enough a log s && a.may_leave) (none_beside (is_enough a log s) a.may_leave held)))
    (if_false chooses (looks a log) (looking a log b s) (leaving a log)
    (stays (nat_lt 0 s.ready) a.may_leave (is_lazy a.policy) chooses (ended log (pos 0)) (go_by a.policy ((b || nat_lt 0 s.ready) && a.may_leave)) held
    (no_choice a.policy ((b || nat_lt 0 s.ready) && a.may_leave) (none_beside (b || nat_lt 0 s.ready) a.may_leave held)))
    (stays_else a.may_leave (is_lazy a.policy) chooses (ended log (pos 0)) (go_by a.policy a.may_leave) held (no_choice a.policy a.may_leave held)))

unchosen : (a : Asked) (log : List Reply) → a.may_leave ≡ false → chooses (due a log) ≡ true → ⊥
unchosen a [] held is = cc
unchosen a (Heard s ∷ []) held is = cc
unchosen a (Heard s ∷ Woken ∷ log) held is = against _ (going_unchosen a log true s held) is
unchosen a (Heard s ∷ LeastOver t b ∷ log) held is = against _ (going_unchosen a (LeastOver t b ∷ log) true s held) is
unchosen a (Heard s ∷ last ∷ log) held is =
    against _ (if_false chooses (is_enough a (last ∷ log) s) (ended (last ∷ log) (pos 0)) command.Sleep refl refl) is
unchosen a (Taken n s ∷ log) held is = against _ (going_unchosen a (Taken n s ∷ log) false s held) is
unchosen a (NotTaken n s ∷ log) held is = against _ (going_unchosen a (NotTaken n s ∷ log) false s held) is
unchosen a (WentOn s ∷ log) held is = against _ (going_unchosen a log true s held) is
unchosen a (Stuck s ∷ log) held is = against _ (stuck_else chooses (λ v. refl) refl refl a log s) is
unchosen a (Woken ∷ log) held is = cc
unchosen a (WrongHead ∷ log) held is = cc
unchosen a (Chosen ∷ log) held is = cc
unchosen a (TimedOut t ∷ log) held is = cc
unchosen a (LeastOver t b ∷ log) held is = against _ (least_over_else chooses (λ v. refl) refl log t b) is
unchosen a (Interrupted t ∷ log) held is = cc
unchosen a (Endless ∷ log) held is = cc
unchosen a (Failed n ∷ log) held is = cc
unchosen a (Passed ∷ log) held is = cc

in_vain_stuck : (a : Asked) (log : List Reply) → IsInVain a log → is_stuck log ≡ true
in_vain_stuck a (Heard s ∷ Stuck t ∷ log) vain = refl
in_vain_stuck a log vain = absurd vain

or_true : (b c : Bool) → b ≡ true → (b || c) ≡ true
or_true true c is = refl
or_true false c is = absurd (against false refl is)

-- a test that only a sleep passes
record IsOfSleep (p : Command → Bool) : Type 0 where
  at_hearing : (b : Bool) → p (command.Hear b) ≡ false
  at_submit : p command.Submit ≡ false
  at_going : (b : Bool) → p (command.GoOn b) ≡ false
  at_going_fully : p command.GoOnFully ≡ false
  at_passing : p command.PassTime ≡ false
  at_end : (v : ℤ) → p (command.Return v) ≡ false

of_sleep : (p : Command → Bool) → IsOfSleep p → (c : Command) → p c ≡ true → c ≡ command.Sleep
of_sleep p rest command.Sleep is = refl
of_sleep p rest (command.Hear b) is = absurd (against _ (rest.at_hearing b) is)
of_sleep p rest command.Submit is = absurd (against _ rest.at_submit is)
of_sleep p rest (command.GoOn b) is = absurd (against _ (rest.at_going b) is)
of_sleep p rest command.GoOnFully is = absurd (against _ rest.at_going_fully is)
of_sleep p rest command.PassTime is = absurd (against _ rest.at_passing is)
of_sleep p rest (command.Return v) is = absurd (against _ (rest.at_end v) is)

-- a sleep ends only where nothing can go on
slept : (a : Asked) (log : List Reply) (reply : Reply) → IsOfSleep (λ c. is_reply_to c reply)
    → is_run a (reply ∷ log) ≡ true → is_stuck log ≡ true
slept a log reply only run =
    in_vain_stuck a log (sleeps_in_vain a log (and_parts _ _ run).1
    (of_sleep (λ c. is_reply_to c reply) only (due a log) (and_parts _ _ run).0))

passes_stuck : (a : Asked) (log : List Reply) → is_reply_to (due a log) Passed ≡ true → is_stuck log ≡ true
passes_stuck a [] answers = cc
passes_stuck a (Stuck s ∷ log) answers = refl
passes_stuck a (Heard s ∷ log) answers =
    absurd (against _ (hearing_else (λ c. is_reply_to c Passed) passing_is_else refl refl a log s) answers)
passes_stuck a (Taken n s ∷ log) answers =
    absurd (against _ (going_else (λ c. is_reply_to c Passed) passing_is_else a (Taken n s ∷ log) false s) answers)
passes_stuck a (NotTaken n s ∷ log) answers =
    absurd (against _ (going_else (λ c. is_reply_to c Passed) passing_is_else a (NotTaken n s ∷ log) false s) answers)
passes_stuck a (WentOn s ∷ log) answers =
    absurd (against _ (going_else (λ c. is_reply_to c Passed) passing_is_else a log true s) answers)
passes_stuck a (Woken ∷ log) answers = cc
passes_stuck a (WrongHead ∷ log) answers = cc
passes_stuck a (Chosen ∷ log) answers = cc
passes_stuck a (TimedOut t ∷ log) answers = cc
passes_stuck a (LeastOver t b ∷ log) answers =
    absurd (against _ (least_over_else (λ c. is_reply_to c Passed) (λ v. refl) refl log t b) answers)
passes_stuck a (Interrupted t ∷ log) answers = cc
passes_stuck a (Endless ∷ log) answers = cc
passes_stuck a (Failed n ∷ log) answers = cc
passes_stuck a (Passed ∷ log) answers = cc

heard_stuck : (a : Asked) (s : Sight) (last : Reply) (log : List Reply) (v : ℤ) → a.may_leave ≡ false
    → is_reply_to (due a (last ∷ log)) (Heard s) ≡ true → due a (Heard s ∷ last ∷ log) ≡ command.Return v
    → is_stuck (last ∷ log) ≡ true
heard_stuck a s (Stuck t) log v held answers is = refl
heard_stuck a s Woken log v held answers is = absurd (no_return _ v (going_stays a log true s held) is)
heard_stuck a s (LeastOver t b) log v held answers is = absurd (no_return _ v (going_stays a (LeastOver t b ∷ log) true s held) is)
heard_stuck a s (Heard t) log v held answers is =
    absurd (against _ (hearing_else (λ c. is_reply_to c (Heard s)) (hearing_is_else s) refl refl a log t) answers)
heard_stuck a s (Taken n t) log v held answers is =
    absurd (against _ (going_else (λ c. is_reply_to c (Heard s)) (hearing_is_else s) a (Taken n t ∷ log) false t) answers)
heard_stuck a s (NotTaken n t) log v held answers is =
    absurd (against _ (going_else (λ c. is_reply_to c (Heard s)) (hearing_is_else s) a (NotTaken n t ∷ log) false t) answers)
heard_stuck a s (WentOn t) log v held answers is =
    absurd (against _ (going_else (λ c. is_reply_to c (Heard s)) (hearing_is_else s) a log true t) answers)
heard_stuck a s WrongHead log v held answers is = cc
heard_stuck a s Chosen log v held answers is = cc
heard_stuck a s (TimedOut t) log v held answers is = cc
heard_stuck a s (Interrupted t) log v held answers is = cc
heard_stuck a s Endless log v held answers is = cc
heard_stuck a s (Failed n) log v held answers is = cc
heard_stuck a s Passed log v held answers is = cc

pub leaves_nothing : LeavesNothing
leaves_nothing a [] v run held is = cc
leaves_nothing a (Heard s ∷ []) v run held is = cc
leaves_nothing a (Heard s ∷ last ∷ log) v run held is =
    or_true _ _ (heard_stuck a s last log v held (and_parts _ _ run).0 is)
leaves_nothing a (Taken n s ∷ log) v run held is = absurd (no_return _ v (going_stays a (Taken n s ∷ log) false s held) is)
leaves_nothing a (NotTaken n s ∷ log) v run held is = absurd (no_return _ v (going_stays a (NotTaken n s ∷ log) false s held) is)
leaves_nothing a (WentOn s ∷ log) v run held is = absurd (no_return _ v (going_stays a log true s held) is)
leaves_nothing a (Stuck s ∷ log) v run held is = refl
leaves_nothing a (Woken ∷ log) v run held is = cc
leaves_nothing a (WrongHead ∷ log) v run held is = refl
leaves_nothing a (Chosen ∷ log) v run held is = absurd (unchosen a log held (and_parts _ _ run).0)
leaves_nothing a (Passed ∷ log) v run held is = or_true _ _ (passes_stuck a log (and_parts _ _ run).0)
leaves_nothing a (TimedOut s ∷ log) v run held is =
    or_true _ _ (slept a log (TimedOut s) (record { at_hearing = λ b. refl; at_submit = refl; at_going = λ b. refl; at_going_fully = refl; at_passing = refl; at_end = λ w. refl }) run)
leaves_nothing a (LeastOver s b ∷ log) v run held is =
    or_true _ _ (slept a log (LeastOver s b) (record { at_hearing = λ b. refl; at_submit = refl; at_going = λ b. refl; at_going_fully = refl; at_passing = refl; at_end = λ w. refl }) run)
leaves_nothing a (Interrupted s ∷ log) v run held is =
    or_true _ _ (slept a log (Interrupted s) (record { at_hearing = λ b. refl; at_submit = refl; at_going = λ b. refl; at_going_fully = refl; at_passing = refl; at_end = λ w. refl }) run)
leaves_nothing a (Endless ∷ log) v run held is =
    or_true _ _ (slept a log Endless (record { at_hearing = λ b. refl; at_submit = refl; at_going = λ b. refl; at_going_fully = refl; at_passing = refl; at_end = λ w. refl }) run)
leaves_nothing a (Failed n ∷ log) v run held is =
    or_true _ _ (slept a log (Failed n) (record { at_hearing = λ b. refl; at_submit = refl; at_going = λ b. refl; at_going_fully = refl; at_passing = refl; at_end = λ w. refl }) run)
