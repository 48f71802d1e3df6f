-- Which commands come of going on, of nothing that can go on, and of hearing.
use Rattle.std.proofs.Common.{◌≡◌, ℤ, Bool, true, false, List, [], ◌∷◌, if◌then◌else◌, refl, sym, ap, ◌∙◌}
use Rattle.uring_enter.proofs.Common.{Asked, ByChoice, Command, InOrder, Lazy, LeastOver, Policy, Reply, Sight, Woken, ended, go_by, going, hearing, is_enough, least_over, leaving, looking, looks, stuck, waiting, waits}
use Rattle.uring_enter.specs.declared.call.command.Command.TheVariants as command
use Rattle.std.proofs.Common.{pos, ◌&&◌, not, nat_lt}

pub true_is_not_false : true ≡ false → ⊥
true_is_not_false h = cc

pub if_false : (p : Command → Bool) (b : Bool) (x y : Command)
    → p x ≡ false → p y ≡ false → p (if b then x else y) ≡ false
if_false p true x y at_x at_y = at_x
if_false p false x y at_x at_y = at_y

pub if_true : (b : Bool) (x y : Command) → b ≡ true → (if b then x else y) ≡ x
if_true true x y is = refl
if_true false x y is = cc

-- a test that neither an end nor going on passes
pub record IsElse (p : Command → Bool) : Type 0 where
  pub at_end : (v : ℤ) → p (command.Return v) ≡ false
  pub at_going : (b : Bool) → p (command.GoOn b) ≡ false
  pub at_going_fully : p command.GoOnFully ≡ false

go_by_else : (p : Command → Bool) → IsElse p → (policy : Policy) (b : Bool)
    → p (go_by policy b) ≡ false
go_by_else p rest InOrder b = rest.at_going_fully
go_by_else p rest Lazy b = rest.at_going false
go_by_else p rest ByChoice b = rest.at_going b

pub waiting_else : (p : Command → Bool) → IsElse p → (a : Asked) (log : List Reply) (sight : Sight)
    → p (waiting a log sight) ≡ false
waiting_else p rest a log sight = if_false p _ _ _ (rest.at_end _) (go_by_else p rest a.policy _)

pub looking_else : (p : Command → Bool) → IsElse p → (a : Asked) (log : List Reply) (b : Bool)
    (sight : Sight) → p (looking a log b sight) ≡ false
looking_else p rest a log b sight = if_false p _ _ _ (rest.at_end _) (go_by_else p rest a.policy _)

pub leaving_else : (p : Command → Bool) → IsElse p → (a : Asked) (log : List Reply)
    → p (leaving a log) ≡ false
leaving_else p rest a log = if_false p _ _ _ (rest.at_end _) (go_by_else p rest a.policy _)

pub going_else : (p : Command → Bool) → IsElse p → (a : Asked) (log : List Reply) (b : Bool)
    (sight : Sight) → p (going a log b sight) ≡ false
going_else p rest a log b sight =
    if_false p (waits a log) _ _ (waiting_else p rest a log sight)
    (if_false p (looks a log) _ _ (looking_else p rest a log b sight) (leaving_else p rest a log))

-- after a reply that nothing can go on, for a test that a hearing and passing time don't pass either
pub stuck_else : (p : Command → Bool) → ((v : ℤ) → p (command.Return v) ≡ false)
    → p (command.Hear true) ≡ false → p command.PassTime ≡ false
    → (a : Asked) (log : List Reply) (sight : Sight) → p (stuck a log sight) ≡ false
stuck_else p at_end at_hearing at_passing a log sight =
    if_false p (waits a log) _ _ at_hearing (if_false p _ _ _ at_passing (at_end _))

stuck_by : (p : Command → Bool) → IsElse p → p command.PassTime ≡ false
    → (a : Asked) (log : List Reply) (sight : Sight) (b : Bool) → waits a log ≡ b
    → p (stuck a log sight) ≡ true → b ≡ true
stuck_by p rest at_passing a log sight true is passes = refl
stuck_by p rest at_passing a log sight false is passes =
    let not_so : p (if looks a log && not (nat_lt 0 sight.ready) then command.PassTime else ended log (pos 0)) ≡ false =
    if_false p _ _ _ at_passing (rest.at_end _) in
    absurd (true_is_not_false (sym passes ∙ ap (λ w. p (if w then command.Hear true else
    (if looks a log && not (nat_lt 0 sight.ready) then command.PassTime else ended log (pos 0)))) is ∙ not_so))

-- if such a test passes but for a hearing, the call waits
pub stuck_unless_waiting : (p : Command → Bool) → IsElse p → p command.PassTime ≡ false
    → (a : Asked) (log : List Reply) (sight : Sight) → p (stuck a log sight) ≡ true
    → waits a log ≡ true
stuck_unless_waiting p rest at_passing a log sight passes =
    stuck_by p rest at_passing a log sight (waits a log) refl passes

-- once the least time is over, for a test that a hearing doesn't pass
pub least_over_else : (p : Command → Bool) → ((v : ℤ) → p (command.Return v) ≡ false)
    → p (command.Hear true) ≡ false → (log : List Reply) (sight : Sight) (b : Bool)
    → p (least_over log sight b) ≡ false
least_over_else p at_end at_hearing log sight b = if_false p _ _ _ (at_end _) at_hearing

-- of a hearing, for a test that submitting and sleeping don't pass either
pub hearing_else : (p : Command → Bool) → IsElse p → p command.Submit ≡ false
    → p command.Sleep ≡ false → (a : Asked) (log : List Reply) (sight : Sight)
    → p (hearing a log sight) ≡ false
hearing_else p rest at_submit at_sleep a [] sight = at_submit
hearing_else p rest at_submit at_sleep a (Woken ∷ log) sight = going_else p rest a log true sight
hearing_else p rest at_submit at_sleep a (LeastOver seen b ∷ log) sight =
    going_else p rest a (LeastOver seen b ∷ log) true sight
hearing_else p rest at_submit at_sleep a (last ∷ log) sight =
    if_false p (is_enough a (last ∷ log) sight) _ _ (rest.at_end _) at_sleep

-- a call that waits: what going on is then, and what comes of nothing that can
pub going_waiting : (a : Asked) (log : List Reply) (b : Bool) (sight : Sight)
    → waits a log ≡ true → going a log b sight ≡ waiting a log sight
going_waiting a log b sight waits_on = if_true _ _ _ waits_on

pub stuck_waiting : (a : Asked) (log : List Reply) (sight : Sight)
    → waits a log ≡ true → stuck a log sight ≡ command.Hear true
stuck_waiting a log sight waits_on = if_true _ _ _ waits_on
