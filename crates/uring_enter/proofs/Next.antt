-- What comes next, after some replies.
use Rattle.std.proofs.Common.{◌≡◌, ℕ, pos, Bool, true, false, List, [], ◌∷◌, refl}
use Rattle.uring_enter.proofs.Common.{Asked, LeastOver, NotTaken, Reply, Sight, Taken, Woken, due, ended, going, hearing, is_enough, least_over}
use Rattle.uring_enter.specs.declared.call.enter.Before.TheVariants.{Other}
use Rattle.uring_enter.specs.Call.After.{before_of}

-- the application was heard after anything but a sleep
pub heard_enough : (a : Asked) (log : List Reply) (sight : Sight)
    → Other ≡ before_of log → is_enough a log sight ≡ true
    → hearing a log sight ≡ ended log (pos 0)
heard_enough a [] sight other enough = cc
heard_enough a (Woken ∷ log) sight other enough = cc
heard_enough a (LeastOver seen b ∷ log) sight other enough = cc
heard_enough a (last ∷ log) sight other enough = rw enough refl

-- what comes once the entries are submitted
pub due_taken : (a : Asked) (log : List Reply) (reply : Reply) (count : ℕ) (sight : Sight)
    → reply ≡ Taken count sight → due a (reply ∷ log) ≡ going a (reply ∷ log) false sight
due_taken a log reply count sight is = rw is refl

pub due_not_taken : (a : Asked) (log : List Reply) (reply : Reply) (number : ℕ) (sight : Sight)
    → reply ≡ NotTaken number sight → due a (reply ∷ log) ≡ going a (reply ∷ log) false sight
due_not_taken a log reply number sight is = rw is refl

-- what comes once the least time is over
pub due_least_over : (a : Asked) (log : List Reply) (reply : Reply) (sight : Sight) (has_limit : Bool)
    → reply ≡ LeastOver sight has_limit → due a (reply ∷ log) ≡ least_over (reply ∷ log) sight has_limit
due_least_over a log reply sight has_limit is = rw is refl
