-- What can go on next, and in which order. Our own rule.
use Rattle.std.specs.Prelude.{◌≡◌, ℕ, zero, suc, ◌+◌, ◌-◌, ◌^◌, Bool, ◌&&◌, ◌==◌, nat_lt, min, length, Option, Some, None, List, [], ◌∷◌, ◌++◌, if◌then◌else◌}
use Rattle.uring_operations.specs.declared.requests.ways.Ways.{Ways}
use Rattle.uring_operations.specs.declared.requests.ways.Way.{Way}
use Rattle.uring_operations.specs.declared.requests.ways.Way.TheVariants.{Finish, Issue, Return}

-- what happens next: the request of a number goes on, or is issued; or the call returns
pub data Going : Type 0 where
  Finishes : ℕ → Going
  Issues : ℕ → Going
  Returns : Going

abbrev pub finishes : List ℕ → List Going
finishes [] = []
finishes (number ∷ later) = Finishes number ∷ finishes later

abbrev pub issues : List ℕ → List Going
issues [] = []
issues (number ∷ later) = Issues number ∷ issues later

-- the ways of a choice: the requests that run and needn't wait, and after them those that the core lets start, both by number; that the call returns comes last. Way 0 is what goes on first in order
abbrev pub ways : List ℕ → List ℕ → Bool → List Going
ways ready issuable may_return =
    finishes ready ++ (issues issuable ++ (if may_return then Returns ∷ [] else []))

abbrev pub nth : {A : Type 0} → List A → ℕ → Option A
nth [] n = None
nth (x ∷ later) zero = Some x
nth (x ∷ later) (suc n) = nth later n

-- what a way says of these lists
abbrev pub named : List ℕ → List ℕ → Option Way → Option Going
named ready issuable None = None
named ready issuable (Some (Finish place)) = nth (finishes ready) place
named ready issuable (Some (Issue place)) = nth (issues issuable) place
named ready issuable (Some Return) = Some Returns

-- the way of a number, by how many of each there are
abbrev pub way_of : ℕ → ℕ → Bool → ℕ → Option Way
way_of ready issuable may_return n =
    if nat_lt n ready then Some (Finish n) else
    if nat_lt (n - ready) issuable then Some (Issue (n - ready)) else
    if n - ready == issuable && may_return then Some Return else None

abbrev pub count_of : Ways → ℕ
count_of w = min (w.ready + w.issuable + (if w.may_return then 1 else 0)) (2 ^ 32 - 1)

-- each number says the way that stands there
abbrev pub NamesTheWays : Type 0
NamesTheWays =
    (ready issuable : List ℕ) (may_return : Bool) (n : ℕ) →
    named ready issuable (way_of (length ready) (length issuable) may_return n) ≡ nth (ways ready issuable may_return) n
