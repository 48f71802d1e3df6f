-- What waits after a completion that was put off, since the core was refused memory for it, by what has happened, the newest first. Our own rules: the core was given it as a request of its own, so it can be given nothing else before; and what happens to a request is told in its order. A request that is carried out ends whatever is put off, and isn't told of here.
use Rattle.std.specs.Prelude.{◌≡◌, Bool, true, false, not, List, [], ◌∷◌, if◌then◌else◌}
use Rattle.uring_enter.specs.declared.going_on.putting_off.Coming.{Coming}
use Rattle.uring_enter.specs.declared.going_on.putting_off.Coming.TheVariants.{Submission, Posting, End}
use Rattle.uring_enter.specs.declared.going_on.putting_off.Order.{Order}
use Rattle.uring_enter.specs.declared.going_on.putting_off.Order.TheVariants.{Comes, PostsFirst, Waits}

pub data Happening : Type 0 where
  -- the core was refused memory for a completion that it was given: it is put off
  PutOff : Happening
  -- the core was given it once more, and has posted it
  IsPosted : Happening
  -- the core was given it once more, and was refused memory again
  IsRefused : Happening
  -- this has come
  HasCome : Coming → Happening

-- whether a completion is put off: one was, and it isn't posted yet
abbrev pub is_put_off : List Happening → Bool
is_put_off [] = false
is_put_off (PutOff ∷ earlier) = true
is_put_off (IsPosted ∷ earlier) = false
is_put_off (IsRefused ∷ earlier) = is_put_off earlier
is_put_off (HasCome what ∷ earlier) = is_put_off earlier

-- whether memory was refused for it again just before: nothing has come since
abbrev pub is_refused : List Happening → Bool
is_refused (IsRefused ∷ earlier) = true
is_refused _ = false

-- memory is refused still: nothing is submitted or posted. But a request that isn't carried out any more, since a cancel has found it, ends nonetheless
abbrev pub after_refusal : Coming → Order
after_refusal Submission = Waits
after_refusal Posting = Waits
after_refusal End = Comes

-- whether something comes now: where nothing is put off, at once; else the core is given first what is
abbrev pub order_after : Coming → (is_put_off is_refused : Bool) → Order
order_after what is_put_off is_refused =
    if not is_put_off then Comes else
    if is_refused then after_refusal what else PostsFirst

-- the same, by what has happened
abbrev pub order_by : List Happening → Coming → Order
order_by log what = order_after what (is_put_off log) (is_refused log)

-- a run: each thing comes in its turn
abbrev pub IsRun : List Happening → Type 0
IsRun [] = Unit {0}
IsRun (PutOff ∷ earlier) = IsRun earlier
IsRun (IsPosted ∷ earlier) = IsRun earlier
IsRun (IsRefused ∷ earlier) = IsRun earlier
IsRun (HasCome what ∷ earlier) = IsRun earlier × (order_by earlier what ≡ Comes)

-- what was submitted or posted since a completion was put off last
abbrev pub come_since : List Happening → List Coming
come_since [] = []
come_since (PutOff ∷ earlier) = []
come_since (IsPosted ∷ earlier) = come_since earlier
come_since (IsRefused ∷ earlier) = come_since earlier
come_since (HasCome End ∷ earlier) = come_since earlier
come_since (HasCome Submission ∷ earlier) = Submission ∷ come_since earlier
come_since (HasCome Posting ∷ earlier) = Posting ∷ come_since earlier

-- in each run nothing is submitted or posted from when a completion was put off until it is posted
abbrev pub NothingOvertakes : Type 0
NothingOvertakes = (log : List Happening) → IsRun log → is_put_off log ≡ true → come_since log ≡ []

-- in each run a request ends meanwhile only if memory was refused once more just before
abbrev pub EndsAfterATry : Type 0
EndsAfterATry = (log : List Happening) → IsRun (HasCome End ∷ log) → is_put_off log ≡ true
    → is_refused log ≡ true
