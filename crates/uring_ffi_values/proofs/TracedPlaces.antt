-- The step that is told at each place of a submission call is the one that stands there.
use Rattle.std.proofs.Common.{◌≡◌, ℕ, zero, suc, ◌+◌, ◌-◌, ◌*◌, ◌/◌, ◌%◌, ◌==◌, nat_lt, Bool, cond, Option, Some, None, option_map, List, [], ◌∷◌, ◌++◌, length, map, slice_get, refl, arith}
use Rattle.std.proofs.lemmas.Grind.{common_steps}
use Rattle.uring_ffi_values.proofs.Common.{Answer, EntryWords, Step}
use Rattle.uring_core.specs.declared.answer.Answer.TheVariants as answer
use Rattle.uring_core.specs.declared.step.Step.TheVariants as step
use Rattle.uring_ffi_values.specs.Traces.Traced.{put_steps, filled, take_or_close, call_event, TellsEachStep}

-- the step of an entry, whose slot is this: it is filled, or staged; or another one, if there is no such entry
abbrev fill : ℕ → Option EntryWords → Option Step
fill slot None = None
fill slot (Some entry) = Some (step.Fill slot entry.words)

abbrev pick : (is_within is_fill : Bool) → ℕ → Option EntryWords → Option Step → Option Step
pick is_within is_fill slot entry other =
    cond is_within (cond is_fill (fill slot entry) (Some (step.Index slot))) other

-- the step of this place among those that put entries in from this slot on, and others after them
abbrev at : ℕ → List EntryWords → List Step → ℕ → Option Step
at slot entries others k =
    pick (nat_lt k (2 * length entries)) (k % 2 == 0) (slot + k / 2) (slice_get entries (k / 2)) (slice_get others (k - 2 * length entries))

puts_at : (slot : ℕ) (entries : List EntryWords) (others : List Step) (k : ℕ)
    → slice_get (put_steps slot entries ++ others) k ≡ at slot entries others k
puts_at slot [] others k = grind (arith, common_steps)
puts_at slot (entry ∷ later) others zero = grind (arith, common_steps)
puts_at slot (entry ∷ later) others (suc zero) = grind (arith, common_steps)
puts_at slot (entry ∷ later) others (suc (suc k)) = grind (arith, (puts_at (slot + 1) later others k))

-- the takes, and the end after them
takes_at : (entries : List EntryWords) (is_accepted : Bool) (end : Answer) (j : ℕ)
    → option_map (λ e. e.0) (take_or_close (slice_get entries j) is_accepted (j == length entries) end)
    ≡ slice_get (map (λ _. step.Take) entries ++ (step.End ∷ [])) j
takes_at [] is_accepted end zero = refl
takes_at [] is_accepted end (suc j) = grind (arith, common_steps)
takes_at (entry ∷ later) is_accepted end zero = refl
takes_at (entry ∷ later) is_accepted end (suc j) = grind (arith, (takes_at later is_accepted end j))

-- what is after those that put entries in
abbrev others : List EntryWords → List Step
others entries = step.StoreTail ∷ step.Begin (length entries) ∷ (map (λ _. step.Take) entries ++ (step.End ∷ []))

calls_at : (entries : List EntryWords) (head accepted dropped after k : ℕ)
    → option_map (λ e. e.0) (call_event entries head (answer.Taken accepted dropped after) k) ≡ slice_get (others entries) k
calls_at entries head accepted dropped after k = grind (arith, takes_at)

-- of an event the step
put_at : (is_fill : Bool) (slot : ℕ) (entry : Option EntryWords)
    → option_map (λ e. e.0) (cond is_fill (filled slot entry) (Some (step.Index slot, answer.Staged))) ≡ cond is_fill (fill slot entry) (Some (step.Index slot))
put_at is_fill slot entry = grind arith

pub tells_each_step : TellsEachStep
tells_each_step entries head accepted dropped after zero few = grind (arith, common_steps)
tells_each_step entries head accepted dropped after (suc p) few =
    grind (arith, common_steps, few, put_at, (calls_at entries head accepted dropped after (p - 2 * length entries)), (puts_at 0 entries (others entries) p))
