-- In which order a call is refused before it is carried out, and which calls count. io_uring_enter(2), io_uring_register(2), ERRORS; the order of faults is what Linux 6.18 was seen to do, and which calls count our own rule.
use Rattle.std.specs.Prelude.{◌≡◌, ℕ, ℤ, Bool, true, false, ◌&&◌, nat_lt, Option, Some, None, if◌then◌else◌}
use Rattle.uring_enter.specs.declared.call.passage.Check.{Check}
use Rattle.uring_enter.specs.declared.call.passage.Check.TheVariants.{Number, Descriptor, Counts, Caller, Argument}
use Rattle.uring_enter.specs.declared.call.passage.CallSteps.{CallSteps}
use Rattle.uring_enter.specs.declared.call.passage.Passage.{Passage}
use Rattle.uring_enter.specs.declared.call.passage.Passage.TheVariants.{Checks, IsRefused, Passes}
use Rattle.uring_enter.specs.declared.call.reaching.Naming.{Naming}
use Rattle.uring_enter.specs.declared.call.reaching.Naming.TheVariants as naming
use Rattle.uring_enter.specs.Call.Reaching.{naming_of}
use Rattle.uring_entry.specs.Errors.{is_below}

-- the first fault ends a call
abbrev pub unless_refused : ℤ → Passage → Passage
unless_refused res next = if is_below res then IsRefused res else next

-- what is looked at first, by how a call names its ring
abbrev pub first_by : Naming → Passage
first_by (naming.Refused fault) = IsRefused fault
first_by naming.ByNumber = Checks Number
first_by naming.ByDescriptor = Checks Descriptor

abbrev pub first_of_entering : ℕ → Passage
first_of_entering flags = first_by (naming_of flags)

-- of io_uring_enter(2) the flags are looked at first; then the number, where they say that the ring is named by one, and the descriptor that it stands for; then who calls. A call counts once its ring is found, also if who calls is refused: by the count an eventfd knows what ends in a later call than its own
abbrev pub after_entering : ℕ → Option Check → Passage
after_entering flags None = first_of_entering flags
after_entering flags (Some Number) = Checks Descriptor
after_entering flags (Some Descriptor) = Checks Counts
after_entering flags (Some Counts) = Checks Caller
after_entering flags (Some Caller) = Passes
after_entering flags (Some Argument) = Passes

abbrev pub next_of_entering : ℕ → Option Check → ℤ → Passage
next_of_entering flags last res = unless_refused res (after_entering flags last)

-- of io_uring_register(2) the ring is looked for, where the descriptor has one; then it is looked who calls what, on which descriptor, and then at the argument and its count. A call on a ring counts, whatever it is refused with
abbrev pub after_registering : Bool → Option Check → Passage
after_registering has_ring None = Checks Descriptor
after_registering has_ring (Some Number) = Checks Descriptor
after_registering has_ring (Some Descriptor) = if has_ring then Checks Counts else Checks Caller
after_registering has_ring (Some Counts) = Checks Caller
after_registering has_ring (Some Caller) = Checks Argument
after_registering has_ring (Some Argument) = Passes

abbrev pub next_of_registering : Bool → Option Check → ℤ → Passage
next_of_registering has_ring last res = unless_refused res (after_registering has_ring last)

pub data CallStep : Type 0 where
  -- its last argument is taken for a structure of a mask and a time
  HasStructure : CallStep
  -- what any call does as it begins (`Duties`)
  Begins : CallStep
  IsMade : CallStep
  -- and as it returns
  Returns : CallStep

-- the place of a step: they are done by rising places
abbrev pub place : CallStep → ℕ
place HasStructure = 0
place Begins = 1
place IsMade = 2
place Returns = 3

abbrev pub is_done : CallSteps → CallStep → Bool
is_done s HasStructure = s.has_structure
is_done s Begins = s.begins
is_done s IsMade = s.is_made
is_done s Returns = s.returns

abbrev pub passes : Passage → Bool
passes Passes = true
passes (IsRefused _) = false
passes (Checks _) = false

-- what is done of a call besides its checks: of one that passes the last argument is taken for what its flags say, before anything is read of it; it does what any call does as it begins, is carried out, and does what any does as it returns. One that is refused does nothing, as in the kernel, and nor does one that is looked at still
abbrev pub call_steps : Passage → (is_extended : Bool) → CallSteps
call_steps next is_extended = record {
  has_structure = passes next && is_extended;
  begins = passes next;
  is_made = passes next;
  returns = passes next;
}

-- whatever a check of a call has refused, nothing is done
abbrev pub RefusedDoesNothing : Type 0
RefusedDoesNothing = (flags : ℕ) (has_ring is_extended : Bool) (last : Option Check) (res : ℤ) (step : CallStep)
    → is_below res ≡ true
    → (is_done (call_steps (next_of_entering flags last res) is_extended) step ≡ false)
    × (is_done (call_steps (next_of_registering has_ring last res) is_extended) step ≡ false)

-- whether a step that is done comes before another
abbrev pub comes_before : CallSteps → CallStep → CallStep → Bool
comes_before s first second = is_done s first && is_done s second && nat_lt (place first) (place second)

-- a call that is carried out is so after what any does as it begins, and before what any does as it returns
abbrev pub MadeBetweenDuties : Type 0
MadeBetweenDuties = (next : Passage) (is_extended : Bool) → is_done (call_steps next is_extended) IsMade ≡ true
    → (comes_before (call_steps next is_extended) Begins IsMade ≡ true)
    × (comes_before (call_steps next is_extended) IsMade Returns ≡ true)
