-- What a program maps of a ring, in which order a set-up is refused, and when a ring is freed. io_uring_setup(2), but where the kernel or our own rule is named.
use Rattle.std.specs.Prelude.{◌≡◌, ℕ, ℤ, Bool, true, false, not, ◌||◌, ◌==◌, Option, Some, None, List, [], ◌∷◌, if◌then◌else◌}
use Rattle.std.specs.Int.RustNames.{bit_and}
use Rattle.uring_enter.specs.declared.rings.ringing.Region.{Region}
use Rattle.uring_enter.specs.declared.rings.ringing.Region.TheVariants.{Rings, Entries}
use Rattle.uring_enter.specs.declared.rings.ringing.Stage.{Stage}
use Rattle.uring_enter.specs.declared.rings.ringing.Stage.TheVariants.{Reads, AsksKernel, Makes, Tells, Opens}
use Rattle.uring_enter.specs.declared.rings.ringing.Onto.{Onto}
use Rattle.uring_enter.specs.declared.rings.ringing.Onto.TheVariants.{Does, Fails, Drops, IsDone}
use Rattle.uring_enter.specs.declared.rings.ringing.Fate.{Fate}
use Rattle.uring_enter.specs.declared.rings.ringing.Fate.TheVariants.{Stays, Asks, Goes}
use Rattle.uring_entry.specs.Errors.{is_below}

-- the five bits of an offset that name a part; Linux 6.18 was seen to look at no others
abbrev pub naming_bits : ℕ → ℕ
naming_bits offset = bit_and offset 4160749568

-- the part of a ring's memory at an offset, where both rings stand in one: at IORING_OFF_SQ_RING (0) or IORING_OFF_CQ_RING (0x8000000) the rings, at IORING_OFF_SQES (0x10000000) the table of entries
abbrev pub region_of : ℕ → Option Region
region_of offset =
    let bits = naming_bits offset in
    if bits == 0 || bits == 134217728 then Some Rings else
    if bits == 268435456 then Some Entries else None

abbrev pub is_region : Option Region → Bool
is_region (Some _) = true
is_region None = false

-- what a set-up does after this, once that went well: it reads the parameters, asks the kernel where the ring is strict, makes the ring, tells its parameters, and opens its descriptor. Our own rule, but that the parameters are read first, and that they are told before there is a descriptor, as Linux 6.18 was seen to do
abbrev pub after_stage : Option Stage → Onto
after_stage None = Does Reads
after_stage (Some Reads) = Does AsksKernel
after_stage (Some AsksKernel) = Does Makes
after_stage (Some Makes) = Does Tells
after_stage (Some Tells) = Does Opens
after_stage (Some Opens) = IsDone

abbrev pub has_made : Option Stage → Bool
has_made (Some Tells) = true
has_made (Some Opens) = true
has_made _ = false

-- the first fault ends it; a ring whose parameters can't be told, or that can't have a descriptor, is dropped
abbrev pub next_of : Option Stage → ℤ → Onto
next_of last res =
    if not (is_below res) then after_stage last else
    if has_made last then Drops res else Fails res

-- a run of a set-up: what it has done, the newest first, each of which came next once all before it went well
abbrev pub last_of : List Stage → Option Stage
last_of [] = None
last_of (stage ∷ earlier) = Some stage

abbrev pub IsSetUp : List Stage → Type 0
IsSetUp [] = Unit {0}
IsSetUp (stage ∷ earlier) = IsSetUp earlier × (after_stage (last_of earlier) ≡ Does stage)

abbrev pub is_making : Stage → Bool
is_making Makes = true
is_making _ = false

-- whether a ring was made by then
abbrev pub makes_any : List Stage → Bool
makes_any [] = false
makes_any (stage ∷ earlier) = is_making stage || makes_any earlier

-- a set-up that fails drops the ring exactly if one was made before: so none stays that nobody has a descriptor of, and nothing is dropped that isn't there
abbrev pub DropsWhatIsMade : Type 0
DropsWhatIsMade = (done : List Stage) (stage : Stage) (fault : ℤ) → IsSetUp (stage ∷ done) → is_below fault ≡ true
    → next_of (Some stage) fault ≡ (if makes_any done then Drops fault else Fails fault)

-- the parameters are told just before the descriptor is opened: whoever has that can have read them
abbrev pub TellsBeforeItOpens : Type 0
TellsBeforeItOpens = (done : List Stage) → IsSetUp (Opens ∷ done) → last_of done ≡ Some Tells

abbrev pub fate_by : Option Bool → Fate
fate_by None = Asks
fate_by (Some is_open) = if is_open then Stays else Goes

-- what becomes of a ring when one of its descriptors is closed, or when another ring is made: it is freed once no call is on it and no descriptor of its process is open on it, which is asked last. A process frees no ring of its parent's. Our own rule, as close(2) has it of a file
abbrev pub fate_of : Bool → ℕ → Option Bool → Fate
fate_of is_own calls known =
    if not is_own then Stays else
    if not (calls == 0) then Stays else fate_by known
