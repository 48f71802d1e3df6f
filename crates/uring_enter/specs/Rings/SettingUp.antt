-- Which rings a set-up makes, and with which error it refuses others. io_uring_setup(2), DESCRIPTION and ERRORS; which flags want or can't have which, and the order of faults, are the kernel's, and the limits of the sizes our own rule.
use Rattle.std.specs.Prelude.{◌≡◌, ℕ, ℤ, pos, ◌+◌, Bool, true, false, not, ◌&&◌, ◌||◌, ◌⊎◌, min, Option, Some, None, if◌then◌else◌}
use Rattle.uring_entry.specs.Setup.{Setup, IsSetupFor}
use Rattle.uring_enter.specs.declared.rings.asked_ring.AskedRing.{AskedRing}
use Rattle.uring_operations.specs.Entries.Clocks.{has_some}
use Rattle.uring_entry.specs.Errors.{error, is_below}

-- IORING_SETUP_SQPOLL is 2: no COOP_TASKRUN (256), TASKRUN_FLAG (512) or DEFER_TASKRUN (8192) beside it. TASKRUN_FLAG wants one of the other two, and DEFER_TASKRUN SINGLE_ISSUER (4096)
abbrev pub has_lone_flags : ℕ → Bool
has_lone_flags flags =
    if has_some flags 2 then has_some flags 8960 else
    has_some flags 512 && not (has_some flags 8448) || has_some flags 8192 && not (has_some flags 4096)

-- a reserved field isn't 0, or a flag isn't served: those up to DEFER_TASKRUN are, the lowest 14 bits
abbrev pub is_malformed : AskedRing → Bool
is_malformed a = a.has_reserved || has_some a.flags 4294950912 || has_lone_flags a.flags

-- IORING_SETUP_CLAMP (16): a size past the largest is the largest
abbrev pub clamped : ℕ → ℕ → ℕ → ℕ
clamped flags size most = if has_some flags 16 then min size most else size

abbrev pub asked_sq : AskedRing → ℕ
asked_sq a = clamped a.flags a.entries 4096

-- IORING_SETUP_CQSIZE is 8
abbrev pub asked_cq : AskedRing → Option ℕ
asked_cq a = if has_some a.flags 8 then Some (clamped a.flags a.cq_entries 8192) else None

-- no ring has the sizes that are asked for
abbrev pub HasNoSizes : AskedRing → Type 0
HasNoSizes a = (s : Setup) → IsSetupFor (asked_sq a) (asked_cq a) 1 0 s → ⊥

-- IORING_SETUP_ATTACH_WQ (32): -6 (ENXIO) if the descriptor isn't open; -22 (EINVAL) if it is no ring, or one without a thread that is to be shared
abbrev pub sharing_fault : AskedRing → ℤ
sharing_fault a =
    if not (has_some a.flags 32) then pos 0 else
    if not a.is_open then error 6 else
    if not a.is_ring || has_some a.flags 2 && not a.has_thread then error 22 else pos 0

-- IORING_SETUP_SQ_AFF (4) wants a thread, and a processor that is online, as Linux 6.18 does; of a thread that is shared it isn't looked at
abbrev pub has_bad_processor : AskedRing → Bool
has_bad_processor a =
    has_some a.flags 4
    && (if has_some a.flags 2 then not (has_some a.flags 32) && not a.is_online else true)

-- the fault of what a set-up names, or 0
abbrev pub place_fault : AskedRing → ℤ
place_fault a =
    if is_below (sharing_fault a) then sharing_fault a else
    if has_bad_processor a then error 22 else pos 0

-- whether it is asked if a processor is online: one is named (IORING_SETUP_SQ_AFF, 4) for a thread (2) that isn't shared (32). And of what a descriptor names: a ring is (32). Our own rule
abbrev pub asks_processor : ℕ → Bool
asks_processor flags = has_some flags 4 && has_some flags 2 && not (has_some flags 32)

abbrev pub asks_shared : ℕ → Bool
asks_shared flags = has_some flags 32

-- what isn't asked makes no difference to what a set-up names
abbrev pub AsksWhatMatters : Type 0
AsksWhatMatters = (a : AskedRing) (is_online is_open is_ring has_thread : Bool)
    → (asks_processor a.flags ≡ false → place_fault (record a { is_online = is_online }) ≡ place_fault a)
    × (asks_shared a.flags ≡ false → place_fault (record a { is_open = is_open; is_ring = is_ring; has_thread = has_thread }) ≡ place_fault a)

-- this is a set-up of the sizes that are asked for, by the rules that are. Which rules is our own rule
abbrev pub IsAsked : AskedRing → Setup → Type 0
IsAsked a s =
    IsSetupFor (asked_sq a) (asked_cq a) 1 0 (record s { linux = false }) × (s.linux ≡ a.linux)

-- a ring of these sizes is made, by these rules
abbrev pub IsMade : AskedRing → Setup → Type 0
IsMade a s =
    (is_malformed a ≡ false) × IsAsked a s × (is_below (place_fault a) ≡ false)

-- what is wrong by itself comes first, then sizes, each -22, and then the fault of what is named
abbrev pub IsRefusedWith : AskedRing → ℤ → Type 0
IsRefusedWith a fault =
    ((is_malformed a ≡ true) ⊎ HasNoSizes a) × (fault ≡ error 22)
    ⊎ (is_malformed a ≡ false) × ((s : Setup) × IsSetupFor (asked_sq a) (asked_cq a) 1 0 s) × (is_below (place_fault a) ≡ true) × (fault ≡ place_fault a)

-- IORING_SETUP_SQPOLL: the ring has a thread that takes its entries. Who wakes it takes what it would have taken, by rounds (`Rounds`); on another ring a call takes its own
abbrev pub has_thread : ℕ → Bool
has_thread flags = has_some flags 2

-- an entry of 128 bytes (IORING_SETUP_SQE128, 1024) stands in two cells of 64, and a completion of 32 (IORING_SETUP_CQE32, 2048) in two of 16; else each stands in one
abbrev pub entry_cells : ℕ → ℕ
entry_cells flags = if has_some flags 1024 then 2 else 1

abbrev pub completion_cells : ℕ → ℕ
completion_cells flags = if has_some flags 2048 then 2 else 1

-- what a ring can do: IORING_FEAT_NODROP (2), SUBMIT_STABLE (4), RW_CUR_POS (8), CUR_PERSONALITY (16), FAST_POLL (32), SQPOLL_NONFIXED (128), EXT_ARG (256), NATIVE_WORKERS (512), RSRC_TAGS (1024), CQE_SKIP (2048), LINKED_FILE (4096) and MIN_TIMEOUT (32768); and SINGLE_MMAP (1)
abbrev pub features : Bool → ℕ
features one =
    2 + 4 + 8 + 16 + 32 + 128 + 256 + 512 + 1024 + 2048 + 4096 + 32768 + (if one then 1 else 0)
