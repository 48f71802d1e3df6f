-- What becomes of a list of files or buffers, by what its rows have come to, and in which order the slots of a table go. io_uring_register(2), IORING_REGISTER_FILES2, IORING_REGISTER_FILES_UPDATE2 and IORING_UNREGISTER_FILES; that none is registered after a fault, and which slot goes first, is what Linux 6.18 was seen to do.
use Rattle.std.specs.Prelude.{◌≡◌, ◌-◌, ◌<◌, ◌≤◌, ℕ, ℤ, Bool, true, false, not, ◌&&◌, nat_lt, Option, Some, None, if◌then◌else◌}
use Rattle.uring_register.specs.declared.tables.listing.Listing.{Listing}
use Rattle.uring_register.specs.declared.tables.listing.Listing.TheVariants.{Takes, Puts, Drops}
use Rattle.uring_entry.specs.Errors.{is_below}

-- the first row with a fault ends a registration: then no table is there, and no tag of what was made for it is told. Without any list its slots are empty, and no row is read
abbrev pub listing_of : (taken count : ℕ) → (has_lists : Bool) → (fault : ℤ) → Listing
listing_of taken count has_lists fault =
    if is_below fault then Drops else
    if has_lists && nat_lt taken count then Takes else Puts

-- the first row with a fault ends an update, a placing or an enrolling too, but what was done by those before it stays
abbrev pub takes_next : (done count : ℕ) → (fault : ℤ) → Bool
takes_next done count fault = not (is_below fault) && nat_lt done count

-- of a table that is gone the last slot goes first, and so its tag is told first
abbrev pub next_to_go : (count gone : ℕ) → Option ℕ
next_to_go count gone = if nat_lt gone count then Some (count - 1 - gone) else None

-- a table is registered only if no row has a fault, and after all of them
abbrev pub PutsWholeLists : Type 0
PutsWholeLists = (taken count : ℕ) (fault : ℤ) → listing_of taken count true fault ≡ Puts
    → (is_below fault ≡ false) × (count ≤ taken)

-- a slot is the one that goes next exactly where as many have gone as stand after it
abbrev pub EachSlotGoesOnce : Type 0
EachSlotGoesOnce = (count slot : ℕ) → slot < count → next_to_go count (count - 1 - slot) ≡ Some slot
