-- In which steps a ring gets a number in its thread, by one row of a list. io_uring_register(2), IORING_REGISTER_RING_FDS; the order of faults is what Linux 6.18 was seen to do.
use Rattle.std.specs.Prelude.{ℤ, Bool, true, false, not, Option, Some, None, if◌then◌else◌}
use Rattle.uring_register.specs.declared.rings.numbering.RowStage.{RowStage}
use Rattle.uring_register.specs.declared.rings.numbering.RowStage.TheVariants.{Reads, Judges, Places, Fills, Tells}
use Rattle.uring_register.specs.declared.rings.numbering.RowOnto.{RowOnto}
use Rattle.uring_register.specs.declared.rings.numbering.RowOnto.TheVariants.{Does, Fails, Empties, IsDone}
use Rattle.uring_entry.specs.Errors.{is_below}

-- what is done after this, once that went well: the row is read, -14 (EFAULT), and looked at with its descriptor, -22, -9 and -95; a number is looked for, -16 (EBUSY), and the ring gets it, -24 (EMFILE), which is told in the row
abbrev pub after_row : Option RowStage → RowOnto
after_row None = Does Reads
after_row (Some Reads) = Does Judges
after_row (Some Judges) = Does Places
after_row (Some Places) = Does Fills
after_row (Some Fills) = Does Tells
after_row (Some Tells) = IsDone

abbrev pub has_filled : Option RowStage → Bool
has_filled (Some Tells) = true
has_filled _ = false

-- the first fault ends it; a ring whose number can't be told loses it again
abbrev pub next_of_row : Option RowStage → ℤ → RowOnto
next_of_row last res =
    if not (is_below res) then after_row last else
    if has_filled last then Empties res else Fails res
