-- In which steps a file is put into a slot that is free, by one row of a list. io_uring_enter(2), IORING_OP_FILES_UPDATE with IORING_FILE_INDEX_ALLOC; the order of faults is what Linux 6.18 was seen to do.
use Rattle.std.specs.Prelude.{ℤ, Bool, true, false, not, Option, Some, None, if◌then◌else◌}
use Rattle.uring_register.specs.declared.tables.placing.PlacingStage.{PlacingStage}
use Rattle.uring_register.specs.declared.tables.placing.PlacingStage.TheVariants.{Reads, Makes, Puts, Tells}
use Rattle.uring_register.specs.declared.tables.placing.PlacingOnto.{PlacingOnto}
use Rattle.uring_register.specs.declared.tables.placing.PlacingOnto.TheVariants.{Does, Fails, TakesOut, IsDone}
use Rattle.uring_entry.specs.Errors.{is_below}

-- what is done after this, once that went well: the row is read, -14 (EFAULT), and the file of its descriptor made, -9 (EBADF); a slot gets it, -23 (ENFILE), which is told in the row, -14
abbrev pub after_stage : Option PlacingStage → PlacingOnto
after_stage None = Does Reads
after_stage (Some Reads) = Does Makes
after_stage (Some Makes) = Does Puts
after_stage (Some Puts) = Does Tells
after_stage (Some Tells) = IsDone

abbrev pub has_put : Option PlacingStage → Bool
has_put (Some Tells) = true
has_put _ = false

-- the first fault ends it; a file whose slot can't be told is taken out again
abbrev pub next_of_placing : Option PlacingStage → ℤ → PlacingOnto
next_of_placing last res =
    if not (is_below res) then after_stage last else
    if has_put last then TakesOut res else Fails res
