-- What becomes of a list of files or buffers, and in which steps a file is put where there is room, in words that C can read.
use Rattle.std.specs.Prelude.{ℕ, Option, Some, None, ◌==◌, if◌then◌else◌}
use Rattle.uring_register.specs.declared.tables.listing.Listing.{Listing}
use Rattle.uring_register.specs.declared.tables.listing.Listing.TheVariants as listing
use Rattle.uring_register.specs.declared.tables.placing.PlacingStage.{PlacingStage}
use Rattle.uring_register.specs.declared.tables.placing.PlacingStage.TheVariants as stage
use Rattle.uring_register.specs.declared.tables.placing.PlacingOnto.{PlacingOnto}
use Rattle.uring_register.specs.declared.tables.placing.PlacingOnto.TheVariants as placing

-- kinds count in the order of `Listing`, from 0. Our own rule
abbrev pub word_of_listing : Listing → ℕ
word_of_listing listing.Takes = 0
word_of_listing listing.Puts = 1
word_of_listing listing.Drops = 2

-- what is done by a row that puts a file where there is room counts in the order of `PlacingStage`, from 0; then that it fails, that the file is taken out again and that it is done. Our own rule
abbrev pub word_of_placing : PlacingOnto → ℕ
word_of_placing (placing.Does stage.Reads) = 0
word_of_placing (placing.Does stage.Makes) = 1
word_of_placing (placing.Does stage.Puts) = 2
word_of_placing (placing.Does stage.Tells) = 3
word_of_placing (placing.Fails _) = 4
word_of_placing (placing.TakesOut _) = 5
word_of_placing placing.IsDone = 6

-- what it has done, by that word; None: nothing
abbrev pub placing_stage_of : ℕ → Option PlacingStage
placing_stage_of word =
    if word == 0 then Some stage.Reads else
    if word == 1 then Some stage.Makes else
    if word == 2 then Some stage.Puts else
    if word == 3 then Some stage.Tells else None
