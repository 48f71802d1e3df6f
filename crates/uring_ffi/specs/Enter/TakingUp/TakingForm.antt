-- What goes on next, and what is copied of an entry, in words that C can read.
use Rattle.std.specs.Prelude.{ℕ, ℤ, pos, Option, Some, None}
use Rattle.uring_enter.specs.declared.taking_up.taking.Onward.{Onward}
use Rattle.uring_enter.specs.declared.taking_up.taking.Onward.TheVariants.{Takes, IsFull, HasEnded}
use Rattle.uring_operations.specs.declared.requests.ways.Way.{Way}
use Rattle.uring_operations.specs.declared.requests.ways.Way.TheVariants.{Finish, Issue, Return}
use Rattle.uring_enter.specs.declared.cancels.update.Removal.{Removal}
use Rattle.uring_enter.specs.declared.cancels.update.Removal.TheVariants.{Cancel, Update, UpdateLinked, Nothing}
use Rattle.uring_operations.specs.declared.copies.piece.What.{What}
use Rattle.uring_operations.specs.declared.copies.piece.What.TheVariants.{Buffer, Vectors, Path, SecondPath, How, Time, Value, Message, Address, HowRest}
use Rattle.uring_operations.specs.declared.copies.piece.Piece.{Piece}
use Rattle.uring_operations.specs.declared.copies.copying.Copying.{Copying}
use Rattle.uring_operations.specs.declared.copies.copying.Copying.TheVariants.{Copies, Ends}
use Rattle.uring_ffi.specs.declared.operations.copies.piece_exports.PieceWords.{PieceWords}

-- kinds count in the order of `Onward`, from 0. Our own rule
abbrev pub word_of_next : Onward → ℕ
word_of_next (Takes _) = 0
word_of_next IsFull = 1
word_of_next HasEnded = 2

abbrev pub cell_of_next : Onward → ℕ → ℕ
cell_of_next (Takes cell) old = cell
cell_of_next _ old = old

-- kinds count in the order of `Way`, from 1; 0 where there is none. Our own rule
abbrev pub word_of_way : Option Way → ℕ
word_of_way None = 0
word_of_way (Some (Finish _)) = 1
word_of_way (Some (Issue _)) = 2
word_of_way (Some Return) = 3

abbrev pub place_of_way : Option Way → ℕ
place_of_way (Some (Finish place)) = place
place_of_way (Some (Issue place)) = place
place_of_way _ = 0

-- kinds count in the order of `Removal`, from 0. Our own rule
abbrev pub word_of_removal : Removal → ℕ
word_of_removal Cancel = 0
word_of_removal Update = 1
word_of_removal UpdateLinked = 2
word_of_removal Nothing = 3

-- kinds count in the order of `What`, from 0. Our own rule
abbrev pub word_of_what : What → ℕ
word_of_what Buffer = 0
word_of_what Vectors = 1
word_of_what Path = 2
word_of_what SecondPath = 3
word_of_what How = 4
word_of_what Time = 5
word_of_what Value = 6
word_of_what Message = 7
word_of_what Address = 8
word_of_what HowRest = 9

abbrev pub words_of_piece : Piece → PieceWords
words_of_piece p = record { what = word_of_what p.what; from = p.from; size = p.size }

-- 1 if a piece is copied, else the fault of the entry, or 0. Our own rule
abbrev pub word_of_copying : Copying → ℤ
word_of_copying (Copies _) = pos 1
word_of_copying (Ends fault) = fault

abbrev pub words_of_copying : Copying → PieceWords → PieceWords
words_of_copying (Copies p) old = words_of_piece p
words_of_copying (Ends _) old = old
