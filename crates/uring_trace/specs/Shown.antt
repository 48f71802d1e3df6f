-- What is answered to a question of an explanation, by the world in which it is asked. The texts are our own rule.
use Rattle.std.specs.Prelude.{ℕ, zero, suc, Bool, List, [], ◌∷◌, ◌++◌, length, drop, Option, Some, None, codes}
use Rattle.std.specs.Fmt.{decimal}
use Rattle.uring_entry.specs.Setup.{Setup}
use Rattle.uring_entry.specs.Layout.{Cqe, Sqe, user_data_of}
use Rattle.uring_entry.specs.Completions.{Completions}
use Rattle.uring_entry.specs.Requests.{entry_outstanding, outstanding_in, running_in}
use Rattle.uring_linux.specs.LinuxRequests.{LinuxRequests}
use Rattle.uring_rules.specs.Rules.{why_of}
use Rattle.uring_entry.specs.declared.why.Why.{Why}
use Rattle.uring_files.specs.Operations.{state_of}
use Rattle.uring_files.specs.declared.file.FileState.{FileState}
use Rattle.uring_core.specs.World.{World, requests_of}
use Rattle.uring_core.specs.CalledFor.{files_of}
use Rattle.uring_core.specs.declared.cores.Counts.{Counts}
use Rattle.uring_text.specs.Completions.{completion_text}
use Rattle.uring_text.specs.Forms.{operation_text}
use Rattle.uring_trace.specs.Reasons.{why_text}
use Rattle.uring_trace.specs.declared.questions.Question.{Question}
use Rattle.uring_trace.specs.declared.questions.Question.TheVariants as question

-- how many requests were accepted, are outstanding and run, and how many completions were posted and reaped
abbrev pub counts_of : World → Counts
counts_of w = record {
  accepted = length w.requests.accepted;
  outstanding = outstanding_in w.requests;
  running = running_in w.requests;
  posted = length w.completions.posted;
  reaped = length w.completions.reaped;
}

abbrev pub counts_text : Counts → List ℕ
counts_text c =
    codes "accepted " ++ decimal c.accepted ++ codes " outstanding " ++ decimal c.outstanding ++ codes " running " ++ decimal c.running ++ codes " posted " ++ decimal c.posted
    ++ codes " reaped " ++ decimal c.reaped

-- the sizes after rounding, how many files there are, and the word at which the rings begin
abbrev pub sizes_text : Setup → List ℕ
sizes_text g =
    codes "sq " ++ decimal g.sq ++ codes " cq " ++ decimal g.cq ++ codes " files " ++ decimal g.files ++ codes " start " ++ decimal g.start

-- the completions that wait in the overflow list: all that were posted and not put into the ring. io_uring_setup(2), IORING_FEAT_NODROP
abbrev pub overflow_of : Completions → List Cqe
overflow_of l = drop l.put l.posted

-- a completion after a comma and a space, if there is one
abbrev pub listed_text : Option Cqe → List ℕ
listed_text None = []
listed_text (Some c) = codes ", " ++ completion_text c

-- completions in their order
abbrev pub list_text : List Cqe → List ℕ
list_text [] = []
list_text (c ∷ completions) = listed_text (Some c) ++ list_text completions

-- how many completions wait, and which, the oldest first
abbrev pub overflow_text : List Cqe → List ℕ
overflow_text completions =
    codes "overflow " ++ decimal (length completions) ++ list_text completions

-- a request after a comma and a space, if it is outstanding: its number, its user data, its operation, and how it stands
abbrev pub row_text : ℕ → Option Sqe → Why → List ℕ
row_text n None why = []
row_text n (Some e) why =
    codes ", " ++ decimal n ++ codes " " ++ decimal (user_data_of e) ++ codes " " ++ operation_text e ++ codes ": " ++ why_text why

-- the outstanding ones of the first requests, so many
abbrev pub rows_below : (is_linux : Bool) → LinuxRequests → ℕ → List ℕ
rows_below is_linux l zero = []
rows_below is_linux l (suc n) =
    rows_below is_linux l n ++ row_text n (entry_outstanding l.requests n) (why_of is_linux l n)

-- how many requests are outstanding, and which, the least first
abbrev pub requests_text : (is_linux : Bool) → LinuxRequests → List ℕ
requests_text is_linux l =
    codes "requests " ++ decimal (outstanding_in l.requests) ++ rows_below is_linux l (length l.requests.accepted)

-- a file's length in bytes, how many of its writes succeeded, and how many of these its last sync made safe; or that there is none
abbrev pub file_text : Option FileState → List ℕ
file_text (Some state) =
    codes "len " ++ decimal state.len ++ codes " writes " ++ decimal state.writes ++ codes " synced " ++ decimal state.synced
file_text None = codes "no file"

-- what is answered
abbrev pub shown : Setup → World → Question → List ℕ
shown g w question.Counts = counts_text (counts_of w)
shown g w question.Sizes = sizes_text g
shown g w question.Overflow = overflow_text (overflow_of w.completions)
shown g w question.Requests = requests_text g.linux (requests_of w)
shown g w (question.Why n) = why_text (why_of g.linux (requests_of w) n)
shown g w (question.File fd) = file_text (state_of (files_of g w) fd)
