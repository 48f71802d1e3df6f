-- The text of a check's report. Its words are our own rule.
use Rattle.std.specs.Prelude.{ℕ, Bool, if◌then◌else◌, ◌+◌, ◌-◌, ◌^◌, min, List, [], ◌∷◌, ◌++◌, length, codes, option_map, Option, Some, None}
use Rattle.std.specs.Fmt.{decimal, signed_decimal}
use Rattle.uring_entry.specs.Layout.{Sqe, len_of, opcode_of}
use Rattle.uring_entry.specs.Preparation.{is_transfer}
use Rattle.uring_entry.specs.Setup.{Setup}
use Rattle.uring_linux.specs.LinuxRequests.{LinuxRequests}
use Rattle.uring_rules.specs.Rules as by_rules
use Rattle.uring_entry.specs.declared.why.Why.{Why}
use Rattle.uring_core.specs.World.{requests_of}
use Rattle.uring_core.specs.Histories.{History, world}
use Rattle.uring_core.specs.declared.answer.Answer.TheVariants as answer
use Rattle.uring_core.specs.declared.step.Step.{Step}
use Rattle.uring_core.specs.declared.step.Step.TheVariants as step
use Rattle.uring_core.specs.declared.wanted.Wanted.{Wanted}
use Rattle.uring_core.specs.declared.wanted.Wanted.TheVariants.{Only, CallOrAgain, AnyEnd, EndOrNoMemory}
use Rattle.uring_trace.specs.Explanations.{line_number}
use Rattle.uring_text.specs.Forms.{deed_text}
use Rattle.uring_text.specs.Lines.{ended}
use Rattle.uring_text.specs.Visible.{visible_line}
use Rattle.uring_trace.specs.Flaws.{line_flaw}
use Rattle.uring_trace.specs.declared.flaws.Language.TheVariants as language
use Rattle.uring_trace.specs.Chosen.{chosen_told}
use Rattle.uring_trace.specs.Reasons.{found_text, why_text}
use Rattle.uring_trace.specs.Text.{text_of}
use Rattle.uring_check.specs.Findings.{Found, Finding, history_after, verdict_of}
use Rattle.uring_check.specs.Findings as finding
use Rattle.uring_check.specs.Cancels.{found_asked}
use Rattle.uring_check.specs.Posters.{next_poster}
use Rattle.uring_check.specs.Rules.{Rules, entry_asked}
use Rattle.uring_check.specs.declared.verdict.Verdict.{Verdict}
use Rattle.uring_check.specs.declared.verdict.Verdict.TheVariants as verdict

-- what a request of this entry does, and of a read and a write its length
abbrev pub operation_text : Sqe → List ℕ
operation_text e =
    if is_transfer e then deed_text (opcode_of e) ++ codes " of " ++ decimal (len_of e)
    else deed_text (opcode_of e)

-- an end: any, or one with a result that a request of this entry may end with
abbrev pub end_text : Option Sqe → List ℕ
end_text None = codes "an end"
end_text (Some e) = codes "a result of " ++ operation_text e

-- the answers that are called for; a result is to be one of this entry's operation, if there is one
abbrev pub wanted_text : Option Sqe → Wanted → List ℕ
wanted_text asked (Only a) = text_of a
wanted_text asked (CallOrAgain length) =
    codes "call " ++ decimal length ++ codes " or again"
wanted_text asked AnyEnd = end_text asked
wanted_text asked (EndOrNoMemory res) =
    codes "ended " ++ signed_decimal res ++ codes " or ended -12"

-- of an issue and of a finish, the number of its request and why that stands as it does
abbrev pub why_asked : (is_linux : Bool) → LinuxRequests → Step → Option (ℕ × Why)
why_asked is_linux l (step.Issue n) = Some (n, by_rules.why_of is_linux l n)
why_asked is_linux l (step.Finish n) = Some (n, by_rules.why_of is_linux l n)
why_asked is_linux l _ = None

-- what is told of it
abbrev pub why_told : Option (ℕ × Why) → List ℕ
why_told None = []
why_told (Some why) = codes "why: " ++ decimal why.0 ++ codes " " ++ ended (why_text why.1)

-- what is told of whom a cancel chooses
abbrev pub whom_told : Option (List ℕ) → List ℕ
whom_told None = []
whom_told (Some chosen) = codes "whom: " ++ ended chosen

-- the user data of the one completion that is wanted
abbrev pub completion_wanted : Wanted → Option ℕ
completion_wanted (Only (answer.Reaped completion)) = Some completion.user_data
completion_wanted _ = None

-- what is told of the request whose completion is wanted
abbrev pub whose_told : Option ℕ → Option ℕ → List ℕ
whose_told (Some user_data) (Some n) =
    codes "whose: " ++ decimal n ++ codes ", user data " ++ ended (decimal user_data)
whose_told _ _ = []

-- all that is told of why these answers are wanted: how the request stands, whom a cancel chooses, and whose a completion is
abbrev pub reasons_told : Setup → History → Step → Wanted → List ℕ
reasons_told g h s wanted =
    why_told (why_asked g.linux (requests_of (world g h)) s) ++ whom_told (chosen_told g.linux (requests_of (world g h)) s) ++ whom_told (option_map found_text (found_asked g.linux (requests_of (world g h)) s))
    ++ whose_told (completion_wanted wanted) (next_poster g h)

-- the number of a line
abbrev pub line_text : ℕ → List ℕ
line_text number = codes "line " ++ decimal number ++ codes ": "

-- what is told of a bad line: what is wrong with it
abbrev pub why_bad : List ℕ → List ℕ
why_bad line = codes "why: " ++ ended (line_flaw language.Records line)

-- What is told of the line with this number, by the history before it: of a wrong one the line, in which no byte is invisible, the answers that are called for, and why; and that a line is bad, and why.
abbrev pub told_of : Rules → History → ℕ → List ℕ → Finding → List ℕ
told_of g h number line (finding.Wrong s wanted) =
    line_text number ++ ended (visible_line line) ++ codes "wanted: " ++ ended (wanted_text (entry_asked g h s) wanted) ++ reasons_told g.setup h s wanted
told_of g h number line finding.Bad = line_text number ++ ended (codes "bad line") ++ why_bad line
told_of g h number line _ = []

-- one step more for a right line
abbrev pub counted_with : Finding → ℕ → ℕ
counted_with (finding.Right s a) steps = min (steps + 1) (2 ^ 64 - 1)
counted_with _ steps = steps

-- of lines with their findings, the newest first, how many are right; 2^64 - 1 stands for every greater number too
abbrev pub steps_of : List Found → ℕ
steps_of [] = 0
steps_of (x ∷ before) = counted_with x.finding (steps_of before)

-- what is told of all of them
abbrev pub told_of_all : Rules → List Found → List ℕ
told_of_all g [] = []
told_of_all g (x ∷ before) =
    told_of_all g before ++ told_of g (history_after before) (line_number (length before)) x.line x.finding

-- the last line, if all is lawful: how many steps there were
abbrev pub closing : Verdict → ℕ → List ℕ
closing verdict.Lawful steps = codes "lawful: " ++ decimal steps ++ ended (codes " steps")
closing v steps = []

-- what is told of a first line that is to say a set-up and says none
abbrev pub missed_text : List ℕ
missed_text =
    codes "line 1: bad line\nwhy: no set-up, wanted: # setup --sq N --cq N --files N --start N, each within its limits, and --stop, --linux or both, or nothing\n"

-- The report.
abbrev pub report : Rules → List Found → List ℕ
report g xs = told_of_all g xs ++ closing (verdict_of xs) (steps_of xs)
