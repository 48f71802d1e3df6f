-- The command line, and what it asks for. The options are our own rule.
use Rattle.std.specs.Prelude.{◌≡◌, ℕ, ◌<◌, ◌≤◌, ◌⊎◌, pos, Bool, true, false, List, [], ◌∷◌, Option, Some, None, codes, unwrap_or, if◌then◌else◌}
use Rattle.std.specs.Int.{IsNextPowerOfTwo}
use Rattle.std.specs.Str.{bytes_eq}
use Rattle.std.specs.Str.Parse.{IsNumeral, digits_value, without_leading_plus}
use Rattle.clap.specs.Faults.{fault_of}
use Rattle.clap.specs.Kinds.{Kinds, HasKind}
use Rattle.clap.specs.Simple.{App, new_app, new_rule, subcommand_of, with_rule, with_subcommand}
use Rattle.clap.specs.Values.{kind_of}
use Rattle.clap.specs.Walk.{Row, Rule, Text, one_of}
use Rattle.clap.specs.declared.builder.action.ArgAction.TheVariants.{Set, SetTrue}
use Rattle.clap.specs.declared.builder.value_parser.ValueParser.{ValueParser}
use Rattle.clap.specs.declared.builder.value_parser.ValueParser.TheVariants.{Signed}
use Rattle.clap.specs.declared.error.kind.ErrorKind.TheVariants.{OutOfMemory}
use Rattle.uring_entry.specs.Setup.{Setup, IsSetupFor}
use Rattle.uring_options.specs.declared.answers.Options.{Options}
use Rattle.uring_options.specs.declared.answers.Options.TheVariants.{Trace, Explain, Graph, Timeline, Page, Json, Check, CheckEarly, CheckPage, CheckJson, Play, Shared, Crash, Outcomes, Fill}
use Rattle.uring_options.specs.declared.answers.OptionsFault.{OptionsFault}
use Rattle.uring_options.specs.declared.answers.OptionsFault.TheVariants.{Small, Words}

-- what a command runs
pub data Run : Type 0 where
  Traces : Run
  Explains : Run
  Checks : Run
  Plays : Run
  Crashes : Run
  Lists : Run
  Fills : Run

-- an option of a command: its name, and if it takes a number, the least and the most one
abbrev pub CommandOption : Type 0
CommandOption = Text × Option (ℕ × ℕ)

-- an option that takes a number from low to high
abbrev pub number : Text → ℕ → ℕ → CommandOption
number id low high = (id, Some (low, high))

-- an option that takes no value
abbrev pub flag : Text → CommandOption
flag id = (id, None)

-- the four options of a set-up
abbrev pub setup_options : List CommandOption
setup_options = number (codes "sq") 1 4096 ∷ number (codes "cq") 1 8192
    ∷ number (codes "files") 1 64 ∷ number (codes "start") 0 4294967295 ∷ []

-- the further options of each command; calls of a play go on
abbrev pub own_options : Run → List CommandOption
own_options Traces = flag (codes "stop") ∷ flag (codes "linux") ∷ flag (codes "echo") ∷ flag (codes "strict") ∷ []
own_options Explains = flag (codes "stop") ∷ flag (codes "linux") ∷ flag (codes "graph")
    ∷ number (codes "at") 0 4294967295 ∷ flag (codes "timeline")
    ∷ flag (codes "page") ∷ flag (codes "json") ∷ []
own_options Checks = flag (codes "stop") ∷ flag (codes "linux") ∷ flag (codes "all") ∷ flag (codes "apart")
    ∷ flag (codes "results") ∷ flag (codes "page") ∷ flag (codes "json")
    ∷ flag (codes "early-effects") ∷ number (codes "most") 1 4294967295 ∷ []
own_options Plays = flag (codes "linux") ∷ number (codes "workers") 1 8 ∷ flag (codes "shared") ∷ []
own_options Crashes = flag (codes "stop") ∷ flag (codes "linux") ∷ number (codes "file") 0 63
    ∷ number (codes "unit") 1 65536 ∷ number (codes "at") 0 4294967295
    ∷ number (codes "seed") 0 4294967295 ∷ flag (codes "count") ∷ flag (codes "all")
    ∷ number (codes "most") 1 4294967295 ∷ flag (codes "holds") ∷ flag (codes "each") ∷ []
own_options Lists = flag (codes "results") ∷ flag (codes "contents") ∷ flag (codes "crash")
    ∷ number (codes "unit") 1 65536 ∷ number (codes "most") 1 4294967295 ∷ number (codes "explain") 1 4294967295
    ∷ flag (codes "never") ∷ flag (codes "always") ∷ []
own_options Fills = flag (codes "stop") ∷ flag (codes "linux") ∷ number (codes "most") 1 4294967295 ∷ []

-- to clap, an option of this name that takes a number, which this parser checks
abbrev pub option_rule : Text → ValueParser → Rule
option_rule id parser =
    record (new_rule id) { long = Some id; value_names = 1; action = Some Set; parser = Some parser }

-- to clap, an option of this name that takes no value
abbrev pub flag_rule : Text → Rule
flag_rule id = record (new_rule id) { long = Some id; action = Some SetTrue }

-- to clap, an option of this name, with its least and its most number, if it takes one
abbrev pub rule_for : Text → Option (ℕ × ℕ) → Rule
rule_for id None = flag_rule id
rule_for id (Some range) = option_rule id (Signed (pos range.0) (pos range.1))

-- a command with these options, in their order
abbrev pub with_options_of : App → List CommandOption → App
with_options_of app [] = app
with_options_of app (option ∷ rest) =
    with_options_of (with_rule app (rule_for option.0 option.1)) rest

-- the command's word
abbrev pub name_of : Run → Text
name_of Traces = codes "trace"
name_of Explains = codes "explain"
name_of Checks = codes "check"
name_of Plays = codes "play"
name_of Crashes = codes "crash"
name_of Lists = codes "outcomes"
name_of Fills = codes "fill"

-- a command of the program with its options
abbrev pub app_for : Run → App
app_for run =
    with_options_of (with_options_of (new_app (name_of run)) setup_options) (own_options run)

-- the program with these commands, in their order
abbrev pub with_commands_of : App → List Run → App
with_commands_of app [] = app
with_commands_of app (run ∷ rest) =
    with_commands_of (with_subcommand app (app_for run).top) rest

-- the program's command line, as clap sees a command
abbrev pub uring : App
uring =
    with_commands_of (new_app (codes "uring")) (Traces ∷ Explains ∷ Checks ∷ Plays ∷ Crashes ∷ Lists ∷ Fills ∷ [])

-- the command, a trace without one
abbrev pub run_of : Option (Text × List Row) → Run
run_of None = Traces
run_of (Some named) =
    if bytes_eq named.0 (codes "explain") then Explains else
    if bytes_eq named.0 (codes "check") then Checks else
    if bytes_eq named.0 (codes "play") then Plays else
    if bytes_eq named.0 (codes "crash") then Crashes else
    if bytes_eq named.0 (codes "outcomes") then Lists else
    if bytes_eq named.0 (codes "fill") then Fills else
    Traces

-- what the words after a command give, nothing without one
abbrev pub command_rows : Option (Text × List Row) → List Row
command_rows None = []
command_rows (Some named) =
    if bytes_eq named.0 (codes "explain") then named.1 else
    if bytes_eq named.0 (codes "check") then named.1 else
    if bytes_eq named.0 (codes "play") then named.1 else
    if bytes_eq named.0 (codes "crash") then named.1 else
    if bytes_eq named.0 (codes "outcomes") then named.1 else
    if bytes_eq named.0 (codes "fill") then named.1 else
    if bytes_eq named.0 (codes "trace") then named.1 else
    []

-- n is the number that a text writes in decimal digits, which may follow a plus
pub record IsNumber (text : Text) (n : ℕ) : Type 0 where
  pub digits : IsNumeral 10 (without_leading_plus text)
  pub value : n ≡ digits_value 10 (without_leading_plus text)

-- what the option of a name gives: nothing if it is absent, and else the number that its text writes
abbrev pub Gives : List Row → Text → Option ℕ → Type 0
Gives rows id None = one_of id rows ≡ None
Gives rows id (Some n) = (text : Text) × (one_of id rows ≡ Some text) × IsNumber text n

-- the number, if it is given, is from low to high
abbrev pub IsWithin : ℕ → ℕ → Option ℕ → Type 0
IsWithin low high None = Unit {0}
IsWithin low high (Some n) = (low ≤ n) × (n ≤ high)

-- the numbers of a set-up, each if it is given
pub record Numbers : Type 0 where
  pub sq : Option ℕ
  pub cq : Option ℕ
  pub files : Option ℕ
  pub start : Option ℕ

-- each number is in its option's range
pub record AreInRange (n : Numbers) : Type 0 where
  pub sq : IsWithin 1 4096 n.sq
  pub cq : IsWithin 1 8192 n.cq
  pub files : IsWithin 1 64 n.files
  pub start : IsWithin 0 4294967295 n.start

-- the options give these numbers, each in its range
pub record GivesNumbers (rows : List Row) (n : Numbers) : Type 0 where
  pub sq : Gives rows (codes "sq") n.sq
  pub cq : Gives rows (codes "cq") n.cq
  pub files : Gives rows (codes "files") n.files
  pub start : Gives rows (codes "start") n.start
  pub in_range : AreInRange n

-- the option for the workers of a play gives this number, in its range
abbrev pub GivesWorkers : List Row → Option ℕ → Type 0
GivesWorkers rows n = Gives rows (codes "workers") n × IsWithin 1 8 n

-- so many workers: 2 if no number is given
abbrev pub AreWorkers : List Row → ℕ → Type 0
AreWorkers rows workers = (n : Option ℕ) × GivesWorkers rows n × (workers ≡ unwrap_or n 2)

-- the option of this name gives this number, in its range, or none: then it is the default
abbrev pub IsNumberOr : List Row → Text → ℕ → ℕ → ℕ → ℕ → Type 0
IsNumberOr rows id low high default value =
    (n : Option ℕ) × Gives rows id n × IsWithin low high n × (value ≡ unwrap_or n default)

-- clap finds no fault in the words of a command line, and they give these numbers
pub record Writes (words : List Text) (n : Numbers) : Type 0 where
  pub no_fault : fault_of uring words ≡ []
  pub numbers : GivesNumbers (command_rows (subcommand_of uring words)) n

-- the set-up of these numbers: 4 entries, a completion ring of twice as many, 2 files and the word 0 if none is given
abbrev pub IsSetupOver : Numbers → Setup → Type 0
IsSetupOver n s = IsSetupFor (unwrap_or n.sq 4) n.cq (unwrap_or n.files 2) (unwrap_or n.start 0) s

-- whether the option of a name that takes no value is given: clap has the text `true` for it, and else `false`, or no text without the command
abbrev pub IsGiven : List Row → Text → Bool → Type 0
IsGiven rows id true = one_of id rows ≡ Some (codes "true")
IsGiven rows id false = (one_of id rows ≡ None) ⊎ (one_of id rows ≡ Some (codes "false"))

-- the same set-up with nothing but its numbers asked for: its calls go on, and its rules are the manual pages'
abbrev pub plain_of : Setup → Setup
plain_of s = record s { stops = false; linux = false }

-- the options without a value ask for a set-up like this: its calls stop exactly if `--stop` is given, and its rules are Linux's exactly if `--linux` is given
abbrev pub AskForSetup : List Row → Setup → Type 0
AskForSetup rows s =
    IsGiven rows (codes "stop") s.stops × IsGiven rows (codes "linux") s.linux

-- the set-up of these numbers, with what the options without a value ask for
abbrev pub IsTracedOver : List Row → Numbers → Setup → Type 0
IsTracedOver rows n s = IsSetupOver n (plain_of s) × AskForSetup rows s

-- the set-up of these numbers, whose rules are Linux's exactly if `--linux` is given; its calls go on
abbrev pub IsPlayedOver : List Row → Numbers → Setup → Type 0
IsPlayedOver rows n s =
    IsSetupOver n (record s { linux = false }) × IsGiven rows (codes "linux") s.linux

-- such a set-up, and a check that is told or drawn: `--early-effects` isn't given
abbrev pub IsCheckedOver : List Row → Numbers → Setup → Type 0
IsCheckedOver rows n s = IsTracedOver rows n s × IsGiven rows (codes "early-effects") false

-- what a check asks of ends: any exactly if `--apart` is given, and what operations may give exactly if `--results` is
abbrev pub AskForEnds : List Row → (apart results : Bool) → Type 0
AskForEnds rows apart results =
    IsGiven rows (codes "apart") apart × IsGiven rows (codes "results") results

-- what a command runs, over the set-up that these rows and numbers give: `uring explain` the graph if `--graph` is given, after the line that `--at` gives, else the timeline if `--timeline` is, else the page if `--page` is, else its data if `--json` is, and else the answers; `uring check` whether effects at any moment explain the trace with `--early-effects`, else the page if `--page` is given, else its data if `--json` is, and else the verdict; `uring play` a play over shared words if `--shared` is given, and else one over lanes; `uring crash` what is left of file 0 if none is given, in units of one byte if none is given
abbrev pub IsRunOver : Run → List Row → Numbers → Options → Type 0
IsRunOver run rows n (Trace s echo strict) = (run ≡ Traces) × IsTracedOver rows n s
    × IsGiven rows (codes "echo") echo × IsGiven rows (codes "strict") strict
IsRunOver run rows n (Explain s) = (run ≡ Explains) × IsTracedOver rows n s
    × IsGiven rows (codes "graph") false × IsGiven rows (codes "timeline") false
    × IsGiven rows (codes "page") false × IsGiven rows (codes "json") false
IsRunOver run rows n (Graph s at) = (run ≡ Explains) × IsTracedOver rows n s
    × IsGiven rows (codes "graph") true × Gives rows (codes "at") at
IsRunOver run rows n (Timeline s) = (run ≡ Explains) × IsTracedOver rows n s
    × IsGiven rows (codes "graph") false × IsGiven rows (codes "timeline") true
IsRunOver run rows n (Page s) = (run ≡ Explains) × IsTracedOver rows n s
    × IsGiven rows (codes "graph") false × IsGiven rows (codes "timeline") false
    × IsGiven rows (codes "page") true
IsRunOver run rows n (Json s) = (run ≡ Explains) × IsTracedOver rows n s
    × IsGiven rows (codes "graph") false × IsGiven rows (codes "timeline") false
    × IsGiven rows (codes "page") false × IsGiven rows (codes "json") true
IsRunOver run rows n (Check s all apart results) = (run ≡ Checks) × IsCheckedOver rows n s
    × AskForEnds rows apart results × IsGiven rows (codes "all") all
    × IsGiven rows (codes "page") false × IsGiven rows (codes "json") false
IsRunOver run rows n (CheckEarly s most) = (run ≡ Checks) × IsTracedOver rows n s
    × IsGiven rows (codes "early-effects") true × Gives rows (codes "most") most
IsRunOver run rows n (CheckPage s apart results) = (run ≡ Checks) × IsCheckedOver rows n s
    × AskForEnds rows apart results × IsGiven rows (codes "page") true
IsRunOver run rows n (CheckJson s apart results) = (run ≡ Checks) × IsCheckedOver rows n s
    × AskForEnds rows apart results
    × IsGiven rows (codes "page") false × IsGiven rows (codes "json") true
IsRunOver run rows n (Play s workers) =
    (run ≡ Plays) × IsPlayedOver rows n s × AreWorkers rows workers × IsGiven rows (codes "shared") false
IsRunOver run rows n (Shared s workers) =
    (run ≡ Plays) × IsPlayedOver rows n s × AreWorkers rows workers × IsGiven rows (codes "shared") true
IsRunOver run rows n (Crash s file unit at seed is_count is_all most is_holds is_each) =
    (run ≡ Crashes) × IsTracedOver rows n s
    × IsNumberOr rows (codes "file") 0 63 0 file × IsNumberOr rows (codes "unit") 1 65536 1 unit
    × Gives rows (codes "at") at × Gives rows (codes "seed") seed
    × IsGiven rows (codes "count") is_count × IsGiven rows (codes "all") is_all
    × Gives rows (codes "most") most × IsGiven rows (codes "holds") is_holds
    × IsGiven rows (codes "each") is_each
IsRunOver run rows n (Outcomes s is_sorted has_files is_crash unit most line is_never is_always) =
    (run ≡ Lists) × IsSetupOver n s
    × IsGiven rows (codes "results") is_sorted × IsGiven rows (codes "contents") has_files
    × IsGiven rows (codes "crash") is_crash × IsNumberOr rows (codes "unit") 1 65536 1 unit
    × Gives rows (codes "most") most × Gives rows (codes "explain") line
    × IsGiven rows (codes "never") is_never × IsGiven rows (codes "always") is_always
IsRunOver run rows n (Fill s most) =
    (run ≡ Fills) × IsTracedOver rows n s × Gives rows (codes "most") most

-- a completion ring is given, and is smaller after rounding than the submission ring
pub record IsTooSmall (n : Numbers) : Type 0 where
  pub cq : ℕ
  pub given : n.cq ≡ Some cq
  pub sq_size : ℕ
  pub sq_rounded : IsNextPowerOfTwo (unwrap_or n.sq 4) sq_size
  pub cq_size : ℕ
  pub cq_rounded : IsNextPowerOfTwo cq cq_size
  pub smaller : cq_size < sq_size

-- the words write numbers, and ask for a command over them
abbrev pub AskFor : List Text → Options → Type 0
AskFor words o = (n : Numbers) × Writes words n
    × IsRunOver (run_of (subcommand_of uring words)) (command_rows (subcommand_of uring words)) n o

-- the words write numbers of which the completion ring's is too small
abbrev pub AskForTooSmall : List Text → Type 0
AskForTooSmall words = (n : Numbers) × Writes words n × IsTooSmall n

-- a fault of the words, whose kind is one of these, or want of memory
abbrev pub IsWords : Kinds → OptionsFault → Type 0
IsWords kinds Small = ⊥
IsWords kinds (Words e) = HasKind kinds e

-- want of memory
abbrev pub IsMemory : OptionsFault → Type 0
IsMemory Small = ⊥
IsMemory (Words e) = kind_of e ≡ OutOfMemory

-- a fault that is no small ring is one that clap finds in the words, or want of memory
abbrev pub IsFaultOf : List Text → OptionsFault → Type 0
IsFaultOf words Small = Unit {0}
IsFaultOf words (Words e) = HasKind (fault_of uring words) e
