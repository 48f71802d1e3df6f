-- Glue. What the rows of commands and options are to clap, and what clap's matches give a reader of them.
use Rattle.std.specs.Prelude.{◌≡◌, ◌⊎◌, ℕ, ℤ, pos, Bool, List, [], ◌∷◌, Option, Some, None, Result, Ok, Err}
use Rattle.clap.specs.Simple.{App, new_app, with_rule, with_subcommand}
use Rattle.clap.specs.Values.{Accepts, read_as, reading_of}
use Rattle.clap.specs.Walk.{Row, Rule, Text, one_of}
use Rattle.clap.specs.declared.builder.value_parser.ValueParser.{ValueParser}
use Rattle.clap.specs.declared.builder.value_parser.ValueParser.TheVariants as vp
use Rattle.clap.specs.declared.builder.value_parser.ValueParser.TheVariants.{Signed}
use Rattle.uring_options.specs.CommandLine.{CommandOption, Run, setup_options, own_options, option_rule, flag_rule, run_of, command_rows, Numbers, GivesNumbers, IsRunOver, IsTooSmall}
use Rattle.uring_options.specs.declared.answers.Options.{Options}
use Rattle.uring_options.specs.declared.answers.OptionsFault.{OptionsFault}
use Rattle.uring_options.specs.declared.answers.OptionsFault.TheVariants.{Small}
use Rattle.uring_options.specs.declared.commands.CommandRow.{CommandRow}
use Rattle.uring_options.specs.declared.option_rows.OptionRow.{OptionRow}

-- the rule of an option that takes a number of a range, or no value
abbrev pub rule_over : Text → Option (ℤ × ℤ) → Rule
rule_over id None = flag_rule id
rule_over id (Some numbers) = option_rule id (Signed numbers.0 numbers.1)

-- the rule of a row
abbrev pub rule_of_row : OptionRow → Rule
rule_of_row row = rule_over row.id.now row.numbers

-- a command with the options of these rows, in their order
abbrev pub with_rows_of : App → List OptionRow → App
with_rows_of app [] = app
with_rows_of app (row ∷ rows) = with_rows_of (with_rule app (rule_of_row row)) rows

-- the command of a row
abbrev pub app_of_row : CommandRow → App
app_of_row row = with_rows_of (new_app row.name.now) row.options.now

-- a command with the commands of these rows, in their order
abbrev pub with_command_rows : App → List CommandRow → App
with_command_rows app [] = app
with_command_rows app (row ∷ rows) = with_command_rows (with_subcommand app (app_of_row row).top) rows

-- the parser of an option
abbrev pub parser_for : Option (ℕ × ℕ) → ValueParser
parser_for None = vp.Bool
parser_for (Some range) = Signed (pos range.0) (pos range.1)

-- the text of an option, if it has one, passed its parser, and is read as that says
abbrev pub TakesOption : List Row → CommandOption → Type 0
TakesOption rows option = (one_of option.0 rows ≡ None)
    ⊎ ((text : Text) × (ignore_case : Bool)
    × (one_of option.0 rows ≡ Some (read_as (reading_of (parser_for option.1)) text))
    × Accepts ignore_case (parser_for option.1) text)

-- the same of each of these options
abbrev pub TakesOptions : List Row → List CommandOption → Type 0
TakesOptions rows [] = Unit {0}
TakesOptions rows (option ∷ rest) = TakesOption rows option × TakesOptions rows rest

-- the texts of a command's options passed their parsers
abbrev pub TakesFor : Run → List Row → Type 0
TakesFor run rows = TakesOptions rows setup_options × TakesOptions rows (own_options run)

-- a completion ring that is too small alone is refused
abbrev pub IsSmallFor : List Row → OptionsFault → Type 0
IsSmallFor rows e = (e ≡ Small) × ((n : Numbers) × GivesNumbers rows n × IsTooSmall n)

-- the rows have an outcome: what is run over the numbers that they give, or a refusal for them
abbrev pub Answers : Run → List Row → Result Options OptionsFault → Type 0
Answers run rows (Ok o) = (n : Numbers) × GivesNumbers rows n × IsRunOver run rows n o
Answers run rows (Err e) = IsSmallFor rows e

-- the same of the command that was named, if one was
abbrev pub TakesNamed : Option (Text × List Row) → Type 0
TakesNamed named = TakesFor (run_of named) (command_rows named)

-- and the rows have an outcome by that command
abbrev pub AnswersNamed : Option (Text × List Row) → Result Options OptionsFault → Type 0
AnswersNamed named = Answers (run_of named) (command_rows named)
