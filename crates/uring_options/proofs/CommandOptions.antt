-- What the commands' options give, of words that clap finds no fault in.
use Rattle.std.proofs.Common.{◌≡◌, true, false, List, [], Option, Some, None, refl, arith}
use Rattle.uring_options.proofs.Common.{Checks, CommandOption, Crashes, Explains, Fills, Lists, Plays, Run, Shape, TakesFor, TakesNamed, Text, Traces, answers_to, app_for, argument_words, built, built_leaf, entered, entered_fault, find, inherited, is_simple, label_of, level_fault, marked_built, names_of, nothing_held, option_map, own_options, rows_after, rows_at, setup_options, stop_after, subcommand_of, uring, with_leaf_noted}
use Rattle.clap.specs.Faults.{fault_of, is_simple_and_free}
use Rattle.std.specs.Option.{option_map_or}
use Rattle.clap.proofs.OnLiterals.{clap_on_literals}
use Rattle.uring_options.proofs.OptionTexts.{parsers_for, only_parser, options_taken}
use Rattle.uring_options.proofs.Walks.{Each, each_among, found_among, is_plain, neither_fails, rows_of_rules}

-- ---- the program's command line

-- clap says exactly what such a command line gives, and how it fails
pub uring_is_simple : is_simple uring ≡ true
unfolding clap_on_literals
uring_is_simple = refl

pub uring_is_free : is_simple_and_free uring ≡ true
unfolding clap_on_literals
uring_is_free = refl

-- a command as it is built, with its flag for help
abbrev shape_for : Run → Shape
shape_for run = built_leaf (inherited (with_leaf_noted (marked_built uring.top)) (app_for run).top)

-- its rules take values or none, or ask for help, and each of these options is one rule's
record Fits (s : Shape) (run : Run) : Type 0 where
  plain : Each (λ a. is_plain a ≡ true) s.rules
  once : s.args_override_self ≡ false
  setup : Each (λ (o : CommandOption). parsers_for s.rules o ≡ only_parser o) setup_options
  own : Each (λ (o : CommandOption). parsers_for s.rules o ≡ only_parser o) (own_options run)

fits : (run : Run) → Fits (shape_for run) run
fits Traces = assumption
fits _ = assumption

-- ---- the command that the words name

-- without a command no option has a text
pub nothing_taken : TakesFor Traces []
nothing_taken = grind arith

taken_for : (words : List Text) (run : Run)
    → level_fault (shape_for run) [] nothing_held words false [] ≡ []
    → TakesFor run (rows_after (shape_for run).rules [] words)
taken_for words run passes =
    let fit = fits run in
    let rows = rows_of_rules (shape_for run) fit.plain fit.once words passes in
    (options_taken _ _ setup_options fit.setup rows, options_taken _ _ (own_options run) fit.own rows)

-- what the words after a command give, if they are without a fault
abbrev TakesAt : List Text → Shape → Type 0
TakesAt words s =
    level_fault s [] nothing_held words false [] ≡ [] → TakesNamed (Some (rows_at s words))

stop_taken : (stop : Option (Text × List Text)) → entered_fault (built uring) stop ≡ []
    → TakesNamed (entered (built uring) stop)
stop_taken None passes = nothing_taken
stop_taken (Some p) passes =
    go (find (λ s. answers_to p.0 (label_of s)) (built uring).subs) refl passes
  where
    go : (o : Option Shape) → find (λ s. answers_to p.0 (label_of s)) (built uring).subs ≡ o → option_map_or (λ s. level_fault s [] nothing_held p.1 false []) o [] ≡ []
        → TakesNamed (option_map (λ s. rows_at s p.1) o)
    go None found e = nothing_taken
    go (Some s) found e = each_among (TakesAt p.1) (built uring).subs s (let at = taken_for p.1 in (at Traces, (at Explains, (at Checks, (at Plays, (at Crashes, (at Lists, (at Fills, ((λ passes. nothing_taken), tt))))))))) (found_among (λ s. answers_to p.0 (label_of s)) (built uring).subs s found).0 e

-- of words without a fault the options of the command have texts that passed their parsers
pub words_taken : (words : List Text) → fault_of uring words ≡ []
    → TakesNamed (subcommand_of uring words)
words_taken words passes =
    let stop = stop_after (built uring).top.rules (names_of (built uring)) (argument_words uring words) in
    stop_taken stop (neither_fails (entered_fault (built uring) stop) _ (neither_fails _ _ passes).1).0
