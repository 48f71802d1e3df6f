-- The names that several of these files cite, passed on from one place. Declares nothing.
pub use Rattle.std.proofs.lemmas.Result.{IfErr-weaker, IfOk-weaker}
pub use Rattle.std.specs.List.{find}
pub use Rattle.std.specs.Prelude.{IfErr, IfOk, IsErrAnd, IsErrOf, codes, option_map, slice_get, unwrap_or}
pub use Rattle.clap.specs.Faults.{entered_fault, flag_word_fault, level_fault, option_fault, react_fault, settle_fault, short_fault, step_fault, use_fault, values_fault}
unfoldable pub use Rattle.clap.specs.Faults.{defaults_fault, flags_fault, walk_fault}
pub use Rattle.clap.specs.Kinds.{HasKind, Kinds, or_else, values_kinds}
pub use Rattle.clap.specs.Simple.{App, HasMatchesOf, Shape, app_of, argument_words, built, built_leaf, entered, inherited, is_simple, label_of, marked_built, names_of, rows_at, subcommand_of, subcommand_rows_of, with_leaf_noted, with_rule, with_subcommand}
pub use Rattle.clap.specs.Walk.{Held, Names, Outcome, Row, Rule, Step, Text, Waiting, Walk, action_of, after_flag, after_step, answers_to, arg_by_index, at_row, attached_value, flag_met, has_row, long_or_other, nothing_held, option_met, reacted, reading_by, rows_after, settled, short_met, stop_after, takes_values, used, with_default, with_values}
unfoldable pub use Rattle.clap.specs.Walk.{bundle_met, walked}
pub use Rattle.clap.specs.Words.{found_of, rows_of}
pub use Rattle.uring_entry.specs.Setup.{IsBadCq, Setup}
pub use Rattle.uring_options.specs.CommandLine.{AreInRange, AskFor, AskForTooSmall, Checks, CommandOption, Crashes, Explains, Fills, Gives, GivesNumbers, IsFaultOf, IsGiven, IsMemory, IsPlayedOver, IsSetupOver, IsTooSmall, IsTracedOver, IsWithin, Lists, Numbers, Plays, Run, Traces, Writes, app_for, flag, number, own_options, setup_options, uring, with_commands_of}
pub use Rattle.uring_options.specs.OptionRows.{AnswersNamed, TakesFor, TakesNamed, TakesOption, TakesOptions, app_of_row, parser_for, with_command_rows, with_rows_of}
