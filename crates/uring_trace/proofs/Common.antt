-- The names that several of these files cite, passed on from one place. Declares nothing.
pub use Rattle.std.proofs.lemmas.Bool.{both_ways, eqb-true, le-ltb, lt-ltb}
pub use Rattle.std.proofs.lemmas.List.{append-nil, nil_from_length, take_all, take_more}
pub use Rattle.std.proofs.lemmas.Result.{IfOk-weaker, on_ok_weaker}
pub use Rattle.std.proofs.lemmas.Slice.Eq.{bytes_eq-Decides, strip_prefix_is}
pub use Rattle.std.specs.Fmt.{decimal}
pub use Rattle.std.specs.Io.KnownBytes.{Appends, Consumes, IsAtEnd, Keeps}
pub use Rattle.std.specs.Prelude.{Decides, IfOk, IsTrue, MatchOption, OnOk, Some, codes, if◌then◌else◌, length, slice_get, string_bytes, ◌==◌}
pub use Rattle.uring_core.specs.Histories.{Event, History, history_of, world}
pub use Rattle.uring_core.specs.World.{requests_of}
pub use Rattle.uring_core.specs.declared.step.Step.{Step}
pub use Rattle.uring_entry.specs.Layout.{Cqe, Sqe, addr_of, user_data_of}
pub use Rattle.uring_entry.specs.Requests.{Requests, entry_of, entry_outstanding, is_target, outstanding_in}
unfoldable pub use Rattle.uring_entry.specs.Requests.{targets_of}
pub use Rattle.uring_entry.specs.declared.why.Why.{Why}
pub use Rattle.uring_machine.specs.Machine.{Fits, IsUnrefused, Machine, elements_for_step}
pub use Rattle.uring_text.specs.KeptLine.{KeptLine, kept_of}
pub use Rattle.uring_text.specs.Lines.{ended, joined, with_last}
pub use Rattle.uring_text.specs.declared.trace_fault.TraceFault.{TraceFault}
pub use Rattle.uring_trace.specs.Chosen.{after_text, is_open, said, spaced}
pub use Rattle.uring_trace.specs.Exchanges.{Answers, Exchange, Manner, answer_text, events_of, lines_of, step_text}
pub use Rattle.uring_trace.specs.Explaining.{AppendsLine, Explaining, HasToldBy, IsGrantedTo, TellsShown, TellsStep, TookBoth, WritesPair, WritesTexts, WroteBoth}
pub use Rattle.uring_trace.specs.Explanations.{Asked, Bad, Explains, ExplainsBeginning, ExplainsWholeBy, IsExplained, IsSaid, Made, ReadsWhole, Remark, Said, Saying, Telling, WritesBoth, bad_note, event_in, events_in, is_bad, line_number, lines_in, noted_of, telling_on, told_of}
pub use Rattle.uring_trace.specs.Flaws.{line_flaw, line_reach}
pub use Rattle.uring_trace.specs.Sessions.{AppendsAnswer, Has, Holds, IsGranted, TookIn, with_event}
pub use Rattle.uring_trace.specs.Shown.{list_text, listed_text, overflow_of, row_text, rows_below, shown}
pub use Rattle.uring_trace.specs.Spelling.{IsBad, IsStep, Spells, name_of}
