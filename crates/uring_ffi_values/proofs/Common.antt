-- The names that several of these files cite, passed on from one place. Declares nothing.
pub use Rattle.std.proofs.BoxSteps.Form.{B, Bx, D, P, R, args, box_ty, box_typed, word, τ}
pub use Rattle.std.proofs.BoxSteps.Steps.{box_in, box_out}
pub use Rattle.std.proofs.alloc.Calls.{Goes-blank, handle_tells, token, α}
pub use Rattle.std.proofs.lemmas.Bool.{and_parts, both_ways, cases_Bool, eqb-false, eqb-true, false≢true}
pub use Rattle.std.proofs.lemmas.Int.{to_z-of_z}
pub use Rattle.std.proofs.lemmas.List.{append-nil, append_assoc, drop_all, drop_min, drop_more, length-drop, length-map, length-replicate, length-take, length_push, map-append, map_more, map_push, take_all, take_at, take_min}
pub use Rattle.std.proofs.lemmas.Result.{IfOk-weaker, on_ok_weaker}
pub use Rattle.std.specs.Prelude.{All, IfSome, IsErrOf, IsSome, IsSomeAnd, None, Option, Some, bit_and, codes, is_some, option_copied, string_bytes, sum_by}
pub use Rattle.std.specs.contracts.impls.GlobalAllocator.TheImpl.{dict, ghosts}
pub use Rattle.std.specs.declared.alloc.Global.{Global}
pub use Rattle.std.specs.declared.vec.Vec.{Vec}
pub use Rattle.uring_core.specs.Core.{Core, FitsApart, elements_for, elements_for_call}
pub use Rattle.uring_core.specs.Histories.{Event, History, world}
pub use Rattle.uring_core.specs.declared.answer.Answer.{Answer}
pub use Rattle.uring_core.specs.declared.step.Step.{Step}
pub use Rattle.uring_ffi_values.specs.Boxes.Places.{core_in, crash_machine_in, volume_in}
pub use Rattle.uring_ffi_values.specs.Boxes.Slots.{Held, a_core, a_crash_machine, a_machine, a_volume, core_of, core_row, crash_machine_of, crash_machine_row, machine_of, machine_row, outcomes_of, outcomes_row, some_outcomes, volume_of, volume_row}
pub use Rattle.uring_ffi_values.specs.CoreWords.AnswerForm.{IsAgain, kind_of, words_of}
pub use Rattle.uring_ffi_values.specs.CoreWords.Cuts.{cut}
pub use Rattle.uring_ffi_values.specs.CoreWords.SetUps.{IsAskedFor, IsRefused, SufficesFor, without_files}
pub use Rattle.uring_ffi_values.specs.Cores.Whole.{ReapedApart, SubmittedApart, submit_told}
pub use Rattle.uring_ffi_values.specs.Machines.Crashing.{AreShort, BeginsOn, GoesOn, IsLostFrom, IsNoStart, SteppedOn, TellsStepOn, TellsUnrefusedOn}
pub use Rattle.uring_ffi_values.specs.Traces.SetupLines.{named_if, setup_line, setup_tokens, token_if}
pub use Rattle.uring_ffi_values.specs.Volumes.VolumeForms.{HasMore, TellsCount, TellsCrash, TellsImages, TellsNoPlace, laid_out}
pub use Rattle.uring_ffi_values.specs.declared.core_words.set_up_words.SetupWords.{SetupWords}
pub use Rattle.uring_ffi_values.specs.declared.cores.whole_call_memory.EntryWords.{EntryWords}
pub use Rattle.uring_entry.specs.Layout.{Cqe, Sqe}
pub use Rattle.uring_entry.specs.Setup.{Setup}
pub use Rattle.uring_entry.specs.declared.errno.TheConstants.{EBADF, EFBIG, EINVAL, ENOENT, ENOMEM}
pub use Rattle.uring_crash_machine.specs.Asked.{IsUnrefusedOn, log_at}
pub use Rattle.uring_crash_machine.specs.Epochs.{CrashMachine, Epoch, FitsRun, begun_on, first_files}
pub use Rattle.uring_machine.specs.Machine.{Fits, IsUnrefused, Machine, elements_for_step}
