-- The names that several of these files cite, passed on from one place. Declares nothing.
pub use Rattle.std.proofs.ByRecursion.{All-push, All-weaker, all_kept_by}
pub use Rattle.std.proofs.Math.ListN.{drop_of_length-le, set}
pub use Rattle.std.proofs.lemmas.Bool.{and_parts, cases_eq, cases_lt, eq-eqb, eqb-true, false≢true, lt-ltb, or_cases, or_left, or_right}
pub use Rattle.std.proofs.lemmas.Grind.{common_steps, flat_map-append}
pub use Rattle.std.proofs.lemmas.List.{append_cancel_left, drop_more, get_or-map, get_or-set_other, get_or-set_same, get_or_default, length-append, length-map, length-set, length-take-le, length_push, map-append, nil_from_length, replicate_more, reverse-append, take_all, take_more}
pub use Rattle.std.proofs.lemmas.List.Sums.{count_by-le-length, length-filter, sum_by-append, sum_by-cons, sum_by_push}
pub use Rattle.std.proofs.lemmas.Option.{cond_some, get_or_from_slice_get, slice_get-get_or, slice_get_within}
pub use Rattle.std.proofs.lemmas.Result.{IfOk-from_err, IfOk-weaker}
pub use Rattle.std.specs.declared.alloc.AllocError.{AllocError}
pub use Rattle.std.specs.List.{AllByRecursion, filter, list_any}
pub use Rattle.std.specs.Prelude.{All, Bool, Err, IfOk, IsErr, IsOk, None, Ok, OnErr, Result, if◌then◌else◌, is_some, length, min, slice_get, slice_index_or, slice_set, vec_capacity, ◌≡◌, ◌⊎◌}
pub use Rattle.uring_core.proofs.Following.{history_of_append, history_of_cons, history_of_snoc}
pub use Rattle.uring_core.specs.CalledFor.{IsLawful, files_of}
pub use Rattle.uring_core.specs.Core.{FitsApart, IsFinished, elements_for}
pub use Rattle.uring_core.specs.Histories.{Event, History, IsLawfulApart, history_of, world}
pub use Rattle.uring_core.specs.StepAnswers.{CalledForApart, FinishesApart, IsEnded, close_answer, is_spent, place_answer}
pub use Rattle.uring_core.specs.World.{World, beginning, closing, happens, requests_of, with_end_of}
pub use Rattle.uring_core.specs.declared.answer.Answer.{Answer}
pub use Rattle.uring_core.specs.declared.step.Step.{Step}
pub use Rattle.uring_entry.proofs.RequestLemmas.{is_running_ended_other, is_running_ended_same, is_running_started_other, is_running_started_same}
pub use Rattle.uring_entry.specs.Completions.{Completions, unreaped, with_flushed, with_head_stored, with_tail_loaded}
pub use Rattle.uring_entry.specs.Layout.{Cqe, Sqe, zero_entry}
pub use Rattle.uring_entry.specs.Preparation.{operation_of}
pub use Rattle.uring_entry.specs.Requests.{Requests, entry_of, is_running, operation_running}
pub use Rattle.uring_entry.specs.Setup.{IsWithinLimits, Setup}
pub use Rattle.uring_entry.specs.Submission.{IsItem, Place, Published, Submission, dropped, taken, with_published}
pub use Rattle.uring_entry.specs.declared.operation.Op.{Op}
pub use Rattle.uring_files.specs.Done.{Done}
pub use Rattle.uring_files.specs.Operations.{byte_of, state_of}
pub use Rattle.uring_laws.proofs.Standing.{call_closes, call_opens, items_fresh, items_keep, items_published, position_taken, tail_publishes, words_of}
pub use Rattle.uring_laws.specs.Finishes.{done_at, done_by, done_in}
pub use Rattle.uring_laws.specs.Standing.{Stands, after_call, ends_after, in_call, with_item, with_items}
pub use Rattle.uring_ports.specs.Dropped.{with_word}
pub use Rattle.uring_ports.specs.Items.{AreItems, all_published_as, published_as}
pub use Rattle.uring_ports.specs.Ports.{LeavesCompletions, LeavesItems, Pulls, Put, Sizes, items_of_calls, nothing_put, sizes_of, with_call, with_close}
pub use Rattle.uring_ports.specs.Seen.{HasLooked}
pub use Rattle.uring_ports.specs.declared.item.Item.{Item}
pub use Rattle.uring_rules.specs.Rules.{is_issuable, posts, with_issued_end}
pub use Rattle.uring_threads.specs.Calls.{AreBegun, KeepsLengths, calls_left, calls_of, ends_after_item, ends_of, lengths_of}
unfoldable pub use Rattle.uring_threads.specs.Calls.{after_calls, calls_after, calls_row, refused_row}
pub use Rattle.uring_threads.specs.Collected.{CanBeTaken, Collects, CollectsSeen, NextStays, NoneComes, TakesAll, TakesSeen, Wait}
pub use Rattle.uring_threads.specs.Dealt.{DealtByFile, FilesByWorker, IsDealtByFile, WorkersJoin, done_by_worker, job_by, job_in, jobs_at, jobs_in, jobs_to}
pub use Rattle.uring_threads.specs.Delivered.{KeepsAllBut, OnlyPosts, on_completions, with_reaped_all}
pub use Rattle.uring_threads.specs.Dispatched.{AreTakenIn, HasCarried, HaveCarried}
pub use Rattle.uring_threads.specs.EventRows.{AreTaken, BeginsAgain, IsAgain, IsPulled, IsTaken, MayPull, RecordsIntake, RecordsTurn, Repeats, call_row, delivery_row, item_row, items_row}
pub use Rattle.uring_threads.specs.Kept.{Grows, IsUnmoved, Kept, history, next_in, now}
pub use Rattle.uring_threads.specs.Kernel.{IsKernel, Kernel}
pub use Rattle.uring_threads.specs.Report.{AreTogether, BeginsCalls, ClosesOnlyAllTaken, DeliversReaped, FinishesAll, HasOneClose, IsSameKernel, LeavesRunning, PublishesItems, Report, all_untaken, all_waiting, has_job, left_by, untaken_at, waiting_at}
pub use Rattle.uring_threads.specs.Rows.{with_item_put, with_items_published, with_items_put}
pub use Rattle.uring_threads.specs.Served.{DeliversMost, HasServed, HasTurned, PullsMost, Turns}
pub use Rattle.uring_threads.specs.Settled.{IsSettled, IsTakenIn, IsWork, NoneWaits, ResultsRun, Settles, Work, finish_of, waiting_of, with_taken_in}
pub use Rattle.uring_threads.specs.SettledWorker.{AreSettled, HaveFiles, HaveLooked, HaveSeenAll, IsSettledAt, settled_work, works_of}
pub use Rattle.uring_threads.specs.Taking.{HasBegun, HaveMade, IsFirst, TakesIn}
pub use Rattle.uring_threads.specs.Tallies.{Adds, Appends, TakesFewResults, Tally, both, calls_counted, closes_ring, finishes_counted, is_close, is_finish, is_issue, is_refused, issues_counted, issues_request, items_counted, most_results, none_counted, reaps_counted, results_taken_in, starts_request, step_of, tally_of}
pub use Rattle.uring_threads.specs.Turns.{AreTies, ClosesOnce, Counts, IsDelivered, Tied, awaits_memory, is_shut, waiting_in}
pub use Rattle.uring_threads.specs.declared.intake.Intake.{Intake}
pub use Rattle.uring_threads.specs.declared.turns.Turn.{Turn}
pub use Rattle.uring_workers.specs.Opened.{AreLanesOf}
pub use Rattle.uring_workers.specs.Work.{job_of, jobs_of, place_of, place_of_file, result_of, results_of}
pub use Rattle.uring_workers.specs.WorkLanes.{AreSameLanes, HaveCarriedNone, HoldJobs, HoldResults, IsLookedAt, IsSent, OnlyReceives, SomeIsFull, jobs_sent, numbers_of_lanes, results_held, results_received, results_seen}
pub use Rattle.uring_workers.specs.Worker.{IsRight, Looks, Worker}
pub use Rattle.uring_workers.specs.declared.job.Job.{Job}
pub use Rattle.uring_workers.specs.declared.job.JobResult.{JobResult}
pub use Rattle.uring_workers.specs.declared.work_lanes.WorkLanes.{WorkLanes}
