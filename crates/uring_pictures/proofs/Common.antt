-- The names that several of these files cite, passed on from one place. Declares nothing.
pub use Rattle.std.proofs.lemmas.Bool.{both_ways}
pub use Rattle.std.proofs.lemmas.List.{append-nil, length-append, take-append-le, take_all, take_more}
pub use Rattle.std.proofs.lemmas.Result.{IfOk-weaker, on_ok_weaker}
pub use Rattle.std.specs.Io.KnownBytes.{Appends, Consumes}
pub use Rattle.std.specs.Prelude.{IsTrue, OnOk, codes, decimal, if◌then◌else◌, is_some, string_bytes}
pub use Rattle.uring_core.specs.Histories.{Event, History, history_of, world}
pub use Rattle.uring_entry.specs.Layout.{Sqe, user_data_of}
pub use Rattle.uring_entry.specs.Requests.{Requests, entry_outstanding, has_ended, is_joined, is_last, with_call}
pub use Rattle.uring_entry.specs.Setup.{Setup}
pub use Rattle.uring_pictures.specs.Following.{Followed, Following, HasAll, HasFollowed, Keeps, MakesStep, ReadsLine, is_linux_at, linux_at, requests_at}
pub use Rattle.uring_pictures.specs.Graphs.{arrows_below, arrows_text, call_of, first_of, flag_text, graph_of, in_chain, member_before, node_text, nodes_below, placed_text, row_text, shape_of}
pub use Rattle.uring_pictures.specs.Moments.{does_count, up_to}
pub use Rattle.uring_pictures.specs.Readings.{EndsLine, ReadsAll, TakesIn}
pub use Rattle.uring_pictures.specs.declared.accepted.Accepted.{Accepted}
pub use Rattle.uring_trace.specs.Explaining.{HasEnded, HasTold}
pub use Rattle.uring_trace.specs.declared.explainer.Explainer.{Explainer}
