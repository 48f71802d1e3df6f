-- The names that several of these files cite, passed on from one place. Declares nothing.
pub use Rattle.std.proofs.lemmas.List.{length-map, map-append, take_all, take_more}
pub use Rattle.std.proofs.lemmas.List.Elements.{Contains-append_left, Contains-append_right, Contains-push_cases, filter_map-append}
pub use Rattle.std.proofs.lemmas.Option.{slice_get-get_or, slice_get-map, slice_get_read, slice_get_within}
pub use Rattle.std.proofs.lemmas.Result.{IfOk-weaker, on_ok_weaker}
pub use Rattle.std.specs.List.{AllByRecursion, AllZip, dedup}
pub use Rattle.std.specs.Option.{option_map, option_to_list}
pub use Rattle.std.specs.Prelude.{Contains, MatchOption, codes, false, flat_map, nat_eq, slice_get, string_bytes, zero}
pub use Rattle.std.specs.declared.alloc.Global.{Global}
pub use Rattle.std.specs.declared.string.String.{String}
pub use Rattle.std.specs.declared.vec.Vec.{Vec}
pub use Rattle.uring_files.specs.Operations.{byte_of, file_of}
pub use Rattle.uring_litmus.specs.Claims.{AreAmong, IsAgainst, IsSoOf, IsVerdict, Judges, StandsSome, is_so, lines_in}
pub use Rattle.uring_litmus.specs.Items.{accepted_of, entry_of}
pub use Rattle.uring_litmus.specs.Lines.{AreLinesOf, IsLineOf, IsSortedOnce, ShowAll, parted}
pub use Rattle.uring_litmus.specs.Listings.{AreFound, CountsOrders, Finds, HasBoth, IsListOf, IsNoted, lines_text, order_text, told_count}
pub use Rattle.uring_litmus.specs.Parts.{IsShown, file_text, files_texts, state_text, texts_of}
pub use Rattle.uring_litmus.specs.declared.form.Form.{Form}
pub use Rattle.uring_outcomes.specs.Outcomes.{Ending}
pub use Rattle.uring_play_text.specs.Inputs.{ReadsCalls, lists_of}
