-- The names that several of these files cite, passed on from one place. Declares nothing.
pub use Rattle.std.proofs.lemmas.Bool.{and_from, both_ways, eqb-true, le-leb, leb-true, lt-ltb, ltb-false, ne_eqb, or_parts}
pub use Rattle.std.proofs.lemmas.List.{append-nil, at_drop_all, at_drop_more, drop-map, drop_more, length-append, length-drop, length-take, map-append, nil_from_length, take-append-drop, take-append-le, take_all}
pub use Rattle.std.proofs.lemmas.Option.{same_Some}
pub use Rattle.std.proofs.lemmas.Slice.Eq.{bytes_eq-Decides}
pub use Rattle.std.specs.List.{All, AllByRecursion, list_all, list_any}
pub use Rattle.std.specs.Option.{option_map}
pub use Rattle.std.specs.Prelude.{IfNone, IfSome, MatchOption, None, Option, Some, codes, negsuc, pos, slice_index, string_bytes, sum_by, ℤ, ◌%◌, ◌/◌}
pub use Rattle.std.specs.Str.{IsUtf8, bytes_eq}
pub use Rattle.hex.specs.Hex.{IsBytes, encode_lower, lower_digits, pair_value, value_at}
unfoldable pub use Rattle.hex.specs.Hex.{decode_pairs, encode_with}
pub use Rattle.uring_entry.specs.Layout.{HasData, Sqe}
pub use Rattle.uring_text.specs.Flaws.{stop_text}
pub use Rattle.uring_text.specs.Forms.{Form, IsEntryNamed, IsEntryOf, IsNoEntry, Parts, SayParts, SaysPart, SpellsEntry, SpellsForm, kinds_of, name_text}
pub use Rattle.uring_text.specs.Reading.{Fits, ReadsEntry, is_capital, negative_of, parts_of, ◌>>=◌}
unfoldable pub use Rattle.uring_text.specs.Reading.{data_of, file_of, flags_of, form_of, hex_of, is_numeral, letters_of, name_of, number_of, part_of}
pub use Rattle.uring_text.specs.Spelling.{AreBytes, IsFile, IsNoNumber, SpellsNumber}
pub use Rattle.uring_text.specs.Tokens.{AreFlags, NoneAgain, flag_value, hex_or_dash, tokens_of}
pub use Rattle.uring_text.specs.Visible.{last_byte, visible, visible_line}
pub use Rattle.uring_text.specs.declared.forms.Name.{Name}
