-- What may stand at a place of a line. The language of a trace is our own rule.
use Rattle.std.specs.Prelude.{ℕ, ◌^◌, Bool, List, codes}
use Rattle.std.specs.Option.{is_some}
use Rattle.uring_text.specs.Forms.{names_text}
use Rattle.uring_text.specs.Reading.{number_of, file_of, flags_of, data_of, hex_of}
use Rattle.uring_text.specs.declared.place.TokenKind.{TokenKind}
use Rattle.uring_text.specs.declared.place.TokenKind.TheVariants as kind
use Rattle.uring_text.specs.declared.place.Place.{Place}
use Rattle.uring_text.specs.declared.place.Place.TheVariants as place

-- whether a token is of a kind
unfoldable pub is_of_kind : TokenKind → List ℕ → Bool
is_of_kind kind.Slot token = is_some (number_of (2 ^ 32) token)
is_of_kind kind.Word token = is_some (number_of (2 ^ 32) token)
is_of_kind kind.Count token = is_some (number_of (2 ^ 32) token)
is_of_kind kind.Number token = is_some (number_of (2 ^ 64) token)
is_of_kind kind.UserData token = is_some (number_of (2 ^ 64) token)
is_of_kind kind.Target token = is_some (number_of (2 ^ 64) token)
is_of_kind kind.Code token = is_some (number_of 256 token)
is_of_kind kind.Flags token = is_some (flags_of token)
is_of_kind kind.File token = is_some (file_of token)
is_of_kind kind.Offset token = is_some (number_of (2 ^ 64) token)
is_of_kind kind.Length token = is_some (number_of (2 ^ 32) token)
is_of_kind kind.Data token = is_some (data_of token)
is_of_kind kind.Bytes token = is_some (hex_of 128 token)

-- the words for a kind of token
abbrev pub kind_text : TokenKind → List ℕ
kind_text kind.Slot = codes "SLOT, a number up to 4294967295"
kind_text kind.Word = codes "WORD, a number up to 4294967295"
kind_text kind.Count = codes "COUNT, a number up to 4294967295"
kind_text kind.Number = codes "NUM, a number up to 18446744073709551615"
kind_text kind.UserData = codes "UD, a number up to 18446744073709551615"
kind_text kind.Target = codes "TARGET, a number up to 18446744073709551615"
kind_text kind.Code = codes "CODE, a number up to 255"
kind_text kind.Flags = codes "FLAGS, - or letters of DLHAS, each at most once"
kind_text kind.File = codes "FD, a number from -2147483648 to 2147483647"
kind_text kind.Offset = codes "OFF, a number up to 18446744073709551615"
kind_text kind.Length = codes "LEN, a number up to 4294967295"
kind_text kind.Data = codes "HEX, - or 1 to 64 bytes as two lower case hexadecimal digits each"
kind_text kind.Bytes = codes "RAW, 256 lower case hexadecimal digits"

-- the words for what may stand at a place
abbrev pub place_text : Place → List ℕ
place_text place.Step =
    codes "fill, index, tail, head, begin, take, end, issue, finish, flush, cqtail, reap, cqhead, close or next"
place_text place.Form = names_text
place_text place.Shown = codes "counts, sizes, overflow, requests, why or file"
place_text (place.Token kind) = kind_text kind
place_text place.Answer = codes "` = ` and an answer (uring trace reads steps alone)"
place_text place.End = codes "the end of the line"
place_text place.NoAnswer = codes "the end of the line (uring check reads steps with answers)"
