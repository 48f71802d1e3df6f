-- Glue. What tokens say, read from the left: what the readers answer, in a form that computes. What they mean is said in Spelling and in Forms, and a proof joins the two.
use Rattle.std.specs.Prelude.{◌≡◌, ◌≤◌, ℕ, zero, suc, Bool, false, ℤ, pos, negsuc, ◌^◌, ◌/◌, ◌==◌, ◌&&◌, nat_lt, nat_le, List, [], ◌∷◌, length, Option, Some, None, if◌then◌else◌, codes, find}
use Rattle.std.specs.Option.{option_map, IsSomeAnd}
use Rattle.std.specs.Result.{result_ok}
use Rattle.std.specs.Str.{bytes_eq}
use Rattle.std.specs.Char.{is_ascii_digit}
use Rattle.std.specs.List.{list_all, list_any}
use Rattle.std.specs.Str.Parse.{digits_value}
use Rattle.std.specs.Int.RustNames.{bit_and, bit_or}
use Rattle.hex.specs.Hex.{decode_sized}
use Rattle.uring_text.specs.Tokens.{flag_value}
use Rattle.uring_entry.specs.Layout.{Sqe}
use Rattle.uring_text.specs.Forms.{Form, Parts, no_parts, names, name_text, kinds_of, IsEntryOf}
use Rattle.uring_text.specs.declared.forms.Name.{Name}
use Rattle.uring_text.specs.declared.forms.Name.TheVariants as name
use Rattle.uring_text.specs.declared.place.TokenKind.{TokenKind}
use Rattle.uring_text.specs.declared.place.TokenKind.TheVariants as kind

infixl 10 ◌>>=◌
abbrev pub ◌>>=◌ : {A B : Type 0} → Option A → (A → Option B) → Option B
None >>= f = None
Some x >>= f = f x

-- `0`, or digits of which the first isn't `0`
unfoldable pub is_numeral : List ℕ → Bool
is_numeral [] = false
is_numeral (b ∷ bs) = if b == 48 then length bs == 0 else list_all is_ascii_digit (b ∷ bs)

-- the number below the limit that a token is
unfoldable pub number_of : ℕ → List ℕ → Option ℕ
number_of limit token =
    if is_numeral token && nat_lt (digits_value 10 token) limit then Some (digits_value 10 token) else
    None

-- the negative of a number from 1 to 2 ^ 31
abbrev pub negative_of : ℕ → Option ℤ
negative_of zero = None
negative_of (suc n) = if nat_lt n (2 ^ 31) then Some (negsuc n) else None

-- the signed number of 32 bits that a token is
unfoldable pub file_of : List ℕ → Option ℤ
file_of [] = None
file_of (b ∷ bs) =
    if b == 45 then (number_of (2 ^ 64) bs >>= negative_of) else
    option_map (λ n. pos n) (number_of (2 ^ 31) (b ∷ bs))

-- the flags so far, and those of these letters
unfoldable pub letters_of : ℕ → List ℕ → Option ℕ
letters_of flags [] = Some flags
letters_of flags (b ∷ bs) =
    if flag_value b == 0 then None else
    if bit_and flags (flag_value b) == 0 then letters_of (bit_or flags (flag_value b)) bs else None

unfoldable pub flags_of : List ℕ → Option ℕ
flags_of token =
    if bytes_eq token (codes "-") then Some 0 else
    if bytes_eq token [] then None else
    letters_of 0 token

abbrev pub is_capital : ℕ → Bool
is_capital digit = nat_le 65 digit && nat_le digit 90

-- the bytes, so many of them, whose lower case digits the token is
unfoldable pub hex_of : ℕ → List ℕ → Option (List ℕ)
hex_of count token =
    if list_any is_capital token then None else result_ok (decode_sized token count)

unfoldable pub data_of : List ℕ → Option (List ℕ)
data_of token =
    if bytes_eq token (codes "-") then Some [] else
    if length token / 2 == 0 then None else
    if nat_lt 64 (length token / 2) then None else
    hex_of (length token / 2) token

-- The forms, by what their tokens say.

-- parts in which the part of this kind is as the token says
unfoldable pub part_of : TokenKind → List ℕ → Parts → Option Parts
part_of kind.Code token p = option_map (λ n. record p { code = n }) (number_of 256 token)
part_of kind.UserData token p =
    option_map (λ n. record p { user_data = n }) (number_of (2 ^ 64) token)
part_of kind.Flags token p = option_map (λ flags. record p { flags = flags }) (flags_of token)
part_of kind.File token p = option_map (λ fd. record p { fd = fd }) (file_of token)
part_of kind.Offset token p = option_map (λ n. record p { off = n }) (number_of (2 ^ 64) token)
part_of kind.Length token p = option_map (λ n. record p { len = n }) (number_of (2 ^ 32) token)
part_of kind.Target token p = option_map (λ n. record p { target = n }) (number_of (2 ^ 64) token)
part_of kind.Data token p = option_map (λ bytes. record p { bytes = bytes }) (data_of token)
part_of kind.Bytes token p = option_map (λ bytes. record p { bytes = bytes }) (hex_of 128 token)
part_of other token p = None

-- the parts that tokens say, one of each of these kinds
abbrev pub parts_of : List TokenKind → List (List ℕ) → Option Parts
parts_of [] [] = Some no_parts
parts_of (kind ∷ kinds) (token ∷ tokens) = parts_of kinds tokens >>= part_of kind token
parts_of _ _ = None

-- the name of a form that a token is
unfoldable pub name_of : List ℕ → Option Name
name_of token = find (λ name. bytes_eq token (name_text name)) names

-- parts that a form of this name can have
abbrev pub Fits : Name → Parts → Type 0
Fits name.Write p = length p.bytes ≤ 64
Fits name.Raw p = length p.bytes ≡ 128
Fits other p = Unit {0}

-- the form of this name, by the tokens after it
abbrev pub form_named : Name → List (List ℕ) → Option Form
form_named name tokens =
    option_map (λ parts. record { name = name; parts = parts }) (parts_of (kinds_of name) tokens)

-- the form that the tokens of an entry spell
unfoldable pub form_of : List (List ℕ) → Option Form
form_of [] = None
form_of (token ∷ tokens) = name_of token >>= λ name. form_named name tokens

-- what a reader answers of the entry of a form
abbrev pub ReadsEntry : Option Sqe → Option Form → Type 0
ReadsEntry read None = read ≡ None
ReadsEntry read (Some f) = IsSomeAnd read (IsEntryOf f)
