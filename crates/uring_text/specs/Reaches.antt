-- How far the tokens of a line fit the language. The language of a trace is our own rule.
use Rattle.std.specs.Prelude.{ℕ, ◌+◌, List, [], ◌∷◌, Option, Some, None, if◌then◌else◌, codes}
use Rattle.std.specs.Str.{bytes_eq}
use Rattle.std.specs.Option.{option_map}
use Rattle.uring_text.specs.Forms.{kinds_of}
use Rattle.uring_text.specs.Reading.{name_of}
use Rattle.uring_text.specs.Places.{is_of_kind}
use Rattle.uring_text.specs.declared.place.TokenKind.{TokenKind}
use Rattle.uring_text.specs.declared.place.Place.{Place}
use Rattle.uring_text.specs.declared.place.Place.TheVariants as place
use Rattle.uring_text.specs.declared.reach.Reach.{Reach}

-- no token fits a place
abbrev pub reach_at : Place → Reach
reach_at p = record { tokens = 0; wanted = p }

-- a reach with one token more before it
abbrev pub further : Reach → Reach
further r = record { tokens = r.tokens + 1; wanted = r.wanted }

-- what may stand where a line is to end and these tokens are left: of a recorded trace, which goes on with `=`, that is told apart
abbrev pub ending : List (List ℕ) → Place
ending [] = place.End
ending (token ∷ tokens) = if bytes_eq token (codes "=") then place.NoAnswer else place.End

-- how far tokens fit these kinds, one each, with nothing after them
abbrev pub kinds_reach : List TokenKind → List (List ℕ) → Reach
kinds_reach [] tokens = reach_at (ending tokens)
kinds_reach (kind ∷ kinds) [] = reach_at (place.Token kind)
kinds_reach (kind ∷ kinds) (token ∷ tokens) =
    if is_of_kind kind token then further (kinds_reach kinds tokens) else reach_at (place.Token kind)

-- how far tokens fit after a name, if it is the name of something with tokens of these kinds
abbrev pub named_reach : Place → Option (List TokenKind) → List (List ℕ) → Reach
named_reach p None tokens = reach_at p
named_reach p (Some kinds) tokens = further (kinds_reach kinds tokens)

-- how far the tokens of an entry fit
abbrev pub entry_reach : List (List ℕ) → Reach
entry_reach [] = reach_at place.Form
entry_reach (name ∷ tokens) = named_reach place.Form (option_map kinds_of (name_of name)) tokens
