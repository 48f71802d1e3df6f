-- The bytes that the tokens of a form say: of a write up to 64, of all of an entry 128.
use Rattle.std.proofs.Common.{◌≡◌, ℕ, List, Some, arith}
use Rattle.uring_text.proofs.Common.{AreBytes, Fits, Name, Parts, SayParts, kinds_of, parts_of}
use Rattle.uring_text.specs.declared.forms.Name.TheVariants as name
use Rattle.uring_text.proofs.FormLaws.{parts_found}

pub data_said : (tokens : List (List ℕ)) (p : Parts) → SayParts (kinds_of name.Write) tokens p
    → AreBytes p.bytes 0 64
data_said tokens p h = grind arith

pub entry_said : (tokens : List (List ℕ)) (p : Parts) → SayParts (kinds_of name.Raw) tokens p
    → AreBytes p.bytes 128 128
entry_said tokens p h = grind arith

-- a form's parts fit it
pub said_fits : (n : Name) (tokens : List (List ℕ)) (p : Parts) → parts_of (kinds_of n) tokens ≡ Some p
    → Fits n p
said_fits name.Write tokens p e = (data_said tokens p (parts_found (kinds_of name.Write) tokens p e)).enough
said_fits name.Raw tokens p e =
    let is = entry_said tokens p (parts_found (kinds_of name.Raw) tokens p e) in omega (arith, is.few, is.enough)
said_fits _ tokens p e = tt
