-- The set-up that the first line of a recorded trace says, after `#`. The form is our own rule.
use Rattle.std.specs.Prelude.{◌≡◌, ℕ, ◌^◌, Bool, true, false, ◌&&◌, nat_le, List, [], ◌∷◌, ◌++◌, length, codes, Option, Some, None, if◌then◌else◌}
use Rattle.std.specs.Fmt.{decimal}
use Rattle.std.specs.Str.{bytes_eq}
use Rattle.uring_entry.specs.Setup.{Setup, IsSetupFor}
use Rattle.uring_text.specs.Reading.{number_of}
use Rattle.uring_text.specs.Tokens.{tokens_of}
use Rattle.uring_check.specs.declared.setup_line.Said.{Said}
use Rattle.uring_check.specs.declared.setup_line.Said.TheVariants.{Nothing, Says, Misses}
use Rattle.uring_check.specs.declared.setup_line.Sizes.{Sizes}
use Rattle.uring_check.specs.declared.setup_line.Asked.{Asked}

-- the tokens begin as those of a set-up do
abbrev pub begins_setup : List (List ℕ) → Bool
begins_setup [] = false
begins_setup (sign ∷ []) = false
begins_setup (sign ∷ name ∷ tokens) = bytes_eq sign (codes "#") && bytes_eq name (codes "setup")

-- a number of 32 bits after its name
abbrev pub named_number : List ℕ → List ℕ → List ℕ → Option ℕ
named_number wanted name token = if bytes_eq name wanted then number_of (2 ^ 32) token else None

-- whether calls stop, and whether the rules are Linux's
abbrev pub asked_as : (stops linux : Bool) → Asked
asked_as stops linux = record { stops = stops; linux = linux }

-- what one word after the numbers asks for
abbrev pub one_asked : List ℕ → Option Asked
one_asked word =
    if bytes_eq word (codes "--stop") then Some (asked_as true false) else
    if bytes_eq word (codes "--linux") then Some (asked_as false true) else
    None

-- what two words ask for
abbrev pub both_asked : List ℕ → List ℕ → Option Asked
both_asked first second =
    if bytes_eq first (codes "--stop") && bytes_eq second (codes "--linux")
    then Some (asked_as true true) else
    None

-- what the words after the numbers ask for: `--stop`, `--linux`, both in this order, or none
abbrev pub words_said : List (List ℕ) → Option Asked
words_said [] = Some (asked_as false false)
words_said (word ∷ []) = one_asked word
words_said (first ∷ second ∷ []) = both_asked first second
words_said (first ∷ second ∷ third ∷ words) = None

-- the sizes of these numbers and words, if each is one
abbrev pub sizes_of : Option Asked → Option ℕ → Option ℕ → Option ℕ → Option ℕ → Option Sizes
sizes_of (Some asked) (Some sq) (Some cq) (Some files) (Some start) =
    Some (record { sq = sq; cq = cq; files = files; start = start; asked = asked })
sizes_of asked sq cq files start = None

-- the sizes that the tokens after `# setup` say: `--sq N --cq N --files N --start N`, with words after it
abbrev pub sizes_said : List (List ℕ) → Option Sizes
sizes_said (a ∷ sq ∷ b ∷ cq ∷ c ∷ files ∷ d ∷ start ∷ words) =
    sizes_of (words_said words) (named_number (codes "--sq") a sq) (named_number (codes "--cq") b cq) (named_number (codes "--files") c files) (named_number (codes "--start") d start)
sizes_said tokens = None

-- the sizes that the tokens of a line say
abbrev pub sizes_in : List (List ℕ) → Option Sizes
sizes_in [] = None
sizes_in (sign ∷ []) = None
sizes_in (sign ∷ name ∷ tokens) = sizes_said tokens

-- The set-up has these sizes, rounded up, and is as is asked for.
abbrev pub IsSetupOf : Sizes → Setup → Type 0
IsSetupOf n s = (plain : Setup) × IsSetupFor n.sq (Some n.cq) n.files n.start plain
    × (s ≡ record plain { stops = n.asked.stops; linux = n.asked.linux })

-- no set-up has the sizes
abbrev pub MissesSetup : Option Sizes → Type 0
MissesSetup sizes = (n : Sizes) (s : Setup) → sizes ≡ Some n → IsSetupOf n s → ⊥

-- what is said by these sizes, of a line that is to say a set-up
abbrev pub IsSaidOf : Option Sizes → Said → Type 0
IsSaidOf sizes Nothing = ⊥
IsSaidOf sizes (Says s) = (n : Sizes) × (sizes ≡ Some n) × IsSetupOf n s
IsSaidOf sizes Misses = MissesSetup sizes

-- what the tokens say: no set-up, or what their sizes say
abbrev pub IsSaidBy : List (List ℕ) → Said → Type 0
IsSaidBy tokens Nothing = begins_setup tokens ≡ false
IsSaidBy tokens said = (begins_setup tokens ≡ true) × IsSaidOf (sizes_in tokens) said

abbrev pub IsSaidIf : Bool → List ℕ → Said → Type 0
IsSaidIf true line said = IsSaidBy (tokens_of line) said
IsSaidIf false line said = said ≡ Nothing

-- What the line says of a set-up: one of more than 300 bytes says nothing.
abbrev pub IsSaid : List ℕ → Said → Type 0
IsSaid line said = IsSaidIf (nat_le (length line) 300) line said

-- what stands at the end of the line of a set-up
abbrev pub end_text : (stops linux : Bool) → List ℕ
end_text true true = codes " --stop --linux\n"
end_text true false = codes " --stop\n"
end_text false true = codes " --linux\n"
end_text false false = codes "\n"

-- the line of a set-up, as it is written
abbrev pub setup_text : Setup → List ℕ
setup_text g =
    codes "# setup --sq " ++ decimal g.sq ++ codes " --cq " ++ decimal g.cq ++ codes " --files " ++ decimal g.files ++ codes " --start " ++ decimal g.start
    ++ end_text g.stops g.linux
