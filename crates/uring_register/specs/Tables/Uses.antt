-- Who has a registered file or buffer, by what has happened to it, the newest first, and when it is gone. io_uring_register(2), IORING_REGISTER_FILES_UPDATE, IORING_REGISTER_BUFFERS2 and the tags of io_uring_rsrc_register; what a request has keeps to its end, as Linux 6.18 does it.
use Rattle.std.specs.Prelude.{◌≡◌, ℕ, ◌+◌, ◌-◌, Bool, true, false, not, ◌&&◌, nat_lt, List, [], ◌∷◌, if◌then◌else◌}
use Rattle.uring_register.specs.declared.tables.uses.Uses.{Uses}
use Rattle.uring_register.specs.declared.tables.uses.Ending.{Ending}
use Rattle.uring_register.specs.declared.tables.uses.Ending.TheVariants.{Stays, Goes, Tells}

pub data Use : Type 0 where
  -- a slot got it
  Put : Use
  -- the slot lost it
  Lost : Use
  -- a request took it
  Taken : Use
  -- and gave it back
  Given : Use
  -- its table isn't registered after all
  Dropped : Use

-- how many slots have it
abbrev pub slots : List Use → ℕ
slots [] = 0
slots (Put ∷ earlier) = slots earlier + 1
slots (Lost ∷ earlier) = slots earlier - 1
slots (_ ∷ earlier) = slots earlier

-- and how many requests
abbrev pub requests : List Use → ℕ
requests [] = 0
requests (Taken ∷ earlier) = requests earlier + 1
requests (Given ∷ earlier) = requests earlier - 1
requests (_ ∷ earlier) = requests earlier

abbrev pub is_dropped : List Use → Bool
is_dropped [] = false
is_dropped (Dropped ∷ earlier) = true
is_dropped (_ ∷ earlier) = is_dropped earlier

-- a slot or a request has it
abbrev pub is_had : List Use → Bool
is_had log = nat_lt 0 (slots log + requests log)

-- it is gone once no slot and no request has it any more
abbrev pub is_gone : List Use → Bool
is_gone [] = false
is_gone log = not (is_had log)

-- its tag is told if it has one and its table came to be registered
abbrev pub is_told : Bool → List Use → Bool
is_told has_tag log = has_tag && not (is_dropped log)

-- what becomes of it when a slot has lost it or a request has given it back
abbrev pub ending_of : Bool → List Use → Ending
ending_of has_tag log =
    if is_had log then Stays else
    if is_told has_tag log then Tells else Goes

-- glue: what is kept is that of a file or buffer to which this has happened, with a tag or without
pub record KeepsUses (has_tag : Bool) (log : List Use) (u : Uses) : Type 0 where
  pub count : u.count ≡ slots log + requests log
  pub told : u.has_tag ≡ is_told has_tag log
