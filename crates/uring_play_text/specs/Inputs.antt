-- What bytes that were read spell, and what is returned of them. The play language is our own rule.
use Rattle.std.specs.Prelude.{◌≡◌, ℕ, List, map, reverse, Option, Result, Ok, Err}
use Rattle.std.specs.Io.KnownBytes.{Consumes, IsAtEnd}
use Rattle.std.specs.declared.vec.Vec.{Vec}
use Rattle.std.specs.declared.alloc.Global.{Global}
use Rattle.uring_entry.specs.Setup.{Setup}
use Rattle.uring_text.specs.Lines.{Splits, with_last}
use Rattle.uring_ports.specs.declared.item.Item.{Item}
use Rattle.uring_play_text.specs.Calls.{SpellsCalls}
use Rattle.uring_play_text.specs.Faults.{IsBadFirst, IsLongFirst}
use Rattle.uring_play_text.specs.declared.play_fault.PlayFault.{PlayFault}
use Rattle.uring_play_text.specs.declared.play_fault.PlayFault.TheVariants as fault

-- the lines of the bytes, in order: those that have their ends, and a rest without one if it has some byte
pub record HasLines (bytes : List ℕ) (lines : List (List ℕ)) : Type 0 where
  pub ended : List (List ℕ)
  pub rest : List ℕ
  pub splits : Splits bytes ended rest
  pub all : lines ≡ reverse (with_last ended rest)

-- calls, or a fault
abbrev pub Told : Type 0
Told = Result (List (List Item)) PlayFault

-- What lines tell: calls, or the first faulty line.
abbrev pub Tells : ℕ → List (List ℕ) → Told → Type 0
Tells size lines (Ok calls) = SpellsCalls size lines calls
Tells size lines (Err (fault.Line k)) = IsBadFirst size lines k
Tells size lines (Err (fault.Long k)) = IsLongFirst size lines k
Tells size lines (Err fault.Read) = ⊥
Tells size lines (Err fault.Write) = ⊥
Tells size lines (Err fault.Memory) = ⊥

-- What bytes tell.
abbrev pub IsTold : ℕ → List ℕ → Told → Type 0
IsTold size bytes told = (lines : List (List ℕ)) × HasLines bytes lines × Tells size lines told

-- the lists of items that vectors hold
abbrev pub lists_of : List (Vec Item Global) → List (List Item)
lists_of calls = map (λ call. call.items) calls

-- What is returned of bytes: what they tell, unless the reader failed or memory was refused.
abbrev pub IsReturned : ℕ → List ℕ → Result (Vec (Vec Item Global) Global) PlayFault → Type 0
IsReturned size bytes (Ok calls) = IsTold size bytes (Ok (lists_of calls.items))
IsReturned size bytes (Err (fault.Line k)) = IsTold size bytes (Err (fault.Line k))
IsReturned size bytes (Err (fault.Long k)) = IsTold size bytes (Err (fault.Long k))
IsReturned size bytes (Err fault.Read) = Unit {0}
IsReturned size bytes (Err fault.Memory) = Unit {0}
IsReturned size bytes (Err fault.Write) = ⊥

-- at the end the reader has nothing left, unless it failed or memory was refused
abbrev pub ReadsAll : Result (Vec (Vec Item Global) Global) PlayFault → Option (List ℕ) → Type 0
ReadsAll (Ok calls) left = IsAtEnd left
ReadsAll (Err (fault.Line k)) left = IsAtEnd left
ReadsAll (Err (fault.Long k)) left = IsAtEnd left
ReadsAll (Err fault.Read) left = Unit {0}
ReadsAll (Err fault.Memory) left = Unit {0}
ReadsAll (Err fault.Write) left = ⊥

-- What was read and returned: the reader had `left_before` left and has `left_after`.
pub record ReadsCalls (setup : Setup) (answer : Result (Vec (Vec Item Global) Global) PlayFault) (left_before left_after : Option (List ℕ)) : Type 0 where
  pub bytes : List ℕ
  pub consumed : Consumes left_before left_after bytes
  pub returned : IsReturned setup.sq bytes answer
  pub whole : ReadsAll answer left_after
