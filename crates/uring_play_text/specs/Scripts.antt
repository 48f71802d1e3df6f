-- Glue. What a script has gathered of the lines that it took in.
use Rattle.std.specs.Prelude.{◌≡◌, ℕ, ◌<◌, ◌≤◌, ◌⊎◌, List, [], ◌∷◌, ◌++◌, length, Option, Some, None, Result, Ok, Err}
use Rattle.std.specs.declared.vec.Vec.{Vec}
use Rattle.std.specs.declared.alloc.Global.{Global}
use Rattle.uring_ports.specs.declared.item.Item.{Item}
use Rattle.uring_play_text.specs.declared.play_fault.PlayFault.{PlayFault}
use Rattle.uring_play_text.specs.declared.play_fault.PlayFault.TheVariants as fault
use Rattle.uring_play_text.specs.declared.script.Script.{Script}
use Rattle.uring_play_text.specs.Calls.{blocks_of, AreCalls, IsCall}
use Rattle.uring_play_text.specs.Inputs.{Tells, lists_of}

-- the items of a block as calls: one call, or none for no item
abbrev pub one_call : List Item → List (List Item)
one_call [] = []
one_call (i ∷ items) = (i ∷ items) ∷ []

-- Lines without a fault: these calls have ended, and these items are of the call that goes on.
pub record Goes (size : ℕ) (lines : List (List ℕ)) (number : ℕ) (calls : List (List Item)) (call : List Item) : Type 0 where
  pub number_is : number ≡ length lines
  pub ended : List (List (List ℕ))
  pub last : List (List ℕ)
  pub blocks : blocks_of lines ≡ ended ++ last ∷ []
  pub calls_are : AreCalls size ended calls
  pub call_is : IsCall size last call

-- lines without a fault, or with this first one
abbrev pub IsAt : ℕ → List (List ℕ) → Option PlayFault → ℕ → List (List Item) → List Item → Type 0
IsAt size lines None number calls call = Goes size lines number calls call
IsAt size lines (Some f) number calls call = Tells size lines (Err f)

-- The script has taken in these lines, in order, for a submission ring of this size.
abbrev pub Gathers : ℕ → List (List ℕ) → Script → Type 0
Gathers size lines s =
    (s.size ≡ size) × IsAt size lines s.fault s.number (lists_of s.calls.items) s.call.items

-- what is returned of lines; a fault of the reader or of memory may come at any of them
abbrev pub Returns : ℕ → List (List ℕ) → Result (Vec (Vec Item Global) Global) PlayFault → Type 0
Returns size lines (Ok calls) = Tells size lines (Ok (lists_of calls.items))
Returns size lines (Err fault.Read) = Unit {0}
Returns size lines (Err fault.Memory) = Unit {0}
Returns size lines (Err fault.Write) = ⊥
Returns size lines (Err (fault.Line k)) = Tells size lines (Err (fault.Line k))
Returns size lines (Err (fault.Long k)) = Tells size lines (Err (fault.Long k))

-- a fault that may come before the end of the input
abbrev pub IsEarly : PlayFault → Type 0
IsEarly fault.Read = Unit {0}
IsEarly fault.Memory = Unit {0}
IsEarly fault.Write = ⊥
IsEarly (fault.Line k) = ⊥
IsEarly (fault.Long k) = ⊥

-- an item is added, or the call is found too long
abbrev pub Adds : Script → Script → Item → Type 0
Adds old new i =
    ((length old.call.items < old.size) × (new ≡ record old { call = new.call }) × (new.call.items ≡ old.call.items ++ i ∷ []))
    ⊎ ((old.size ≤ length old.call.items) × (new ≡ record old { fault = Some (fault.Long old.number) }))

-- the call is ended
pub record EndsCall (old new : Script) : Type 0 where
  pub size : new.size ≡ old.size
  pub number : new.number ≡ old.number
  pub fault : new.fault ≡ old.fault
  pub calls : lists_of new.calls.items ≡ lists_of old.calls.items ++ one_call old.call.items
  pub call : new.call.items ≡ []
