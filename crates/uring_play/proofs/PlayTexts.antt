-- What is read, played and written, put together.
use Rattle.std.proofs.Common.{◌≡◌, ℕ, List, [], ◌++◌, Option, Result, Ok, Err, inl, inr, refl, sym}
use Rattle.std.proofs.KnownBytes.{Appends-nil}
use Rattle.std.specs.declared.vec.Vec.{Vec}
use Rattle.std.specs.declared.alloc.Global.{Global}
use Rattle.uring_entry.specs.Setup.{Setup}
use Rattle.uring_ports.specs.declared.item.Item.{Item}
use Rattle.uring_play_text.specs.Inputs.{IsReturned, ReadsAll, ReadsCalls, lists_of}
use Rattle.uring_play_text.specs.Outputs.{IsWritten}
use Rattle.uring_play.specs.Plays.{AnswersPlay, IsPlayText, Plays, ReadsToEnd}
use Rattle.uring_play.specs.Threads.{EndsPlay}
use Rattle.uring_play_text.specs.declared.play_fault.PlayFault.{PlayFault}
use Rattle.uring_play_text.specs.declared.play_fault.PlayFault.TheVariants as fault

-- the reader failed, or has a faulty line
no_answer : (g : Setup) (workers : ℕ) (bytes : List ℕ) (f : PlayFault) (left : Option (List ℕ))
    → IsReturned g.sq bytes (Err f) → ReadsAll (Err f) left
    → ReadsToEnd (Err f) left × AnswersPlay g workers bytes (Err f) []
no_answer g workers bytes fault.Read left told whole = (tt, refl)
no_answer g workers bytes fault.Memory left told whole = (tt, refl)
no_answer g workers bytes fault.Write left told whole = absurd whole
no_answer g workers bytes _ left told whole = (whole, (told, refl))

pub stopped_reading : (g : Setup) (workers : ℕ) (answer : Result (Unit {0}) PlayFault) (f : PlayFault) (before after held : Option (List ℕ))
    → answer ≡ Err f → ReadsCalls g (Err f) before after → Plays g workers answer before after held held
stopped_reading g workers answer f before after held is r =
    let none = no_answer g workers r.bytes f after r.returned r.whole in
    rw is (record { bytes = r.bytes; consumed = r.consumed; whole = none.0; written = []; appended = Appends-nil held; answers = none.1 })

-- memory was refused to the play
pub out_of_memory : (g : Setup) (workers : ℕ) (answer : Result (Unit {0}) PlayFault) (calls : Vec (Vec Item Global) Global) (before after held : Option (List ℕ))
    → answer ≡ Err fault.Memory → ReadsCalls g (Ok calls) before after
    → Plays g workers answer before after held held
out_of_memory g workers answer calls before after held is r =
    stopped_reading g workers answer fault.Memory before after held is
    (record { bytes = r.bytes; consumed = r.consumed; returned = tt; whole = tt })

-- the ends of its threads were settled
pub was_played : {g : Setup} {workers : ℕ} {calls : Vec (Vec Item Global) Global} {before after : Option (List ℕ)} (answer : Result (Unit {0}) PlayFault) (held_before held_after : Option (List ℕ))
    → ReadsCalls g (Ok calls) before after
    → EndsPlay g workers (lists_of calls.items) answer held_before held_after
    → Plays g workers answer before after held_before held_after
was_played {g} {workers} {calls} {before} {after} answer held_before held_after r (inl p) =
    go answer p.written.2.2
  where
    the_text : (whole : List ℕ) → p.written.0 ≡ whole → IsPlayText g workers r.bytes whole
    the_text whole same = rw (← same) (record { calls = lists_of calls.items; told = r.returned; report = p.report; setup = p.setup; many = p.many; completions = p.completions; play = p.play; written = p.written.1 })

    go : (a : Result (Unit {0}) PlayFault) → IsWritten a p.written.0 p.written.2.0 → Plays g workers a before after held_before held_after
    go (Ok done) is = record { bytes = r.bytes; consumed = r.consumed; whole = r.whole; written = p.written.2.0; appended = p.written.2.1; answers = the_text p.written.2.0 (sym is) }
    go (Err fault.Write) (more, some, all) = record { bytes = r.bytes; consumed = r.consumed; whole = r.whole; written = p.written.2.0; appended = p.written.2.1; answers = (more, some, the_text (p.written.2.0 ++ more) all) }
    go (Err fault.Memory) is = record { bytes = r.bytes; consumed = r.consumed; whole = tt; written = p.written.2.0; appended = p.written.2.1; answers = is }
    go _ is = absurd is
was_played answer held_before held_after r (inr (refused, same)) =
    rw same (out_of_memory _ _ answer _ _ _ held_before refused r)
