-- The reason of an answer. Which answers have one, and its text, is our own rule.
use Rattle.std.specs.Prelude.{ℕ, Bool, List, [], ◌++◌, Option, Some, None, codes}
use Rattle.std.specs.Fmt.{decimal}
use Rattle.uring_entry.specs.Requests.{Requests}
use Rattle.uring_entry.specs.Texts.{fault_text}
use Rattle.uring_entry.specs.Setup.{Setup}
use Rattle.uring_linux.specs.LinuxRequests.{LinuxRequests}
use Rattle.uring_rules.specs.Rules.{why_of, found_by}
use Rattle.uring_entry.specs.declared.why.Why.{Why}
use Rattle.uring_entry.specs.declared.why.Why.TheVariants.{NeverAccepted, HasEnded, Runs, IsDoomed, Waits, MayStart}
use Rattle.uring_entry.specs.declared.why.Doom.{Doom}
use Rattle.uring_entry.specs.declared.why.Doom.TheVariants.{OwnFault, FaultOf, FailureOf, Cancel, RefusedDrain}
use Rattle.uring_entry.specs.declared.why.Since.{Since}
use Rattle.uring_entry.specs.declared.why.Since.TheVariants.{SameGroup, ItDrains, OwnDrains, Deferred}
use Rattle.uring_dispatch.specs.declared.answers.CancelFound.{CancelFound}
use Rattle.uring_dispatch.specs.declared.answers.CancelFound.TheVariants.{Nobody, Running, Chosen}
use Rattle.uring_core.specs.World.{World, requests_of}
use Rattle.uring_core.specs.declared.step.Step.{Step}
use Rattle.uring_core.specs.declared.step.Step.TheVariants as step
use Rattle.uring_core.specs.declared.answer.Answer.{Answer}
use Rattle.uring_core.specs.declared.answer.Answer.TheVariants as answer
use Rattle.uring_trace.specs.Chosen.{after_text, chosen_told}
use Rattle.uring_trace.specs.declared.reason_text.Reason.{Reason}
use Rattle.uring_trace.specs.declared.reason_text.Reason.TheVariants.{Stands, Finds}

-- why the request that a step issues or finishes stands as it does
abbrev pub asked : (is_linux : Bool) → LinuxRequests → Step → Option Why
asked is_linux l (step.Issue n) = Some (why_of is_linux l n)
asked is_linux l (step.Finish n) = Some (why_of is_linux l n)
asked is_linux l _ = None

-- what the request that a step issues would find
abbrev pub sought : (is_linux : Bool) → Requests → Step → Option CancelFound
sought is_linux r (step.Issue n) = found_by is_linux r n
sought is_linux r _ = None

abbrev pub standing : Option Why → Option Reason
standing (Some why) = Some (Stands why)
standing None = None

abbrev pub finding : Option CancelFound → Option Reason
finding (Some found) = Some (Finds found)
finding None = None

-- what is told of an end: what doomed the request, or else what the cancel of one request found
abbrev pub end_reason : Option Why → Option CancelFound → Option Reason
end_reason (Some (IsDoomed doom)) found = Some (Stands (IsDoomed doom))
end_reason _ found = finding found

-- what of these is told after this answer: of one that runs already nothing
abbrev pub kept_reason : Answer → Option Why → Option CancelFound → Option Reason
kept_reason (answer.Ended res bytes) why found = end_reason why found
kept_reason answer.Running why found = None
kept_reason _ why found = standing why

-- the reason of the answer to a step, by the world before the step, and by the rules of the set-up
abbrev pub reason_of : Setup → World → Step → Answer → Option Reason
reason_of g w s a =
    kept_reason a (asked g.linux (requests_of w) s) (sought g.linux w.requests s)

-- The text of a reason.

-- a number, and words after it
abbrev pub numbered : ℕ → List ℕ → List ℕ
numbered n words = decimal n ++ words

abbrev pub doom_text : Doom → List ℕ
doom_text (OwnFault fault) = fault_text fault
doom_text (FaultOf m) = numbered m (codes " of its group has a fault")
doom_text (FailureOf m) = numbered m (codes " failed before it")
doom_text Cancel = codes "a cancel chose it"
doom_text RefusedDrain = codes "a drain, which this ring refuses"

abbrev pub since_text : ℕ → Since → List ℕ
since_text m SameGroup = codes "a member of its group"
since_text m ItDrains = numbered m (codes "'s group drains")
since_text m OwnDrains = codes "its own group drains"
since_text m Deferred = codes "its group is deferred"

abbrev pub why_text : Why → List ℕ
why_text NeverAccepted = codes "never accepted"
why_text HasEnded = codes "has ended"
why_text Runs = codes "runs"
why_text (IsDoomed doom) = codes "doomed: " ++ doom_text doom
why_text (Waits m since) = codes "waits for " ++ decimal m ++ codes ": " ++ since_text m since
why_text MayStart = codes "waits for nobody"

abbrev pub found_text : CancelFound → List ℕ
found_text Nobody = codes "found none"
found_text (Running m) = numbered m (codes " is running")
found_text (Chosen m) = codes "chose " ++ decimal m

-- what stands after an answer
abbrev pub reason_text : Option Reason → List ℕ
reason_text None = []
reason_text (Some (Stands why)) = codes "  # " ++ why_text why
reason_text (Some (Finds found)) = codes "  # " ++ found_text found

-- all that stands after an answer, by the world before the step: its reason, and whom a cancel of all chose
abbrev pub reasons_text : Setup → World → Step → Answer → List ℕ
reasons_text g w s a =
    reason_text (reason_of g w s a) ++ after_text (chosen_told g.linux (requests_of w) s)
