use Rattle.std.proofs.Common.{◌≡◌, ◌+◌, None, ◌∙◌, rules}
use Rattle.std.specs.Prelude.{IsSome}
use Rattle.uring_play_text.proofs.ScriptLaws.{blank_more, fault_stays, reached, took_item}
use Rattle.uring_play_text.proofs.script.Script.take_line.Goals as goal

pub returns-then-is_some-clause-lines : goal.returns-then-is_some-clause-lines
returns-then-is_some-clause-lines g c =
    let some : IsSome c.args.self.now.fault = search rules in
    λ size lines text given h. (h.0, fault_stays size lines text _ _ _ _ some h.1)

pub returns-in_ok-end_call-in-Blank-clause-lines : goal.returns-in_ok-end_call-in-Blank-clause-lines
returns-in_ok-end_call-in-Blank-clause-lines g c = λ size lines text given h.
    let e = c.in_ok-end_call-in-Blank.ensures.ended in
    let none : c.args.self.now.fault ≡ None = search rules in
    let next : c.in-Some.number ≡ c.args.self.now.number + 1 = search rules in
    (e.size ∙ h.0, rw (e.fault ∙ none, e.number ∙ next, e.calls, e.call) (blank_more (rw none at h.1) text (rw c.in-Blank.is at (c.in_ok-read.ensures.read text given))))

pub returns-in_ok-add-in-Submits-clause-lines : goal.returns-in_ok-add-in-Submits-clause-lines
returns-in_ok-add-in-Submits-clause-lines g c = λ size lines text given h.
    took_item c.args.self.now _ c.in-Some.number c.in-Submits.item (search rules) (search rules) c.in_ok-add-in-Submits.ensures.kept size lines text (rw c.in-Submits.is at (c.in_ok-read.ensures.read text given)) h

pub returns-in-Bad-clause-lines : goal.returns-in-Bad-clause-lines
returns-in-Bad-clause-lines g c = λ size lines text given h.
    let none : c.args.self.now.fault ≡ None = search rules in
    let next : c.in-Some.number ≡ c.args.self.now.number + 1 = search rules in
    (h.0, rw next (reached (rw none at h.1) text, rw h.0 at (rw c.in-Bad.is at (c.in_ok-read.ensures.read text given))))
