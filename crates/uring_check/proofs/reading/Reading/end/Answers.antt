use Rattle.std.proofs.Common.{◌≡◌, ◌≢◌, ℕ, List, [], false, refl}
use Rattle.uring_check.proofs.Common.{IfOk-weaker, IsTrue, false≢true, string_bytes}
use Rattle.uring_text.specs.KeptLine.{kept_of}
use Rattle.uring_check.proofs.Readings.{ended_last, ended_none}
use Rattle.uring_check.proofs.reading.Reading.end.Goals as goal

pub returns-then-is_empty-clause-verdict : goal.returns-then-is_empty-clause-verdict
returns-then-is_empty-clause-verdict g c =
    IfOk-weaker c.end.result _ _ (λ verdict ends g all bytes h. ended_none g all c.args.self.now.line c.args.self.now.checker bytes (string_bytes c.end.new.self.report) verdict (λ line e. (c.if-is_empty.ensures line e).0 refl) ends h) c.end.ensures.told

pub returns-clause-verdict : goal.returns-clause-verdict
returns-clause-verdict g c =
    let some : (line : List ℕ) → c.args.self.now.line ≡ kept_of line → line ≢ [] = λ line e none. let is : IsTrue false = (c.if-is_empty.ensures line e).1 none in absurd cc in
    IfOk-weaker c.end-2.result _ _ (λ verdict ends g all bytes h. ended_last g all c.args.self.now.line c.args.self.now.checker c.take_line.new.self bytes (string_bytes c.end-2.new.self.report) verdict some c.in_ok-take_line.ensures.looks ends h) c.end-2.ensures.told

pub returns-in_err-take_line-clause-granted : goal.returns-in_err-take_line-clause-granted
returns-in_err-take_line-clause-granted g c = λ sure r all before h.
    absurd (false≢true (c.in_err-take_line.ensures.granted sure r all h.whole h.looks))
