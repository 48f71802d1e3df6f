use Rattle.std.proofs.Common.{◌≡◌, ◌≢◌, ℕ, List, [], false, refl, reverse}
use Rattle.std.specs.Prelude.{IsTrue}
use Rattle.uring_text.specs.KeptLine.{kept_of}
use Rattle.uring_play_text.proofs.Readings.{given_of, ended_last, ended_none}
use Rattle.uring_play_text.proofs.reading.Reading.end.Goals as goal

pub returns-then-is_empty-clause-calls : goal.returns-then-is_empty-clause-calls
returns-then-is_empty-clause-calls g c = λ size bytes h. ended_none size c.args.self.line c.args.self.script c.end.result bytes (λ line e. (c.if-is_empty.ensures line e).0 refl) c.end.ensures.calls h

pub returns-clause-calls : goal.returns-clause-calls
returns-clause-calls g c =
    let some : (line : List ℕ) → c.args.self.line ≡ kept_of line → line ≢ [] = λ line e none. let is : IsTrue false = (c.if-is_empty.ensures line e).1 none in absurd cc in
    λ size bytes h. ended_last size c.args.self.line c.args.self.script c.take_line.new.self c.whole.result c.end-2.result bytes (given_of c.args.self.line c.whole.result c.whole.ensures.line c.whole.ensures.short) some c.in_ok-take_line.ensures.lines c.end-2.ensures.calls h

pub returns-then-is_empty-clause-granted : goal.returns-then-is_empty-clause-granted
returns-then-is_empty-clause-granted g c =
    λ sure size bytes h. c.end.ensures.granted sure size (reverse h.ended) h.gathers

pub returns-clause-granted : goal.returns-clause-granted
returns-clause-granted g c = λ sure size bytes h.
    let given = given_of c.args.self.line c.whole.result c.whole.ensures.line c.whole.ensures.short h.line h.keeps in
    c.end-2.ensures.granted sure size _ (c.in_ok-take_line.ensures.lines size (reverse h.ended) h.line given h.gathers)
