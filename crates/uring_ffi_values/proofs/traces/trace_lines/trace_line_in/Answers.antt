use Rattle.std.proofs.Common.{refl}
use Rattle.std.proofs.lemmas.Bool.{false≢true}
use Rattle.uring_ffi_values.proofs.Exits.{apart}
use Rattle.uring_ffi_values.proofs.traces.trace_lines.trace_line_in.Goals as goal

pub returns-in_default : goal.returns-in_default
returns-in_default g c = record { results = λ _ unread. absurd (unread refl); refused = λ _. (refl, refl); told = apart _ _ refl; granted = λ _. apart _ _ refl }

pub returns-in_default-answer : goal.returns-in_default-answer
returns-in_default-answer g c = record { results = λ _ unread. absurd (unread refl); refused = λ _. (refl, refl); told = apart _ _ refl; granted = λ _. apart _ _ refl }

pub returns-in_default-write_line : goal.returns-in_default-write_line
returns-in_default-write_line g c = record { results = λ _ _. refl; refused = λ _. (refl, refl); told = apart _ _ refl; granted = λ all _. false≢true (c.in_default-write_line.ensures.granted all) }

pub returns-then-not-is_line : goal.returns-then-not-is_line
returns-then-not-is_line g c = record { results = λ _ unread. absurd (unread refl); refused = λ _. (refl, refl); told = apart _ _ refl; granted = λ _. apart _ _ refl }
