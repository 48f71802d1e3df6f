-- The steps on the submission ring change places with those on requests and completions: `submission_then_rest` and `rest_then_submission`. Neither side reads what the other writes, by either's rules.
use Rattle.std.proofs.Common.{◌≡◌, ◌∷◌, sym, subst, ap, ◌∙◌, arith}
use Rattle.uring_laws.proofs.Common.{Answer, CalledFor, Change, ChangePlaces, History, IsLawful, IsOnRest, IsOnSubmission, RestThenSubmission, Setup, Step, Submission, SubmissionThenRest, World, change_of, happens, world, ◌↔◌}
use Rattle.uring_laws.proofs.Swapping.{alike_same}
use Rattle.uring_laws.proofs.WholeLaws.{lawful_apart}

-- the world with another submission ring
abbrev submitted : World → Submission → World
submitted w x = record w { submission = x }

-- the world w, with what a step on requests and completions may change as it is in v
abbrev with_rest : World → World → World
with_rest w v = record w { requests = record w.requests { started = v.requests.started; cancelled = v.requests.cancelled; ended = v.requests.ended }; drains = v.drains; completions = v.completions }

-- Each side changes its own alone.

-- it is the only one that changes, and whatever the rest is
record OnSubmission (g : Setup) (w : World) (s : Step) (a : Answer) : Type 0 where
  alone : happens g w s a ≡ submitted w (happens g w s a).submission
  beside : (v : World) → happens g (with_rest w v) s a ≡ with_rest (happens g w s a) v

on_submission : (g : Setup) (w : World) (s : Step) (a : Answer) → Change g w s a → IsOnSubmission s
    → OnSubmission g w s a
on_submission g w s a c on = grind arith

-- the rest is all that changes, and whatever the submission ring is
record OnRest (g : Setup) (w : World) (t : Step) (b : Answer) : Type 0 where
  alone : happens g w t b ≡ with_rest w (happens g w t b)
  beside : (x : Submission) → happens g (submitted w x) t b ≡ submitted (happens g w t b) x

on_rest : (g : Setup) (w : World) (t : Step) (b : Answer) → Change g w t b → IsOnRest t → OnRest g w t b
on_rest g w t b c on = grind arith

-- Answers.

-- called for in the one world exactly if in the other
sub_called : (g : Setup) (w x : World) (s : Step) (a : Answer) → IsOnSubmission s
    → CalledFor g w s a ↔ CalledFor g (with_rest w x) s a
sub_called g w x s a on = grind arith

rest_called : (g : Setup) (w : World) (x : Submission) (t : Step) (b : Answer) → IsOnRest t
    → CalledFor g w t b ↔ CalledFor g (submitted w x) t b
rest_called g w x t b on = grind arith

-- both orders
both_sides : (g : Setup) (h : History) (s t : Step) (a b : Answer) → IsOnSubmission s → IsOnRest t
    → CalledFor g (world g h) s a → CalledFor g (world g h) t b → IsLawful g h
    → ChangePlaces g h (s, a) (t, b) × ChangePlaces g h (t, b) (s, a)
both_sides g h s t a b on other one two lawful =
    let w : World = world g h in
    let v : World = happens g w s a in
    let u : World = happens g w t b in
    let c = on_submission g w s a (change_of g w s a (lawful_apart g ((s, a) ∷ h) (one, lawful)).0) on in
    let d = on_rest g w t b (change_of g w t b (lawful_apart g ((t, b) ∷ h) (two, lawful)).0) other in
    let left : happens g v t b ≡ submitted (with_rest w u) v.submission = ap (λ (v : World). happens g v t b) c.alone ∙ (d.beside v.submission ∙ ap (λ (u : World). submitted u v.submission) d.alone) in
    let right : happens g u s a ≡ submitted (with_rest w u) v.submission = ap (λ (u : World). happens g u s a) d.alone ∙ (c.beside u ∙ ap (λ (v : World). with_rest v u) c.alone) in (
      record { lawful = (subst (λ v. CalledFor g v s a) (sym d.alone) ((sub_called g w u s a on).0 one), (two, lawful)); alike = alike_same g _ _ (left ∙ sym right) },
      record { lawful = (subst (λ v. CalledFor g v t b) (sym c.alone) ((rest_called g w v.submission t b other).0 two), (one, lawful)); alike = alike_same g _ _ (right ∙ sym left) },
    )

pub submission_then_rest : (g : Setup) → SubmissionThenRest g
submission_then_rest g h s t a b on other lawful =
    let w : World = world g h in
    let c : Change g w s a = change_of g w s a (lawful_apart g ((s, a) ∷ h) lawful.1).0 in
    let two : CalledFor g w t b = (rest_called g w (happens g w s a).submission t b other).1 (subst (λ v. CalledFor g v t b) (on_submission g w s a c on).alone lawful.0) in
    (both_sides g h s t a b on other lawful.1.0 two lawful.1.1).0

pub rest_then_submission : (g : Setup) → RestThenSubmission g
rest_then_submission g h s t a b on other lawful =
    let w : World = world g h in
    let d : Change g w t b = change_of g w t b (lawful_apart g ((t, b) ∷ h) lawful.1).0 in
    let one : CalledFor g w s a = (sub_called g w (happens g w t b) s a on).1 (subst (λ v. CalledFor g v s a) (on_rest g w t b d other).alone lawful.0) in
    (both_sides g h s t a b on other one lawful.1.0 lawful.1.1).1
