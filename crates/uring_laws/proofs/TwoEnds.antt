-- Two ends change places, by either's rules: `finishes_change` and `doomed_ends_change`. The doomed change no file, and stay doomed.
use Rattle.std.proofs.Common.{◌≡◌, ◌≢◌, ℕ, ℤ, Bool, true, false, List, ◌∷◌, refl, sym, subst, ap, ◌∙◌, ◌⊎◌, arith}
use Rattle.uring_laws.proofs.Common.{AreAlike, CalledFor, ChangePlaces, DontMeet, DoomedEndsChange, Event, FileContents, FinishesChange, History, IsIssue, IsLawful, IsOutcome, Op, Outcome, PostsNothing, Requests, Setup, World, after, ends_doomed, entry_of, files_ended, files_kept, files_of, happens, has_ended, has_ended_same, is_running_ended_other, operation_of, posts, requests_of, world}
use Rattle.uring_core.specs.declared.answer.Answer.TheVariants as answer
use Rattle.uring_laws.proofs.Alike.{HaveSameRings, with_files}
use Rattle.uring_laws.proofs.EndedRequests.{outstanding_end, ends_doomed_stays, posts_end, drains_either}
use Rattle.uring_laws.proofs.Turns.{GoesOn, running_goes_on, doomed_goes_on}
use Rattle.uring_laws.proofs.Swapping.{IsEnd, MayEnd, EndView, ends_by, view, ended, end_step, end_by, may_end, is_end, two_pushed}
use Rattle.uring_laws.proofs.WholeLaws.{lawful_apart}

-- Rings.

two_rings : (g : Setup) (w : World) (m n : ℕ) (x y : Outcome) → n ≢ m
    → has_ended w.requests m ≡ false → has_ended w.requests n ≡ false
    → (g.linux ≡ true → GoesOn (requests_of w) m) → (g.linux ≡ true → GoesOn (requests_of w) n)
    → (posts g.linux w.requests m x.res ≡ false) ⊎ (posts g.linux w.requests n y.res ≡ false)
    → HaveSameRings g (ended g (ended g w m x) n y) (ended g (ended g w n y) m x)
two_rings g w m n x y differ first_still second_still first_on second_on quiet =
    let r : Requests = w.requests in
    let later = posts_end r m x.res x.bytes n g.linux (λ is. (second_on is).first) first_still y.res in
    let earlier = posts_end r n y.res y.bytes m g.linux (λ is. (first_on is).first) second_still x.res in
    let drains = drains_either g.linux (requests_of w) m n x.res y.res x.bytes y.bytes differ (λ k. (first_on k).apart) (λ k. (second_on k).apart) in
    grind (arith, two_pushed, later, earlier, drains)

-- Files.

-- what an end makes of them: the doomed change none
abbrev changed : (runs : Bool) → List FileContents → Op → ℤ → List FileContents
changed true files op res = after files op res
changed false files op res = files

leaves : (g : Setup) (h : History) (runs : Bool) (n : ℕ) (x : Outcome) → IsLawful g (end_by runs n x ∷ h)
    → files_of g (world g (end_by runs n x ∷ h))
    ≡ changed runs (files_of g (world g h)) (operation_of (entry_of (world g h).requests n)) x.res
leaves g h runs n x lawful = grind (arith, files_ended, files_kept, lawful_apart)

-- whoever runs gives the same in the other order, which leaves the same
record Pass (files : List FileContents) (b c : Bool) (d : Op) (x : Outcome) (e : Op) (y : Outcome) : Type 0 where
  first : c ≡ true → IsOutcome files e y
  second : b ≡ true → IsOutcome (changed c files e y.res) d x
  leave : changed c (changed b files d x.res) e y.res ≡ changed b (changed c files e y.res) d x.res

pass : (g : Setup) (w v : World) (b c : Bool) (m n : ℕ) (x y : Outcome)
    → (b ≡ true → c ≡ true → DontMeet (files_of g w) (operation_of (entry_of w.requests m)) x (operation_of (entry_of w.requests n)) y)
    → files_of g v ≡ changed b (files_of g w) (operation_of (entry_of w.requests m)) x.res → entry_of v.requests n ≡ entry_of w.requests n
    → MayEnd g w b m x → MayEnd g v c n y
    → Pass (files_of g w) b c (operation_of (entry_of w.requests m)) x (operation_of (entry_of w.requests n)) y
pass g w v b c m n x y apart left same one two = grind arith

-- Who may end beside the end of another.

module _ (g : Setup) (w : World) (m n : ℕ) (x y : Outcome) (differ : n ≢ m) where
  may_after : (runs : Bool) → (runs ≡ true → IsOutcome (files_of g (ended g w m x)) (operation_of (entry_of w.requests n)) y) → MayEnd g w runs n y → MayEnd g (ended g w m x) runs n y
  may_after runs given may = grind (arith, is_running_ended_other, outstanding_end, ends_doomed_stays)

  may_before : (runs : Bool) → (runs ≡ true → IsOutcome (files_of g w) (operation_of (entry_of w.requests n)) y) → (runs ≡ false → ends_doomed g.linux w.requests n ≡ true) → MayEnd g (ended g w m x) runs n y → MayEnd g w runs n y
  may_before runs given doomed may = grind (arith, is_running_ended_other, outstanding_end)

goes_on : (g : Setup) (h : History) (runs : Bool) (n : ℕ) (x : Outcome) → IsLawful g h
    → MayEnd g (world g h) runs n x → g.linux ≡ true → GoesOn (requests_of (world g h)) n
goes_on g h runs n x lawful may is = grind (arith, running_goes_on, doomed_goes_on, (lawful_apart g h lawful))

-- Both orders.

one_left : (g : Setup) (h : History) (b : Bool) (m : ℕ) (x : Outcome) → IsLawful g h → MayEnd g (world g h) b m x
    → files_of g (ended g (world g h) m x) ≡ changed b (files_of g (world g h)) (operation_of (entry_of (world g h).requests m)) x.res
one_left g h b m x lawful may =
    let end = is_end g (world g h) b m x may in
    ap (files_of g) (sym end.makes) ∙ leaves g h b m x (end.called, lawful)

record BothEnds (g : Setup) (h : History) (b c : Bool) (m n : ℕ) (x y : Outcome) : Type 0 where
  lawful : IsLawful g (end_by c n y ∷ end_by b m x ∷ h)
  makes : world g (end_by c n y ∷ end_by b m x ∷ h) ≡ ended g (ended g (world g h) m x) n y
  files : files_of g (ended g (ended g (world g h) m x) n y)
      ≡ changed c (changed b (files_of g (world g h)) (operation_of (entry_of (world g h).requests m)) x.res) (operation_of (entry_of (world g h).requests n)) y.res

both_ends : (g : Setup) (h : History) (b c : Bool) (m n : ℕ) (x y : Outcome) → IsLawful g h → MayEnd g (world g h) b m x
    → MayEnd g (ended g (world g h) m x) c n y → BothEnds g h b c m n x y
both_ends g h b c m n x y lawful may after =
    let w : World = world g h in
    let first : IsEnd g w m x (end_step b m) = is_end g w b m x may in
    let second : IsEnd g (ended g w m x) n y (end_step c n) = is_end g (ended g w m x) c n y after in
    let both : IsLawful g (end_by c n y ∷ end_by b m x ∷ h) = (subst (λ z. CalledFor g z (end_step c n) (answer.Ended y.res y.bytes)) (sym first.makes) second.called, (first.called, lawful)) in
    let makes : world g (end_by c n y ∷ end_by b m x ∷ h) ≡ ended g (ended g w m x) n y = ap (λ z. happens g z (end_step c n) (answer.Ended y.res y.bytes)) first.makes ∙ second.makes in
    record {
      lawful = both;
      makes = makes;
      files = ap (files_of g) (sym makes) ∙ leaves g (end_by b m x ∷ h) c n y both
          ∙ ap (λ (z : World). changed c (files_of g z) (operation_of (entry_of z.requests n)) y.res) first.makes
          ∙ ap (λ fs. changed c fs (operation_of (entry_of w.requests n)) y.res) (one_left g h b m x lawful may);
    }

ends_change : (g : Setup) (h : History) (b c : Bool) (m n : ℕ) (x y : Outcome)
    → (b ≡ false → ends_doomed g.linux (world g h).requests m ≡ true)
    → (c ≡ false → ends_doomed g.linux (world g h).requests n ≡ true)
    → (posts g.linux (world g h).requests m x.res ≡ false) ⊎ (posts g.linux (world g h).requests n y.res ≡ false)
    → (b ≡ true → c ≡ true → DontMeet (files_of g (world g h)) (operation_of (entry_of (world g h).requests m)) x (operation_of (entry_of (world g h).requests n)) y)
    → IsLawful g (end_by c n y ∷ end_by b m x ∷ h) → ChangePlaces g h (end_by b m x) (end_by c n y)
ends_change g h b c m n x y doomed also quiet apart lawful =
    let w : World = world g h in
    let v : World = ended g w m x in
    let may_m : MayEnd g w b m x = may_end g w b m x doomed lawful.1.0 in
    let first : IsEnd g w m x (end_step b m) = is_end g w b m x may_m in
    let then_n : MayEnd g v c n y = may_end g v c n y (λ idle. ends_doomed_stays w.requests m x.res x.bytes n g.linux (also idle)) (subst (λ z. CalledFor g z (end_step c n) (answer.Ended y.res y.bytes)) first.makes lawful.0) in
    let still = (is_end g v c n y then_n).still in
    let differ : n ≢ m = grind (arith, still, (has_ended_same w.requests m x.res x.bytes)) in
    let passes = pass g w v b c m n x y apart (one_left g h b m x lawful.1.1 may_m) refl may_m then_n in
    let may_n : MayEnd g w c n y = may_before g w m n x y differ c passes.first also then_n in
    let left_n = one_left g h c n y lawful.1.1 may_n in
    let then_m : MayEnd g (ended g w n y) b m x = may_after g w n m y x (λ same. differ (sym same)) b (λ runs. subst (λ fs. IsOutcome fs (operation_of (entry_of w.requests m)) x) (sym left_n) (passes.second runs)) may_m in
    let one = both_ends g h b c m n x y lawful.1.1 may_m then_n in
    let two = both_ends g h c b n m y x lawful.1.1 may_n then_m in
    let rings = two_rings g w m n x y differ first.still (is_end g w c n y may_n).still (goes_on g h b m x lawful.1.1 may_m) (goes_on g h c n y lawful.1.1 may_n) quiet in
    record {
      lawful = two.lawful;
      alike = subst (AreAlike g (world g (end_by c n y ∷ end_by b m x ∷ h))) (sym two.makes) (subst (λ z. AreAlike g z (ended g (ended g w n y) m x)) (sym one.makes) (with_files g _ _ rings (one.files ∙ passes.leave ∙ sym two.files)));
    }

pub finishes_change : (g : Setup) → FinishesChange g
finishes_change g h m n x y quiet apart lawful =
    ends_change g h true true m n x y (λ no. absurd cc) (λ no. absurd cc) quiet (λ _ _. apart) lawful

by_views : (g : Setup) (h : History) (m n : ℕ) (d e : Event) → EndView g.linux (world g h).requests m d
    → EndView g.linux (world g h).requests n e → IsIssue d ⊎ IsIssue e
    → PostsNothing g.linux (world g h).requests d ⊎ PostsNothing g.linux (world g h).requests e
    → IsLawful g (e ∷ d ∷ h) → ChangePlaces g h d e
by_views g h m n d e (ends_by b x doomed) (ends_by c y also) is quiet lawful =
    ends_change g h b c m n x y doomed also (grind arith) (λ one two. absurd (grind arith)) lawful

pub doomed_ends_change : (g : Setup) → DoomedEndsChange g
doomed_ends_change g h m n d e one two is quiet lawful =
    by_views g h m n d e (view g.linux (world g h).requests m d one) (view g.linux (world g h).requests n e two) is quiet lawful
