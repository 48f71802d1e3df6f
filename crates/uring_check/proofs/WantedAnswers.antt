-- What a text says of the answers that are called for.
use Rattle.std.proofs.Common.{◌≡◌, drop, ◌∷◌, ℕ, ℤ, neg_ℤ, Bool, true, false, List, [], Option, Some, None, refl, sym, ap, ◌∙◌, inl, inr, arith}
use Rattle.uring_check.proofs.Common.{AllowedBy, Answer, AnyEnd, CallOrAgain, CalledBy, CalledIn, ENOMEM, EndOrNoMemory, Ends, FitsBy, Follower, HasOneAnswer, History, IsEither, IsEnded, IsJudged, IsOneJudged, IsPlain, IsWanted, IsWrong, IsWrongText, Judges, MayGive, Only, Requests, Rules, Setup, Step, Wanted, World, entry_asked, entry_in, is_apart, no_bytes, rules_of, text_of, world, Meets}
use Rattle.uring_core.specs.Core.{IsNoFinish}
use Rattle.uring_core.specs.Recorded.{IsRefused, resumed}
use Rattle.uring_core.specs.declared.wanted.Refusal.{Refusal}
use Rattle.uring_core.specs.declared.wanted.Refusal.TheVariants as refusals
use Rattle.uring_core.specs.declared.answer.Answer.TheVariants as answer
use Rattle.uring_core.specs.declared.step.Step.TheVariants as step
use Rattle.uring_text.specs.Spelling.{IsFile}
use Rattle.uring_check.specs.declared.ends.Ends.TheVariants as ends
use Rattle.uring_check.specs.declared.follower.Follower.TheVariants.{Allowed}
use Rattle.uring_check.proofs.RuleLaws.{result_once}

-- one answer alone is called for, but to Begin and Finish
pub one_answer : (apart : Bool) (g : Setup) (w : World) (s : Step) (a b : Answer) → HasOneAnswer s
    → CalledIn apart g w s a → CalledIn apart g w s b → a ≡ b
one_answer apart g w (step.Begin count) a b one p q = absurd one
one_answer apart g w (step.Finish n) a b one p q = absurd one
one_answer true g w _ a b one p q = p ∙ sym q
one_answer false g w _ a b one p q = p ∙ sym q

-- such a step is no Finish
pub no_finish : (s : Step) → HasOneAnswer s → IsNoFinish s
no_finish s one = grind arith

-- nothing is asked of its result
allowed_one : (a : Answer) (e : Ends) (r : Requests) (s : Step) → HasOneAnswer s
    → MayGive a (entry_in e r s)
allowed_one (answer.Ended res bytes) ends.Allowed r (step.Finish n) one = absurd one
allowed_one _ _ r _ one = tt

-- just these answers are called for, and the text is that of none
wrong_text : (g : Rules) (h : History) (s : Step) (text : List ℕ) (wanted : Wanted)
    → ((a : Answer) → CalledBy g h s a → Meets wanted a) → ((a : Answer) → Meets wanted a → CalledBy g h s a)
    → ((a : Answer) → Meets wanted a → AllowedBy g h s a → text_of a ≡ text → IsPlain a (is_apart g.ends) s → ⊥)
    → IsWrongText g h s text wanted
wrong_text g h s text wanted called only other = record {
  not_called = λ a c. other a (called a c.0) c.1;
  called = λ a c. called a c.0;
  only = λ a meets allowed. (only a meets, allowed);
}

-- a step was made with the one answer that was called for
pub sure_judged : (old new : Follower) (s : Step) (text : List ℕ) (x : Answer) (found : Option Wanted)
    → HasOneAnswer s → rules_of new ≡ rules_of old
    → ((h : History) → FitsBy old h → FitsBy new ((s, x) ∷ h)) → IsOneJudged x text found
    → Judges old new s text found
sure_judged old new s text x None one rules fits same =
    let plain : IsPlain x (is_apart (rules_of old).ends) s = grind (arith, one) in search (rules, plain, rules_of, allowed_one)
sure_judged old new s text x (Some wanted) one rules fits judged = λ h f.
    let g : Rules = rules_of old in
    let called : CalledBy g h s x = grind (arith, rules, (fits h f)) in
    let all = λ (a : Answer) (c : CalledBy g h s a). one_answer (is_apart g.ends) g.setup (world g.setup h) s a x one c called in
    rw judged.0 (wrong_text g h s text (Only x) all (λ a is. rw is called) (λ a is _ same _. judged.1 (ap text_of (sym is) ∙ same)), fits h f)

-- without files no one end is called for alone, so an answer that alone is called for is told by its text, and whatever its result, it is allowed
only_one : (x : Answer) (e : Ends) (g : Setup) (h : History) (s : Step)
    → IsWrong (CalledIn (is_apart e) g (world g h) s) answer.Filled (Only x)
    → IsPlain x (is_apart e) s × MayGive x (entry_in e (world g h).requests s)
only_one (answer.Ended res bytes) ends.Given g h _ w = (tt, tt)
only_one (answer.Ended res bytes) _ g h (step.Finish n) w =
    absurd (grind (arith, (w.called (answer.Ended res [])), (w.called (answer.Ended res (0 ∷ []))), (w.only (answer.Ended res bytes) refl)))
only_one _ _ g h _ w = (tt, tt)

-- the one answer that is wanted was compared
pub only_judged : (h : History) (m : Follower) (s : Step) (text : List ℕ) (x : Answer) (found : Option Wanted)
    → IsOneJudged x text found → IsWanted h m s (Only x) → IsJudged (rules_of m) h m s text found
only_judged h m s text x None same is =
    let one = only_one x (rules_of m).ends (rules_of m).setup h s is.0 in (x, same, one.0, one.1, is.1)
only_judged h m s text x (Some wanted) judged is =
    rw judged.0 (wrong_text (rules_of m) h s text (Only x) is.0.called is.0.only (λ a is _ same _. judged.1 (ap text_of (sym is) ∙ same)), is.1)

-- ---- any end

-- an end whose result isn't allowed is no other's text
not_allowed : (e : Ends) (r : Requests) (s : Step) (res : ℤ) (text : List ℕ) (a : Answer) → IsFile res
    → text_of (answer.Ended res no_bytes) ≡ text
    → (MayGive (answer.Ended res no_bytes) (entry_in e r s) → ⊥) → IsEnded a
    → MayGive a (entry_in e r s) → text_of a ≡ text → IsPlain a (is_apart e) s → ⊥
not_allowed ends.Allowed r (step.Finish n) res text (answer.Ended other bytes) file is bad ended may same plain =
    let results : other ≡ res = result_once other res plain.0 file (ap (λ (l : List ℕ). drop 6 l) (same ∙ sym is)) in
    bad (rw (← results, ← plain.1) may)
not_allowed ends.Allowed r (step.Finish n) res text _ file is bad ended may same plain = ended
not_allowed _ r _ res text a file is bad ended may same plain = bad tt

pub end_refused : (h : History) (m : Follower) (s : Step) (text : List ℕ) (res : ℤ) → IsFile res
    → text_of (answer.Ended res no_bytes) ≡ text
    → (MayGive (answer.Ended res no_bytes) (entry_asked (rules_of m) h s) → ⊥)
    → IsWanted h m s AnyEnd → IsJudged (rules_of m) h m s text (Some AnyEnd)
end_refused h m s text res file same bad is =
    let none = not_allowed (rules_of m).ends (world (rules_of m).setup h).requests s res text in
    (wrong_text (rules_of m) h s text AnyEnd is.0.called is.0.only (λ a. none a file same bad), is.1)

-- ---- either of two answers

pub either_call : (length : ℕ) → IsEither (CallOrAgain length) (answer.Call length) answer.Again
either_call length = search (inl, inr)

pub either_end : (res : ℤ)
    → IsEither (EndOrNoMemory res) (answer.Ended res no_bytes) (answer.Ended (neg_ℤ ENOMEM) no_bytes)
either_end res = search (inl, inr)

-- the follower fits the history as it did
pub either_fits : (h : History) (m : Follower) (s : Step) (wanted : Wanted) (one other : Answer)
    → IsEither wanted one other → IsWanted h m s wanted → FitsBy m h
either_fits h m s wanted one other either is = rw (either.nothing s h) at is.1

-- the text is that of neither
pub either_wrong : (h : History) (m : Follower) (s : Step) (text : List ℕ) (wanted : Wanted) (one other : Answer)
    → IsEither wanted one other → (text_of one ≡ text → ⊥) → (text_of other ≡ text → ⊥)
    → IsWanted h m s wanted → IsJudged (rules_of m) h m s text (Some wanted)
either_wrong h m s text wanted one other either apart other_apart is =
    (wrong_text (rules_of m) h s text wanted is.0.called is.0.only (λ a meets allowed same plain. grind (arith, (either.meets a meets))), is.1)

-- ---- what a refusal told

pub refused_wanted : (old mid : Follower) (s : Step) (h : History) (wanted : Wanted) (refusal : Refusal)
    → refusal ≡ refusals.Wrong wanted → rules_of mid ≡ rules_of old
    → IsRefused (CalledBy (rules_of old) h s) answer.Filled refusal → FitsBy mid (resumed s refusal h)
    → IsWanted h mid s wanted
refused_wanted old mid s h wanted refusal e same refused fits = (rw same (rw e at refused), rw e at fits)
