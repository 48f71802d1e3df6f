-- What a checker makes of lines.
use Rattle.std.proofs.Common.{◌≡◌, ℕ, ◌+◌, ◌-◌, ◌^◌, min, Bool, true, false, not, List, ◌∷◌, ◌++◌, length, Some, None, refl, sym, ap, subst, ◌∙◌, append_assoc, arith}
use Rattle.uring_check.proofs.Common.{Checker, FitsBy, Follower, History, IsNoRecord, IsRecord, IsStanding, Judges, Knows, Looked, LooksAt, LooksBy, Rules, Step, Verdict, Wanted, append-nil, codes, completion_wanted, counted_with, first_fault, has_stopped, history_after, judged, line_text, noted_poster, posters, reasons_by, rules_of, string_bytes, wanted_text, why_bad, with_finding, world}
use Rattle.std.specs.declared.alloc.Global.{Global}
use Rattle.std.specs.declared.string.String.{String}
use Rattle.std.specs.declared.vec.Vec.{Vec}
use Rattle.std.proofs.Math.Bool.{or-false}
use Rattle.uring_text.specs.Lines.{ended}
use Rattle.uring_text.specs.Remarks.{is_remark}
use Rattle.uring_check.specs.Findings as finding
use Rattle.uring_text.specs.Visible.{visible_line}
use Rattle.uring_check.specs.declared.answer_text.AnswerText.{AnswerText}
use Rattle.uring_check.specs.declared.standing.StepStanding.{StepStanding}
use Rattle.uring_check.specs.declared.verdict.Verdict.TheVariants as verdict
use Rattle.uring_check.proofs.Posting.{knows_resumed, knows_step}

-- ---- one line

pub looked_passed : (c : Checker) (line : List ℕ) (h : History) → IsNoRecord line
    → is_remark line ≡ true → c.is_over ≡ false → Knows c h → Looked c c line h
looked_passed c line h none remark over fits = grind (arith, append-nil)

-- a bad line was found, and told
pub looked_bad : (old mid : Checker) (report : String Global) (line : List ℕ) (h : History)
    → mid ≡ record old { verdict = first_fault old.verdict verdict.Bad } → IsNoRecord line
    → is_remark line ≡ false → Knows old h
    → string_bytes report ≡ string_bytes mid.report ++ line_text mid.number ++ ended (codes "bad line") ++ why_bad line
    → Looked old (record mid { is_over = true; report = report }) line h
looked_bad old mid report line h is none remark fits = grind (arith, append_assoc, (rules_of old.follower))

-- what is known of the completions that were posted, before a step and after it
pub record Notes (old : Checker) (m : Follower) (p : Vec ℕ Global) (s : Step) (before after : ℕ) : Type 0 where
  pub before_is : (h : History) → Knows old h
      → before ≡ length (world (rules_of old.follower).setup h).completions.posted
  pub after_is : (h : History) → FitsBy m h
      → after ≡ length (world (rules_of m).setup h).completions.posted
  pub more : p.items ≡ old.posters.items ++ noted_poster s before after

-- a line was right
pub looked_right : (old : Checker) (m : Follower) (t : AnswerText) (p : Vec ℕ Global) (steps before after : ℕ) (s : Step) (text line : List ℕ)
    → Notes old m p s before after → steps ≡ min (old.steps + 1) (2 ^ 64 - 1) → rules_of m ≡ rules_of old.follower
    → old.is_over ≡ false → Judges old.follower m s text None → IsRecord line s text
    → LooksAt old (record old { follower = m; steps = steps; told = t; posters = p }) line
looked_right old m t p steps before after s text line notes counted same over judges is = λ h f.
    let j = judges h f.0 in
    record {
      finding = finding.Right s j.0;
      is_so = (subst (λ (x : List ℕ). IsRecord line s x) (sym j.1) is, j.2, (grind (arith, same, (j.4)), j.3));
      same = same;
      fits = (j.4, knows_step (rules_of m).setup s j.0 h old.posters.items p.items before after (grind (arith, (j.4))) (rw same f.1) (rw same (notes.before_is h f)) (notes.after_is ((s, j.0) ∷ h) j.4) notes.more);
      is_all = refl;
      awaits = refl;
      numbered = refl;
      counted = counted;
      decided = refl;
      stopped = over;
      told = sym (append-nil (string_bytes old.report));
    }

-- a wrong line was found, and told
pub looked_wrong : (old new : Checker) (m : Follower) (t : AnswerText) (p : Vec ℕ Global) (before after : ℕ) (s : Step) (text line : List ℕ) (wanted : Wanted) (x : StepStanding)
    → Notes old m p s before after → rules_of m ≡ rules_of old.follower
    → ((h : History) → Knows old h → IsStanding (rules_of old.follower) h s x)
    → Judges old.follower m s text (Some wanted)
    → new ≡ record old { follower = m; told = t; posters = p; verdict = first_fault old.verdict verdict.Wrong; is_over = not old.is_all; report = new.report }
    → string_bytes new.report
    ≡ string_bytes old.report ++ line_text old.number ++ ended (visible_line line) ++ codes "wanted: " ++ ended (wanted_text x.asked wanted) ++ reasons_by x (completion_wanted wanted)
    → IsRecord line s text → LooksAt old new line
looked_wrong old new m t p before after s text line wanted x notes same asked judges is told rec = λ h f.
    let j = judges h f.0 in
    let later : History = with_finding (finding.Wrong s wanted) h in
    let noted : p.items ≡ posters (rules_of m).setup later = knows_resumed (rules_of m).setup s wanted h old.posters.items p.items before after (grind (arith, (j.1))) (rw same f.1) (rw same (notes.before_is h f)) (notes.after_is later j.1) notes.more in
    record {
      finding = finding.Wrong s wanted;
      is_so = (text, rec, j.0);
      same = ap (λ (c : Checker). rules_of c.follower) is ∙ same;
      fits = subst (λ (c : Checker). Knows c later) (sym is) (j.1, noted);
      is_all = ap (λ (c : Checker). c.is_all) is;
      awaits = ap (λ (c : Checker). c.awaits) is;
      numbered = ap (λ (c : Checker). c.number) is;
      counted = ap (λ (c : Checker). c.steps) is;
      decided = ap (λ (c : Checker). c.verdict) is;
      stopped = ap (λ (c : Checker). c.is_over) is;
      told = grind (arith, append_assoc, told, (asked h f));
    }

-- ---- all lines

-- a line that was looked at
pub took_looked : (g : Rules) (all : Bool) (lines : List (List ℕ)) (old mid : Checker) (n : ℕ) (line : List ℕ)
    → n ≡ min (mid.number + 1) (2 ^ 64 - 1) → old.is_over ≡ false → LooksAt old mid line
    → LooksBy g all lines old → LooksBy g all (line ∷ lines) (record mid { number = n })
took_looked g all lines old mid n line next over looks k =
    let l = looks (history_after k.found) k.fits in
    let none : has_stopped all k.found ≡ false = sym k.stopped ∙ over in
    record {
      found = record { line = line; finding = l.finding } ∷ k.found;
      are = (rw none (rw k.same at l.is_so), k.are);
      lines_are = ap (λ (ls : List (List ℕ)). line ∷ ls) k.lines_are;
      is_all = l.is_all ∙ k.is_all;
      same = l.same ∙ k.same;
      fits = l.fits;
      numbered = grind (arith, k, l);
      counted = l.counted ∙ ap (λ (x : ℕ). counted_with l.finding x) k.counted;
      decided = l.decided ∙ ap (λ (v : Verdict). judged v l.finding) k.decided;
      stopped = l.stopped ∙ rw (k.is_all, none, or-false);
      told = l.told ∙ rw (k.told, k.same, k.numbered);
    }

pub took_awaits : (g : Rules) (all : Bool) (lines : List (List ℕ)) (old mid : Checker) (line : List ℕ)
    → LooksAt old mid line → LooksBy g all lines old → mid.awaits ≡ old.awaits
took_awaits g all lines old mid line looks k = (looks (history_after k.found) k.fits).awaits

-- a line after one at which the check stopped
pub took_skipped : (g : Rules) (all : Bool) (lines : List (List ℕ)) (old : Checker) (n : ℕ) (line : List ℕ)
    → n ≡ min (old.number + 1) (2 ^ 64 - 1) → old.is_over ≡ true → LooksBy g all lines old
    → LooksBy g all (line ∷ lines) (record old { number = n })
took_skipped g all lines old n line next over k =
    record {
      found = record { line = line; finding = finding.Skipped } ∷ k.found;
      are = grind (arith, k);
      lines_are = grind (arith, k);
      is_all = k.is_all;
      same = k.same;
      fits = k.fits;
      numbered = grind (arith, k);
      counted = k.counted;
      decided = k.decided;
      stopped = k.stopped;
      told = grind (arith, append-nil, k);
    }
