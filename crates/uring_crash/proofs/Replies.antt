-- What is answered to a question, and the lines of images.
use Rattle.std.proofs.Common.{◌≡◌, ◌<◌, ◌+◌, ℕ, ℤ, true, false, List, [], ◌∷◌, ◌++◌, length, map, take, get_or, Option, refl, sym, ap, subst, ◌∙◌, append_assoc}
use Rattle.uring_crash.proofs.Common.{Appends, Asks, History, Replies, Setup, Watch, Watches, append-nil, events_of, history_of, image_lines, image_text, log_of, map-append, take_more}
use Rattle.std.proofs.KnownBytes.{Appends-nil}
use Rattle.std.proofs.lemmas.Bool.{both_ways}
use Rattle.uring_core.specs.CalledFor.{IsLawful}
use Rattle.uring_crash.specs.Runs.{ReadsAll}
use Rattle.uring_crash.specs.declared.crash_run.Asked.{Asked}
use Rattle.uring_crash.specs.declared.follower.Follower.{Follower}
use Rattle.uring_crash.specs.declared.questions.Question.{Question}
use Rattle.uring_crash.specs.declared.questions.Reply.{Reply}
use Rattle.uring_crash.specs.declared.questions.Reply.TheVariants.{BadLine}

-- the question is answered
pub is_answered : (question : Question) (asked : Asked) (setup : Setup) (reply : Reply) (s : Follower) (w : Watch) (text : List ℕ) (a a' b b' : Option (List ℕ))
    → ReadsAll asked.unit setup asked.fd asked.lines s a a' → s.has_bad ≡ false → w ≡ s.watch
    → Appends b b' text
    → ((unit : ℕ) (g : Setup) (fd : ℤ) (h : History) → Watches unit g fd w h → Replies question unit (log_of unit g fd h).volume.history reply text)
    → Asks question asked setup reply a a' b b'
is_answered question asked setup reply s w text a a' b b' r none same writes replies = record {
  bytes = r.bytes;
  consumed = r.consumed;
  at_end = r.at_end;
  exchanges = r.followed.exchanges;
  each = r.followed.each;
  first = r.followed.first;
  lawful = subst (λ (g : Setup). IsLawful g (history_of (events_of r.followed.exchanges))) r.followed.watches.same r.followed.watches.fits.lawful;
  text = text;
  written = writes;
  replied = λ fine. replies asked.unit setup asked.fd (history_of (events_of r.followed.exchanges)) (subst (λ (v : Watch). Watches asked.unit setup asked.fd v (history_of (events_of r.followed.exchanges))) (sym same) r.followed.watches);
  bad = λ was. absurd (both_ways s.has_bad none (r.followed.bad_lines ∙ was));
}

-- a line was bad
pub is_bad_line : (question : Question) (asked : Asked) (setup : Setup) (s : Follower) (a a' b : Option (List ℕ))
    → ReadsAll asked.unit setup asked.fd asked.lines s a a' → s.has_bad ≡ true
    → Asks question asked setup BadLine a a' b b
is_bad_line question asked setup s a a' b r some = record {
  bytes = r.bytes;
  consumed = r.consumed;
  at_end = r.at_end;
  exchanges = r.followed.exchanges;
  each = r.followed.each;
  first = r.followed.first;
  lawful = subst (λ (g : Setup). IsLawful g (history_of (events_of r.followed.exchanges))) r.followed.watches.same r.followed.watches.fits.lawful;
  text = [];
  written = Appends-nil b;
  replied = λ fine. absurd (both_ways s.has_bad (r.followed.bad_lines ∙ fine) some);
  bad = λ was. (refl, refl);
}

-- a line more
pub one_line_more : (images : List (List ℕ)) (image : List ℕ)
    → image_lines (images ++ image ∷ []) ≡ image_lines images ++ image_text image
one_line_more [] image = append-nil (image_text image)
one_line_more (first ∷ more) image =
    ap (λ (l : List ℕ). image_text first ++ l) (one_line_more more image)
    ∙ sym (append_assoc (image_text first) (image_lines more) (image_text image))

-- the lines of one image more of a list
pub lines_more : {X : Type 0} (f : X → List ℕ) (xs : List X) (i : ℕ) (x : X) → i < length xs
    → x ≡ get_or xs i x
    → image_lines (map f (take (i + 1) xs)) ≡ image_lines (map f (take i xs)) ++ image_text (f x)
lines_more f xs i x within at =
    ap (λ ys. image_lines (map f ys)) (take_more xs i x within)
    ∙ ap image_lines (map-append f (take i xs) (get_or xs i x ∷ []))
    ∙ one_line_more (map f (take i xs)) (f (get_or xs i x))
    ∙ ap (λ y. image_lines (map f (take i xs)) ++ image_text (f y)) (sym at)

-- a text of four parts
pub four_parts : (t0 t1 t2 t3 t4 a b c d : List ℕ) → t0 ≡ [] → t1 ≡ t0 ++ a → t2 ≡ t1 ++ b
    → t3 ≡ t2 ++ c → t4 ≡ t3 ++ d → t4 ≡ a ++ b ++ c ++ d
four_parts t0 t1 t2 t3 t4 a b c d e0 e1 e2 e3 e4 =
    e4
    ∙ ap (λ (l : List ℕ). l ++ d) (e3 ∙ ap (λ (l : List ℕ). l ++ c) (e2 ∙ ap (λ (l : List ℕ). l ++ b) (e1 ∙ ap (λ (l : List ℕ). l ++ a) e0)))
