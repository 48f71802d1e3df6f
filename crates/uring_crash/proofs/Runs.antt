-- What was read to the end, and what is left after it.
use Rattle.std.proofs.Common.{◌≡◌, ℕ, ℤ, Bool, true, false, List, [], ◌++◌, Option, sym, ap, subst, ◌∙◌}
use Rattle.uring_crash.proofs.Common.{Appends, Consumes, Follows, HasFollowed, History, IsAtEnd, IsImage, Keeps, Leaves, Setup, Watch, Watches, append-nil, events_of, history_of, image_text, log_of}
use Rattle.std.proofs.KnownBytes.{Consumes-nil, Appends-nil, Consumes-trans, Consumes-kept}
use Rattle.uring_core.specs.CalledFor.{IsLawful}
use Rattle.uring_crash.specs.Runs.{ReadsAll}
use Rattle.uring_crash.specs.declared.crash_run.Asked.{Asked}
use Rattle.uring_crash.specs.declared.follower.Follower.{Follower}

abbrev pub Known : Type 0
Known = Option (List ℕ)

-- what was read so far: the reader had a left and has r
abbrev pub Far : ℕ → Setup → ℤ → ℕ → Known → Known → Follower → Type 0
Far unit setup fd most a r s = (bytes : List ℕ) × Consumes a r bytes × Follows unit setup fd most s bytes

pub far_start : (unit : ℕ) (setup : Setup) (fd : ℤ) (most : ℕ) (a : Known) (s : Follower)
    → Follows unit setup fd most s [] → Far unit setup fd most a a s
far_start unit setup fd most a s f = ([], Consumes-nil a, f)

pub far_again : (unit : ℕ) (setup : Setup) (fd : ℤ) (most : ℕ) (a r r' : Known) (s : Follower) → Keeps r r'
    → Far unit setup fd most a r s → Far unit setup fd most a r' s
far_again unit setup fd most a r r' s h so = (so.0, Consumes-kept a r r' so.0 so.1 h, so.2)

pub far_on : (unit : ℕ) (setup : Setup) (fd : ℤ) (most : ℕ) (a r r' : Known) (s s' : Follower) (more : List ℕ)
    → Consumes r r' more
    → ((u : ℕ) (g : Setup) (d : ℤ) (m : ℕ) (before : List ℕ) → Follows u g d m s before → Follows u g d m s' (before ++ more))
    → Far unit setup fd most a r s → Far unit setup fd most a r' s'
far_on unit setup fd most a r r' s s' more read feeds so =
    (so.0 ++ more, Consumes-trans a r r' so.0 more so.1 read, feeds unit setup fd most so.0 so.2)

pub far_end : (unit : ℕ) (setup : Setup) (fd : ℤ) (most : ℕ) (a r r' : Known) (s s' : Follower)
    → Consumes r r' [] → IsAtEnd r'
    → ((u : ℕ) (g : Setup) (d : ℤ) (m : ℕ) (bytes : List ℕ) → Follows u g d m s bytes → HasFollowed u g d m s' bytes)
    → Far unit setup fd most a r s → ReadsAll unit setup fd most s' a r'
far_end unit setup fd most a r r' s s' read end ends so = record {
  bytes = so.0 ++ [];
  consumed = Consumes-trans a r r' so.0 [] so.1 read;
  at_end = end;
  followed = subst (λ (l : List ℕ). HasFollowed unit setup fd most s' l) (sym (append-nil so.0)) (ends unit setup fd most so.0 so.2);
}

-- the text of an image, and the words
pub image_told : (image seen words none first text : List ℕ) → seen ≡ image → none ≡ []
    → first ≡ none ++ image_text seen → text ≡ first ++ words → text ≡ image_text image ++ words
image_told image seen words none first text same start line whole =
    whole ∙ ap (λ (l : List ℕ). l ++ words) (line ∙ ap (λ (l : List ℕ). none ++ image_text l) same ∙ ap (λ (l : List ℕ). l ++ image_text image) start)

-- an image is left
pub image_left : (asked : Asked) (setup : Setup) (bad : Bool) (s : Follower) (w : Watch) (image words : List ℕ) (a a' b b' : Known)
    → ReadsAll asked.unit setup asked.fd asked.lines s a a' → bad ≡ s.has_bad → bad ≡ false → w ≡ s.watch
    → Appends b b' (image_text image ++ words)
    → ((unit : ℕ) (g : Setup) (fd : ℤ) (h : History) → Watches unit g fd w h → IsImage unit [] (log_of unit g fd h).volume.history image)
    → Leaves asked setup bad a a' b b'
image_left asked setup bad s w image words a a' b b' r is none same writes possible = record {
  bytes = r.bytes;
  consumed = r.consumed;
  at_end = r.at_end;
  exchanges = r.followed.exchanges;
  each = r.followed.each;
  first = r.followed.first;
  lawful = subst (λ (g : Setup). IsLawful g (history_of (events_of r.followed.exchanges))) r.followed.watches.same r.followed.watches.fits.lawful;
  some_bad = is ∙ r.followed.bad_lines;
  image = image;
  words = words;
  possible = λ fine. possible asked.unit setup asked.fd (history_of (events_of r.followed.exchanges)) (subst (λ (v : Watch). Watches asked.unit setup asked.fd v (history_of (events_of r.followed.exchanges))) (sym same) r.followed.watches);
  written = λ fine. writes;
  unwritten = λ was. let is_false : true ≡ false = sym was ∙ none in absurd cc;
}

-- nothing is left, for a line was bad
pub none_left : (asked : Asked) (setup : Setup) (bad : Bool) (s : Follower) (a a' b : Known)
    → ReadsAll asked.unit setup asked.fd asked.lines s a a' → bad ≡ s.has_bad → bad ≡ true
    → Leaves asked setup bad a a' b b
none_left asked setup bad s a a' b r is some = record {
  bytes = r.bytes;
  consumed = r.consumed;
  at_end = r.at_end;
  exchanges = r.followed.exchanges;
  each = r.followed.each;
  first = r.followed.first;
  lawful = subst (λ (g : Setup). IsLawful g (history_of (events_of r.followed.exchanges))) r.followed.watches.same r.followed.watches.fits.lawful;
  some_bad = is ∙ r.followed.bad_lines;
  image = [];
  words = [];
  possible = λ fine. let is_false : true ≡ false = sym some ∙ fine in absurd cc;
  written = λ fine. let is_false : true ≡ false = sym some ∙ fine in absurd cc;
  unwritten = λ was. Appends-nil b;
}
