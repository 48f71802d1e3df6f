-- What a follower keeps, byte by byte and line by line.
use Rattle.std.proofs.Common.{◌≡◌, ◌≢◌, ◌⊎◌, ℕ, ℤ, ◌+◌, ◌<◌, Bool, true, false, ◌||◌, List, [], ◌∷◌, ◌++◌, Some, refl, ap, subst, ◌∙◌, append_assoc, arith}
use Rattle.uring_crash.proofs.Common.{Exchange, Followed, Following, History, ReadsLine, Setup, TookLines, Watch, Watches, append-nil, events_of, history_of, is_bad, lines_of}
use Rattle.uring_core.specs.declared.answer.Answer.{Answer}
use Rattle.uring_core.specs.declared.step.Step.{Step}
use Rattle.uring_text.specs.KeptLine.{KeptLine, kept_of}
use Rattle.uring_text.specs.Remarks.{is_remark}
use Rattle.uring_text.proofs.Splits.{split_more, split_end}
use Rattle.uring_trace.specs.Spelling.{IsStep, IsBad}
use Rattle.uring_trace.proofs.Sessions.{one_more}
use Rattle.uring_crash.specs.FirstLines.{AreFirstLines}

-- before the first byte
none_taken : (most : ℕ) → TookLines most most [] [] []
none_taken most = grind arith

-- while lines may come, nothing is passed over
nothing_passed : (left : ℕ) (bytes taken passed : List ℕ) → 0 < left → bytes ≡ taken ++ passed
    → (passed ≡ []) ⊎ (left ≡ 0) → bytes ≡ taken
nothing_passed left bytes taken passed more all h = grind (arith, append-nil)

-- a byte more after the last line
byte_passed : (most left : ℕ) (bytes : List ℕ) (lines : List (List ℕ)) (rest : List ℕ) (b : ℕ) → left ≡ 0
    → TookLines most left bytes lines rest → TookLines most left (bytes ++ b ∷ []) lines rest
byte_passed most left bytes lines rest b none t = grind (arith, append_assoc)

-- a byte more of a line
byte_taken : (most left : ℕ) (bytes : List ℕ) (lines : List (List ℕ)) (rest : List ℕ) (b : ℕ) → b ≢ 10 → 0 < left
    → TookLines most left bytes lines rest
    → TookLines most left (bytes ++ b ∷ []) lines (rest ++ b ∷ [])
byte_taken most left bytes lines rest b ne more t =
    grind (arith, (nothing_passed left bytes t.taken t.passed more t.all t.enough), (append-nil (t.taken ++ b ∷ [])), (split_more t.taken lines rest b ne t.splits))

-- the end of a line
end_taken : (most left left' : ℕ) (bytes : List ℕ) (lines : List (List ℕ)) (rest : List ℕ) → left ≡ left' + 1
    → TookLines most left bytes lines rest
    → TookLines most left' (bytes ++ 10 ∷ []) (rest ∷ lines) []
end_taken most left left' bytes lines rest one t = grind (arith, nothing_passed, append-nil, split_end)

-- and if it has begun, it is one more
first_begun : (most left : ℕ) (bytes : List ℕ) (lines : List (List ℕ)) (rest : List ℕ) → rest ≢ []
    → TookLines most left bytes lines rest → AreFirstLines most bytes (rest ∷ lines)
first_begun most left bytes lines rest some t = grind arith

-- What becomes of a line: a step, a remark, or a bad one.

pub line_made : (old new : Watch) (bad : Bool) (line : List ℕ) (s : Step) (answer : Answer) → IsStep line s
    → ((unit : ℕ) (setup : Setup) (fd : ℤ) (h : History) → Watches unit setup fd old h → Watches unit setup fd new ((s, answer) ∷ h))
    → ReadsLine old new bad bad line
line_made old new bad line s answer is made =
    record { event = Some (s, answer); read = is; now_bad = refl; watches = made }

pub line_remarked : (watch : Watch) (bad : Bool) (line : List ℕ) → IsBad line → is_remark line ≡ true
    → ReadsLine watch watch bad bad line
line_remarked watch bad line none is = grind arith

pub line_bad : (watch : Watch) (was_bad : Bool) (line : List ℕ) → IsBad line → is_remark line ≡ false
    → ReadsLine watch watch was_bad true line
line_bad watch was_bad line none is = grind arith

-- nothing yet
pub follows_none : (unit : ℕ) (setup : Setup) (fd : ℤ) (most : ℕ) (watch : Watch) (kept : KeptLine)
    → kept ≡ kept_of [] → Watches unit setup fd watch []
    → Following unit setup fd most watch kept most false []
follows_none unit setup fd most watch kept keeps watches = record {
  exchanges = [];
  rest = [];
  took = none_taken most;
  keeps = keeps;
  each = tt;
  bad_lines = refl;
  watches = watches;
}

-- a byte that is passed over
pub follows_passed : (unit : ℕ) (setup : Setup) (fd : ℤ) (most : ℕ) (watch : Watch) (kept : KeptLine) (left : ℕ) (bad : Bool) (before : List ℕ) (b : ℕ)
    → left ≡ 0 → Following unit setup fd most watch kept left bad before
    → Following unit setup fd most watch kept left bad (before ++ b ∷ [])
follows_passed unit setup fd most watch kept left bad before b none f = grind (arith, byte_passed)

-- a byte of a line
pub follows_byte : (unit : ℕ) (setup : Setup) (fd : ℤ) (most : ℕ) (watch : Watch) (kept kept' : KeptLine) (left : ℕ) (bad : Bool) (before : List ℕ) (b : ℕ)
    → b ≢ 10 → 0 < left → ((line : List ℕ) → kept ≡ kept_of line → kept' ≡ kept_of (line ++ b ∷ []))
    → Following unit setup fd most watch kept left bad before
    → Following unit setup fd most watch kept' left bad (before ++ b ∷ [])
follows_byte unit setup fd most watch kept kept' left bad before b ne more keeps f = grind (arith, byte_taken)

-- one exchange more
watched_more : (unit : ℕ) (setup : Setup) (fd : ℤ) (old new : Watch) (was_bad bad : Bool) (line : List ℕ) (xs : List Exchange)
    → (r : ReadsLine old new was_bad bad line) → Watches unit setup fd old (history_of (events_of xs))
    → Watches unit setup fd new (history_of (events_of (record { line = line; event = r.event } ∷ xs)))
watched_more unit setup fd old new was_bad bad line xs r w =
    subst (λ (h : History). Watches unit setup fd new h) (one_more r.event (events_of xs)) (r.watches unit setup fd (history_of (events_of xs)) w)

-- the end of a line
pub follows_line : (unit : ℕ) (setup : Setup) (fd : ℤ) (most : ℕ) (watch watch' : Watch) (kept kept' : KeptLine) (left left' : ℕ) (was_bad bad : Bool) (before : List ℕ)
    → left ≡ left' + 1 → kept' ≡ kept_of []
    → ((line : List ℕ) → kept ≡ kept_of line → ReadsLine watch watch' was_bad bad line)
    → Following unit setup fd most watch kept left was_bad before
    → Following unit setup fd most watch' kept' left' bad (before ++ 10 ∷ [])
follows_line unit setup fd most watch watch' kept kept' left left' was_bad bad before one empty reads f =
    let r = reads f.rest f.keeps in
    record {
      exchanges = record { line = f.rest; event = r.event } ∷ f.exchanges;
      rest = [];
      took = end_taken most left left' before (lines_of f.exchanges) f.rest one f.took;
      keeps = empty;
      each = (r.read, f.each);
      bad_lines = r.now_bad ∙ ap (λ (b : Bool). is_bad (record { line = f.rest; event = r.event }) || b) f.bad_lines;
      watches = watched_more unit setup fd watch watch' was_bad bad f.rest f.exchanges r f.watches;
    }

-- the end of the input, after the end of a line
pub followed_none : (unit : ℕ) (setup : Setup) (fd : ℤ) (most : ℕ) (watch : Watch) (kept : KeptLine) (left : ℕ) (bad : Bool) (bytes : List ℕ)
    → ((line : List ℕ) → kept ≡ kept_of line → line ≡ [])
    → Following unit setup fd most watch kept left bad bytes
    → Followed unit setup fd most watch bad bytes
followed_none unit setup fd most watch kept left bad bytes none f = grind arith

-- and in a line
pub followed_last : (unit : ℕ) (setup : Setup) (fd : ℤ) (most : ℕ) (watch watch' : Watch) (kept : KeptLine) (left : ℕ) (was_bad bad : Bool) (bytes : List ℕ)
    → ((line : List ℕ) → kept ≡ kept_of line → line ≢ [])
    → ((line : List ℕ) → kept ≡ kept_of line → ReadsLine watch watch' was_bad bad line)
    → Following unit setup fd most watch kept left was_bad bytes
    → Followed unit setup fd most watch' bad bytes
followed_last unit setup fd most watch watch' kept left was_bad bad bytes some reads f =
    let r = reads f.rest f.keeps in
    record {
      exchanges = record { line = f.rest; event = r.event } ∷ f.exchanges;
      first = first_begun most left bytes (lines_of f.exchanges) f.rest (some f.rest f.keeps) f.took;
      each = (r.read, f.each);
      bad_lines = r.now_bad ∙ ap (λ (b : Bool). is_bad (record { line = f.rest; event = r.event }) || b) f.bad_lines;
      watches = watched_more unit setup fd watch watch' was_bad bad f.rest f.exchanges r f.watches;
    }
