-- The lines of what a power failure may show, and claims of them.
use Rattle.std.proofs.Common.{◌≡◌, ◌↔◌, ℕ, ◌+◌, ◌^◌, ◌<◌, ◌≤◌, Bool, true, false, List, [], ◌∷◌, ◌++◌, length, map, take, get_or, Option, if◌then◌else◌, sym, ap, subst, ◌∙◌, inl, inr, arith, append_assoc, length-take}
use Rattle.uring_litmus.proofs.Common.{Contains, Contains-push_cases, Global, IsSortedOnce, StandsSome, String, Vec, codes, is_so, length-map, lines_text, map-append, string_bytes, take_all, texts_of, told_count}
use Rattle.uring_entry.specs.Setup.{Setup}
use Rattle.uring_entry.specs.Layout.{Sqe}
use Rattle.uring_crash_outcomes.specs.Shown.{Crash}
use Rattle.uring_crash_outcomes.specs.Found.{AreCrashes, AreAllCrashes, IsReason}
use Rattle.uring_crash_outcomes.specs.declared.fault.CrashFault.{CrashFault}
use Rattle.uring_crash_outcomes.specs.declared.fault.CrashFault.TheVariants as fault
use Rattle.uring_outcomes.specs.Faults.{entry_count}
use Rattle.uring_litmus.specs.declared.claims.Claim.{Claim}
use Rattle.std.specs.Io.KnownBytes.{Appends}
use Rattle.uring_litmus.specs.declared.crashes.CrashesListed.TheVariants as listed
use Rattle.uring_litmus.specs.Items.{ReadsEntries}
use Rattle.uring_litmus.specs.Crashes.{AreCrashLines, FailsOfLine, HoldsOfLines, IsSoOfParts, IsSoOfLine, IsNotSoOfLine, ListsCrashes, crash_line, left_text, left_texts}
use Rattle.uring_litmus.specs.Wanted.{IsCut}
use Rattle.uring_litmus.proofs.Places.{from_map, to_map}
use Rattle.uring_litmus.proofs.Texts.{next_taken}

-- What is left of files, one more at a time.

left_append : (fd : ℕ) (xs : List (List ℕ)) (bytes : List ℕ)
    → left_texts fd (xs ++ bytes ∷ []) ≡ left_texts fd xs ++ left_text (fd + length xs) bytes ∷ []
left_append fd [] bytes = grind arith
left_append fd (x ∷ xs) bytes = grind (arith, (left_append (fd + 1) xs bytes))

-- the bytes of lists
abbrev pub bytes_of : List (Vec ℕ Global) → List (List ℕ)
bytes_of lists = map (λ list. list.items) lists

pub left_more : (lists : List (Vec ℕ Global)) (fd : ℕ) (list : Vec ℕ Global) (before so after : List (List ℕ))
    → fd < length lists → list ≡ get_or lists fd list → so ≡ before ++ left_texts 0 (bytes_of (take fd lists))
    → after ≡ so ++ left_text fd list.items ∷ [] → after ≡ before ++ left_texts 0 (bytes_of (take (fd + 1) lists))
left_more lists fd list before so after low is a b =
    let count : 0 + length (bytes_of (take fd lists)) ≡ fd = omega (arith, length-map (take fd lists) (λ (l : Vec ℕ Global). l.items), length-take fd lists) in
    let next : bytes_of (take (fd + 1) lists) ≡ bytes_of (take fd lists) ++ list.items ∷ [] = ap bytes_of (next_taken lists fd list low is) ∙ map-append (λ (l : Vec ℕ Global). l.items) (take fd lists) (list ∷ []) in
    b ∙ ap (λ l. l ++ left_text fd list.items ∷ []) a ∙ append_assoc before (left_texts 0 (bytes_of (take fd lists))) (left_text fd list.items ∷ [])
    ∙ ap (λ l. before ++ l) (ap (λ n. left_texts 0 (bytes_of (take fd lists)) ++ left_text n list.items ∷ []) (sym count) ∙ sym (left_append 0 (bytes_of (take fd lists)) list.items) ∙ ap (left_texts 0) (sym next))

-- The lines of what was found.

pub are_lines : (unit : ℕ) (g : Setup) (calls : List (List Sqe)) (is_all : Bool) (crashes : List Crash) (lines : List (List ℕ))
    → AreCrashes unit g calls crashes → (is_all ≡ true → AreAllCrashes unit g calls crashes)
    → IsSortedOnce (map crash_line crashes) lines → AreCrashLines unit g calls is_all lines
are_lines unit g calls is_all crashes lines right all once = record {
  right = λ line has. let c = from_map crash_line crashes line (once.right line has) in (c.0, right c.0 c.1, sym c.2);
  all = λ done c can. once.kept (crash_line c) (to_map crash_line crashes c ((all done c).1 can));
  once = once.sorted;
}

-- A claim of a line.

so_parts : (claim : Claim) (wanted : List (List (List ℕ))) (parts : List (List ℕ)) (b r : Bool)
    → (b ≡ true) ↔ StandsSome wanted parts → r ≡ is_so claim b → (r ≡ true) ↔ IsSoOfParts claim wanted parts
so_parts claim wanted parts b r both is = grind arith

pub so_line : (claim : Claim) (wanted : List (List (List ℕ))) (line : List ℕ) (parts : List (List ℕ)) (b r : Bool)
    → IsCut line parts → (b ≡ true) ↔ StandsSome wanted parts → r ≡ is_so claim b
    → (r ≡ true → IsSoOfLine claim wanted line) × (r ≡ false → IsNotSoOfLine claim wanted line)
so_line claim wanted line parts b r cut both is =
    let so = so_parts claim wanted parts b r both is in (
      λ yes. record { parts = parts; cut = cut; so = so.0 yes },
      λ no. record { parts = parts; cut = cut; against = λ there. let apart : false ≡ true = sym no ∙ so.1 there in cc },
    )

-- one line more of which it is so
pub so_more : (claim : Claim) (wanted : List (List (List ℕ))) (texts : List (String Global)) (i : ℕ) (text : String Global)
    → i < length texts → text ≡ get_or texts i text
    → ((line : List ℕ) → Contains (texts_of (take i texts)) line → IsSoOfLine claim wanted line)
    → IsSoOfLine claim wanted (string_bytes text)
    → (line : List ℕ) → Contains (texts_of (take (i + 1) texts)) line → IsSoOfLine claim wanted line
so_more claim wanted texts i text low is before one line has =
    let cut : texts_of (take (i + 1) texts) ≡ texts_of (take i texts) ++ string_bytes text ∷ [] = ap texts_of (next_taken texts i text low is) ∙ map-append string_bytes (take i texts) (text ∷ []) in
    elim (Contains-push_cases (texts_of (take i texts)) (string_bytes text) line (subst (λ l. Contains l line) cut has)) [
      | inl old ↦ before line old
      | inr same ↦ subst (IsSoOfLine claim wanted) same one
    ]

pub so_of_all_lines : (claim : Claim) (wanted : List (List (List ℕ))) (texts : List (String Global)) (i : ℕ) → length texts ≤ i
    → ((line : List ℕ) → Contains (texts_of (take i texts)) line → IsSoOfLine claim wanted line)
    → (line : List ℕ) → Contains (texts_of texts) line → IsSoOfLine claim wanted line
so_of_all_lines claim wanted texts i past so line has =
    so line (subst (λ l. Contains (texts_of l) line) (sym (take_all i texts past)) has)

-- Verdicts.

pub holds_lines : (unit : ℕ) (g : Setup) (calls : List (List Sqe)) (claim : Claim) (wanted : List (List (List ℕ))) (is_all : Bool) (texts : List (String Global)) (count : ℕ)
    → AreCrashLines unit g calls is_all (texts_of texts)
    → ((line : List ℕ) → Contains (texts_of texts) line → IsSoOfLine claim wanted line) → count ≡ length texts
    → HoldsOfLines unit g calls claim wanted is_all count
holds_lines unit g calls claim wanted is_all texts count are so many = record {
  lines = texts_of texts;
  are = are;
  so = so;
  many = length-map texts string_bytes ∙ sym many;
}

pub fails_line : (unit : ℕ) (g : Setup) (calls : List (List Sqe)) (claim : Claim) (wanted : List (List (List ℕ))) (is_all : Bool) (lines : List (List ℕ)) (line : List ℕ)
    → AreCrashLines unit g calls is_all lines → Contains lines line → IsNotSoOfLine claim wanted line
    → FailsOfLine unit g calls claim wanted line
fails_line unit g calls claim wanted is_all lines line are has against =
    let c = are.right line has in record { crash = c.0; can = c.1; shown = c.2; against = against }

-- what ends a walk where the calls have too many entries
pub crash_spent : (unit : ℕ) (g : Setup) (calls : List (List Sqe)) (most : ℕ) (why : CrashFault) → why ≡ fault.Spent
    → IsReason unit g calls most why → 2 ^ 63 ≤ entry_count calls
crash_spent unit g calls most why is reason = subst (IsReason unit g calls most) is reason

-- What was written of the lines.
pub lists_crashes : (unit : ℕ) (g : Setup) (most : ℕ) (calls : List (List Sqe)) (is_all : Bool) (lines : List (String Global)) (text : List ℕ) (a a' b b' : Option (List ℕ))
    → ReadsEntries g calls a a' → AreCrashLines unit g calls is_all (texts_of lines)
    → text ≡ lines_text (texts_of lines) ++ codes "crashes " ++ told_count (length lines) is_all most
    → Appends b b' text
    → ListsCrashes unit g most (if is_all then listed.All else listed.Stopped) a a' b b'
lists_crashes unit g most calls true lines text a a' b b' reads are is written = record {
  calls = calls;
  reads = reads;
  listing = record {
    text = text;
    list = record { lines = texts_of lines; are = are; is = is ∙ ap (λ n. lines_text (texts_of lines) ++ codes "crashes " ++ told_count n true most) (sym (length-map lines string_bytes)) };
    written = written;
  };
}
lists_crashes unit g most calls false lines text a a' b b' reads are is written = record {
  calls = calls;
  reads = reads;
  listing = record {
    text = text;
    list = record { lines = texts_of lines; are = are; is = is ∙ ap (λ n. lines_text (texts_of lines) ++ codes "crashes " ++ told_count n false most) (sym (length-map lines string_bytes)) };
    written = written;
  };
}
