-- Lines cut at each comma with a blank after it, and the parts of which something is said.
use Rattle.std.proofs.Common.{◌≡◌, ◌+◌, ◌<◌, ◌≤◌, ℕ, ◌^◌, List, [], ◌∷◌, ◌++◌, length, map, take, drop, get_or, None, refl, sym, ap, subst, ◌∙◌, arith, append_assoc, append-nil, length-append, take-append-drop, drop_at, flat_map, codes, string_bytes, All}
use Rattle.std.proofs.lemmas.List.{get_or-map, length-map, map-append, take_more}
use Rattle.std.proofs.lemmas.List.Elements.{All-get_or, All-push}
use Rattle.std.specs.Str.Pattern.{FindsText, SplitsAroundMatch}
use Rattle.std.specs.declared.string.String.{String}
use Rattle.std.specs.declared.alloc.Global.{Global}
use denote.Ref.{Bor}
use Rattle.uring_litmus.specs.Lines.{joined, parted}
use Rattle.uring_litmus.specs.Parts.{texts_of}
use Rattle.uring_litmus.specs.Wanted.{IsCut, IsData, IsFileLeft, IsFileShown, IsNumber, IsPart, IsWhole}

-- a text that holds a mark is cut there
rests_cut : (parts : List (List ℕ)) (part after : List ℕ)
    → flat_map parted (parts ++ (part ++ (codes ", " ++ after)) ∷ []) ≡ flat_map parted (parts ++ part ∷ [] ++ after ∷ [])
rests_cut [] part after = simp (append_assoc, append-nil)
rests_cut (first ∷ parts) part after = ap (λ l. parted first ++ l) (rests_cut parts part after)

joined_cut : (parts : List (List ℕ)) (part after : List ℕ)
    → joined (parts ++ (part ++ (codes ", " ++ after)) ∷ []) ≡ joined (parts ++ part ∷ [] ++ after ∷ [])
joined_cut [] part after = simp (append_assoc, append-nil)
joined_cut (first ∷ parts) part after = ap (λ l. first ++ l) (rests_cut parts part after)

-- what is left is cut once more
pub one_cut : (line : List ℕ) (parts : List (List ℕ)) (rest part after : List ℕ)
    → line ≡ joined (parts ++ rest ∷ []) → rest ≡ part ++ (codes ", " ++ after)
    → line ≡ joined (parts ++ part ∷ [] ++ after ∷ [])
one_cut line parts rest part after is cut =
    is ∙ ap (λ r. joined (parts ++ r ∷ [])) cut ∙ joined_cut parts part after

pub around : (text part after : List ℕ) → SplitsAroundMatch (FindsText (codes ", ")) text part after
    → text ≡ part ++ (codes ", " ++ after)
around text part after at =
    sym (take-append-drop at.0 text) ∙ ap (λ l. take at.0 text ++ l) at.2.1.split ∙ (λ k. sym at.3 k ++ (codes ", " ++ sym at.4 k))

-- before the first mark there is none
pub first_whole : (text part after : List ℕ) → SplitsAroundMatch (FindsText (codes ", ")) text part after
    → IsWhole part
first_whole text part after at before more is =
    let all : text ≡ before ++ (codes ", " ++ (more ++ drop at.0 text)) =
    sym (take-append-drop at.0 text) ∙ ap (λ l. l ++ drop at.0 text) (sym at.3 ∙ is) ∙ simp append_assoc in
    let low : length before < at.0 = omega (arith, at.6, ap length is, length-append before (codes ", " ++ more)) in
    at.2.0 (length before) low (more ++ drop at.0 text) (ap (drop (length before)) all ∙ drop_at before (codes ", " ++ (more ++ drop at.0 text)) (length before) refl)

-- and a text in which none is found has none
pub last_whole : (text : List ℕ) → FindsText (codes ", ") text None → IsWhole text
last_whole text none before more is =
    none (length before) (omega (arith, ap length is, length-append before (codes ", " ++ more))) more (ap (drop (length before)) is ∙ drop_at before (codes ", " ++ more) (length before) refl)

pub cut_more : (line : List ℕ) (parts : List (List ℕ)) (part : List ℕ) → line ≡ joined (parts ++ part ∷ [])
    → All IsWhole parts → IsWhole part → IsCut line (parts ++ part ∷ [])
cut_more line parts part is whole one = record {
  some = omega (arith, length-append parts (part ∷ []));
  all = is;
  whole = All-push IsWhole parts part whole one;
}

-- Parts that were looked at.

-- one more of the first so many is a part
pub part_more : (texts : List (String Global)) (i : ℕ) (text : String Global) → i < length texts
    → text ≡ get_or texts i text → All IsPart (texts_of (take i texts)) → IsPart (string_bytes text)
    → All IsPart (texts_of (take (i + 1) texts))
part_more texts i text low is before one =
    subst (All IsPart) (sym (ap texts_of (take_more texts i text low ∙ ap (λ t. take i texts ++ t ∷ []) (sym is)) ∙ map-append string_bytes (take i texts) (text ∷ [])))
    (All-push IsPart (texts_of (take i texts)) (string_bytes text) before one)

-- one that is none is among all
pub none_at : (texts : List (String Global)) (i : ℕ) (text : String Global) → i < length texts
    → text ≡ get_or texts i text → (IsPart (string_bytes text) → ⊥) → All IsPart (texts_of texts) → ⊥
none_at texts i text low is none all =
    none (subst IsPart (get_or-map string_bytes texts i text (string_bytes text) low ∙ ap string_bytes (sym is)) (All-get_or IsPart (texts_of texts) i (string_bytes text) (omega (arith, length-map texts string_bytes)) all))

-- The tokens of files.

-- A word and a number of 32 or 64 bits, and a word and bytes.
abbrev pub HasNumber : ℕ → List (Bor (List ℕ)) → Bor (List ℕ) → ℕ → List ℕ → Type 0
HasNumber limit ts d at word = ((get_or ts at d).now ≡ word) × IsNumber limit (get_or ts (at + 1) d).now

abbrev pub HasBytes : List (Bor (List ℕ)) → Bor (List ℕ) → ℕ → Type 0
HasBytes ts d at = ((get_or ts at d).now ≡ codes "data") × IsData (get_or ts (at + 1) d).now

abbrev pub HasCounts : List (Bor (List ℕ)) → Bor (List ℕ) → ℕ → Type 0
HasCounts ts d at = ((get_or ts at d).now ≡ codes "writes") × IsNumber (2 ^ 64) (get_or ts (at + 1) d).now
    × ((get_or ts (at + 2) d).now ≡ codes "synced") × IsNumber (2 ^ 64) (get_or ts (at + 3) d).now

pub shown_from : (ts : List (Bor (List ℕ))) (d : Bor (List ℕ)) → 6 ≤ length ts → length ts < 7
    → HasNumber (2 ^ 32) ts d 0 (codes "file") → HasNumber (2 ^ 32) ts d 2 (codes "len") → HasBytes ts d 4
    → IsFileShown (map (λ t. t.now) ts)
shown_from (t ∷ u ∷ v ∷ w ∷ x ∷ y ∷ []) d low high file len held = record {
  fd = file.1.0;
  len = len.1.0;
  shown = y.now;
  are = cc (file.0, file.1.1.0, len.0, len.1.1.0, held.0);
  fd_limit = file.1.1.1;
  len_limit = len.1.1.1;
  bytes = held.1;
}
shown_from ts d low high file len held = absurd (omega (arith, low, high))

pub shown_to : (ts : List (Bor (List ℕ))) (d : Bor (List ℕ)) → 6 ≤ length ts → length ts < 7
    → IsFileShown (map (λ t. t.now) ts)
    → HasNumber (2 ^ 32) ts d 0 (codes "file") × HasNumber (2 ^ 32) ts d 2 (codes "len") × HasBytes ts d 4
shown_to (t ∷ u ∷ v ∷ w ∷ x ∷ y ∷ []) d low high is = (
  (cc is.are, (is.fd, (cc is.are, is.fd_limit))),
  (cc is.are, (is.len, (cc is.are, is.len_limit))),
  (cc is.are, subst IsData (cc is.are) is.bytes),
)
shown_to ts d low high is = absurd (omega (arith, low, high))

pub left_from : (ts : List (Bor (List ℕ))) (d : Bor (List ℕ)) → 10 ≤ length ts → length ts < 11
    → HasNumber (2 ^ 32) ts d 0 (codes "file") → HasNumber (2 ^ 32) ts d 2 (codes "len")
    → HasCounts ts d 4 → HasBytes ts d 8 → IsFileLeft (map (λ t. t.now) ts)
left_from (t ∷ u ∷ v ∷ w ∷ p ∷ q ∷ r ∷ s ∷ x ∷ y ∷ []) d low high file len counts held = record {
  fd = file.1.0;
  len = len.1.0;
  writes = counts.1.0;
  synced = counts.3.0;
  shown = y.now;
  are = cc (file.0, file.1.1.0, len.0, len.1.1.0, counts.0, counts.1.1.0, counts.2, counts.3.1.0, held.0);
  fd_limit = file.1.1.1;
  len_limit = len.1.1.1;
  writes_limit = counts.1.1.1;
  synced_limit = counts.3.1.1;
  bytes = held.1;
}
left_from ts d low high file len counts held = absurd (omega (arith, low, high))

pub left_to : (ts : List (Bor (List ℕ))) (d : Bor (List ℕ)) → 10 ≤ length ts → length ts < 11
    → IsFileLeft (map (λ t. t.now) ts)
    → HasNumber (2 ^ 32) ts d 0 (codes "file") × HasNumber (2 ^ 32) ts d 2 (codes "len") × HasCounts ts d 4 × HasBytes ts d 8
left_to (t ∷ u ∷ v ∷ w ∷ p ∷ q ∷ r ∷ s ∷ x ∷ y ∷ []) d low high is = (
  (cc is.are, (is.fd, (cc is.are, is.fd_limit))),
  (cc is.are, (is.len, (cc is.are, is.len_limit))),
  (cc is.are, (is.writes, (cc is.are, is.writes_limit)), cc is.are, (is.synced, (cc is.are, is.synced_limit))),
  (cc is.are, subst IsData (cc is.are) is.bytes),
)
left_to ts d low high is = absurd (omega (arith, low, high))
