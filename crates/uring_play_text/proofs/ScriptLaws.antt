-- What a script gathers, line by line.
use Rattle.std.proofs.Common.{◌≡◌, ℕ, ◌+◌, ◌<◌, ◌≤◌, List, [], ◌∷◌, ◌++◌, length, Option, Some, None, refl, ap, append_assoc, arith, length-append, inl, inr}
use Rattle.uring_play_text.proofs.Common.{Adds, Gathers, Goes, IsAt, IsItemLine, IsLongFirst, IsSome, Item, PlayFault, Reaches, SpellsCalls, append-nil, is_blank, last_block, lists_of, one_call, slice_split-cons_no}
use Rattle.uring_play_text.specs.declared.play_fault.PlayFault.TheVariants as fault
use Rattle.uring_play_text.specs.declared.script.Script.{Script}
use Rattle.uring_play_text.proofs.ItemLaws.{item_not_blank}
use Rattle.uring_play_text.proofs.CallLaws.{glued, split_append, calls_more, items_more, as_many, last_of}

-- no line yet
pub at_start : (size : ℕ) → Goes size [] 0 [] []
at_start size = record { number_is = refl; ended = []; last = []; blocks = refl; calls_are = tt; call_is = record { lines_are = tt; fits = omega arith } }

-- the calls so far
pub so_far : {size : ℕ} {lines : List (List ℕ)} {n : ℕ} {calls : List (List Item)} {call : List Item}
    → Goes size lines n calls call → SpellsCalls size lines (calls ++ one_call call)
so_far h = rw h.blocks (calls_more _ h.ended _ h.last _ h.calls_are h.call_is)

module _ {size : ℕ} {lines : List (List ℕ)} {n : ℕ} {calls : List (List Item)} {call : List Item} (h : Goes size lines n calls call) (line : List ℕ) where
  -- an empty line
  pub blank_more : line ≡ [] → Goes size (lines ++ line ∷ []) (n + 1) (calls ++ one_call call) []
  blank_more none = rw none (record {
    number_is = omega (arith, h.number_is, length-append lines ([] ∷ []));
    ended = h.ended ++ h.last ∷ [];
    last = [];
    blocks = cc (split_append is_blank lines ([] ∷ []), h.blocks, glued h.ended h.last [] ([] ∷ []), append-nil h.last, append_assoc h.ended (h.last ∷ []) ([] ∷ []));
    calls_are = calls_more size h.ended calls h.last call h.calls_are h.call_is;
    call_is = record { lines_are = tt; fits = omega arith };
  })

  -- an item
  pub item_more : (i : Item) → IsItemLine size line i → length call < size
      → Goes size (lines ++ line ∷ []) (n + 1) calls (call ++ i ∷ [])
  item_more i is lt = record {
    number_is = omega (arith, h.number_is, length-append lines (line ∷ []));
    ended = h.ended;
    last = h.last ++ line ∷ [];
    blocks = cc (split_append is_blank lines (line ∷ []), h.blocks, slice_split-cons_no is_blank line [] (item_not_blank size line i is), glued h.ended h.last (line ∷ []) []);
    calls_are = h.calls_are;
    call_is = record { lines_are = items_more size h.last call line i h.call_is.lines_are is; fits = omega (arith, length-append call (i ∷ [])) };
  }

  -- the next line, as one that is reached
  abbrev pub reached : Reaches size (lines ++ line ∷ []) (n + 1)
  reached = record { before = lines; line = line; after = []; calls = calls ++ one_call call; all = refl; number = ap (λ (m : ℕ). m + 1) h.number_is; faultless = so_far h }

  -- an item past the room
  pub long_first : (i : Item) → IsItemLine size line i → size ≤ length call
      → IsLongFirst size (lines ++ line ∷ []) (n + 1)
  long_first i is le = (reached, i, is, omega (arith, ap (λ (b : List (List (List ℕ))). length (last_block b)) h.blocks, ap length (last_of h.ended h.last), as_many size h.last call h.call_is.lines_are))

-- a line after the first faulty one
abbrev reaches_more : {size : ℕ} {lines : List (List ℕ)} (line : List ℕ) {k : ℕ} → (r : Reaches size lines k)
    → Reaches size (lines ++ line ∷ []) k
reaches_more line r = record { before = r.before; line = r.line; after = r.after ++ line ∷ []; calls = r.calls; all = rw r.all (append_assoc r.before (r.line ∷ r.after) (line ∷ [])); number = r.number; faultless = r.faultless }

pub fault_stays : (size : ℕ) (lines : List (List ℕ)) (line : List ℕ) (f : Option PlayFault) (n : ℕ) (calls : List (List Item)) (call : List Item)
    → IsSome f → IsAt size lines f n calls call → IsAt size (lines ++ line ∷ []) f n calls call
fault_stays size lines line (Some (fault.Line k)) n calls call some h = (reaches_more line h.0, h.1)
fault_stays size lines line (Some (fault.Long k)) n calls call some h = (reaches_more line h.0, h.1, h.2, h.3)
fault_stays size lines line _ n calls call some h = absurd (grind arith)

-- ---- over scripts

pub took_item : (old new : Script) (number : ℕ) (i : Item) → old.fault ≡ None
    → number ≡ old.number + 1 → Adds (record old { number = number }) new i
    → (size : ℕ) (lines : List (List ℕ)) (text : List ℕ) → IsItemLine old.size text i
    → Gathers size lines old → Gathers size (lines ++ text ∷ []) new
took_item old new number i none next (inl a) size lines text is h = grind (arith, item_more)
took_item old new number i none next (inr a) size lines text is h =
    let g : Goes size lines old.number (lists_of old.calls.items) old.call.items = rw none at h.1 in
    rw a.1 (h.0, rw next (long_first g text i (rw h.0 at is) (rw h.0 at a.0)))
