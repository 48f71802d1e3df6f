-- What all bytes of an input tell, and the history of the calls that they tell.
use Rattle.std.proofs.Common.{◌≡◌, ℕ, List, ◌++◌, map, Option, Some, None, Ok, sym, subst, ap, ◌∙◌, append-nil}
use Rattle.uring_histories.proofs.Common.{IsAccepted, IsHistoryOf, Item, Setup, WritesHistory, all_published_as, published_in, remark_text, whole}
use Rattle.std.specs.Io.KnownBytes.{Appends}
use Rattle.std.specs.declared.vec.Vec.{Vec}
use Rattle.std.specs.declared.alloc.Global.{Global}
use Rattle.uring_outcomes.specs.Outcomes.{Ending}
use Rattle.uring_play_text.specs.Inputs.{ReadsCalls, IsTold, lists_of}
use Rattle.uring_litmus.specs.Lines.{IsLineOf}
use Rattle.uring_check.specs.SetupLines.{setup_text}
use Rattle.uring_histories.proofs.Arrived.{same_calls}

-- an input that was read to its end tells the calls that were returned, and a history of these is one of what it tells
pub told_by : (g : Setup) (calls : Vec (Vec Item Global) Global) (e : Ending) (bytes text : List ℕ) (left : Option (List ℕ))
    → ReadsCalls g (Ok calls) (Some bytes) left → IsHistoryOf g (published_in calls.items) e text
    → (told : List (List Item)) × IsTold g.sq bytes (Ok told) × IsHistoryOf g (map all_published_as told) e text
told_by g calls e bytes text None r h = absurd r.consumed
told_by g calls e bytes text (Some rest) r h =
    let all : bytes ≡ r.bytes = r.consumed ∙ ap (λ l. r.bytes ++ l) r.whole ∙ append-nil r.bytes in
    (lists_of calls.items, subst (λ b. IsTold g.sq b (Ok (lists_of calls.items))) (sym all) r.returned, subst (λ cs. IsHistoryOf g cs e text) (same_calls calls.items) h)

-- what was written, if a check accepts it
pub shown_all : (g : Setup) (bytes : List ℕ) (e : Ending) (before after : Option (List ℕ)) (text all : List ℕ)
    → ((calls : List (List Item)) × IsTold g.sq bytes (Ok calls) × IsHistoryOf g (map all_published_as calls) e text)
    → ((line : List ℕ) × IsLineOf whole e line × (all ≡ setup_text g ++ (remark_text line ++ text)))
    → IsAccepted g all × Appends before after all → WritesHistory g bytes e before after
shown_all g bytes e before after text all history head written = record {
  calls = history.0;
  told = history.1;
  line = head.0;
  shown = head.1;
  text = text;
  history = history.2;
  accepted = subst (IsAccepted g) head.2 written.0;
  written = subst (Appends before after) head.2 written.1;
}
