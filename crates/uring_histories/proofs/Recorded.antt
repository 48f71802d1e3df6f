-- Steps that are made and recorded, one after the other.
use Rattle.std.proofs.Common.{◌≡◌, ◌+◌, ◌<◌, ℕ, zero, suc, Bool, true, List, [], ◌∷◌, ◌++◌, length, take, get_or, Some, if◌then◌else◌, refl, sym, subst, ap, ◌∙◌, arith, add-one}
use Rattle.uring_histories.proofs.Common.{CalledFor, EndsOn, Fits, HasMade, History, IsLawful, IsPlain, IsRecorded, IsUnrefused, Item, MadeAfter, Published, Requests, Setup, Step, World, all_published_as, bad_word, call_steps, entry_of, files_of, is_running, item_steps, length-map, length-take-le, map-append, neg_ℤ, published_as, result_of, steps_of_item, string_bytes, take_more, take_steps, with_entry, world}
use Rattle.uring_entry.specs.declared.errno.TheConstants.{ENOMEM}
use Rattle.uring_entry.specs.Preparation.{operation_of}
use Rattle.uring_files.specs.Contents.{FileContents}
use Rattle.uring_core.specs.declared.step.Step.TheVariants as step
use Rattle.uring_core.specs.declared.answer.Answer.{Answer}
use Rattle.uring_core.specs.declared.answer.Answer.TheVariants as answer
use Rattle.uring_core.proofs.Following.{history_of_snoc}
use Rattle.uring_laws.proofs.WholeLaws.{lawful_apart}
use Rattle.uring_text.specs.Lines.{ended}
use Rattle.uring_trace.specs.Exchanges.{answer_text, events_of}
use Rattle.uring_trace.specs.Spelling.{IsStep}
use Rattle.uring_histories.specs.declared.recording.Recording.{Recording}

-- A step that was answered as it is called for, and refused nothing for want of memory.

finish_of : (files : List FileContents) (r : Requests) (n : ℕ) (running : Bool) (a : Answer)
    → EndsOn files r n running a → ((bytes : List ℕ) → a ≡ answer.Ended (neg_ℤ ENOMEM) bytes → ⊥)
    → a ≡ (if running then answer.Ended (result_of files (operation_of (entry_of r n))).res (result_of files (operation_of (entry_of r n))).bytes else answer.NotRunning)
finish_of files r n running a ends some = grind arith

pub unrefused_of : (g : Setup) (w : World) (s : Step) (a : Answer) → CalledFor g w s a → IsPlain a
    → ((bytes : List ℕ) → a ≡ answer.Ended (neg_ℤ ENOMEM) bytes → ⊥) → IsUnrefused g w s a
unrefused_of g w (step.Finish n) a called plain some =
    finish_of (files_of g w) w.requests n (is_running w.requests n) a called some
unrefused_of g w _ a called plain some = plain.0

pub made_one : (g : Setup) (old new : Recording) (h : History) (s : Step) (a : Answer) (line : List ℕ)
    → IsRecorded g old h → IsStep line s → IsPlain a
    → ((bytes : List ℕ) → a ≡ answer.Ended (neg_ℤ ENOMEM) bytes → ⊥)
    → new.machine.core.setup ≡ old.machine.core.setup
    → ((k : History) → Fits old.machine k → Fits new.machine ((s, a) ∷ k))
    → ((k : History) → Fits old.machine k → CalledFor old.machine.core.setup (world old.machine.core.setup k) s a)
    → string_bytes new.text ≡ string_bytes old.text ++ ended (answer_text true line (Some (s, a)))
    → HasMade g new h (s ∷ [])
made_one g old new h s a line r spelt plain some setup fits called text =
    let here : CalledFor g (world g h) s a = subst (λ k. CalledFor k (world k h) s a) r.setup (called h r.fits) in
    let now : Fits new.machine ((s, a) ∷ h) = fits h r.fits in
    let lawful : IsLawful g ((s, a) ∷ h) = subst (λ k. IsLawful k ((s, a) ∷ h)) (setup ∙ r.setup) now.lawful in
    record {
      after = (s, a) ∷ h;
      recorded = record {
        exchanges = record { line = line; event = Some (s, a) } ∷ r.exchanges;
        events = history_of_snoc (events_of r.exchanges) (s, a) ∙ ap (λ (k : History). (s, a) ∷ k) r.events;
        setup = setup ∙ r.setup;
        fits = now;
        refuses_none = (unrefused_of g (world g h) s a here plain some, r.refuses_none);
        each = (spelt, r.each);
        text = text ∙ ap (λ l. l ++ ended (answer_text true line (Some (s, a)))) r.text;
      };
      made = (a, (lawful_apart g ((s, a) ∷ h) lawful).0, plain, refl);
    }

-- Steps after steps.

made_then : (g : Setup) (h h' h'' : History) (ss ts : List Step) → MadeAfter g h ss h'
    → MadeAfter g h' ts h'' → MadeAfter g h (ss ++ ts) h''
made_then g h h' h'' [] ts first second = subst (λ k. MadeAfter g k ts h'') first second
made_then g h h' h'' (s ∷ ss) ts first second = grind (arith, (made_then g ((s, first.0) ∷ h) h' h'' ss ts first.3 second))

pub made_after : (g : Setup) (t t' : Recording) (h : History) (ss ts : List Step) → (first : HasMade g t h ss)
    → HasMade g t' first.after ts → HasMade g t' h (ss ++ ts)
made_after g t t' h ss ts first second = grind (arith, made_then)

pub same_made : (g : Setup) (t : Recording) (h : History) (ss ts : List Step) → ss ≡ ts
    → HasMade g t h ss → HasMade g t h ts
same_made g t h ss ts same made = subst (λ l. HasMade g t h l) same made

pub none_made : (g : Setup) (t : Recording) (h : History) → IsRecorded g t h → HasMade g t h []
none_made g t h recorded = record { after = h; recorded = recorded; made = refl }

-- The steps of one item more.

one_item : (slot slot' : ℕ) (x : Published) → slot ≡ slot'
    → item_steps slot (x ∷ []) ≡ steps_of_item slot' x
one_item slot slot' x same = grind arith

item_more : (slot : ℕ) (xs : List Published) (x : Published)
    → item_steps slot (xs ++ x ∷ []) ≡ item_steps slot xs ++ steps_of_item (slot + length xs) x
item_more slot [] x = one_item slot (slot + 0) x (omega arith)
item_more slot (with_entry entry ∷ xs) x = grind (arith, (item_more (slot + 1) xs x))
item_more slot (bad_word word ∷ xs) x = grind (arith, (item_more (slot + 1) xs x))

pub items_more : (items : List Item) (i : ℕ) (x : Item) → i < length items → x ≡ get_or items i x
    → item_steps 0 (all_published_as (take i items)) ++ steps_of_item i (published_as x)
    ≡ item_steps 0 (all_published_as (take (i + 1) items))
items_more items i x low is =
    let cut : take (i + 1) items ≡ take i items ++ x ∷ [] = take_more items i x low ∙ ap (λ y. take i items ++ y ∷ []) (sym is) in
    let many : i ≡ 0 + length (all_published_as (take i items)) = omega (arith, length-map (take i items) published_as, length-take-le i items (omega arith)) in
    ap (λ n. item_steps 0 (all_published_as (take i items)) ++ steps_of_item n (published_as x)) many
    ∙ sym (ap (λ l. item_steps 0 (all_published_as l)) cut ∙ ap (item_steps 0) (map-append published_as (take i items) (x ∷ [])) ∙ item_more 0 (all_published_as (take i items)) (published_as x))

take_one : (n : ℕ) → take_steps n ++ step.Take ∷ [] ≡ take_steps (suc n)
take_one zero = refl
take_one (suc n) = ap (λ l. step.Take ∷ l) (take_one n)

pub takes_more : (n : ℕ) → take_steps n ++ step.Take ∷ [] ≡ take_steps (n + 1)
takes_more n = take_one n ∙ ap take_steps (sym (add-one n))

-- the steps of a call that is begun for so many positions
abbrev pub steps_for : List Published → ℕ → List Step
steps_for items n =
    item_steps 0 items ++ ((step.StoreTail ∷ []) ++ ((step.Begin n ∷ []) ++ (take_steps n ++ ((step.End ∷ []) ++ (step.LoadHead ∷ [])))))

pub whole_call : (items : List Item) (n : ℕ) → length items ≡ n
    → steps_for (all_published_as items) n ≡ call_steps (all_published_as items)
whole_call items n many = grind (arith, length-map)
