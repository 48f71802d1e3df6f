-- What each step of a seat asks.
use Rattle.std.proofs.Common.{◌≡◌, ℕ, ◌+◌, ◌<◌, true, List, [], ◌∷◌, ◌++◌, length, get_or, refl, sym, ◌∙◌, ap, subst, arith, length-append}
use Rattle.std.proofs.lemmas.List.{set-get_or}
use Rattle.atomic_table.specs.Table.{step, Allows}
use mathlib.Core.Option.{none}
use Rattle.uring_entry.specs.IndexWords.{word_of}
use Rattle.uring_words.specs.Submission.Calls.{AreWhole}
use Rattle.uring_words.specs.Places.{place_of}
use Rattle.uring_words.specs.Submission.Layout.{entry_index, array_index, tail_index, head_index, IsPosition}
use Rattle.uring_words.specs.Submission.Rule.{stored, tail_seen, BothAgree}
use Rattle.uring_words.specs.Submission.Steps.{Holder, word_stored, mark_stored, tail_stored, head_loaded, tail_loaded, word_loaded, head_stored, StoresWord, StoresMark, StoresTail, LoadsHead, LoadsTail, LoadsMark, LoadsWord, StoresHead}
use Rattle.uring_words.specs.declared.submission.view.AppSide.{AppSide}
use Rattle.uring_words.specs.declared.submission.view.KernelSide.{KernelSide}
use Rattle.uring_words.specs.declared.submission.view.Position.{Position}
use Rattle.uring_words.proofs.AppSteps.{keeps_word_stored, keeps_mark_stored, keeps_tail_stored, keeps_head_loaded}
use Rattle.uring_words.proofs.KernelSteps.{keeps_tail_loaded, keeps_word_loaded, known_stands, keeps_head_stored}
use Rattle.uring_words.proofs.Seats.{app_step, kernel_step}

-- an entry word is stored for the next position
pub stores_word : (slots id i : ℕ) (me : Holder) (word : ℕ) → me.0.is_app ≡ true
    → length (stored me.0.app) < me.0.app.head_seen + me.0.app.size → length me.0.app.entry < 16
    → i
    ≡ entry_index (place_of me.0.app.start me.0.app.size (length (stored me.0.app))) (length me.0.app.entry)
    → Allows BothAgree slots id me i (λ _. word) (λ _. StoresWord (step slots i word 0 none) me word)
stores_word slots id i me word is_app room few is =
    app_step slots id i (λ _. word) me (λ _. StoresWord (step slots i word 0 none) me word) is_app
    (λ words d h both. (word_stored me.0.app word, rw is (keeps_word_stored words me.0.app d word h room few), refl))

-- the array word of the next position is stored
pub stores_mark : (slots id i : ℕ) (me : Holder) (word : ℕ) → me.0.is_app ≡ true
    → length (stored me.0.app) < me.0.app.head_seen + me.0.app.size
    → IsPosition me.0.app.size (place_of me.0.app.start me.0.app.size (length (stored me.0.app))) (record { mark = word; entry = me.0.app.entry })
    → i
    ≡ array_index me.0.app.size (place_of me.0.app.start me.0.app.size (length (stored me.0.app)))
    → Allows BothAgree slots id me i (λ _. word) (λ _. StoresMark (step slots i word 0 none) me word)
stores_mark slots id i me word is_app room new is =
    app_step slots id i (λ _. word) me (λ _. StoresMark (step slots i word 0 none) me word) is_app
    (λ words d h both. (mark_stored me.0.app word, rw is (keeps_mark_stored words me.0.app d word h room new), refl))

-- the tail is stored
pub stores_tail : (slots id i : ℕ) (me : Holder) (word : ℕ) → me.0.is_app ≡ true
    → me.0.app.entry ≡ [] → word ≡ word_of me.0.app.start (length (stored me.0.app))
    → AreWhole (stored me.0.app)
    → i ≡ tail_index me.0.app.size
    → Allows BothAgree slots id me i (λ _. word) (λ _. StoresTail (step slots i word 0 none) me word)
stores_tail slots id i me word is_app none_written is_word whole is =
    app_step slots id i (λ _. word) me (λ _. StoresTail (step slots i word 0 none) me word) is_app
    (λ words d h both. (tail_stored me.0.app, rw is (keeps_tail_stored words me.0.app d word h none_written is_word whole), refl))

-- the head is loaded
pub loads_head : (slots id i : ℕ) (me : Holder) → me.0.is_app ≡ true → i ≡ head_index me.0.app.size
    → Allows BothAgree slots id me i (λ n. n) (LoadsHead (step slots i 0 0 none) me)
loads_head slots id i me is_app is =
    app_step slots id i (λ n. n) me (LoadsHead (step slots i 0 0 none) me) is_app (λ words d h both.
    let o = h.ordered in (
      head_loaded me.0.app d.taken,
      rw set-get_or (keeps_head_loaded words me.0.app d h),
      (d.taken, refl, ap (λ j. get_or words j 0) is ∙ h.head, o.head_seen, omega (arith, o.taken, o.tail_seen), is),
    ))

-- the tail is loaded
pub loads_tail : (slots id i : ℕ) (me : Holder) → me.0.is_kernel ≡ true
    → i ≡ tail_index me.0.kernel.size
    → Allows BothAgree slots id me i (λ n. n) (LoadsTail (step slots i 0 0 none) me)
loads_tail slots id i me is_kernel is =
    kernel_step slots id i (λ n. n) me (LoadsTail (step slots i 0 0 none) me) is_kernel (λ words a h both.
    let d : KernelSide = me.0.kernel in
    let o = h.ordered in
    let many : length a.published ≡ tail_seen d + length h.rest = omega (arith, ap length h.begins, length-append (d.copied ++ d.known) h.rest, length-append d.copied d.known) in (
      tail_loaded d h.rest,
      rw set-get_or (keeps_tail_loaded words a d h),
      (
        h.rest,
        refl,
        record {
          tail = ap (λ j. get_or words j 0) (is ∙ ap tail_index h.sized.size) ∙ h.tail ∙ ap (λ s. word_of s (length a.published)) (sym h.sized.start) ∙ ap (word_of d.start) many;
          whole = subst AreWhole h.begins h.whole;
          few = omega (arith, o.room, o.head_seen, length-append a.published a.staged, h.sized.size);
          all = λ is_app. ap (λ (b : AppSide). b.published) (both is_app) ∙ h.begins;
        },
        is,
      ),
    ))

-- the array word of the first known position is loaded
pub loads_mark : (slots id i : ℕ) (me : Holder) (p : Position) (ps : List Position)
    → me.0.is_kernel ≡ true → me.0.kernel.known ≡ p ∷ ps
    → i
    ≡ array_index me.0.kernel.size (place_of me.0.kernel.start me.0.kernel.size (length me.0.kernel.copied))
    → Allows BothAgree slots id me i (λ n. n) (LoadsMark (step slots i 0 0 none) me)
loads_mark slots id i me p ps is_kernel known is =
    kernel_step slots id i (λ n. n) me (LoadsMark (step slots i 0 0 none) me) is_kernel (λ words a h both.
    let d : KernelSide = me.0.kernel in
    let there = known_stands words a d p ps h known in (
      word_loaded d,
      rw set-get_or (keeps_word_loaded words a d h),
      (refl, record { first = p; others = ps; known = known; mark = ap (λ j. get_or words j 0) is ∙ there.0.mark; formed = there.1 }, is),
    ))

-- its next entry word is loaded
pub loads_word : (slots id i k : ℕ) (me : Holder) (p : Position) (ps : List Position)
    → me.0.is_kernel ≡ true → me.0.kernel.known ≡ p ∷ ps → me.0.kernel.loaded ≡ k + 1
    → k < length p.entry
    → i ≡ entry_index (place_of me.0.kernel.start me.0.kernel.size (length me.0.kernel.copied)) k
    → Allows BothAgree slots id me i (λ n. n) (LoadsWord (step slots i 0 0 none) me)
loads_word slots id i k me p ps is_kernel known loaded within is =
    kernel_step slots id i (λ n. n) me (LoadsWord (step slots i 0 0 none) me) is_kernel (λ words a h both.
    let d : KernelSide = me.0.kernel in (
      word_loaded d,
      rw set-get_or (keeps_word_loaded words a d h),
      (
        refl,
        λ q qs j known' loaded' inside.
            let there = known_stands words a d q qs h known' in
            let same : k ≡ j = omega arith in
            let at = is ∙ ap (entry_index (place_of d.start d.size (length d.copied))) same in
            (ap (λ n. get_or words n 0) at ∙ there.0.entry j inside, at),
      ),
    ))

-- the head is stored
pub stores_head : (slots id i : ℕ) (me : Holder) (word : ℕ) → me.0.is_kernel ≡ true
    → word ≡ word_of me.0.kernel.start (length me.0.kernel.copied) → i ≡ head_index me.0.kernel.size
    → Allows BothAgree slots id me i (λ _. word) (λ _. StoresHead (step slots i word 0 none) me word)
stores_head slots id i me word is_kernel is_word is =
    kernel_step slots id i (λ _. word) me (λ _. StoresHead (step slots i word 0 none) me word) is_kernel
    (λ words a h both. (head_stored me.0.kernel, rw is (keeps_head_stored words a me.0.kernel word h is_word), refl))
