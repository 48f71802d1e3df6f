-- What each step of a seat of the completion ring's table asks.
use Rattle.std.proofs.Common.{◌≡◌, ℕ, ◌+◌, ◌^◌, ◌<◌, true, List, ◌∷◌, ◌++◌, length, get_or, refl, sym, ◌∙◌, ap, subst, arith, length-append}
use Rattle.std.proofs.lemmas.List.{set-get_or}
use Rattle.atomic_table.specs.Table.{step, Allows}
use mathlib.Core.Option.{none}
use Rattle.uring_entry.specs.IndexWords.{word_of}
use Rattle.uring_ports.specs.Dropped.{WereHad}
use Rattle.uring_words.specs.Completion.Layout.{cell_index, tail_index, head_index, dropped_index, IsCell}
use Rattle.uring_words.specs.Completion.Rule.{last_of, tail_seen, Agree, BothAgree}
use Rattle.uring_words.specs.Completion.Steps.{Holder, word_stored, tail_stored, dropped_stored, head_loaded, tail_loaded, word_loaded, head_stored, dropped_loaded, StoresWord, StoresTail, StoresDropped, LoadsHead, LoadsTail, LoadsWord, StoresHead, LoadsDropped}
use Rattle.uring_words.specs.Places.{place_of}
use Rattle.uring_words.specs.declared.completion.view.AppSide.{AppSide}
use Rattle.uring_words.specs.declared.completion.view.KernelSide.{KernelSide}
use Rattle.uring_words.proofs.CompletionSteps.{keeps_word_stored, keeps_tail_stored, keeps_dropped_stored, keeps_head_loaded, keeps_tail_loaded, keeps_word_loaded, keeps_dropped_loaded, known_stands, keeps_head_stored}
use Rattle.uring_words.proofs.Seats.{app_step, kernel_step}

-- a word of the next cell is stored
pub stores_word : (slots id i : ℕ) (me : Holder) (word : ℕ) → me.0.is_kernel ≡ true
    → length me.0.kernel.put < me.0.kernel.head_seen + me.0.kernel.size
    → length me.0.kernel.cell < 10
    → i
    ≡ cell_index (place_of me.0.kernel.start me.0.kernel.size (length me.0.kernel.put)) (length me.0.kernel.cell)
    → Allows BothAgree slots id me i (λ _. word) (λ _. StoresWord (step slots i word 0 none) me word)
stores_word slots id i me word is_kernel room few is =
    kernel_step slots id i (λ _. word) me (λ _. StoresWord (step slots i word 0 none) me word) is_kernel
    (λ words a h both. (word_stored me.0.kernel word, rw is (keeps_word_stored words a me.0.kernel word h room few), refl))

-- the tail is stored
pub stores_tail : (slots id i : ℕ) (me : Holder) (word : ℕ) → me.0.is_kernel ≡ true
    → length me.0.kernel.put < me.0.kernel.head_seen + me.0.kernel.size
    → IsCell me.0.kernel.cell
    → word ≡ word_of me.0.kernel.start (length me.0.kernel.put + 1)
    → i ≡ tail_index me.0.kernel.size
    → Allows BothAgree slots id me i (λ _. word) (λ _. StoresTail (step slots i word 0 none) me word)
stores_tail slots id i me word is_kernel room cell is_word is =
    kernel_step slots id i (λ _. word) me (λ _. StoresTail (step slots i word 0 none) me word) is_kernel
    (λ words a h both. (tail_stored me.0.kernel, rw is (keeps_tail_stored words a me.0.kernel word h room cell is_word), refl))

-- the dropped word is stored
pub stores_dropped : (slots id i : ℕ) (me : Holder) (word : ℕ) → me.0.is_kernel ≡ true
    → word < 2 ^ 32 → i ≡ dropped_index me.0.kernel.size
    → Allows BothAgree slots id me i (λ _. word) (λ _. StoresDropped (step slots i word 0 none) me word)
stores_dropped slots id i me word is_kernel small is =
    kernel_step slots id i (λ _. word) me (λ _. StoresDropped (step slots i word 0 none) me word) is_kernel
    (λ words a h both. (dropped_stored me.0.kernel word, rw is (keeps_dropped_stored words a me.0.kernel word h small), refl))

-- how many were put beyond the tail seen
got_few : (words : List ℕ) (a : AppSide) (d : KernelSide) → (h : Agree words a d)
    → length d.put ≡ tail_seen a + length h.rest
got_few words a d h = omega (arith, ap length h.begins, length-append (a.copied ++ a.known) h.rest, length-append a.copied a.known)

-- the head is loaded
pub loads_head : (slots id i : ℕ) (me : Holder) → me.0.is_kernel ≡ true
    → i ≡ head_index me.0.kernel.size
    → Allows BothAgree slots id me i (λ n. n) (LoadsHead (step slots i 0 0 none) me)
loads_head slots id i me is_kernel is =
    kernel_step slots id i (λ n. n) me (LoadsHead (step slots i 0 0 none) me) is_kernel (λ words a h both. (
      head_loaded me.0.kernel a.got,
      rw set-get_or (keeps_head_loaded words a me.0.kernel h),
      (a.got, refl, ap (λ j. get_or words j 0) is ∙ h.head, h.ordered.head_seen, omega (arith, h.ordered.got, h.ordered.tail_seen), is),
    ))

-- the tail is loaded
pub loads_tail : (slots id i : ℕ) (me : Holder) → me.0.is_app ≡ true → i ≡ tail_index me.0.app.size
    → Allows BothAgree slots id me i (λ n. n) (LoadsTail (step slots i 0 0 none) me)
loads_tail slots id i me is_app is =
    app_step slots id i (λ n. n) me (LoadsTail (step slots i 0 0 none) me) is_app (λ words d h both.
    let a : AppSide = me.0.app in
    let many = got_few words a d h in (
      tail_loaded a h.rest,
      rw set-get_or (keeps_tail_loaded words a d h),
      (
        h.rest,
        refl,
        record {
          tail = ap (λ j. get_or words j 0) (is ∙ ap tail_index h.sized.size) ∙ h.tail ∙ ap (λ s. word_of s (length d.put)) (sym h.sized.start) ∙ ap (word_of a.start) many;
          few = omega (arith, h.ordered.room, h.ordered.head_seen, many, h.sized.size);
          all = λ is_kernel. ap (λ (e : KernelSide). e.put) (both is_kernel) ∙ h.begins;
          dropped = λ is_kernel. let Q : KernelSide → Type 0 = λ e. WereHad (0 ∷ e.dropped) a.dropped in subst Q (sym (both is_kernel)) h.loaded;
        },
        is,
      ),
    ))

-- the next word of the first known completion is loaded
pub loads_word : (slots id i k : ℕ) (me : Holder) (c : List ℕ) (cs : List (List ℕ))
    → me.0.is_app ≡ true → me.0.app.known ≡ c ∷ cs → me.0.app.loaded ≡ k → k < 10
    → i ≡ cell_index (place_of me.0.app.start me.0.app.size (length me.0.app.copied)) k
    → Allows BothAgree slots id me i (λ n. n) (LoadsWord (step slots i 0 0 none) me)
loads_word slots id i k me c cs is_app known loaded within is =
    app_step slots id i (λ n. n) me (LoadsWord (step slots i 0 0 none) me) is_app (λ words d h both.
    let a : AppSide = me.0.app in (
      word_loaded a,
      rw set-get_or (keeps_word_loaded words a d h),
      (
        refl,
        λ x xs j known' loaded' inside.
            let there = known_stands words a d x xs h known' in
            let same : k ≡ j = omega arith in
            let at = is ∙ ap (cell_index (place_of a.start a.size (length a.copied))) same in
            (ap (λ n. get_or words n 0) at ∙ there.0 j inside, there.1, at),
      ),
    ))

-- the head is stored
pub stores_head : (slots id i : ℕ) (me : Holder) (word : ℕ) → me.0.is_app ≡ true
    → word ≡ word_of me.0.app.start (length me.0.app.copied) → i ≡ head_index me.0.app.size
    → Allows BothAgree slots id me i (λ _. word) (λ _. StoresHead (step slots i word 0 none) me word)
stores_head slots id i me word is_app is_word is =
    app_step slots id i (λ _. word) me (λ _. StoresHead (step slots i word 0 none) me word) is_app
    (λ words d h both. (head_stored me.0.app, rw is (keeps_head_stored words me.0.app d word h is_word), refl))

-- the dropped word is loaded
pub loads_dropped : (slots id i : ℕ) (me : Holder) → me.0.is_app ≡ true
    → i ≡ dropped_index me.0.app.size
    → Allows BothAgree slots id me i (λ n. n) (LoadsDropped (step slots i 0 0 none) me)
loads_dropped slots id i me is_app is =
    app_step slots id i (λ n. n) me (LoadsDropped (step slots i 0 0 none) me) is_app (λ words d h both.
    let a : AppSide = me.0.app in
    let found : get_or words i 0 ≡ last_of 0 d.dropped = ap (λ j. get_or words j 0) (is ∙ ap dropped_index h.sized.size) ∙ h.dropped in
    let P : ℕ → List ℕ → Type 0 = λ n ws. Agree ws (dropped_loaded a n) d in (
      dropped_loaded a (get_or words i 0),
      subst (P (get_or words i 0)) (sym (set-get_or words i 0)) (subst (λ (n : ℕ). P n words) (sym found) (keeps_dropped_loaded words a d h)),
      (refl, rw found h.small, is),
    ))
