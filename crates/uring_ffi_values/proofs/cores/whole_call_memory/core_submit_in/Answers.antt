use Rattle.std.proofs.Common.{◌≡◌, ℕ, List, [], ◌∷◌, length, map, get_or, refl, subst, ap, sym, ◌∙◌, arith}
use Rattle.uring_ffi_values.proofs.Common.{EntryWords, IsSomeAnd, Sqe, SubmittedApart, core_in, length-map, words_of}
use Rattle.uring_ffi_values.proofs.Exits.{apart, some_not_none}
use Rattle.uring_ffi_values.proofs.Refusals.{submit_granted}
use Rattle.uring_ffi_values.proofs.cores.whole_call_memory.core_submit_in.Goals as goal

-- an entry alone
one_entry : (es : List EntryWords) (d : EntryWords) (x : List ℕ) → length es ≡ 1 → x ≡ (get_or es 0 d).words → x ∷ [] ≡ map (λ e. e.words) es
one_entry [] d x one is = absurd (omega (arith, one))
one_entry (e ∷ []) d x one is = ap (λ y. y ∷ []) is
one_entry (e ∷ f ∷ es) d x one is = absurd (omega (arith, one))

pub returns-then-entries-eq1 : goal.returns-then-entries-eq1
returns-then-entries-eq1 g c = record {
  empty = (apart _ _ refl, some_not_none _ _ c.submit_in-made.ensures.made);
  results = λ done. absurd (done refl);
  single = λ _. apart _ _ refl;
  kept = λ done. absurd (done refl);
  made = λ _. record { given = c.submit_in-made.result; told = c.answer_words.ensures ∙ ap words_of c.submit_told.ensures; made = subst (λ (es : List Sqe). IsSomeAnd (core_in c.args.place.now) (λ before. IsSomeAnd (core_in c.submit_in-made.new.self) (SubmittedApart es c.submit_in-made.result before))) (one_entry c.args.entries.now _ _ c.if-entries-eq1.true c.from_words.ensures) c.submit_in-made.ensures.made };
  granted = λ n has few. apart _ _ refl;
  unrefused = λ _. submit_granted (g.M.Memory.grants c.args.memory.now) (core_in c.args.place.now) (core_in c.submit_in-made.new.self) _ (length c.args.entries.now) (sym c.if-entries-eq1.true) c.submit_in-made.result _ (c.answer_words.ensures ∙ ap words_of c.submit_told.ensures) c.submit_in-made.ensures.made c.submit_in-made.ensures.granted;
}

pub returns : goal.returns
returns g c = record {
  empty = (apart _ _ refl, some_not_none _ _ c.submit_in-made-2.ensures.made);
  results = λ done. absurd (done refl);
  single = λ _. apart _ _ refl;
  kept = λ done. absurd (done refl);
  made = λ _. record { given = c.submit_in-made-2.result; told = c.answer_words-2.ensures ∙ ap words_of c.submit_told-2.ensures; made = subst (λ (es : List Sqe). IsSomeAnd (core_in c.args.place.now) (λ before. IsSomeAnd (core_in c.submit_in-made-2.new.self) (SubmittedApart es c.submit_in-made-2.result before))) (c.deref.ensures.value ∙ c.in-Ok.ensures.entries) c.submit_in-made-2.ensures.made };
  granted = λ n has few. apart _ _ refl;
  unrefused = λ _. submit_granted (g.M.Memory.grants c.args.memory.now) (core_in c.args.place.now) (core_in c.submit_in-made-2.new.self) c.deref.result.now (length c.args.entries.now) (ap length (c.deref.ensures.value ∙ c.in-Ok.ensures.entries) ∙ length-map _ _) c.submit_in-made-2.result _ (c.answer_words-2.ensures ∙ ap words_of c.submit_told-2.ensures) c.submit_in-made-2.ensures.made c.submit_in-made-2.ensures.granted;
}
