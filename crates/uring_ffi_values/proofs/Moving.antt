-- A slot is made of parts, and parts of a slot: a pointer moves with its allocator, and what the two own goes with them.
use Rattle.uring_ffi_values.proofs.Walks.{ !, Callee, Clauses, Closed, Contract, Ended, Fml, Fn, Goes-dropped, Item, Last, List, Logic, MachineTables, Model, RattleType, Running, SProp, Stays, Sym, Tables, Triple, Ty, Ura, Val, WpFn, WpFn-mono, [], agg, aggregate, alloc_all, and_then, assign, by, closing, copy, done, drop, emp, ends_at, ent, enter, entered, fact, field, fjoin, fld, free_all, fsep, fsplit, ftrue, get, get_in, heard, join, layout, left, local, look_at, move, no_more, nothing, of_opd, pass_all, place, plain, qed, raw, refl, return, returns, rewrite, rv_opd, says, sem, sep, seq, sets, split, stay_dropped, stop, sub, subst, suffices, sym, tables, tables_of, tcons, tnil, triple_of, ty_ptr, ty_struct, value_local, walk_Meets, walk_of, whole, yes, ‵, ◌$◌, ◌++◌, ◌∵◌, ◌∷◌, ◌≡◌, ◌⊛◌}
use Rattle.uring_ffi_values.proofs.Common.{B, Bx, D, Held, IsSome, Option, Some, box_in, box_out, box_typed, ghosts, word}
use Rattle.uring_ffi_values.proofs.HeldKinds.{Kind, boxed, named}
use Rattle.std.specs.contracts.alloc.Global as Heap
use Rattle.uring_ffi_values.specs.contracts.boxes.parts.Parts as Parts
use Rattle.uring_ffi_values.specs.contracts.boxes.slot.Slot as Slot

-- the code of each
abbrev pub moving : (from to : Sym) → Fn
moving from to =
    let two : Sym → Ty = λ name. ty_struct name (tcons ty_ptr (tcons (layout Heap.the_row) tnil)) in
    record {
      lifetimes = 0;
      outlives = [];
      ty_params = [];
      givens = 0;
      params = 1;
      locals = local (two to) value_local ∷ local (two from) value_local ∷ local ty_ptr value_local ∷ local (layout Heap.the_row) value_local ∷ local ty_ptr value_local ∷ [];
      body = seq (assign (place 2 []) (rv_opd (copy (place 1 (field 0 ∷ []))))) (seq (assign (place 3 []) (rv_opd (copy (place 1 (field 1 ∷ []))))) (seq (assign (place 4 []) (rv_opd (copy (place 2 [])))) (seq (assign (place 0 []) (aggregate (copy (place 4 []) ∷ copy (place 3 []) ∷ []))) return)));
    }

-- one parameter, which is used up
abbrev moves : (from to : RattleType) → Ended
moves from to = record { signature = record { lifetimes = 0; outlives = []; params = plain (λ _. from) ∷ []; result = plain (λ _. to) }; kept = (yes, tt) }

abbrev stayed : (from to : RattleType) → Stays (moves from to).signature.params (moves from to).kept
stayed from to = (stay_dropped (plain (λ _. from)) yes, tt)

module _ {M : Type 1} {𝓤 : Ura M} (𝓛 : Logic 𝓤) (from to : RattleType) (no_last : (x : from.Denot) → Last (from.exit yes) x) (silent : (x : from.Denot) (f : Last (from.exit yes) x) → left (from.exit yes) x f ≡ ftrue)
    (asks : from.Denot → SProp 𝓤) (tells : from.Denot → to.Denot → Type 0) where
  abbrev clauses : Clauses 𝓤 (moves from to)
  clauses κs a = record { ghost = Unit {0}; requires = λ g. asks a.0; ensures = λ g r e. fact 𝓤 (tells a.0 r) }

  abbrev W : Contract 𝓤
  W = walk_of 𝓛 (moves from to) (stayed from to) clauses

  ends : (z : W.Ghost) (w : Val) (r : to.Denot) → tells z.0.3.0 r → ent 𝓤 (sem 𝓛 (to.own_val r (w ∷ []))) (W.post z w)
  ends z w r is = qed 𝓛 (‵ (to.own_val r (w ∷ [])) ∷ []) ∵ suffices ! _ (ends_at 𝓛 (moves from to) (stayed from to) clauses z w r (no_last z.0.3.0, tt) (tt, tt)) $ says ! is $
      nothing ! $ nothing ! $ fjoin ! $ join ! $ nothing ! $ join ! $ done !

  meets : (𝓣 : Tables 𝓤 𝓛.H) (name : Callee) (code : Fn) → Closed 𝓤 𝓛.H 𝓣.C 𝓣.Λ name code
      → ((f : from.Denot) (vs : List Val) (Post : Val → SProp 𝓤) → ((w : Val) (r : to.Denot) → tells f r → ent 𝓤 (sem 𝓛 (to.own_val r (w ∷ []))) (Post w))
      → ent 𝓤 (sep 𝓤 (sem 𝓛 (from.own_val f vs)) (asks f)) (WpFn 𝓤 𝓛.H 𝓣.C 𝓣.Λ code (vs ++ []) Post))
      → Triple 𝓤 (𝓣.C name) (triple_of 𝓛 (moves from to).signature (closing 𝓛 (moves from to) clauses))
  meets 𝓣 name code closed moved =
      entered 𝓤 𝓛.H (triple_of 𝓛 (moves from to).signature (closing 𝓛 (moves from to) clauses)) 𝓣.C 𝓣.Λ name code closed
      (walk_Meets 𝓛 (moves from to) (stayed from to) (Goes-dropped 𝓛 0 (plain (λ _. from)) yes (λ κs x f. silent x f), tt) clauses (WpFn 𝓤 𝓛.H 𝓣.C 𝓣.Λ code) (WpFn-mono 𝓤 𝓛.H 𝓛.laws 𝓣 code)
      (λ z. qed 𝓛 ((‵ ftrue ⊛ ‵ (fsep (from.own_val z.0.3.0 z.0.4.0) ftrue)) ∷ raw (asks z.0.3.0) ∷ []) ∵ split ! $ drop ! $ fsplit ! $ move ! (1 ∷ []) $ drop ! $ by ! (moved z.0.3.0 z.0.4.0 (W.post z) (λ w r is. ends z w r is))))

module _ (k : Kind) where
  abbrev E : Bx
  E = boxed k.row k.laws

  abbrev parts : RattleType
  parts = Parts.the_row k.row Heap.the_row ghosts

  abbrev name_of_parts : Sym
  name_of_parts = (Parts.the_type k.row Heap.the_row ghosts).name

  -- what the box owns goes to whatever is made of it
  moved : {M : Type 1} {𝓤 : Ura M} (𝓛 : Logic 𝓤) (𝓣 : Tables 𝓤 𝓛.H) (from to : Sym) (v : D E) (vs : List Val) (Post : Val → SProp 𝓤)
      → ((w : Val) → ent 𝓤 (sem 𝓛 ((B E).own_val v (w ∷ []))) (Post w))
      → ent 𝓤 (sem 𝓛 ((B E).own_val v vs)) (WpFn 𝓤 𝓛.H 𝓣.C 𝓣.Λ (moving from to) (vs ++ []) Post)
  moved {𝓤 = 𝓤} 𝓛 𝓣 from to v vs Post ends =
      qed 𝓛 (‵ ((B E).own_val v vs) ∷ []) ∵
      box_out E ! v vs (λ b o hv e ws fa. box_in E ! v b o v.value e refl $
      let w = word E hv b o in
      let Γ : List (Item 𝓤) = ‵ ((B E).own_val v (w ∷ [])) ∷ [] in
      by ! (subst (λ (us : List Val). ent 𝓤 (types.Kit.⋆ 𝓛 Γ) (WpFn 𝓤 𝓛.H 𝓣.C 𝓣.Λ (moving from to) (us ++ []) Post)) (sym ws)
      (qed 𝓛 Γ ∵ enter ! 𝓣.C 𝓣.Λ (moving from to) (w ∷ []) _ $ alloc_all ! (λ ls. pass_all ! refl (box_typed E hv b o fa, tt) $
      sets ! (of_opd ! (get_in ! (fld ! refl (stop !)) (sub ! 0 refl (whole !)))) refl (tt, tt) $ sets ! (of_opd ! (get_in ! (fld ! refl (stop !)) (sub ! 1 refl (whole !)))) refl fa $ sets ! (of_opd ! (get ! refl)) refl (tt, tt) $
      sets ! (agg ! (and_then ! (get ! refl) (and_then ! (get ! refl) (no_more !)))) refl (box_typed E hv b o fa) $ returns ! (look_at ! 0 refl) $ free_all ! refl $
      by ! (ends w)))))

  module _ {M : Type 1} (𝓤 : Ura M) (𝓛 : Logic 𝓤) (𝓜 : Model 𝓤 𝓛.H) (𝓡 : Running 𝓤 𝓛.H 𝓜) (name : Callee) where
    abbrev 𝓣 : MachineTables 𝓤 𝓛.H 𝓜
    𝓣 = tables 𝓤 𝓛.H 𝓜 𝓡 𝓡.env

    -- a slot of parts
    pub of_meets : Closed 𝓤 𝓛.H 𝓣.C 𝓣.Λ name (moving name_of_parts Slot.the_type.name)
        → Triple 𝓤 (𝓣.C name) (triple_of 𝓛 (moves parts Slot.the_row).signature (closing 𝓛 (moves parts Slot.the_row) (clauses 𝓛 parts Slot.the_row (λ x. tt) (λ x f. refl) (λ p. emp 𝓤) (λ p s. s.held ≡ Some (k.made p.value)))))
    unfolding tables_of
    of_meets closed = meets 𝓛 parts Slot.the_row (λ x. tt) (λ x f. refl) (λ p. emp 𝓤) (λ p s. s.held ≡ Some (k.made p.value)) (tables_of 𝓤 𝓛.H 𝓜 𝓣) name (moving name_of_parts Slot.the_type.name) closed (λ p vs Post ends.
        let v : D E = record { ptr = p.ptr; alloc = p.alloc; value = p.value } in
        qed 𝓛 (‵ (parts.own_val p vs) ∷ raw (emp 𝓤) ∷ []) ∵ move ! (1 ∷ []) $ drop ! $ rewrite ! 0 (λ (F : Fml). ‵ F) (sym (k.in_parts v vs)) refl $
        by ! (moved 𝓛 (tables_of 𝓤 𝓛.H 𝓜 𝓣) name_of_parts Slot.the_type.name v vs Post (λ w. subst (λ (F : Fml). ent 𝓤 (sem 𝓛 F) (Post w)) (sym (k.in_slot v (w ∷ []))) (ends w (record { at = v.ptr; alloc = v.alloc; held = Some (k.made v.value) }) refl))))

    -- parts of a slot
    pub into_meets : Closed 𝓤 𝓛.H 𝓣.C 𝓣.Λ name (moving Slot.the_type.name name_of_parts)
        → Triple 𝓤 (𝓣.C name) (triple_of 𝓛 (moves Slot.the_row parts).signature (closing 𝓛 (moves Slot.the_row parts) (clauses 𝓛 Slot.the_row parts (λ x. tt) (λ x f. refl) (λ s. fact 𝓤 (IsSome (k.read s.held))) (λ s p. Some p.value ≡ k.read s.held))))
    unfolding tables_of
    into_meets closed = meets 𝓛 Slot.the_row parts (λ x. tt) (λ x f. refl) (λ s. fact 𝓤 (IsSome (k.read s.held))) (λ s p. Some p.value ≡ k.read s.held) (tables_of 𝓤 𝓛.H 𝓜 𝓣) name (moving Slot.the_type.name name_of_parts) closed (λ s vs Post ends.
        qed 𝓛 (‵ ((Slot.the_row).own_val s vs) ∷ raw (fact 𝓤 (IsSome (k.read s.held))) ∷ []) ∵ move ! (1 ∷ []) $ heard ! (IsSome (k.read s.held)) (λ full.
        let there = named (k.read s.held) full in
        let v : D E = record { ptr = s.at; alloc = s.alloc; value = there.0 } in
        rewrite ! 0 (λ (o : Option Held). ‵ ((Slot.the_row).own_val (record { at = s.at; alloc = s.alloc; held = o }) vs)) (k.held s.held there.0 there.1) refl $ rewrite ! 0 (λ (F : Fml). ‵ F) (sym (k.in_slot v vs)) refl $
        by ! (moved 𝓛 (tables_of 𝓤 𝓛.H 𝓜 𝓣) Slot.the_type.name name_of_parts v vs Post (λ w. subst (λ (F : Fml). ent 𝓤 (sem 𝓛 F) (Post w)) (sym (k.in_parts v (w ∷ []))) (ends w (record { ptr = v.ptr; alloc = v.alloc; value = v.value }) (sym there.1))))))
