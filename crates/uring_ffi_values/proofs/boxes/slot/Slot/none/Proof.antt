-- `none` makes a slot with a null pointer, which owns nothing beside its allocator.
use Rattle.uring_ffi_values.proofs.Walks.{ !, Fun, Goes-dropped, Item, List, Logic, Memory, Routine, SProp, Stays, Tables, Ura, Val, Valss, WpFn, WpFn-mono, [], agg, alloc_all, and_then, by, done, drop, emp, ends_at, ent, enter, entered, feq_i, fields, fjoin, fpack, free_all, fsep, fsplit, ftrue, get, has_ty, join, lit, lit<, look_at, move, no_more, nothing, null_ptr, pass_all, plain, ptr_val, qed, raw, refl, returns, says, sets, shape, split, stay_dropped, subst, suffices, sym, tables, tables_of, to, triple_of, type_at, vcons, vnil, vnull, vstruct, walk_Meets, walk_of, within, yes, ‵, ◌$◌, ◌++◌, ◌∵◌, ◌∷◌, ◌⊛◌}
use Rattle.uring_ffi_values.proofs.Common.{None, handle_tells, α}
use Rattle.std.specs.contracts.alloc.Global as Heap
use Rattle.std.proofs.ResultValues.{and_tt}
use Rattle.uring_ffi_values.proofs.HeldKinds.{memory}
use Rattle.uring_ffi_values.specs.contracts.boxes.slot.Slot as Slot
use Rattle.uring_ffi_values.specs.contracts.boxes.slot.Slot.none as F
use Rattle.uring_ffi_values.specs.contracts.boxes.slot.Slot.none.Key.{name as #self}
use Rattle.uring_ffi_values.proofs.boxes.slot.Slot.none.Statement as stated
use Rattle.uring_ffi_values.proofs.boxes.slot.Slot.none.Code as code

abbrev stayed : Stays (F.ended).signature.params (F.ended).kept
stayed = (stay_dropped (plain (λ _. Heap.the_row)) yes, tt)

module _ {M : Type 1} {𝓤 : Ura M} (𝓛 : Logic 𝓤) (at_mem : Memory → SProp 𝓤) (run : Routine → Fun 𝓤) (𝓣 : Tables 𝓤 𝓛.H) where
  open 𝓛 use {H}

  walk : (z : (walk_of 𝓛 F.ended stayed (F.clauses 𝓛 at_mem run)).Ghost)
      → ent 𝓤 ((walk_of 𝓛 F.ended stayed (F.clauses 𝓛 at_mem run)).pre z) (WpFn 𝓤 H 𝓣.C 𝓣.Λ code.function (z.0.4.0 ++ []) ((walk_of 𝓛 F.ended stayed (F.clauses 𝓛 at_mem run)).post z))
  walk z =
      let Post = (walk_of 𝓛 F.ended stayed (F.clauses 𝓛 at_mem run)).post z in
      let a = z.0.3.0 in
      let To = type_at (F.signature).result tt in
      let made : To.Denot = record { at = null_ptr; alloc = a; held = None } in
      qed 𝓛 ((‵ ftrue ⊛ ‵ (fsep ((Heap.the_row).own_val a z.0.4.0) ftrue)) ∷ raw (emp 𝓤) ∷ []) ∵ split ! $ drop ! $ fsplit ! $
      handle_tells memory ! a z.0.4.0 (λ hv ea fa. move ! (1 ∷ 2 ∷ []) $ drop ! $ drop ! $
      let w : Val = vstruct (vcons vnull (vcons hv vnil)) in
      let Γ : List (Item 𝓤) = ‵ ((Heap.the_row).own_val a (hv ∷ [])) ∷ [] in
      by ! (subst (λ (us : List Val). ent 𝓤 (types.Kit.⋆ 𝓛 Γ) (WpFn 𝓤 H 𝓣.C 𝓣.Λ code.function (us ++ []) Post)) (sym ea)
      (qed 𝓛 Γ ∵ enter ! 𝓣.C 𝓣.Λ code.function (hv ∷ []) _ $ alloc_all ! (λ ls. pass_all ! refl (fa, tt) $
      sets ! (agg ! (and_then ! (lit ! tt) (and_then ! (get ! refl) (no_more !)))) refl (and_tt (has_ty (α memory) hv) fa.0, (record { fits = lit< tt }, (fa.1, tt))) $
      returns ! (look_at ! 0 refl) $ free_all ! refl $
      nothing ! $ move ! (1 ∷ 0 ∷ []) $ fjoin ! $ feq_i ! (List Val) (vnull ∷ []) (ptr_val null_ptr ∷ []) refl $ fjoin ! $
      feq_i ! (List Val) (w ∷ []) (w ∷ []) refl $ fjoin ! $
      fpack ! (Valss (fields Slot.the_type)) (within (shape Slot.the_type) (to Slot.the_type made) (w ∷ [])) (vnull ∷ [], (hv ∷ [], tt)) $
      nothing ! $ move ! (1 ∷ 0 ∷ []) $ fjoin ! $
      suffices ! _ (ends_at 𝓛 F.ended stayed (F.clauses 𝓛 at_mem run) z w made (tt, tt) (tt, tt)) $ says ! refl $
      nothing ! $ nothing ! $ fjoin ! $ join ! $ nothing ! $ join ! $ done !))))

pub none_spec : {M : Type 1} → stated.statement M
unfolding tables_of
none_spec 𝓤 𝓛 𝓜 𝓡 wired =
    let 𝓣 : Tables 𝓤 𝓛.H = tables_of 𝓤 𝓛.H 𝓜 (tables 𝓤 𝓛.H 𝓜 𝓡 𝓡.env) in
    entered 𝓤 𝓛.H (triple_of 𝓛 F.signature (F.spec 𝓛 𝓜.mem 𝓡.returns)) 𝓣.C 𝓣.Λ #self code.function (code.unfolded 𝓤 𝓛.H 𝓜 𝓡 wired)
    (walk_Meets 𝓛 F.ended stayed (Goes-dropped 𝓛 0 (plain (λ _. Heap.the_row)) yes (λ κs x f. refl), tt) (F.clauses 𝓛 𝓜.mem 𝓡.returns) (WpFn 𝓤 𝓛.H 𝓣.C 𝓣.Λ code.function) (WpFn-mono 𝓤 𝓛.H 𝓛.laws 𝓣 code.function)
    (walk 𝓛 𝓜.mem 𝓡.returns 𝓣))
