use Rattle.std.proofs.Common.{◌≡◌, ◌+◌, ℕ, List, false, true, [], ◌∷◌, ◌++◌, length, take, sym, subst, ap, ◌∙◌, arith}
use Rattle.uring_outcomes.proofs.Common.{Global, NamesAll, Vec, addr_of, among, both_ways, false≢true, is_cancel, ne_eqb, take_all}
use Rattle.uring_outcomes.proofs.Naming.{among_kept, among_pushed, names_kept, names_more}
use Rattle.uring_outcomes.proofs.names.add_named.Goals as goal
use Rattle.uring_outcomes.proofs.names.add_named.Goals.{then-opcode-eq-ASYNC_CANCEL+in_ok-reserve, else-opcode-eq-ASYNC_CANCEL}

pub loop-entry-preserved : goal.loop-entry-preserved
loop-entry-preserved g c =
    let names = c.loop-entry.names.items in
    let new = c.if-opcode-eq-ASYNC_CANCEL.names.items in
    let at = c.loop-entry.entry-index in
    let e = c.entry-item.result in
    elim c.if-opcode-eq-ASYNC_CANCEL.branch [
      | then-opcode-eq-ASYNC_CANCEL+in_ok-reserve w ↦
          let is : new ≡ names ++ w.addr.result ∷ [] = ap (λ (v : Vec ℕ Global). v.items) w.names-is ∙ ◌∙◌ {A = List ℕ} w.push_reserved.ensures.items (ap (λ us. us ++ w.addr.result ∷ []) w.reserve.ensures.items) in
          let kept : (u : ℕ) → among names u ≡ true → among new u ≡ true = λ u there. subst (λ xs. among xs u ≡ true) (sym is) (among_kept names (w.addr.result ∷ []) u there) in
          let here : among new (addr_of e) ≡ true = subst (λ xs. among xs (addr_of e) ≡ true) (sym is) (subst (λ u. among (names ++ w.addr.result ∷ []) u ≡ true) w.addr.ensures (among_pushed names w.addr.result)) in
          record {
            named = names_more new c.args.entries.now at e (omega arith) c.entry-item.is (λ cancels. here) (names_kept names new (take at c.args.entries.now) kept c.loop-entry.invariant.named);
            kept = λ u there. kept u (c.loop-entry.invariant.kept u there);
          }
      | else-opcode-eq-ASYNC_CANCEL w ↦
          let is : new ≡ names = ap (λ (v : Vec ℕ Global). v.items) w.names-is in
          let no : is_cancel e ≡ false = ne_eqb _ _ (λ so. w.if-opcode-eq-ASYNC_CANCEL.false (c.opcode.ensures ∙ so)) in
          let kept : (u : ℕ) → among names u ≡ true → among new u ≡ true = λ u there. subst (λ xs. among xs u ≡ true) (sym is) there in
          record {
            named = names_more new c.args.entries.now at e (omega arith) c.entry-item.is (λ cancels. absurd (both_ways (is_cancel e) no cancels)) (names_kept names new (take at c.args.entries.now) kept c.loop-entry.invariant.named);
            kept = λ u there. kept u (c.loop-entry.invariant.kept u there);
          }
    ]

pub returns-clause-named : goal.returns-clause-named
returns-clause-named g c = subst (NamesAll (among c.loop-entry.names.items)) (take_all c.loop-entry.entry-index c.args.entries.now (omega arith)) c.loop-entry.invariant.named

pub returns-in_err-reserve-clause-granted : goal.returns-in_err-reserve-clause-granted
returns-in_err-reserve-clause-granted g c = λ all. absurd (false≢true (c.in_err-reserve.ensures.granted (length c.loop-entry.names.items + 1) (all _) (omega arith)))
