-- Groups that a drain holds back, one after the other: where their members stand, and who goes on before whom.
use Rattle.std.proofs.Common.{◌≡◌, ℕ, ◌<◌, ◌≤◌, Bool, true, false, not, ◌&&◌, ◌||◌, List, [], ◌∷◌, ◌++◌, refl, arith, ◌⊎◌}
use Rattle.uring_linux.proofs.Common.{Deferred, and_from, and_parts, both_ways, cases_Bool, from_drain, if◌then◌else◌, is_among, is_in_some, is_none, le-leb, le-ltb, leb-true, lt-ltb, ltb-true, or_from, or_left, or_right, still_deferred}

-- groups of which this holds, from one number on and before another, one after the other
abbrev pub InOrder : (Deferred → Type 0) → ℕ → List Deferred → ℕ → Type 0
InOrder P low [] high = low ≤ high
InOrder P low (g ∷ rest) high = (low ≤ g.from) × (g.from < g.end) × P g × InOrder P g.end rest high

-- Where a member stands.

pub among_tells : (n : ℕ) (g : Deferred) → is_among n g ≡ true → (g.from ≤ n) × (n < g.end)
among_tells n g e = let p = and_parts _ _ e in (leb-true g.from n p.0, ltb-true n g.end p.1)

pub in_pushed : (xs : List Deferred) (g : Deferred) (k : ℕ) → is_in_some (xs ++ g ∷ []) k ≡ true
    → (is_in_some xs k ≡ true) ⊎ ((g.from ≤ k) × (k < g.end))
in_pushed [] g k e = grind arith
in_pushed (x ∷ rest) g k e = grind (arith, (in_pushed rest g k))

pub pushed_new : (xs : List Deferred) (g : Deferred) (k : ℕ) → g.from ≤ k → k < g.end
    → is_in_some (xs ++ g ∷ []) k ≡ true
pushed_new [] g k le lt = or_left (is_among k g) false (and_from _ _ (le-leb g.from k le) (lt-ltb k g.end lt))
pushed_new (x ∷ rest) g k le lt = grind (arith, (pushed_new rest g k le lt))

pub pushed_old : (xs : List Deferred) (g : Deferred) (k : ℕ) → is_in_some xs k ≡ true
    → is_in_some (xs ++ g ∷ []) k ≡ true
pushed_old [] g k e = absurd (let f : false ≡ true = e in cc)
pushed_old (x ∷ rest) g k e = grind (arith, (pushed_old rest g k))

pub drain_fewer : (xs : List Deferred) (k : ℕ) → is_in_some (from_drain xs) k ≡ true
    → is_in_some xs k ≡ true
drain_fewer [] k e = e
drain_fewer (g ∷ rest) k e = grind (arith, (cases_Bool g.drains), (drain_fewer rest k))

pub still_fewer : (alone : Bool) (xs : List Deferred) (k : ℕ)
    → is_in_some (still_deferred alone xs) k ≡ true → is_in_some xs k ≡ true
still_fewer alone [] k e = e
still_fewer false (g ∷ rest) k e = e
still_fewer true (g ∷ rest) k e = grind (arith, (cases_Bool g.drains), (drain_fewer rest k))

-- a ring that drained, and doesn't any more
pub ring_off : (ring drains : Bool) (xs : List Deferred) → ring ≡ true
    → (ring && (drains || not (is_none xs))) ≡ false → (drains ≡ false) × (xs ≡ [])
ring_off ring drains xs is e = grind arith

-- Groups in order.

module _ (P : Deferred → Type 0) where
  pub order_spans : (low : ℕ) (xs : List Deferred) (high : ℕ) → InOrder P low xs high → low ≤ high
  order_spans low [] high o = o
  order_spans low (g ∷ rest) high o = grind (arith, (order_spans g.end rest high o.3))

  pub order_lower : (a low : ℕ) (xs : List Deferred) (high : ℕ) → a ≤ low → InOrder P low xs high → InOrder P a xs high
  order_lower a low [] high le o = let e : low ≤ high = o in omega (arith, le, e)
  order_lower a low (g ∷ rest) high le o = (let e : low ≤ g.from = o.0 in omega (arith, le, e), o.1, o.2, o.3)

  pub order_higher : (low : ℕ) (xs : List Deferred) (high b : ℕ) → high ≤ b → InOrder P low xs high → InOrder P low xs b
  order_higher low [] high b le o = let e : low ≤ high = o in omega (arith, le, e)
  order_higher low (g ∷ rest) high b le o = (o.0, o.1, o.2, order_higher g.end rest high b le o.3)

  pub order_push : (low : ℕ) (xs : List Deferred) (high : ℕ) (g : Deferred) → high ≤ g.from → g.from < g.end → P g
      → InOrder P low xs high → InOrder P low (xs ++ g ∷ []) g.end
  order_push low [] high g le some is o = (let e : low ≤ high = o in omega (arith, le, e), some, is, omega arith)
  order_push low (x ∷ rest) high g le some is o = (o.0, o.1, o.2, order_push x.end rest high g le some is o.3)

  -- a member isn't below the first group, nor after the last
  pub order_above : (low : ℕ) (xs : List Deferred) (high k : ℕ) → InOrder P low xs high → is_in_some xs k ≡ true → low ≤ k
  order_above low [] high k o e = absurd (let f : false ≡ true = e in cc)
  order_above low (g ∷ rest) high k o e = grind (arith, (among_tells k g), (order_above g.end rest high k o.3))

  pub order_past : (low : ℕ) (xs : List Deferred) (high n : ℕ) → InOrder P low xs high → high ≤ n → is_in_some xs n ≡ false
  order_past low [] high n o le = refl
  order_past low (g ∷ rest) high n o le = grind (arith, order_spans, or_from, le-ltb, (order_past g.end rest high n o.3 le))

  -- Groups go on: those that stay are in order, and whoever goes on comes before whoever stays.

  order_drain : (low : ℕ) (xs : List Deferred) (high : ℕ) → InOrder P low xs high → InOrder P low (from_drain xs) high
  order_drain low [] high o = o
  order_drain low (g ∷ rest) high o = grind (arith, order_lower, (order_drain g.end rest high o.3))

  -- those after the first that go on
  pub order_after : (low : ℕ) (drains : Bool) (rest : List Deferred) (high : ℕ) → InOrder P low rest high
      → InOrder P low (if drains then rest else from_drain rest) high
  order_after low drains rest high o = grind (arith, order_drain)

  pub order_still : (alone : Bool) (low : ℕ) (xs : List Deferred) (high : ℕ) → InOrder P low xs high
      → InOrder P low (still_deferred alone xs) high
  order_still alone low xs high o = grind (arith, order_lower, order_after)

  pub drain_before : (low : ℕ) (xs : List Deferred) (high n k : ℕ) → InOrder P low xs high → is_in_some xs n ≡ true
      → is_in_some (from_drain xs) n ≡ false → is_in_some (from_drain xs) k ≡ true → n < k
  drain_before low [] high n k o here gone stays = absurd (let f : false ≡ true = here in cc)
  drain_before low (g ∷ rest) high n k o here gone stays =
      grind (arith, (cases_Bool g.drains), (drain_before g.end rest high n k o.3), (drain_fewer rest k), (among_tells n g), (order_above g.end rest high k o.3))

  pub still_before : (alone : Bool) (low : ℕ) (xs : List Deferred) (high n k : ℕ) → InOrder P low xs high
      → is_in_some xs n ≡ true → is_in_some (still_deferred alone xs) n ≡ false
      → is_in_some (still_deferred alone xs) k ≡ true → n < k
  still_before alone low [] high n k o here gone stays = absurd (let f : false ≡ true = here in cc)
  still_before false low (g ∷ rest) high n k o here gone stays = absurd (both_ways (is_in_some (g ∷ rest) n) gone here)
  still_before true low (g ∷ rest) high n k o here gone stays =
      grind (arith, (cases_Bool g.drains), (drain_before g.end rest high n k o.3), (drain_fewer rest k), (among_tells n g), (order_above g.end rest high k o.3))

-- what keeps each group keeps all of them
pub order_kept : (P Q : Deferred → Type 0) (low : ℕ) (xs : List Deferred) (high : ℕ) → InOrder P low xs high
    → ((g : Deferred) → ((k : ℕ) → is_among k g ≡ true → is_in_some xs k ≡ true) → g.from < g.end → g.end ≤ high → P g → Q g)
    → InOrder Q low xs high
order_kept P Q low [] high o keeps = o
order_kept P Q low (g ∷ rest) high o keeps =
    grind (arith, order_spans, (order_kept P Q g.end rest high o.3 (λ h there. keeps h (λ k e. or_right (is_among k g) (is_in_some rest k) (there k e)))))
