-- What is laid over a map by `put_over`: one entry more, the value at a key, the order of the keys, and how many there are.
use Rattle.std.proofs.Common.{◌≡◌, ℕ, suc, ◌+◌, ◌≤◌, Bool, true, false, cond, Option, Some, None, List, [], ◌∷◌, ◌++◌, ◌-◌, ◌<◌, ◌↔◌, length, length-append, slice_get, Ordering, refl, sym, ap, ap₂, subst, ◌∙◌, arith}
use Rattle.std.specs.Prelude.{if◌then◌else◌, is_some, IsSome, IfSome, unwrap_or}
use Rattle.std.specs.BTreeMap.{insert_entry, is_at}
use Rattle.std.specs.Cmp.{IsTotalOrder, Equal-is, eq_by_cmp_equiv, tied_back, alike_right}
use Rattle.std.specs.List.{AllByRecursion}
use Rattle.std.specs.List.Sorted.{IsStrictlySortedBy}
use Rattle.std.specs.Map.{keys_of}
use Rattle.std.specs.Ordering.{ordering_reverse, match_ordering, is_eq}
use Rattle.std.specs.declared.cmp.Ordering.TheVariants.{Less, Equal, Greater}
use Rattle.std.proofs.lemmas.Bool.{false≢true}
use Rattle.std.proofs.lemmas.Map.{NonePasses, lookup-none, none_passes_from_lookup}
use Rattle.std.proofs.lemmas.Map.Entries.{none_past_head, none_below_head}
use Rattle.std.proofs.lemmas.Map.Keys.{IsDistinct-from_sorted}
use Rattle.abs_codec.specs.Entries.{value_at}
use Rattle.keyed_state.specs.Overlay.{put_over}

module _ {K : Type 0} {cmp : K → K → Ordering} (order : IsTotalOrder cmp) where
  reversed : (a b : K) (r : Ordering) → cmp a b ≡ r → cmp b a ≡ ordering_reverse r
  reversed a b r h = order.antisymm b a ∙ ap ordering_reverse h

  same_below : (a b c : K) (r : Ordering) → cmp a b ≡ Equal → cmp a c ≡ r → cmp b c ≡ r
  same_below a b c r same h = sym (order.congr a b c same) ∙ h

  apart_is : (a b : K) → is_at (cmp a) b ≡ false → is_at (cmp b) a ≡ false
  apart_is a b h = (eq_by_cmp_equiv order).symm b a ∙ h

  never_both : (a b c : K) → is_at (cmp a) b ≡ false → cmp a c ≡ Equal → cmp b c ≡ Equal → ⊥
  never_both a b c apart p q = false≢true (sym apart ∙ ap is_eq (sym (alike_right order c b a (tied_back order b c q))) ∙ ap is_eq p)

  further_up : (a b : K) (ks : List K) → cmp a b ≡ Less → AllByRecursion (λ q. cmp b q ≡ Less) ks → AllByRecursion (λ q. cmp a q ≡ Less) ks
  further_up a b [] h all = tt
  further_up a b (q ∷ ks) h all = (order.trans a b q h all.0, further_up a b ks h all.1)

-- nothing is frozen, whatever the map is
pub none_frozen : {A : Type 0} (is_frozen : Bool) (map other : A) → (if is_frozen then Some map else None) ≡ None → (if is_frozen then Some other else None) ≡ None
none_frozen true map other none = absurd (false≢true (sym (ap is_some none)))
none_frozen false map other none = refl

unwrapped : {A : Type 0} (p e : A) → Some p ≡ Some e → p ≡ e
unwrapped p e same = ap (λ o. unwrap_or o p) same

last_is : {A : Type 0} (front : List A) (p : A) → slice_get (front ++ p ∷ []) (length front) ≡ Some p
last_is [] p = refl
last_is (x ∷ front) p = last_is front p

module _ {S : Type 0} where
  none_is : (found : Option S) → is_some found ≡ false → found ≡ None
  none_is None h = refl
  none_is (Some v) h = absurd (false≢true (sym h))

  -- the first, or else the second
  abbrev pub shadowed : Option S → Option S → Option S
  shadowed None under = under
  shadowed (Some v) under = Some v

  twice : (b : Bool) (x y z : Option S) → cond b x z ≡ cond b x (cond b y z)
  twice true x y z = refl
  twice false x y z = refl

module _ {K S : Type 0} {cmp : K → K → Ordering} (order : IsTotalOrder cmp) where
  -- ---- two entries put in one after the other

  -- a second write under the same key
  again : (es : List (K × S)) (a : K) (x : S) (b : K) (y : S) → cmp a b ≡ Equal → insert_entry cmp (insert_entry cmp es a x) b y ≡ insert_entry cmp es a y
  again [] a x b y same = rw (tied_back order a b same) refl
  again (e ∷ es) a x b y same = by (cmp a e.0) refl (again es a x b y same)
    where
      by : (r : Ordering) → cmp a e.0 ≡ r → insert_entry cmp (insert_entry cmp es a x) b y ≡ insert_entry cmp es a y → insert_entry cmp (insert_entry cmp (e ∷ es) a x) b y ≡ insert_entry cmp (e ∷ es) a y
      by Less p rest = simp (p, tied_back order a b same)
      by Equal p rest = simp (p, same_below order a b e.0 Equal same p)
      by Greater p rest = simp (p, same_below order a b e.0 Greater same p, rest)

  -- writes under two keys change places
  swapped : (es : List (K × S)) (a : K) (x : S) (b : K) (y : S) → is_at (cmp a) b ≡ false → insert_entry cmp (insert_entry cmp es a x) b y ≡ insert_entry cmp (insert_entry cmp es b y) a x
  swapped [] a x b y apart = by (cmp a b) refl apart
    where
      by : (r : Ordering) → cmp a b ≡ r → is_eq r ≡ false → insert_entry cmp (insert_entry cmp [] a x) b y ≡ insert_entry cmp (insert_entry cmp [] b y) a x
      by Less p other = simp (p, reversed order a b Less p)
      by Equal p other = absurd (false≢true (sym other))
      by Greater p other = simp (p, reversed order a b Greater p)
  swapped (e ∷ es) a x b y apart = by (cmp a e.0) (cmp b e.0) refl refl (swapped es a x b y apart)
    where
      both_below : (t : Ordering) → cmp a b ≡ t → is_eq t ≡ false → cmp a e.0 ≡ Less → cmp b e.0 ≡ Less → insert_entry cmp (insert_entry cmp (e ∷ es) a x) b y ≡ insert_entry cmp (insert_entry cmp (e ∷ es) b y) a x
      both_below Less t other p q = simp (p, q, t, reversed order a b Less t)
      both_below Equal t other p q = absurd (false≢true (sym other))
      both_below Greater t other p q = simp (p, q, t, reversed order a b Greater t)

      by : (r s : Ordering) → cmp a e.0 ≡ r → cmp b e.0 ≡ s → insert_entry cmp (insert_entry cmp es a x) b y ≡ insert_entry cmp (insert_entry cmp es b y) a x → insert_entry cmp (insert_entry cmp (e ∷ es) a x) b y ≡ insert_entry cmp (insert_entry cmp (e ∷ es) b y) a x
      by Less Less p q rest = both_below (cmp a b) refl apart p q
      by Less Equal p q rest = simp (p, q, reversed order a b Less (alike_right order b e.0 a q ∙ p))
      by Less Greater p q rest = simp (p, q, reversed order a b Less (order.trans a e.0 b p (reversed order b e.0 Greater q)))
      by Equal Less p q rest = simp (p, q, reversed order b a Less (alike_right order a e.0 b p ∙ q))
      by Equal Equal p q rest = absurd (never_both order a b e.0 apart p q)
      by Equal Greater p q rest = simp (p, q)
      by Greater Less p q rest = simp (p, q, reversed order b a Less (order.trans b e.0 a q (reversed order a e.0 Greater p)))
      by Greater Equal p q rest = simp (p, q)
      by Greater Greater p q rest = simp (p, q, rest)

  -- nothing laid over it
  pub nothing_over : (es later : List (K × S)) → length later ≡ 0 → put_over cmp es later ≡ es
  nothing_over es [] h = refl
  nothing_over es (e ∷ later) h = absurd (omega (arith, h))

  -- ---- one entry more

  -- below, where the overlay has no entry at the key
  put_over-below : (es later : List (K × S)) (k : K) (v : S) → NonePasses (is_at (cmp k)) later → put_over cmp (insert_entry cmp es k v) later ≡ insert_entry cmp (put_over cmp es later) k v
  put_over-below es [] k v none = refl
  put_over-below es (e ∷ later) k v none =
      ap (λ (base : List (K × S)). put_over cmp base later) (swapped es k v e.0 e.1 none.0) ∙ put_over-below (insert_entry cmp es e.0 e.1) later k v none.1

  -- above
  pub put_over-above : (es later : List (K × S)) (k : K) (v : S) → IsStrictlySortedBy cmp (keys_of later) → put_over cmp es (insert_entry cmp later k v) ≡ insert_entry cmp (put_over cmp es later) k v
  unfolding IsStrictlySortedBy
  put_over-above es [] k v rises = refl
  put_over-above es (e ∷ later) k v rises = by (cmp k e.0) refl (put_over-above (insert_entry cmp es e.0 e.1) later k v rises.1)
    where
      by : (r : Ordering) → cmp k e.0 ≡ r → put_over cmp (insert_entry cmp es e.0 e.1) (insert_entry cmp later k v) ≡ insert_entry cmp (put_over cmp (insert_entry cmp es e.0 e.1) later) k v
          → put_over cmp es (insert_entry cmp (e ∷ later) k v) ≡ insert_entry cmp (put_over cmp es (e ∷ later)) k v
      by Less p rest = simp p (put_over-below es (e ∷ later) k v (none_below_head order k e later rises p))
      by Equal p rest =
          let none : NonePasses (is_at (cmp k)) later = none_past_head (eq_by_cmp_equiv order) k e later (IsDistinct-from_sorted cmp (keys_of (e ∷ later)) rises) (ap is_eq p) in
          simp p (sym (ap (λ (base : List (K × S)). put_over cmp base later) (again es e.0 e.1 k v (tied_back order k e.0 p))) ∙ put_over-below (insert_entry cmp es e.0 e.1) later k v none)
      by Greater p rest = simp p rest

  last_put : (es front : List (K × S)) (e : K × S) → put_over cmp es (front ++ e ∷ []) ≡ insert_entry cmp (put_over cmp es front) e.0 e.1
  last_put es [] e = refl
  last_put es (x ∷ front) e = last_put (insert_entry cmp es x.0 x.1) front e

  below_last : (k : K) (front : List (K × S)) (e : K × S) → AllByRecursion (λ q. cmp k q ≡ Less) (keys_of (front ++ e ∷ [])) → cmp k e.0 ≡ Less
  below_last k [] e all = all.0
  below_last k (x ∷ front) e all = below_last k front e all.1

  last_apart : (front : List (K × S)) (e : K × S) → IsStrictlySortedBy cmp (keys_of (front ++ e ∷ [])) → NonePasses (is_at (cmp e.0)) front
  unfolding IsStrictlySortedBy
  last_apart [] e rises = tt
  last_apart (x ∷ front) e rises = (ap is_eq (reversed order x.0 e.0 Less (below_last x.0 front e rises.0)), last_apart front e rises.1)

  -- the last entry is put in the base
  pub last_below : (base overlay front : List (K × S)) (e : K × S) → IsStrictlySortedBy cmp (keys_of overlay) → overlay ≡ front ++ e ∷ [] → put_over cmp (insert_entry cmp base e.0 e.1) front ≡ put_over cmp base overlay
  last_below base overlay front e rises is =
      put_over-below base front e.0 e.1 (last_apart front e (subst (λ es. IsStrictlySortedBy cmp (keys_of es)) is rises))
      ∙ sym (last_put base front e) ∙ sym (ap (put_over cmp base) is)

  -- the entry that was looked at, put in the base, is the one that left
  pub merged_last : (base overlay after : List (K × S)) (popped : Option (K × S)) (e : K × S) (len : ℕ) → IsStrictlySortedBy cmp (keys_of overlay) → len ≡ length overlay → slice_get overlay (len - 1) ≡ Some e → (IsSome popped ↔ (0 < len))
      → IfSome popped (λ p. overlay ≡ after ++ p ∷ []) → (put_over cmp (insert_entry cmp base e.0 e.1) after ≡ put_over cmp base overlay) × (length after ≡ len - 1)
  merged_last base [] after popped e len rises counted last some removed = absurd (false≢true (ap is_some last))
  merged_last base (x ∷ overlay) after None e len rises counted last some removed = absurd (false≢true (some.1 (omega (arith, counted))))
  merged_last base (x ∷ overlay) after (Some p) e len rises counted last some removed =
      let longer : len ≡ length after + 1 = counted ∙ ap length removed ∙ length-append after (p ∷ []) in
      let place : len - 1 ≡ length after = omega (arith, longer) in
      let same : Some p ≡ Some e = sym (last_is after p) ∙ sym (ap₂ slice_get removed place) ∙ last in
      (last_below base (x ∷ overlay) after e rises (removed ∙ ap (λ q. after ++ q ∷ []) (unwrapped p e same)), sym place)

  -- ---- the value at a key

  pub value_at-insert_entry : (es : List (K × S)) (k : K) (v : S) (q : K) → value_at cmp (insert_entry cmp es k v) q ≡ cond (is_at (cmp k) q) (Some v) (value_at cmp es q)
  value_at-insert_entry [] k v q = simp ((eq_by_cmp_equiv order).symm q k)
  value_at-insert_entry (e ∷ es) k v q = by (cmp k e.0) refl (value_at-insert_entry es k v q)
    where
      later : (b : Bool) → is_at (cmp q) e.0 ≡ b → cmp k e.0 ≡ Greater → value_at cmp (insert_entry cmp es k v) q ≡ cond (is_at (cmp k) q) (Some v) (value_at cmp es q) → cond b (Some e.1) (value_at cmp (insert_entry cmp es k v) q) ≡ cond (is_at (cmp k) q) (Some v) (cond b (Some e.1) (value_at cmp es q))
      later true h p rest = let apart : is_at (cmp k) q ≡ false = ap is_eq (alike_right order q e.0 k ((Equal-is (cmp q e.0)).0 h) ∙ p) in ap (λ (b : Bool). cond b (Some v) (Some e.1)) (sym apart)
      later false h p rest = rest

      by : (r : Ordering) → cmp k e.0 ≡ r → value_at cmp (insert_entry cmp es k v) q ≡ cond (is_at (cmp k) q) (Some v) (value_at cmp es q) → value_at cmp (insert_entry cmp (e ∷ es) k v) q ≡ cond (is_at (cmp k) q) (Some v) (value_at cmp (e ∷ es) q)
      by Less p rest = rw p (ap (λ (b : Bool). cond b (Some v) (value_at cmp (e ∷ es) q)) ((eq_by_cmp_equiv order).symm q k))
      by Equal p rest =
          let same : is_at (cmp k) q ≡ is_at (cmp q) e.0 = ap is_eq (order.congr k e.0 q p) ∙ (eq_by_cmp_equiv order).symm e.0 q in
          rw p (twice (is_at (cmp q) e.0) (Some v) (Some e.1) (value_at cmp es q) ∙ ap (λ (b : Bool). cond b (Some v) (value_at cmp (e ∷ es) q)) (sym same))
      by Greater p rest = rw p (later (is_at (cmp q) e.0) refl p rest)

  pub value_at-put_over : (es later : List (K × S)) (q : K) → IsStrictlySortedBy cmp (keys_of later) → value_at cmp (put_over cmp es later) q ≡ shadowed (value_at cmp later q) (value_at cmp es q)
  unfolding IsStrictlySortedBy
  value_at-put_over es [] q rises = refl
  value_at-put_over es (e ∷ later) q rises =
      value_at-put_over (insert_entry cmp es e.0 e.1) later q rises.1 ∙ ap (shadowed (value_at cmp later q)) (value_at-insert_entry es e.0 e.1 q)
      ∙ ap (λ (b : Bool). shadowed (value_at cmp later q) (cond b (Some e.1) (value_at cmp es q))) ((eq_by_cmp_equiv order).symm e.0 q) ∙ by (is_at (cmp q) e.0) refl
    where
      by : (b : Bool) → is_at (cmp q) e.0 ≡ b → shadowed (value_at cmp later q) (cond b (Some e.1) (value_at cmp es q)) ≡ shadowed (cond b (Some e.1) (value_at cmp later q)) (value_at cmp es q)
      by true h =
          ap (λ (found : Option S). shadowed found (Some e.1)) (lookup-none (is_at (cmp q)) later (none_past_head (eq_by_cmp_equiv order) q e later (IsDistinct-from_sorted cmp (keys_of (e ∷ later)) rises) h))
      by false h = refl

  -- ---- the order of the keys

  all_keys : (P : K → Type 0) (es : List (K × S)) (k : K) (v : S) → AllByRecursion P (keys_of es) → P k → AllByRecursion P (keys_of (insert_entry cmp es k v))
  all_keys P [] k v all here = (here, tt)
  all_keys P (e ∷ es) k v all here = by (cmp k e.0) (all_keys P es k v all.1 here)
    where
      by : (r : Ordering) → AllByRecursion P (keys_of (insert_entry cmp es k v)) → AllByRecursion P (keys_of (match_ordering r ((k, v) ∷ e ∷ es) ((e.0, v) ∷ es) (e ∷ insert_entry cmp es k v)))
      by Less rest = (here, all)
      by Equal rest = all
      by Greater rest = (all.0, rest)

  pub insert_entry-rises : (es : List (K × S)) (k : K) (v : S) → IsStrictlySortedBy cmp (keys_of es) → IsStrictlySortedBy cmp (keys_of (insert_entry cmp es k v))
  unfolding IsStrictlySortedBy
  insert_entry-rises [] k v rises = (tt, tt)
  insert_entry-rises (e ∷ es) k v rises = by (cmp k e.0) refl (insert_entry-rises es k v rises.1)
    where
      by : (r : Ordering) → cmp k e.0 ≡ r → IsStrictlySortedBy cmp (keys_of (insert_entry cmp es k v)) → IsStrictlySortedBy cmp (keys_of (match_ordering r ((k, v) ∷ e ∷ es) ((e.0, v) ∷ es) (e ∷ insert_entry cmp es k v)))
      by Less p rest = ((p, further_up order k e.0 (keys_of es) p rises.0), rises)
      by Equal p rest = rises
      by Greater p rest = (all_keys (λ q. cmp e.0 q ≡ Less) es k v rises.0 (reversed order k e.0 Greater p), rest)

  pub put_over-rises : (es later : List (K × S)) → IsStrictlySortedBy cmp (keys_of es) → IsStrictlySortedBy cmp (keys_of (put_over cmp es later))
  put_over-rises es [] rises = rises
  put_over-rises es (e ∷ later) rises = put_over-rises (insert_entry cmp es e.0 e.1) later (insert_entry-rises es e.0 e.1 rises)

  -- ---- how many there are

  pub length-insert_entry : (es : List (K × S)) (k : K) (v : S) → IsStrictlySortedBy cmp (keys_of es) → length (insert_entry cmp es k v) ≡ length es + cond (is_some (value_at cmp es k)) 0 1
  unfolding IsStrictlySortedBy
  length-insert_entry [] k v rises = refl
  length-insert_entry (e ∷ es) k v rises = by (cmp k e.0) refl (length-insert_entry es k v rises.1)
    where
      by : (r : Ordering) → cmp k e.0 ≡ r → length (insert_entry cmp es k v) ≡ length es + cond (is_some (value_at cmp es k)) 0 1 → length (match_ordering r ((k, v) ∷ e ∷ es) ((e.0, v) ∷ es) (e ∷ insert_entry cmp es k v)) ≡ length (e ∷ es) + cond (is_some (cond (is_eq r) (Some e.1) (value_at cmp es k))) 0 1
      by Less p rest =
          let none : value_at cmp es k ≡ None = lookup-none (is_at (cmp k)) es (none_below_head order k e es rises p).1 in
          rw none (omega arith)
      by Equal p rest = omega arith
      by Greater p rest = omega arith

  grows : (es : List (K × S)) (k : K) (v : S) → length (insert_entry cmp es k v) ≤ suc (length es)
  grows [] k v = omega arith
  grows (e ∷ es) k v = by (cmp k e.0) (grows es k v)
    where
      by : (r : Ordering) → length (insert_entry cmp es k v) ≤ suc (length es) → length (match_ordering r ((k, v) ∷ e ∷ es) ((e.0, v) ∷ es) (e ∷ insert_entry cmp es k v)) ≤ suc (length (e ∷ es))
      by Less rest = omega arith
      by Equal rest = omega arith
      by Greater rest = omega arith

  pub length-put_over : (es later : List (K × S)) → length (put_over cmp es later) ≤ length es + length later
  length-put_over es [] = omega arith
  length-put_over es (e ∷ later) = let more = grows es e.0 e.1 in let rest = length-put_over (insert_entry cmp es e.0 e.1) later in omega arith

  -- ---- a write, where these entries are seen before it

  module _ (base overlay entries : List (K × S)) (k : K) (v : S) (seen : put_over cmp base overlay ≡ entries) where
    -- into the overlay
    pub seen_above : (after : List (K × S)) → IsStrictlySortedBy cmp (keys_of overlay) → after ≡ insert_entry cmp overlay k v → put_over cmp base after ≡ insert_entry cmp entries k v
    seen_above after rises e = ap (put_over cmp base) e ∙ put_over-above base overlay k v rises ∙ ap (λ (es : List (K × S)). insert_entry cmp es k v) seen

    -- into the base
    pub seen_below : (after : List (K × S)) → is_some (value_at cmp overlay k) ≡ false → after ≡ insert_entry cmp base k v → put_over cmp after overlay ≡ insert_entry cmp entries k v
    seen_below after absent e =
        let none : NonePasses (is_at (cmp k)) overlay = none_passes_from_lookup (is_at (cmp k)) overlay (none_is (value_at cmp overlay k) absent) in
        ap (λ (es : List (K × S)). put_over cmp es overlay) e ∙ put_over-below base overlay k v none ∙ ap (λ (es : List (K × S)). insert_entry cmp es k v) seen

    -- how many are seen after it
    pub counted_after : (len : ℕ) (after : List (K × S)) → IsStrictlySortedBy cmp (keys_of base) → len ≡ length entries + cond (is_some (value_at cmp entries k)) 0 1 → after ≡ insert_entry cmp entries k v → len ≡ length after
    counted_after len after rises count e =
        let rise : IsStrictlySortedBy cmp (keys_of entries) = subst (λ (es : List (K × S)). IsStrictlySortedBy cmp (keys_of es)) seen (put_over-rises base overlay rises) in
        count ∙ sym (length-insert_entry entries k v rise) ∙ ap length (sym e)
