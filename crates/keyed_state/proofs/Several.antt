-- Several entries that are put into a map one after another: in which order, how they are undone, and how many there are.
use Rattle.std.proofs.Common.{◌≡◌, ℕ, ◌+◌, ◌≤◌, Bool, true, false, not, cond, Option, Some, None, List, [], ◌∷◌, ◌++◌, length, filter, count_by, Ordering, refl, sym, ap, ◌∙◌, arith}
use Rattle.std.specs.Prelude.{IsTrue, is_some, unwrap_or, Result, Ok, Err, OnOk}
use Rattle.std.specs.Option.{option_or}
use Rattle.std.specs.BTreeMap.{insert_entry, is_at}
use Rattle.std.specs.Cmp.{IsTotalOrder, eq_by_cmp_equiv}
use Rattle.std.specs.List.{AllByRecursion}
use Rattle.std.specs.List.Sorted.{IsStrictlySortedBy}
use Rattle.std.specs.Map.{keys_of, lookup, remove_entry, set_value}
use Rattle.std.specs.Ordering.{match_ordering, is_eq}
use Rattle.std.specs.Vec.Iter.{into_iter_items, into_iter_steps}
use Rattle.std.specs.declared.cmp.Ordering.TheVariants.{Less, Equal, Greater}
use Rattle.std.specs.declared.vec.IntoIter.{IntoIter}
use Rattle.std.proofs.Common.{subst}
use Rattle.std.proofs.lemmas.Bool.{false≢true}
use Rattle.std.proofs.lemmas.List.Sums.{length-filter}
use Rattle.std.proofs.lemmas.Map.{lookup-none}
use Rattle.std.proofs.lemmas.Map.Entries.{none_below_head}
use Rattle.abs_codec.specs.Entries.{value_at}
use Rattle.keyed_state.specs.Overlay.{put_over}
use Rattle.keyed_state.specs.Putting.{has_key, with_former, undone}
use Rattle.keyed_state.proofs.Laid.{shadowed, put_over-above, value_at-insert_entry, value_at-put_over, insert_entry-rises, length-insert_entry}

-- an item that was taken stood first
pub taken_first : {X Z : Type 0} (before after : IntoIter X Z) (taken : Option X) (x : X) → taken ≡ Some x → into_iter_steps before taken after → into_iter_items before ≡ x ∷ into_iter_items after
taken_first before after taken x is steps = (subst (λ o. into_iter_steps before o after) is steps).0

module _ {S : Type 0} where
  shadowed_or : (first second : Option S) → shadowed first second ≡ option_or first second
  shadowed_or None second = refl
  shadowed_or (Some v) second = refl

module _ {K S : Type 0} where
  -- a state that is replaced, and put back
  set_back : (test : K → Bool) (es : List (K × S)) (former state : S) → lookup test es ≡ Some former → set_value test (set_value test es state) former ≡ es
  set_back test [] former state found = refl
  set_back test (e ∷ es) former state found = by (test e.0) refl found (set_back test es former state)
    where
      by : (b : Bool) → test e.0 ≡ b → cond b (Some e.1) (lookup test es) ≡ Some former → (lookup test es ≡ Some former → set_value test (set_value test es state) former ≡ es)
          → set_value test (cond b ((e.0, state) ∷ es) (e ∷ set_value test es state)) former ≡ e ∷ es
      by true p seen rest =
          ap (λ (b : Bool). cond b ((e.0, former) ∷ es) ((e.0, state) ∷ set_value test es former)) p ∙ ap (λ (o : Option S). (e.0, unwrap_or o former) ∷ es) (sym seen)
      by false p seen rest =
          ap (λ (b : Bool). cond b ((e.0, former) ∷ set_value test es state) (e ∷ set_value test (set_value test es state) former)) p ∙ ap (λ (l : List (K × S)). e ∷ l) (rest seen)

  -- a state that is replaced by itself
  pub same_set : (test : K → Bool) (es : List (K × S)) (state : S) → lookup test es ≡ Some state → set_value test es state ≡ es
  same_set test [] state found = refl
  same_set test (e ∷ es) state found = by (test e.0) found (same_set test es state)
    where
      by : (b : Bool) → cond b (Some e.1) (lookup test es) ≡ Some state → (lookup test es ≡ Some state → set_value test es state ≡ es) → cond b ((e.0, state) ∷ es) (e ∷ set_value test es state) ≡ e ∷ es
      by true seen rest = ap (λ (o : Option S). (e.0, unwrap_or o state) ∷ es) (sym seen)
      by false seen rest = ap (λ (l : List (K × S)). e ∷ l) (rest seen)

  -- there is no state to replace
  pub none_set : (test : K → Bool) (es : List (K × S)) (state : S) → lookup test es ≡ None → set_value test es state ≡ es
  none_set test [] state none = refl
  none_set test (e ∷ es) state none = by (test e.0) none (none_set test es state)
    where
      by : (b : Bool) → cond b (Some e.1) (lookup test es) ≡ None → (lookup test es ≡ None → set_value test es state ≡ es) → cond b ((e.0, state) ∷ es) (e ∷ set_value test es state) ≡ e ∷ es
      by true found rest = absurd (false≢true (sym (ap is_some found)))
      by false found rest = ap (λ (l : List (K × S)). e ∷ l) (rest found)

module _ {K S : Type 0} {cmp : K → K → Ordering} (order : IsTotalOrder cmp) where
  -- ---- undone

  -- a new entry, taken out again
  new_out : (es : List (K × S)) (k : K) (v : S) → value_at cmp es k ≡ None → remove_entry (is_at (cmp k)) (insert_entry cmp es k v) ≡ es
  new_out [] k v none = ap (λ (b : Bool). cond b [] ((k, v) ∷ [])) ((eq_by_cmp_equiv order).refl k)
  new_out (e ∷ es) k v none = by (cmp k e.0) refl (new_out es k v)
    where
      by : (r : Ordering) → cmp k e.0 ≡ r → (value_at cmp es k ≡ None → remove_entry (is_at (cmp k)) (insert_entry cmp es k v) ≡ es) → remove_entry (is_at (cmp k)) (match_ordering r ((k, v) ∷ e ∷ es) ((e.0, v) ∷ es) (e ∷ insert_entry cmp es k v)) ≡ e ∷ es
      by Less p rest = ap (λ (b : Bool). cond b (e ∷ es) ((k, v) ∷ remove_entry (is_at (cmp k)) (e ∷ es))) ((eq_by_cmp_equiv order).refl k)
      by Equal p rest = let found : Some e.1 ≡ None = sym (ap (λ (r : Ordering). cond (is_eq r) (Some e.1) (value_at cmp es k)) p) ∙ none in absurd cc
      by Greater p rest =
          let under : value_at cmp es k ≡ None = sym (ap (λ (r : Ordering). cond (is_eq r) (Some e.1) (value_at cmp es k)) p) ∙ none in
          ap (λ (r : Ordering). cond (is_eq r) (insert_entry cmp es k v) (e ∷ remove_entry (is_at (cmp k)) (insert_entry cmp es k v))) p ∙ ap (λ (l : List (K × S)). e ∷ l) (rest under)

  -- a state that is replaced is put
  pub set_out : (es : List (K × S)) (k : K) (former state : S) → IsStrictlySortedBy cmp (keys_of es) → value_at cmp es k ≡ Some former → set_value (is_at (cmp k)) es state ≡ insert_entry cmp es k state
  unfolding IsStrictlySortedBy
  set_out [] k former state rises found = absurd (false≢true (ap is_some found))
  set_out (e ∷ es) k former state rises found = by (cmp k e.0) refl found (set_out es k former state rises.1)
    where
      by : (r : Ordering) → cmp k e.0 ≡ r → cond (is_eq r) (Some e.1) (value_at cmp es k) ≡ Some former → (value_at cmp es k ≡ Some former → set_value (is_at (cmp k)) es state ≡ insert_entry cmp es k state)
          → cond (is_eq r) ((e.0, state) ∷ es) (e ∷ set_value (is_at (cmp k)) es state) ≡ match_ordering r ((k, state) ∷ e ∷ es) ((e.0, state) ∷ es) (e ∷ insert_entry cmp es k state)
      by Less p seen rest =
          let none : value_at cmp es k ≡ None = lookup-none (is_at (cmp k)) es (none_below_head order k e es rises p).1 in
          absurd (false≢true (ap is_some (sym none ∙ seen)))
      by Equal p seen rest = refl
      by Greater p seen rest = ap (λ (l : List (K × S)). e ∷ l) (rest seen)

  -- one that is put is undone
  former_back : (es : List (K × S)) (k : K) (v : S) → IsStrictlySortedBy cmp (keys_of es) → with_former cmp (insert_entry cmp es k v) k (value_at cmp es k) ≡ es
  former_back es k v rises = by (value_at cmp es k) refl
    where
      by : (former : Option S) → value_at cmp es k ≡ former → with_former cmp (insert_entry cmp es k v) k former ≡ es
      by None p = new_out es k v p
      by (Some former) p = ap (λ (l : List (K × S)). set_value (is_at (cmp k)) l former) (sym (set_out es k former v rises p)) ∙ set_back (is_at (cmp k)) es former v p

  -- the state that was there is set again, at a key whose state was replaced, if a state is set there at all
  pub swapped_back : (es after last : List (K × S)) (k : K) (v former : S) (found : Bool) (There More : Type 0) → IsStrictlySortedBy cmp (keys_of es) → value_at cmp es k ≡ Some former → after ≡ insert_entry cmp es k v
      → (IsTrue found → There × (last ≡ set_value (is_at (cmp k)) after former)) → (found ≡ false → (value_at cmp after k ≡ None) × (last ≡ after) × More) → last ≡ es
  swapped_back es after last k v former found There More rises was put there none = by found there none
    where
      same : set_value (is_at (cmp k)) after former ≡ es
      same = ap (λ (l : List (K × S)). set_value (is_at (cmp k)) l former) put ∙ ap (with_former cmp (insert_entry cmp es k v) k) (sym was) ∙ former_back es k v rises

      by : (b : Bool) → (IsTrue b → There × (last ≡ set_value (is_at (cmp k)) after former)) → (b ≡ false → (value_at cmp after k ≡ None) × (last ≡ after) × More) → last ≡ es
      by true there none = (there refl).1 ∙ same
      by false there none =
          let left = none refl in
          left.1 ∙ sym (none_set (is_at (cmp k)) after former left.0) ∙ same

  -- and whoever set it has his own again
  pub handed_back : (es after : List (K × S)) (k : K) (v own : S) (found : Bool) (Last Stays More : Type 0) → after ≡ insert_entry cmp es k v → (IsTrue found → (value_at cmp after k ≡ Some own) × Last) → (found ≡ false → (value_at cmp after k ≡ None) × Stays × More) → own ≡ v
  handed_back es after k v own found Last Stays More put there none = by found there none
    where
      seen : value_at cmp after k ≡ Some v
      seen = ap (λ (l : List (K × S)). value_at cmp l k) put ∙ value_at-insert_entry order es k v k ∙ ap (λ (b : Bool). cond b (Some v) (value_at cmp es k)) ((eq_by_cmp_equiv order).refl k)

      by : (b : Bool) → (IsTrue b → (value_at cmp after k ≡ Some own) × Last) → (b ≡ false → (value_at cmp after k ≡ None) × Stays × More) → own ≡ v
      by true there none = ap (λ (o : Option S). unwrap_or o own) (sym (there refl).0 ∙ seen)
      by false there none = absurd (false≢true (ap is_some (sym (none refl).0 ∙ seen)))

  undone-push : (notes : List (K × Option S)) (note : K × Option S) (es : List (K × S)) → undone cmp (notes ++ note ∷ []) es ≡ undone cmp notes (with_former cmp es note.0 note.1)
  undone-push [] note es = refl
  undone-push (first ∷ notes) note es = ap (λ (l : List (K × S)). with_former cmp l first.0 first.1) (undone-push notes note es)

  -- one that is put and noted is undone first
  pub noted_undone : (notes more : List (K × Option S)) (es after : List (K × S)) (k : K) (v : S) (former : Option S) → IsStrictlySortedBy cmp (keys_of es) → value_at cmp es k ≡ former → more ≡ notes ++ (k, former) ∷ [] → after ≡ insert_entry cmp es k v → undone cmp more after ≡ undone cmp notes es
  noted_undone notes more es after k v former rises was noted put =
      ap (λ (ns : List (K × Option S)). undone cmp ns after) noted ∙ ap (undone cmp (notes ++ (k, former) ∷ [])) put ∙ undone-push notes (k, former) (insert_entry cmp es k v)
      ∙ ap (undone cmp notes) (ap (with_former cmp (insert_entry cmp es k v) k) (sym was) ∙ former_back es k v rises)

  -- the last is undone, and then the others
  pub last_undone : (notes rest : List (K × Option S)) (es after whole : List (K × S)) (note : K × Option S) → notes ≡ rest ++ note ∷ [] → after ≡ with_former cmp es note.0 note.1 → undone cmp notes es ≡ whole → undone cmp rest after ≡ whole
  last_undone notes rest es after whole note last out back = ap (undone cmp rest) out ∙ sym (undone-push rest note es) ∙ ap (λ (ns : List (K × Option S)). undone cmp ns es) (sym last) ∙ back

  -- ---- keys that are there, and others

  still : (es0 es : List (K × S)) (e : K × S) (entries : List (K × S)) → AllByRecursion (λ q. cmp e.0 q ≡ Less) (keys_of entries) → AllByRecursion (λ x. value_at cmp es x.0 ≡ value_at cmp es0 x.0) entries
      → AllByRecursion (λ x. value_at cmp (insert_entry cmp es e.0 e.1) x.0 ≡ value_at cmp es0 x.0) entries
  still es0 es e [] above same = tt
  still es0 es e (x ∷ xs) above same =
      (value_at-insert_entry order es e.0 e.1 x.0 ∙ ap (λ (r : Ordering). cond (is_eq r) (Some e.1) (value_at cmp es x.0)) above.0 ∙ same.0, still es0 es e xs above.1 same.1)

  all_same : (es entries : List (K × S)) → AllByRecursion (λ x. value_at cmp es x.0 ≡ value_at cmp es x.0) entries
  all_same es [] = tt
  all_same es (x ∷ xs) = (refl, all_same es xs)

  -- ---- in which order they are put

  above_all : (es later more : List (K × S)) → IsStrictlySortedBy cmp (keys_of later) → put_over cmp es (put_over cmp later more) ≡ put_over cmp (put_over cmp es later) more
  above_all es later [] rises = refl
  above_all es later (e ∷ more) rises =
      above_all es (insert_entry cmp later e.0 e.1) more (insert_entry-rises order later e.0 e.1 rises) ∙ ap (λ (l : List (K × S)). put_over cmp l more) (put_over-above order es later e.0 e.1 rises)

  -- into the overlay alone
  pub all_above : (base overlay entries after seen : List (K × S)) → IsStrictlySortedBy cmp (keys_of overlay) → after ≡ put_over cmp overlay entries → put_over cmp base overlay ≡ seen → put_over cmp base after ≡ put_over cmp seen entries
  all_above base overlay entries after seen rises put is = ap (put_over cmp base) put ∙ above_all base overlay entries rises ∙ ap (λ (l : List (K × S)). put_over cmp l entries) is

  -- ---- the value at a key

  pub value_at-all : (es entries after : List (K × S)) (q : K) → IsStrictlySortedBy cmp (keys_of entries) → after ≡ put_over cmp es entries → value_at cmp after q ≡ option_or (value_at cmp entries q) (value_at cmp es q)
  value_at-all es entries after q rises put = ap (λ (l : List (K × S)). value_at cmp l q) put ∙ value_at-put_over order es entries q rises ∙ shadowed_or (value_at cmp entries q) (value_at cmp es q)

  -- where they were put, and memory was not refused
  pub states_put : {F : Type 0} (result : Result (Unit {0}) F) (es entries after : List (K × S)) → IsStrictlySortedBy cmp (keys_of entries) → OnOk result (after ≡ put_over cmp es entries)
      → OnOk result ((q : K) → value_at cmp after q ≡ option_or (value_at cmp entries q) (value_at cmp es q))
  states_put (Ok u) es entries after rises put = λ q. value_at-all es entries after q rises put
  states_put (Err f) es entries after rises put = tt

  -- ---- how many there are

  pub no_fewer : (es later : List (K × S)) → IsStrictlySortedBy cmp (keys_of es) → length es ≤ length (put_over cmp es later)
  no_fewer es [] rises = omega arith
  no_fewer es (e ∷ later) rises =
      let rest = no_fewer (insert_entry cmp es e.0 e.1) later (insert_entry-rises order es e.0 e.1 rises) in
      let one = length-insert_entry order es e.0 e.1 rises in
      omega arith

  counted_from : (es0 es entries : List (K × S)) → IsStrictlySortedBy cmp (keys_of es) → IsStrictlySortedBy cmp (keys_of entries) → AllByRecursion (λ x. value_at cmp es x.0 ≡ value_at cmp es0 x.0) entries
      → length (put_over cmp es entries) ≡ length es + length (filter (λ e. not (has_key cmp es0 e)) entries)
  unfolding IsStrictlySortedBy
  counted_from es0 es [] rise rises same = omega arith
  counted_from es0 es (e ∷ entries) rise rises same =
      counted_from es0 (insert_entry cmp es e.0 e.1) entries (insert_entry-rises order es e.0 e.1 rise) rises.1 (still es0 es e entries rises.0 same.1)
      ∙ ap (λ (n : ℕ). n + length (filter (λ (x : K × S). not (has_key cmp es0 x)) entries)) (length-insert_entry order es e.0 e.1 rise ∙ ap (λ (found : Option S). length es + cond (is_some found) 0 1) same.0)
      ∙ by (has_key cmp es0 e)
    where
      by : (b : Bool) → length es + cond b 0 1 + length (filter (λ x. not (has_key cmp es0 x)) entries) ≡ length es + length (cond (not b) (e ∷ filter (λ x. not (has_key cmp es0 x)) entries) (filter (λ x. not (has_key cmp es0 x)) entries))
      by true = omega arith
      by false = omega arith

  pub counted_so : (seen entries after : List (K × S)) (len : ℕ) → IsStrictlySortedBy cmp (keys_of seen) → IsStrictlySortedBy cmp (keys_of entries) → len ≡ length seen + count_by (λ e. not (has_key cmp seen e)) entries → after ≡ put_over cmp seen entries → len ≡ length after
  counted_so seen entries after len rise rises many put =
      many ∙ ap (λ (n : ℕ). length seen + n) (sym (length-filter (λ e. not (has_key cmp seen e)) entries)) ∙ sym (counted_from seen seen entries rise rises (all_same seen entries)) ∙ sym (ap length put)
