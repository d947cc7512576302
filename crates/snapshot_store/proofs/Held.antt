-- What the parts of a store in memory are, as a map and as a list.
use Rattle.std.proofs.Common.{◌≡◌, ℕ, Bool, true, false, cond, List, [], ◌∷◌, length, get_or, Option, None, Some, Result, Ok, Err, IfOk, IfErr, refl, sym, ap, subst, ◌∙◌, arith}
use Rattle.std.specs.Prelude.{filter, is_some, slice_get}
use Rattle.std.specs.Option.{option_map}
use Rattle.std.specs.Result.{is_ok}
use Rattle.std.specs.List.{insert, list_any}
use Rattle.std.specs.List.Sorted.{IsStrictlySortedBy, IsBinarySearchResult, IsSearchInRange}
use Rattle.std.specs.Map.{keys_of, lookup}
use Rattle.std.specs.BTreeMap.{is_at}
use Rattle.std.specs.Ordering.{is_eq, eq_by_cmp, nat_cmp, ordering_then}
use Rattle.std.specs.Cmp.{IsTotalOrder, eq_by_cmp_equiv}
use Rattle.std.specs.declared.cmp.Ordering.{Ordering}
use Rattle.std.specs.declared.cmp.Ordering.TheVariants.{Less, Equal, Greater}
use Rattle.std.specs.FinMap as fin
use Rattle.std.specs.FinMap.Entries.{by_order}
use Rattle.std.specs.FinSet as set
use Rattle.std.proofs.lemmas.Cmp.{tied_itself}
use Rattle.std.proofs.lemmas.List.Kept.{IsStrictlySortedBy-filter}
use Rattle.std.proofs.lemmas.Map.Entries.{lookup_from_place, lookup-filter-keys}
use Rattle.std.proofs.lemmas.Map.Keys.{IsDistinct-from_sorted, any_passes_from_place}
use Rattle.std.proofs.lemmas.Map.Made.{is_some-lookup}
use Rattle.std.proofs.lemmas.Option.{slice_get-get_or, slice_get-map}
use Rattle.snapshot_store.specs.Store.{key_cmp}
use Rattle.snapshot_store.specs.StoreLaws.{key_cmp_total}
use Rattle.snapshot_store.specs.Placed.{Fits}
use Rattle.snapshot_store.specs.Memory.{parts_of}
use Rattle.snapshot_store.proofs.Placed.{answers_rise, fits, fits_keys, insert_put, keys_insert, not_there, sorted_insert}

abbrev pub Entries : Type 0
Entries = List ((ℕ × ℕ) × List ℕ)

abbrev pub key_of : (ℕ × ℕ) × List ℕ → ℕ × ℕ
key_of e = e.0

pub is_equal : (r : Ordering) → is_eq r ≡ true → r ≡ Equal
is_equal Less e = absurd (cc e)
is_equal Equal e = refl
is_equal Greater e = absurd (cc e)

then_equal : (r s : Ordering) → ordering_then r s ≡ Equal → (r ≡ Equal) × (s ≡ Equal)
then_equal Less s e = absurd (cc e)
then_equal Equal s e = (refl, e)
then_equal Greater s e = absurd (cc e)

pub key_same : (a b : ℕ × ℕ) → key_cmp a b ≡ Equal → a ≡ b
key_same a b e =
    let both : (nat_cmp a.0 b.0 ≡ Equal) × (nat_cmp a.1 b.1 ≡ Equal) = then_equal (nat_cmp a.0 b.0) (nat_cmp a.1 b.1) e in
    λ i. (set.nat_cmp-IsAntisymmetric a.0 b.0 both.0 i, set.nat_cmp-IsAntisymmetric a.1 b.1 both.1 i)

find-lookup : (es : Entries) (q : ℕ × ℕ) → fin.find key_cmp q es ≡ lookup (is_at (key_cmp q)) es
find-lookup [] q = refl
find-lookup (e ∷ es) q =
    elim (is_eq (key_cmp q e.0)) as (λ b. cond b (Some e.1) (fin.find key_cmp q es) ≡ cond b (Some e.1) (lookup (is_at (key_cmp q)) es)) [
      | true ↦ refl
      | false ↦ find-lookup es q
    ]

-- the part under a key is what stands under it
pub get-parts_of : (es : Entries) (q : ℕ × ℕ) → fin.get (parts_of es) q ≡ lookup (is_at (key_cmp q)) es
get-parts_of es q = fin.get-from_entries key_cmp_total es q ∙ find-lookup es q

no_length : {A : Type 0} (es : List A) → length es ≡ 0 → es ≡ []
no_length [] e = refl
no_length (x ∷ es) e = absurd (omega arith)

module _ {K X : Type 0} {R : K → K → Ordering} (o : IsTotalOrder R) where
  no_entries : fin.entries (fin.empty {X = X} {R = R}) ≡ []
  no_entries = no_length (fin.entries fin.empty) (sym (fin.len-entries fin.empty) ∙ fin.len-empty R X)

  put_first : (k : K) (v : X) (es : List (K × X)) → IsStrictlySortedBy R (k ∷ keys_of es) → fin.put R k v es ≡ (k, v) ∷ es
  unfolding IsStrictlySortedBy
  put_first k v [] s = refl
  put_first k v (e ∷ es) s = ap (λ r. by_order r ((k, v) ∷ e ∷ es) ((e.0, v) ∷ es) (e ∷ fin.put R k v es)) s.0.0

  -- a map that was made of a rising list is that list
  pub entries-from_entries : (es : List (K × X)) → IsStrictlySortedBy R (keys_of es) → fin.entries (fin.from_entries {R = R} es) ≡ es
  unfolding IsStrictlySortedBy
  entries-from_entries [] s = no_entries
  entries-from_entries (e ∷ es) s = fin.entries-insert o (fin.from_entries es) e.0 e.1 ∙ ap (fin.put R e.0 e.1) (entries-from_entries es s.1) ∙ put_first e.0 e.1 es s

module _ (es : Entries) (k : ℕ × ℕ) (s : IsStrictlySortedBy key_cmp (keys_of es)) where
  -- a key that is found stands where the search ends
  pub found_at : (r : Result ℕ ℕ) → IsSearchInRange r (length es) → IsBinarySearchResult (λ (e : (ℕ × ℕ) × List ℕ). key_cmp e.0 k) es r → IfOk r (λ place. slice_get (keys_of es) place ≡ Some k)
  found_at (Ok place) within found =
      let d : (ℕ × ℕ) × List ℕ = ((0, 0), []) in
      slice_get-map key_of es place ∙ ap (option_map key_of) (slice_get-get_or es place d within) ∙ ap Some (key_same (get_or es place d).0 k (found d))
  found_at (Err place) within parted = tt

  -- and one that is not found fits there
  pub fits_at : (r : Result ℕ ℕ) → IsSearchInRange r (length es) → IsBinarySearchResult (λ (e : (ℕ × ℕ) × List ℕ). key_cmp e.0 k) es r → IfErr r (λ place. Fits key_cmp key_of k es place)
  fits_at (Ok place) within found = tt
  fits_at (Err place) within parted = fits key_cmp_total key_of k es place within (parted (answers_rise key_cmp_total key_of k es s))

  has : is_some (fin.get (parts_of es) k) ≡ list_any (eq_by_cmp key_cmp k) (keys_of es)
  has = ap is_some (get-parts_of es k) ∙ is_some-lookup (is_at (key_cmp k)) es

  has_at : (place : ℕ) → slice_get (keys_of es) place ≡ Some k → is_some (fin.get (parts_of es) k) ≡ true
  has_at place there = has ∙ any_passes_from_place (eq_by_cmp key_cmp k) (keys_of es) place k there (ap is_eq (tied_itself key_cmp_total k))

  pub there_at : (place : ℕ) → slice_get (keys_of es) place ≡ Some k → fin.get (parts_of es) k ≡ None → ⊥
  there_at place there none = cc (sym (has_at place there) ∙ ap is_some none)

  lacks : (place : ℕ) → Fits key_cmp key_of k es place → is_some (fin.get (parts_of es) k) ≡ false
  lacks place f = has ∙ not_there key_cmp_total (keys_of es) place k (fits_keys key_cmp_total es place k f) s

  -- a search tells whether a part is there
  pub tells : (r : Result ℕ ℕ) → IfOk r (λ place. slice_get (keys_of es) place ≡ Some k) → IfErr r (λ place. Fits key_cmp key_of k es place) → is_ok r ≡ is_some (fin.get (parts_of es) k)
  tells (Ok place) found absent = sym (has_at place found)
  tells (Err place) found absent = sym (lacks place absent)

  pub none_at : (place : ℕ) → Fits key_cmp key_of k es place → None ≡ fin.get (parts_of es) k
  none_at place f = one (fin.get (parts_of es) k) (lacks place f)
    where
      one : (v : Option (List ℕ)) → is_some v ≡ false → None ≡ v
      one None e = refl
      one (Some v) e = absurd (cc e)

  -- the part that stands where the key was found is the part of the key
  get_at : (place : ℕ) (v : List ℕ) → slice_get es place ≡ Some (k, v) → Some v ≡ fin.get (parts_of es) k
  get_at place v is = sym (get-parts_of es k ∙ lookup_from_place (eq_by_cmp_equiv key_cmp_total) es place k v (IsDistinct-from_sorted key_cmp (keys_of es) s) is)

  pub get_found : (place : ℕ) (e : (ℕ × ℕ) × List ℕ) → slice_get es place ≡ Some e → slice_get (keys_of es) place ≡ Some k → Some e.1 ≡ fin.get (parts_of es) k
  get_found place e is there =
      let both : Some e.0 ≡ Some k = sym (slice_get-map key_of es place ∙ ap (option_map key_of) is) ∙ there in
      let same : e.0 ≡ k = cc in
      get_at place e.1 (is ∙ ap (λ (q : ℕ × ℕ). Some (q, e.1)) same)

  pub listed : (i : ℕ) → slice_get (fin.entries (parts_of es)) i ≡ slice_get es i
  listed i = ap (λ xs. slice_get xs i) (entries-from_entries key_cmp_total es s)

  -- the list with one more part, at its place
  pub sorted_put : (place : ℕ) (v : List ℕ) → Fits key_cmp key_of k es place → IsStrictlySortedBy key_cmp (keys_of (insert es place (k, v)))
  sorted_put place v f = subst (IsStrictlySortedBy key_cmp) (sym (keys_insert key_cmp_total es place k v)) (sorted_insert key_cmp_total (keys_of es) place k (fits_keys key_cmp_total es place k f) s)

  pub parts_put : (place : ℕ) (v : List ℕ) → Fits key_cmp key_of k es place → parts_of (insert es place (k, v)) ≡ fin.insert (parts_of es) k v
  parts_put place v f = fin.same_entries_map (parts_of (insert es place (k, v))) (fin.insert (parts_of es) k v)
      (entries-from_entries key_cmp_total (insert es place (k, v)) (sorted_put place v f) ∙ insert_put key_cmp_total es place k v f
      ∙ ap (fin.put key_cmp k v) (sym (entries-from_entries key_cmp_total es s)) ∙ sym (fin.entries-insert key_cmp_total (parts_of es) k v))

-- to keep the parts whose keys pass a test
pub parts_of-filter : (es : Entries) (p : ℕ × ℕ → Bool) → parts_of (filter (λ (e : (ℕ × ℕ) × List ℕ). p e.0) es) ≡ fin.retain_keys (parts_of es) p
parts_of-filter es p = fin.same_map key_cmp_total key_same (parts_of (filter (λ (e : (ℕ × ℕ) × List ℕ). p e.0) es)) (fin.retain_keys (parts_of es) p) (λ q.
    get-parts_of (filter (λ (e : (ℕ × ℕ) × List ℕ). p e.0) es) q
    ∙ lookup-filter-keys (is_at (key_cmp q)) p (p q) (λ k t. ap p (sym (key_same q k (is_equal (key_cmp q k) t)))) es
    ∙ ap (λ o. cond (p q) o None) (sym (get-parts_of es q))
    ∙ sym (fin.get-retain_keys (parts_of es) p q (λ x t. ap p (sym (key_same q x t)))))

keys-filter : (p : ℕ × ℕ → Bool) (es : Entries) → keys_of (filter (λ (e : (ℕ × ℕ) × List ℕ). p e.0) es) ≡ filter p (keys_of es)
keys-filter p [] = refl
keys-filter p (e ∷ es) = elim (p e.0) as (λ b. keys_of (cond b (e ∷ filter (λ (x : (ℕ × ℕ) × List ℕ). p x.0) es) (filter (λ (x : (ℕ × ℕ) × List ℕ). p x.0) es)) ≡ cond b (e.0 ∷ filter p (keys_of es)) (filter p (keys_of es))) [
  | true ↦ ap (λ (ks : List (ℕ × ℕ)). e.0 ∷ ks) (keys-filter p es)
  | false ↦ keys-filter p es
]

pub sorted-filter : (p : ℕ × ℕ → Bool) (es : Entries) → IsStrictlySortedBy key_cmp (keys_of es) → IsStrictlySortedBy key_cmp (keys_of (filter (λ (e : (ℕ × ℕ) × List ℕ). p e.0) es))
sorted-filter p es s = subst (IsStrictlySortedBy key_cmp) (sym (keys-filter p es)) (IsStrictlySortedBy-filter key_cmp p (keys_of es) s)
