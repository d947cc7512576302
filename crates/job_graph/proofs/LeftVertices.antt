-- The vertices that are left, and their names.
use Rattle.std.proofs.Common.{◌≡◌, ◌∙◌, ℕ, zero, suc, ◌+◌, ◌<◌, Bool, true, false, cond, not, ◌&&◌, eqb, List, [], ◌∷◌, ◌++◌, get_or, drop, slice_get, option_map, Option, Some, None, refl, sym, ap, arith, true≢false, append_assoc}
use Rattle.std.specs.List.{list_any}
use Rattle.std.proofs.lemmas.Bool.{lt-ltb}
use Rattle.std.proofs.lemmas.Option.{slice_get_within, get_or_from_slice_get}
use Rattle.job_spec.proofs.Faults.{drop_item}
use Rattle.job_spec.specs.declared.edge.EdgeSpec.{EdgeSpec}
use Rattle.job_spec.specs.Job.{Vertex}
use Rattle.job_graph.specs.Order.{AreLeft, IsAcyclic, at, rest}
use Rattle.job_graph.specs.Expansion.{names_at}

pub none_true : (xs : List Bool) → list_any (λ y. y) xs ≡ false → (v : ℕ) → get_or xs v false ≡ false
none_true [] h v = refl
none_true (true ∷ xs) h v = absurd (true≢false h)
none_true (false ∷ xs) h zero = refl
none_true (false ∷ xs) h (suc v) = none_true xs h v

pub acyclic_unless_left : (n : ℕ) (es : List EdgeSpec) (left : List Bool) → AreLeft n es (at left) → ((v : ℕ) → at left v ≡ false) → IsAcyclic n es
acyclic_unless_left n es left are none these vertices feed v = by (these v) refl
  where
    by : (b : Bool) → these v ≡ b → b ≡ false
    by true e = absurd (true≢false (sym (are.most these vertices feed v e) ∙ none v))
    by false e = refl

pub named_next : (these : ℕ → Bool) (vs : List Vertex) (i : ℕ) (name : List ℕ) → option_map (λ v. v.name) (slice_get vs i) ≡ Some name
    → names_at these i (drop i vs) ≡ cond (these i) (name ∷ names_at these (i + 1) (drop (i + 1) vs)) (names_at these (i + 1) (drop (i + 1) vs))
named_next these vs i name found = by (slice_get vs i) refl found
  where
    by : (o : Option Vertex) → slice_get vs i ≡ o → option_map (λ v. v.name) o ≡ Some name
        → names_at these i (drop i vs) ≡ cond (these i) (name ∷ names_at these (i + 1) (drop (i + 1) vs)) (names_at these (i + 1) (drop (i + 1) vs))
    by None e f = cc
    by (Some v) e f =
        let same : v.name ≡ name = cc in
        rw (drop_item vs i v (slice_get_within vs i v e) (sym (get_or_from_slice_get vs i v v e)), same) refl

pub kept_name : (done : List (List ℕ)) (these : ℕ → Bool) (vs : List Vertex) (i : ℕ) (name : List ℕ) (all : List (List ℕ)) → option_map (λ v. v.name) (slice_get vs i) ≡ Some name → these i ≡ true
    → done ++ names_at these i (drop i vs) ≡ all → (done ++ name ∷ []) ++ names_at these (i + 1) (drop (i + 1) vs) ≡ all
kept_name done these vs i name all found is h =
    append_assoc done (name ∷ []) _
    ∙ ap (λ l. done ++ l) (sym (named_next these vs i name found ∙ ap (λ b. cond b (name ∷ names_at these (i + 1) (drop (i + 1) vs)) (names_at these (i + 1) (drop (i + 1) vs))) is))
    ∙ h

skipped : (these : ℕ → Bool) (vs : List Vertex) (k i : ℕ) → these k ≡ false → names_at these k (drop i vs) ≡ names_at these (k + 1) (drop (i + 1) vs)
skipped these [] k zero isnt = refl
skipped these [] k (suc i) isnt =
    let one_more : suc i + 1 ≡ suc (i + 1) = omega arith in
    rw one_more refl
skipped these (v ∷ vs) k zero isnt = rw isnt refl
skipped these (v ∷ vs) k (suc i) isnt =
    let one_more : suc i + 1 ≡ suc (i + 1) = omega arith in
    rw one_more (skipped these vs k i isnt)

pub dropped_name : (done : List (List ℕ)) (these : ℕ → Bool) (vs : List Vertex) (i : ℕ) (all : List (List ℕ)) → these i ≡ false
    → done ++ names_at these i (drop i vs) ≡ all → done ++ names_at these (i + 1) (drop (i + 1) vs) ≡ all
dropped_name done these vs i all isnt h = ap (λ l. done ++ l) (sym (skipped these vs i i isnt)) ∙ h

taken_unless_left : (a b : Bool) → (a && not b) ≡ false → a ≡ true → b ≡ true
taken_unless_left true true h e = refl
taken_unless_left true false h e = sym h
taken_unless_left false b h e = absurd (true≢false (sym e))

pub all_taken : (n : ℕ) (left : List Bool) (order : List ℕ) → ((v : ℕ) → at left v ≡ rest n order v) → ((v : ℕ) → at left v ≡ false)
    → (v : ℕ) → v < n → list_any (λ u. eqb u v) order ≡ true
all_taken n left order apart none v within = taken_unless_left _ _ (sym (apart v) ∙ none v) (lt-ltb v n within)
