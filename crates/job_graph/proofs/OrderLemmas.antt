-- Taking vertices one after another.
use Rattle.std.proofs.Common.{◌≡◌, ◌≢◌, ◌∙◌, ℕ, ◌<◌, Bool, true, false, not, ◌&&◌, ◌||◌, eqb, ltb, List, [], ◌∷◌, ◌++◌, length, refl, sym, ap, arith, true≢false, ⊎_elim}
use Rattle.std.proofs.lemmas.List.{take-append-le, get_or-set_same, get_or-set_other, get_or_past}
use Rattle.std.proofs.lemmas.Bool.{eqb-true, eqb-false, cases_lt}
use Rattle.std.proofs.Math.Seq.{take-append_seam, get_or-append_seam}
use Rattle.std.proofs.Math.ListN.{get_or-append, length-append}
use Rattle.std.proofs.lemmas.List.Folds.{list_any-append}
use Rattle.std.proofs.Math.ListN.{set}
use Rattle.std.specs.List.{list_any}
use Rattle.job_spec.specs.declared.edge.EdgeSpec.{EdgeSpec}
use Rattle.job_graph.specs.Order.{has_input_from, AreVertices, FeedEachOther, AreLeft, at, is_ready, rest, IsNext, IsInOrder}

either_more : (a b c d : Bool) → (a ≡ true → c ≡ true) → (b ≡ true → d ≡ true) → (a || b) ≡ true → (c || d) ≡ true
either_more true b c d f g h = ap (λ x. x || d) (f refl)
either_more false b true d f g h = refl
either_more false b false d f g h = g h

both_more : (a b c : Bool) → (b ≡ true → c ≡ true) → (a && b) ≡ true → (a && c) ≡ true
both_more true b c f h = f h
both_more false b c f h = h

pub first_of_both : (a b : Bool) → (a && b) ≡ true → a ≡ true
first_of_both true b h = refl
first_of_both false b h = h

second_of_both : (a b : Bool) → (a && b) ≡ true → b ≡ true
second_of_both true b h = h
second_of_both false b h = absurd (true≢false (sym h))

from_not : (a : Bool) → not a ≡ true → a ≡ false
from_not true h = sym h
from_not false h = refl

fed_unless_ready : (a b : Bool) → (a && not b) ≡ false → a ≡ true → b ≡ true
fed_unless_ready true true h e = refl
fed_unless_ready true false h e = sym h
fed_unless_ready false b h e = absurd (true≢false (sym e))

or_true : (x : Bool) → (x || (true || false)) ≡ true
or_true true = refl
or_true false = refl

or_false : (x : Bool) → (x || (false || false)) ≡ x
or_false true = refl
or_false false = refl

and_false : (x : Bool) → (x && not true) ≡ false
and_false true = refl
and_false false = refl

pub has_input_from-same : (es : List EdgeSpec) (f g : ℕ → Bool) → ((u : ℕ) → f u ≡ g u) → (v : ℕ) → has_input_from es f v ≡ has_input_from es g v
has_input_from-same [] f g same v = refl
has_input_from-same (e ∷ es) f g same v = rw (same e.from, has_input_from-same es f g same v) refl

pub has_input_from-more : (es : List EdgeSpec) (f g : ℕ → Bool) → ((u : ℕ) → f u ≡ true → g u ≡ true) → (v : ℕ) → has_input_from es f v ≡ true → has_input_from es g v ≡ true
has_input_from-more [] f g more v h = h
has_input_from-more (e ∷ es) f g more v h =
    either_more _ _ _ _
    (both_more (not e.back) _ _ (both_more (eqb e.to v) _ _ (more e.from)))
    (has_input_from-more es f g more v) h

pub is_ready-same : (es : List EdgeSpec) (f g : ℕ → Bool) → ((u : ℕ) → f u ≡ g u) → (v : ℕ) → is_ready es f v ≡ is_ready es g v
is_ready-same es f g same v = rw (same v, has_input_from-same es f g same v) refl

-- ---- one vertex is taken

pub apart_more : (n : ℕ) (left : List Bool) (taken : List ℕ) (v : ℕ) → v < length left → ((u : ℕ) → at left u ≡ rest n taken u)
    → (u : ℕ) → at (set left v false) u ≡ rest n (taken ++ v ∷ []) u
apart_more n left taken v within apart u = rw (list_any-append (λ w. eqb w u) taken (v ∷ [])) (by (eqb v u) refl)
  where
    by : (b : Bool) → eqb v u ≡ b → at (set left v false) u ≡ (ltb u n && not (list_any (λ w. eqb w u) taken || (b || false)))
    by true e = rw (← eqb-true v u e, get_or-set_same left v false false within, or_true, and_false) refl
    by false e = get_or-set_other left v u false false (λ same. eqb-false v u e (sym same)) ∙ apart u ∙ rw or_false refl

pub most_more : (n : ℕ) (es : List EdgeSpec) (left : List Bool) (v : ℕ) → v < length left → is_ready es (at left) v ≡ true
    → ((these : ℕ → Bool) → AreVertices n these → FeedEachOther es these → (u : ℕ) → these u ≡ true → at left u ≡ true)
    → (these : ℕ → Bool) → AreVertices n these → FeedEachOther es these → (u : ℕ) → these u ≡ true → at (set left v false) u ≡ true
most_more n es left v within ready most these vertices feed u in_these =
    let more = most these vertices feed in
    let unfed = from_not _ (second_of_both (at left v) _ ready) in
    let other : u ≢ v = λ same. absurd (true≢false (sym (has_input_from-more es these (at left) more v (feed v (rw (← same) in_these))) ∙ unfed)) in
    rw (get_or-set_other left v u false false other) (more u in_these)

pub order_more : (n : ℕ) (es : List EdgeSpec) (order : List ℕ) (v : ℕ) → IsNext n es order v → IsInOrder n es order → IsInOrder n es (order ++ v ∷ [])
order_more n es order v next before k within = ⊎_elim
    (λ lt. rw (take-append-le k order (v ∷ []) (omega arith), get_or-append order (v ∷ []) 0 k lt) (before k lt))
    (λ le.
    let last : k ≡ length order = omega (arith, length-append order (v ∷ [])) in
    rw (last, take-append_seam, get_or-append_seam) next)
    (cases_lt k (length order))

pub next_from : (n : ℕ) (es : List EdgeSpec) (left : List Bool) (taken : List ℕ) (v : ℕ) → ((u : ℕ) → at left u ≡ rest n taken u)
    → is_ready es (at left) v ≡ true → ((u : ℕ) → u < v → is_ready es (at left) u ≡ false) → IsNext n es taken v
next_from n es left taken v apart ready first = record {
  ready = sym (is_ready-same es (at left) (rest n taken) apart v) ∙ ready;
  first = λ u below. sym (is_ready-same es (at left) (rest n taken) apart u) ∙ first u below;
}

-- ---- the end

pub left_at_end : (n : ℕ) (es : List EdgeSpec) (left : List Bool) → length left ≡ n → ((u : ℕ) → u < length left → is_ready es (at left) u ≡ false)
    → ((these : ℕ → Bool) → AreVertices n these → FeedEachOther es these → (u : ℕ) → these u ≡ true → at left u ≡ true)
    → AreLeft n es (at left)
left_at_end n es left len none most = record {
  vertices = λ v h. below v h;
  feed = λ v h. fed_unless_ready _ _ (none v (rw len (below v h))) h;
  most = most;
}
  where
    below : (v : ℕ) → at left v ≡ true → v < n
    below v h = ⊎_elim (λ lt. omega arith) (λ past. absurd (true≢false (sym h ∙ get_or_past left v false past))) (cases_lt v (length left))
