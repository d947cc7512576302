-- Each move keeps the rule of the line between a task and whoever spells its copy.
use Rattle.std.proofs.Common.{◌≡◌, ℕ, zero, suc, List, [], ◌∷◌, ◌++◌, Option, Some, None, set, refl, sym, ap, subst, ◌∙◌, inl, inr, ⊎_elim}
use Rattle.std.specs.Prelude.{unwrap_or}
use Rattle.std.specs.List.{All}
use Rattle.std.specs.declared.cmp.Ordering.{Ordering}
use Rattle.std.proofs.lemmas.List.Elements.{All-nil, All-push, All-head, All-tail}
use mathlib.Core.Option.{some, some-injective, some-ne-none}
use lib.ListN.{get_elem?}
use Rattle.crossbeam_queue.specs.Fifo.{Pushes, Pops, Forks}
use Rattle.crossbeam_queue.proofs.Lists.{at_set, at_snoc}
use Rattle.operator_state.specs.Handed.{AllKnow, IsSheetOf, GoesThrough, Lays, Puts, Takes}
use Rattle.operator_state.specs.declared.handed.Sheet.{Sheet}
use Rattle.operator_state.specs.declared.handed.Sheet.TheVariants as sheet

module _ {V : Type 0} where
  -- what the only side knows
  only_knows : (port : ℕ) (first known : V) → get_elem? (first ∷ []) port ≡ some known → first ≡ known
  only_knows zero first known at = some-injective first known at
  only_knows (suc port) first known at = absurd (some-ne-none known (sym at))

  -- there is no side but the only one
  no_other : (port other : ℕ) (first known met : V) → get_elem? (first ∷ []) port ≡ some known → get_elem? (first ∷ []) other ≡ some met → ¬ (other ≡ port) → ⊥
  no_other zero zero first known met at there apart = apart refl
  no_other zero (suc other) first known met at there apart = some-ne-none met (sym there)
  no_other (suc port) other first known met at there apart = some-ne-none known (sym at)

module _ {E : Type 0} where
  same_entries : (known : Option (List E)) (mine theirs : List E) → known ≡ Some mine → known ≡ Some theirs → theirs ≡ mine
  same_entries known mine theirs a b = ap (λ (o : Option (List E)). unwrap_or o []) (sym b ∙ a)

  -- a side that knows the entries is one of several that do
  know_on : (entries : List E) (sides : List (Option (List E))) (port : ℕ) (known : Option (List E)) → known ≡ Some entries → AllKnow entries sides → AllKnow entries (set sides port known)
  know_on entries sides port known is all side met there =
      ⊎_elim (λ (x : (side ≡ port) × (known ≡ met)). sym x.1 ∙ is) (λ (x : ¬ (side ≡ port) × (get_elem? sides side ≡ some met)). all side met x.1) (at_set sides port side known met there)

module _ {K S : Type 0} (cmp : K → K → Ordering) (Key : K → Type 0) (keys : K → List ℕ) (State : S → Type 0) (states : S → List ℕ) where
  abbrev Known : Type 0
  Known = Option (List (K × S))

  abbrev Rule : List (Sheet K S) → List Known → Type 0
  Rule = GoesThrough cmp Key keys State states

  abbrev Of : List (K × S) → Sheet K S → Type 0
  Of = IsSheetOf cmp Key keys State states

  pub begins : Rule [] (None ∷ [])
  begins = inl (refl, refl)

  pub lays : (n port : ℕ) (known : Known) (entries : List (K × S)) → known ≡ None → Pushes Rule n port known (sheet.Blank entries) (Lays known (sheet.Blank entries))
  lays n port known entries is sheets sides _ holds at = (Some entries, laid, (entries, refl, refl))
    where
      known_now : (sides ≡ None ∷ []) → AllKnow entries (set sides port (Some entries))
      known_now alone side met there =
          let mine : get_elem? (None ∷ []) port ≡ some known = subst (λ (l : List Known). get_elem? l port ≡ some known) alone at in
          ⊎_elim (λ (x : (side ≡ port) × (Some entries ≡ met)). sym x.1) (λ (x : ¬ (side ≡ port) × (get_elem? sides side ≡ some met)). absurd (no_other port side None known met mine (subst (λ (l : List Known). get_elem? l side ≡ some met) alone x.1) x.0)) (at_set sides port side (Some entries) met there)

      laid : Rule (sheets ++ sheet.Blank entries ∷ []) (set sides port (Some entries))
      laid = ⊎_elim
          (λ (x : (sheets ≡ []) × (sides ≡ None ∷ [])). inr (entries, known_now x.1, All-push (Of entries) sheets (sheet.Blank entries) (subst (All (Of entries)) (sym x.0) (All-nil (Of entries))) refl))
          (λ (x : (theirs : List (K × S)) × AllKnow theirs sides × All (Of theirs) sheets). absurd (none_known x.0 (x.1 port known at))) holds
        where
          none_known : (theirs : List (K × S)) → known ≡ Some theirs → ⊥
          none_known theirs some_is = absurd cc

  pub forks : (port : ℕ) (known : Known) (entries : List (K × S)) → known ≡ Some entries → Forks Rule port known known known
  forks port known entries is sheets sides holds at = ⊎_elim
      (λ (x : (sheets ≡ []) × (sides ≡ None ∷ [])). absurd (unknown (only_knows port None known (subst (λ (l : List Known). get_elem? l port ≡ some known) x.1 at))))
      (λ (x : (theirs : List (K × S)) × AllKnow theirs sides × All (Of theirs) sheets). inr (x.0, both x.0 x.1, x.2)) holds
    where
      unknown : None ≡ known → ⊥
      unknown none = absurd cc

      both : (theirs : List (K × S)) → AllKnow theirs sides → AllKnow theirs (set sides port known ++ known ∷ [])
      both theirs all side met there = ⊎_elim (know_on theirs sides port known (all port known at) all side met) (λ (same : known ≡ met). sym same ∙ all port known at) (at_snoc (set sides port known) known met side there)

  pub takes : (port : ℕ) (known : Known) → Pops Rule port known (Takes cmp Key keys State states known)
  takes port known taken sheets sides holds at = ⊎_elim
      (λ (x : (taken ∷ sheets ≡ []) × (sides ≡ None ∷ [])). absurd (nothing x.0))
      (λ (x : (theirs : List (K × S)) × AllKnow theirs sides × All (Of theirs) (taken ∷ sheets)). (
        known,
        inr (x.0, know_on x.0 sides port known (x.1 port known at) x.1, All-tail (Of x.0) taken sheets x.2),
        (refl, λ mine is. subst (λ (es : List (K × S)). Of es taken) (same_entries known mine x.0 is (x.1 port known at)) (All-head (Of x.0) taken sheets x.2)),
      )) holds
    where
      nothing : taken ∷ sheets ≡ [] → ⊥
      nothing is = absurd cc

  pub puts : (n port : ℕ) (known : Known) (entries : List (K × S)) (put : Sheet K S) → known ≡ Some entries → Of entries put → Pushes Rule n port known put (Puts known put)
  puts n port known entries put is of sheets sides _ holds at = ⊎_elim
      (λ (x : (sheets ≡ []) × (sides ≡ None ∷ [])). absurd (unknown (only_knows port None known (subst (λ (l : List Known). get_elem? l port ≡ some known) x.1 at))))
      (λ (x : (theirs : List (K × S)) × AllKnow theirs sides × All (Of theirs) sheets). (
        known,
        inr (x.0, know_on x.0 sides port known (x.1 port known at) x.1, All-push (Of x.0) sheets put x.2 (subst (λ (es : List (K × S)). Of es put) (sym (same_entries known entries x.0 is (x.1 port known at))) of)),
        refl,
      )) holds
    where
      unknown : None ≡ known → ⊥
      unknown none = absurd cc
