-- The laws of a chain.
use Rattle.std.proofs.Common.{◌≡◌, ◌+◌, ◌-◌, ◌≤◌, ℕ, false, List, [], ◌∷◌, arith}
use Rattle.std.specs.Prelude.{◌==◌}
use Rattle.std.specs.List.{All, flat_map}
use Rattle.std.proofs.lemmas.List.Elements.{All-nil, All-cons, All-append, All-head, All-tail}
use Rattle.std.proofs.lemmas.Bool.{cond_both}
use Rattle.std.proofs.lemmas.Bool.Decides.{nat_tests}
use Rattle.dataflow_model.specs.Graph.{Meaning}
use Rattle.operators.specs.Operator.{MayBeSent, FreshIsGood, SentFits}
use Rattle.chained_operators.specs.Chains.{passed_on, chain_meaning}

-- what holds of all that each item leads to, holds of all
All-flat_map : {X Y : Type 0} (P : X → Type 0) (Q : Y → Type 0) (f : X → List Y) (xs : List X) → ((x : X) → P x → All Q (f x)) → All P xs → All Q (flat_map f xs)
All-flat_map P Q f [] leads all = All-nil Q
All-flat_map P Q f (x ∷ xs) leads all = All-append Q (f x) (flat_map f xs) (leads x (All-head P x xs all)) (All-flat_map P Q f xs leads (All-tail P x xs all))

-- ports are numbered from 0, so a number is above another that is below it
unequal : (n : ℕ) → (n == 0) ≡ false → 1 ≤ n
unequal n e = grind (arith, nat_tests)

module _ {R K S A L T B : Type 0} where
  pub passed_on_fits : (a : Meaning R K S A) (b : Meaning R L T B) (RecordFits : R → Type 0) (StateFits : T → Type 0) (Suits : B → T → Type 0)
      → SentFits b RecordFits StateFits Suits → FreshIsGood b StateFits Suits
      → (first : A) (second : B) (out : ℕ × R) → MayBeSent RecordFits (a.ports first) out → All (MayBeSent RecordFits (b.ports second + a.ports first - 1)) (passed_on b second out)
  passed_on_fits a b RecordFits StateFits Suits sent_b fresh_b first second out may =
      let ports : ℕ = b.ports second + a.ports first - 1 in
      let Q : ℕ × R → Type 0 = MayBeSent RecordFits ports in
      let renamed : ℕ × R = (b.ports second + out.0 - 1, out.1) in
      let through = sent_b second (b.fresh second) out.1 (fresh_b second) may.1 in
      cond_both (out.0 == 0) (b.apply second (b.fresh second) out.1).sent (renamed ∷ []) (All Q)
      (λ e k d below. let here = through k d below in (omega (arith, here.0, may.0), here.1))
      (λ e. All-cons Q renamed [] (omega (arith, unequal out.0 e, may.0), may.1) (All-nil Q))

module _ {R K S A L T B C : Type 0} where
  pub chain_sent_fits : (a : Meaning R K S A) (b : Meaning R L T B) (first : C → A) (second : C → B) (RecordFits : R → Type 0) (StateFits : S → Type 0) (FitsInSecond : T → Type 0) (SuitsFirst : A → S → Type 0) (SuitsSecond : B → T → Type 0)
      → SentFits a RecordFits StateFits SuitsFirst → SentFits b RecordFits FitsInSecond SuitsSecond → FreshIsGood b FitsInSecond SuitsSecond
      → SentFits (chain_meaning a b first second) RecordFits StateFits (λ op. SuitsFirst (first op))
  chain_sent_fits a b first second RecordFits StateFits FitsInSecond SuitsFirst SuitsSecond sent_a sent_b fresh_b op s r good fits =
      All-flat_map (MayBeSent RecordFits (a.ports (first op))) (MayBeSent RecordFits (b.ports (second op) + a.ports (first op) - 1)) (passed_on b (second op)) (a.apply (first op) s r).sent
      (passed_on_fits a b RecordFits FitsInSecond SuitsSecond sent_b fresh_b (first op) (second op)) (sent_a (first op) s r good fits)
