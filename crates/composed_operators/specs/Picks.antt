-- What one of two operators means.
use Rattle.std.specs.Prelude.{ℕ, Option}
use Rattle.dataflow_model.specs.Graph.{Meaning, Outcome}
use Rattle.composed_operators.specs.declared.pick.Pick.{Pick}
use Rattle.composed_operators.specs.declared.pick.Pick.TheVariants.{First, Second}

module _ {R K S A B : Type 0} where
  abbrev pub pick_key : Meaning R K S A → Meaning R K S B → Pick A B → R → Option K
  pick_key a b (First op) r = a.key op r
  pick_key a b (Second op) r = b.key op r

  abbrev pub pick_ports : Meaning R K S A → Meaning R K S B → Pick A B → ℕ
  pick_ports a b (First op) = a.ports op
  pick_ports a b (Second op) = b.ports op

  abbrev pub pick_fresh : Meaning R K S A → Meaning R K S B → Pick A B → S
  pick_fresh a b (First op) = a.fresh op
  pick_fresh a b (Second op) = b.fresh op

  abbrev pub pick_outcome : Meaning R K S A → Meaning R K S B → Pick A B → S → R → Outcome R S
  pick_outcome a b (First op) s r = a.apply op s r
  pick_outcome a b (Second op) s r = b.apply op s r

  -- each means what it means alone; keys and lanes are the first's, since the second has no keys
  abbrev pub pick_meaning : Meaning R K S A → Meaning R K S B → Meaning R K S (Pick A B)
  pick_meaning a b = record {
    same_key = a.same_key;
    lane = a.lane;
    key = pick_key a b;
    ports = pick_ports a b;
    fresh = pick_fresh a b;
    apply = pick_outcome a b;
  }

abbrev pub PickSuits : {S A B : Type 0} → (A → S → Type 0) → (B → S → Type 0) → Pick A B → S → Type 0
PickSuits SuitsFirst SuitsSecond (First op) s = SuitsFirst op s
PickSuits SuitsFirst SuitsSecond (Second op) s = SuitsSecond op s
