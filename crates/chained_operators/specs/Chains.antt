-- What a chain of two operators means.
use Rattle.std.specs.Prelude.{◌≡◌, ◌+◌, ◌-◌, ◌==◌, ◌≤◌, ◌^◌, ℕ, List, [], ◌∷◌, None, if◌then◌else◌}
use Rattle.std.specs.List.{flat_map}
use Rattle.dataflow_model.specs.Graph.{Meaning, Outcome}

-- no record has a key
abbrev pub HasNoKeys : {R K S O : Type 0} → Meaning R K S O → Type 0
HasNoKeys {R} {O = O} meaning = (op : O) (r : R) → meaning.key op r ≡ None

-- the first operator has a port, and the ports of both but that one can be numbered
abbrev pub CanBeChained : ℕ → ℕ → Type 0
CanBeChained first_ports second_ports = (1 ≤ first_ports) × (first_ports + second_ports ≤ 2 ^ 32)

-- what becomes of a record that the first operator sends: on port 0 it goes through the second, and the other ports come behind the second's
abbrev pub passed_on : {R L T B : Type 0} → Meaning R L T B → B → ℕ × R → List (ℕ × R)
passed_on b second out = if out.0 == 0 then (b.apply second (b.fresh second) out.1).sent else (b.ports second + out.0 - 1, out.1) ∷ []

-- the chain keeps the first operator's states
module _ {R K S A L T B : Type 0} where
  abbrev pub chain_outcome : Meaning R K S A → Meaning R L T B → A → B → S → R → Outcome R S
  chain_outcome a b first second s r =
      let outcome = a.apply first s r in
      record { state = outcome.state; sent = flat_map (passed_on b second) outcome.sent }

module _ {R K S A L T B C : Type 0} where
  abbrev pub chain_meaning : Meaning R K S A → Meaning R L T B → (C → A) → (C → B) → Meaning R K S C
  chain_meaning a b first second = record {
    same_key = a.same_key;
    lane = a.lane;
    key = λ op. a.key (first op);
    ports = λ op. b.ports (second op) + a.ports (first op) - 1;
    fresh = λ op. a.fresh (first op);
    apply = λ op. chain_outcome a b (first op) (second op);
  }
