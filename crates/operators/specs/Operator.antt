-- What an operator promises of its meaning.
use Rattle.std.specs.Prelude.{◌≡◌, ◌<◌, ℕ, Some, None}
use Rattle.std.specs.List.{All}
use Rattle.std.specs.declared.cmp.Ordering.{Ordering}
use Rattle.std.specs.declared.cmp.Ordering.TheVariants.{Equal}
use Rattle.dataflow_model.specs.Graph.{Meaning}

-- keys that compare equal are the same key
abbrev pub OrderIsExact : {K : Type 0} → (K → K → Ordering) → Type 0
OrderIsExact {K} cmp = (a b : K) → cmp a b ≡ Equal → a ≡ b

-- a state that an operator can go on from: it fits, and has the operator's form
abbrev pub IsGoodState : {S O : Type 0} → (S → Type 0) → (O → S → Type 0) → O → S → Type 0
IsGoodState StateFits Suits op state = StateFits state × Suits op state

-- a record that may be sent: it goes out on one of so many ports, and fits
abbrev pub MayBeSent : {R : Type 0} → (R → Type 0) → ℕ → ℕ × R → Type 0
MayBeSent RecordFits ports out = (out.0 < ports) × RecordFits out.1

module _ {R K S O : Type 0} where
  -- the key of a record that fits, fits
  abbrev pub KeysFit : Meaning R K S O → (R → Type 0) → (K → Type 0) → Type 0
  KeysFit meaning RecordFits KeyFits = (op : O) (r : R) (key : K) → RecordFits r → meaning.key op r ≡ Some key → KeyFits key

  -- records with one key have one lane
  abbrev pub KeysHaveLanes : Meaning R K S O → Type 0
  KeysHaveLanes meaning = (op : O) (q r : R) (key : K) → meaning.key op q ≡ Some key → meaning.key op r ≡ Some key → meaning.lane q ≡ meaning.lane r

  abbrev pub FreshIsGood : Meaning R K S O → (S → Type 0) → (O → S → Type 0) → Type 0
  FreshIsGood meaning StateFits Suits = (op : O) → IsGoodState StateFits Suits op (meaning.fresh op)

  -- a good state and a record that fits give a good state
  abbrev pub StatesStayGood : Meaning R K S O → (R → Type 0) → (S → Type 0) → (O → S → Type 0) → Type 0
  StatesStayGood meaning RecordFits StateFits Suits =
      (op : O) (s : S) (r : R) → IsGoodState StateFits Suits op s → RecordFits r → IsGoodState StateFits Suits op (meaning.apply op s r).state

  -- and what they send fits, and goes out on the operator's ports
  abbrev pub SentFits : Meaning R K S O → (R → Type 0) → (S → Type 0) → (O → S → Type 0) → Type 0
  SentFits meaning RecordFits StateFits Suits =
      (op : O) (s : S) (r : R) → IsGoodState StateFits Suits op s → RecordFits r → All (MayBeSent RecordFits (meaning.ports op)) (meaning.apply op s r).sent

  -- a record without a key leaves the fresh state as it is
  abbrev pub KeylessKeepsFresh : Meaning R K S O → Type 0
  KeylessKeepsFresh meaning = (op : O) (r : R) → meaning.key op r ≡ None → (meaning.apply op (meaning.fresh op) r).state ≡ meaning.fresh op

-- a value that means what a part of it means
abbrev pub meaning_by : {R K S O P : Type 0} → (P → O) → Meaning R K S O → Meaning R K S P
meaning_by part meaning = record {
  same_key = meaning.same_key;
  lane = meaning.lane;
  key = λ op. meaning.key (part op);
  ports = λ op. meaning.ports (part op);
  fresh = λ op. meaning.fresh (part op);
  apply = λ op. meaning.apply (part op);
}
