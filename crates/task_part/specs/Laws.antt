-- What is read of a part is what was written.
use Rattle.std.proofs.Common.{◌≡◌, ◌<◌, ◌^◌, ℕ, zero, suc, List, [], ◌∷◌, ◌++◌, Ok, Err, refl, sym, ap, subst, ◌∙◌, append_assoc, inl, inr, ◌⊎◌}
use Rattle.std.specs.Int.{to_be_bytes, w32, w64}
use Rattle.std.specs.Cmp.{IsTotalOrder}
use Rattle.std.specs.declared.cmp.Ordering.{Ordering}
use Rattle.abs_codec.specs.Reading.{IsBytes, Reading, ◌>>=◌, number_at, pair_at, list_at, map_at}
use Rattle.abs_codec.specs.Spelling.{list_spelling, pair_spelling, AreSpelled, PairIsSpelled, MapIsSpelled}
use Rattle.abs_codec.specs.Numbers.{bind_ok, ok_is, wide32, wide64}
use Rattle.abs_codec.specs.Laws.{IsCode, number_code, pair_code, list_code, stands_then, never_fails, rest_bytes}
use Rattle.abs_codec.specs.Maps.{map_code}
use Rattle.abs_codec.specs.declared.fault.CodecFault.{CodecFault}
use Rattle.abs_codec.specs.declared.fault.CodecFault.TheVariants.{Short}
use Rattle.task_part.specs.declared.part.Part.{Part}
use Rattle.task_part.specs.declared.part.Part.TheVariants.{Source, Operator, Sink}
use Rattle.task_part.specs.Spelling.{logs_spelling, LogsAreSpelled, logs_at, part_spelling, PartIsSpelled, part_at}

u64_code : IsCode (λ n. n < 2 ^ 64) (to_be_bytes w64) (number_at w64)
u64_code = number_code w64 (2 ^ 64) wide64

u32_code : IsCode (λ n. n < 2 ^ 32) (to_be_bytes w32) (number_at w32)
u32_code = number_code w32 (2 ^ 32) wide32

names_code : IsCode (AreSpelled (λ n. n < 2 ^ 64)) (list_spelling (to_be_bytes w64)) (list_at (number_at w64))
names_code = list_code (λ n. n < 2 ^ 64) (to_be_bytes w64) (number_at w64) u64_code

module _ {R : Type 0} (Record : R → Type 0) (records : R → List ℕ) (read_record : List ℕ → Reading R) (record_code : IsCode Record records read_record) where
  pub logs_code : IsCode (LogsAreSpelled Record) (logs_spelling records) (logs_at read_record)
  logs_code =
      list_code (PairIsSpelled (λ n. n < 2 ^ 32) (AreSpelled Record)) (pair_spelling (to_be_bytes w32) (list_spelling records)) (pair_at (number_at w32) (list_at read_record))
      (pair_code (λ n. n < 2 ^ 32) (to_be_bytes w32) (number_at w32) u32_code (AreSpelled Record) (list_spelling records) (list_at read_record) (list_code Record records read_record record_code))

-- what stands behind a tag: two values, one after the other, made into one
module _ {A B P : Type 0} {H : A → Type 0} {s : A → List ℕ} {r : List ℕ → Reading A} (first : IsCode H s r) {J : B → Type 0} {t : B → List ℕ} {q : List ℕ → Reading B} (second : IsCode J t q) (make : A → B → P) where
  abbrev both_at : List ℕ → Reading P
  both_at bytes = r bytes >>= λ x. q x.1 >>= λ y. Ok (make x.0 y.0, y.1)

  both_again : (a : A) (b : B) (rest : List ℕ) → H a → J b → both_at ((s a ++ t b) ++ rest) ≡ Ok (make a b, rest)
  both_again a b rest ha jb = ap both_at (append_assoc (s a) (t b) rest) ∙ rw (first.again a (t b ++ rest) ha, second.again b rest jb) refl

  both_stands : (bytes more : List ℕ) (f : CodecFault) → IsBytes bytes → both_at bytes ≡ Err f → (f ≡ Short) ⊎ (both_at (bytes ++ more) ≡ Err f)
  both_stands bytes more f fits h =
      stands_then first (λ x. q x.1 >>= λ y. Ok (make x.0 y.0, y.1)) bytes more f fits
      (λ x e fits1 h1. stands_then second (λ y. Ok (make x.0 y.0, y.1)) x.1 more f fits1 (λ y e2 fits2 h2. absurd (never_fails (make x.0 y.0, y.1) f h2)) h1) h

  -- what was read is spelled so
  both_spelled : (bytes : List ℕ) (p : P) (rest : List ℕ) → IsBytes bytes → both_at bytes ≡ Ok (p, rest) →
      (a : A) × (b : B) × H a × J b × (bytes ≡ (s a ++ t b) ++ rest) × (make a b ≡ p)
  both_spelled bytes p rest fits e =
      let x = bind_ok (r bytes) (λ x. q x.1 >>= λ y. Ok (make x.0 y.0, y.1)) (p, rest) e in
      let y = bind_ok (q x.0.1) (λ y. Ok (make x.0.0 y.0, y.1)) (p, rest) x.2 in
      let u = first.spelled bytes x.0.0 x.0.1 fits x.1 in
      let v = second.spelled x.0.1 y.0.0 y.0.1 (rest_bytes bytes (s x.0.0) x.0.1 fits u.1) y.1 in
      let end : (make x.0.0 y.0.0, y.0.1) ≡ (p, rest) = ok_is (make x.0.0 y.0.0, y.0.1) (p, rest) y.2 in
      let same : y.0.1 ≡ rest = ap (λ (z : P × List ℕ). z.1) end in (
        x.0.0,
        y.0.0,
        u.0,
        v.0,
        u.1 ∙ ap (λ (w : List ℕ). s x.0.0 ++ w) v.1 ∙ sym (append_assoc (s x.0.0) (t y.0.0) y.0.1) ∙ ap (λ (w : List ℕ). (s x.0.0 ++ t y.0.0) ++ w) same,
        ap (λ (z : P × List ℕ). z.0) end,
      )

module _ {R K S : Type 0} (Record : R → Type 0) (records : R → List ℕ) (read_record : List ℕ → Reading R) (record_code : IsCode Record records read_record)
    (cmp : K → K → Ordering) (order : IsTotalOrder cmp) (Key : K → Type 0) (keys : K → List ℕ) (read_key : List ℕ → Reading K) (key_code : IsCode Key keys read_key)
    (State : S → Type 0) (states : S → List ℕ) (read_state : List ℕ → Reading S) (state_code : IsCode State states read_state) where
  abbrev the_map : IsCode (MapIsSpelled cmp Key State) (list_spelling (pair_spelling keys states)) (map_at cmp read_key read_state)
  the_map = map_code cmp order Key keys read_key key_code State states read_state state_code

  abbrev the_logs : IsCode (LogsAreSpelled Record) (logs_spelling records) (logs_at read_record)
  the_logs = logs_code Record records read_record record_code

  abbrev Spelled : Part R K S → Type 0
  Spelled = PartIsSpelled Record cmp Key State

  abbrev spell : Part R K S → List ℕ
  spell = part_spelling records keys states

  abbrev read_part : List ℕ → Reading (Part R K S)
  read_part = part_at read_record cmp read_key read_state

  part_again : (p : Part R K S) (rest : List ℕ) → Spelled p → read_part (spell p ++ rest) ≡ Ok (p, rest)
  unfolding part_at
  part_again (Source offset) rest h = rw (u64_code.again offset rest h) refl
  part_again (Operator map logs) rest h = both_again the_map the_logs (λ m l. Operator m l) map logs rest h.0 h.1
  part_again (Sink names logs) rest h = both_again names_code the_logs (λ n l. Sink n l) names logs rest h.0 h.1

  part_spelled : (bytes : List ℕ) (p : Part R K S) (rest : List ℕ) → IsBytes bytes → read_part bytes ≡ Ok (p, rest) → Spelled p × (bytes ≡ spell p ++ rest)
  unfolding part_at
  part_spelled [] p rest fits e = absurd cc
  part_spelled (zero ∷ bytes) p rest fits e =
      let a = bind_ok (number_at w64 bytes) (λ n. Ok (Source n.0, n.1)) (p, rest) e in
      let u = u64_code.spelled bytes a.0.0 a.0.1 (λ i. fits (suc i)) a.1 in
      subst (λ (x : Part R K S × List ℕ). Spelled x.0 × (0 ∷ bytes ≡ spell x.0 ++ x.1)) (ok_is (Source a.0.0, a.0.1) (p, rest) a.2) (u.0, ap (λ (w : List ℕ). 0 ∷ w) u.1)
  part_spelled (suc zero ∷ bytes) p rest fits e =
      let a = both_spelled the_map the_logs (λ m l. Operator m l) bytes p rest (λ i. fits (suc i)) e in
      subst (λ (x : Part R K S). Spelled x × (1 ∷ bytes ≡ spell x ++ rest)) a.5 ((a.2, a.3), ap (λ (w : List ℕ). 1 ∷ w) a.4)
  part_spelled (suc (suc zero) ∷ bytes) p rest fits e =
      let a = both_spelled names_code the_logs (λ n l. Sink n l) bytes p rest (λ i. fits (suc i)) e in
      subst (λ (x : Part R K S). Spelled x × (2 ∷ bytes ≡ spell x ++ rest)) a.5 ((a.2, a.3), ap (λ (w : List ℕ). 2 ∷ w) a.4)
  part_spelled (suc (suc (suc kind)) ∷ bytes) p rest fits e = absurd cc

  part_stands : (bytes more : List ℕ) (f : CodecFault) → IsBytes bytes → read_part bytes ≡ Err f → (f ≡ Short) ⊎ (read_part (bytes ++ more) ≡ Err f)
  unfolding part_at
  part_stands [] more f fits h = inl cc
  part_stands (zero ∷ bytes) more f fits h = stands_then u64_code (λ n. Ok (Source n.0, n.1)) bytes more f (λ i. fits (suc i)) (λ x e fits1 h1. absurd (never_fails (Source x.0, x.1) f h1)) h
  part_stands (suc zero ∷ bytes) more f fits h = both_stands the_map the_logs (λ m l. Operator m l) bytes more f (λ i. fits (suc i)) h
  part_stands (suc (suc zero) ∷ bytes) more f fits h = both_stands names_code the_logs (λ n l. Sink n l) bytes more f (λ i. fits (suc i)) h
  part_stands (suc (suc (suc kind)) ∷ bytes) more f fits h = inr h

  pub part_code : IsCode Spelled spell read_part
  part_code = record { again = part_again; spelled = part_spelled; stands = part_stands }
