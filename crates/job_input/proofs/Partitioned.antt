-- A partition for each input, with the rows of its file's lines.
use Rattle.std.proofs.Common.{◌≡◌, ◌∙◌, ◌<◌, ℕ, zero, suc, Result, Ok, Err, IfOk, IsOkAnd, List, [], ◌∷◌, ◌++◌, map, length, get_or, take, drop, refl, sym, ap, subst, arith, append_assoc, append-nil, take-append-drop}
use Rattle.std.proofs.lemmas.List.{map-append}
use Rattle.std.proofs.lemmas.Slice.Zip.{all_zipped_more}
use Rattle.std.specs.List.{AllZip}
use Rattle.operators.specs.declared.row.Row.{Row}

-- ---- at each place

pub at_each : {A B : Type 0} (xs : List A) (ys : List B) (R : A → B → Type 0) → length ys ≡ length xs → ((i : ℕ) (d : A) (e : B) → i < length xs → R (get_or xs i d) (get_or ys i e)) → AllZip R xs ys
at_each [] [] R long each = tt
at_each [] (y ∷ ys) R long each = absurd (omega (arith, long))
at_each (x ∷ xs) [] R long each = absurd (omega (arith, long))
at_each (x ∷ xs) (y ∷ ys) R long each =
    (each zero x y (omega arith), at_each xs ys R (omega (arith, long)) (λ i d e within. each (suc i) d e (omega arith)))

both_each : {A B : Type 0} (R : A → B → Type 0) (xs us : List A) (ys vs : List B) → AllZip R xs ys → AllZip R us vs → AllZip R (xs ++ us) (ys ++ vs)
both_each R [] us [] vs first second = second
both_each R [] us (y ∷ ys) vs first second = absurd first
both_each R (x ∷ xs) us [] vs first second = absurd first
both_each R (x ∷ xs) us (y ∷ ys) vs first second = (first.0, both_each R xs us ys vs first.1 second)

-- ---- a group of inputs

only_one : (log : List (List Row)) → length log ≡ 1 → (rows : List Row) × (log ≡ rows ∷ [])
only_one [] one = absurd (omega (arith, one))
only_one (a ∷ b ∷ log) one = absurd (omega (arith, one))
only_one (rows ∷ []) one = (rows, refl)

-- the partition of one more input that was read
pub one_more : {L E : Type 0} (r : Result L E) (one : L) (so_far : List (Result L E)) (old mid new more : List (List Row)) (log_of : L → List (List Row))
    → r ≡ Ok one → length (log_of one) ≡ 1 → mid ≡ old ++ more → AllZip (λ s rows. IsOkAnd s (λ o. log_of o ≡ rows ∷ [])) so_far more → new ≡ mid ++ log_of one
    → (all : List (List Row)) × (new ≡ old ++ all) × AllZip (λ s rows. IsOkAnd s (λ o. log_of o ≡ rows ∷ [])) (so_far ++ r ∷ []) all
one_more {L = L} {E = E} r one so_far old mid new more log_of was single before each put =
    let (rows, is) = only_one (log_of one) single in
    let R : Result L E → List Row → Type 0 = λ s rows. IsOkAnd s (λ o. log_of o ≡ rows ∷ []) in (
      more ++ rows ∷ [],
      put ∙ ap (λ l. l ++ log_of one) before ∙ ap (λ l. (old ++ more) ++ l) is ∙ append_assoc old more (rows ∷ []),
      all_zipped_more R so_far more r rows each (subst (λ s. R s rows) (sym was) is),
    )

pub group_given : {I L E : Type 0} (pairs : List (ℕ × I)) (group : List (Result L E)) (more : List (List Row)) (H : I → List Row → Type 0) (log_of : L → List (List Row))
    → AllZip (λ pair r. IfOk r (λ one. AllZip H (pair.1 ∷ []) (log_of one))) pairs group → AllZip (λ r rows. IsOkAnd r (λ one. log_of one ≡ rows ∷ [])) group more → AllZip H (map (λ pair. pair.1) pairs) more
group_given [] [] [] H log_of read put = tt
group_given [] [] (rows ∷ more) H log_of read put = absurd put
group_given [] (r ∷ group) more H log_of read put = absurd read
group_given (p ∷ pairs) [] more H log_of read put = absurd read
group_given (p ∷ pairs) (r ∷ group) [] H log_of read put = absurd put
group_given (p ∷ pairs) (Err e ∷ group) (rows ∷ more) H log_of read put = absurd put.0
group_given (p ∷ pairs) (Ok one ∷ group) (rows ∷ more) H log_of read put =
    let given = subst (AllZip H (p.1 ∷ [])) put.0 read.0 in
    (given.0, group_given pairs group more H log_of read.1 put.1)

-- the inputs so far, and those of the group that was split off
pub more_given : {I : Type 0} (H : I → List Row → Type 0) (inputs front : List I) (group taken rest : List (ℕ × I)) (size : ℕ) (old new more : List (List Row)) → inputs ≡ front ++ map (λ pair. pair.1) group → AllZip H front old
    → taken ≡ take size group → rest ≡ drop size group → new ≡ old ++ more → AllZip H (map (λ pair. pair.1) taken) more
    → (so_far : List I) × (inputs ≡ so_far ++ map (λ pair. pair.1) rest) × AllZip H so_far new
more_given {I = I} H inputs front group taken rest size old new more all given took left put these =
    let second : ℕ × I → I = λ pair. pair.1 in
    let whole : map second taken ++ map second rest ≡ map second group =
    ap (λ l. map second l ++ map second rest) took ∙ ap (λ l. map second (take size group) ++ map second l) left ∙ sym (map-append second (take size group) (drop size group)) ∙ ap (map second) (take-append-drop size group) in (
      front ++ map second taken,
      all ∙ ap (λ l. front ++ l) (sym whole) ∙ sym (append_assoc front (map second taken) (map second rest)),
      subst (AllZip H (front ++ map second taken)) (sym put) (both_each H front (map second taken) old more given these),
    )

-- all inputs, where none are left
pub all_given : {I : Type 0} (H : I → List Row → Type 0) (inputs so_far : List I) (group : List (ℕ × I)) (log : List (List Row)) → inputs ≡ so_far ++ map (λ pair. pair.1) group → length group ≡ 0 → AllZip H so_far log → AllZip H inputs log
all_given H inputs so_far [] log all none given = subst (λ l. AllZip H l log) (sym (all ∙ append-nil so_far)) given
all_given H inputs so_far (p ∷ group) log all none given = absurd (omega (arith, none))
