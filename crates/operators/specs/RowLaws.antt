-- The laws of the row operators.
use Rattle.std.proofs.Common.{◌≡◌, ℕ, ℤ, pos, negsuc, ◌*◌, ◌-◌, ◌^◌, ◌<◌, ◌≤◌, true, false, List, [], ◌∷◌, ◌++◌, length, fold, Some, None, refl, ap, arith, length-append, lit≤, lit<, rules, sym, subst, ◌∙◌}
use Rattle.std.specs.Int.{w64, saturate_signed}
use Rattle.std.specs.Int.RustNames.{FitsSigned}
use Rattle.std.specs.Prelude.{Bool, int_lt, nat_lt, if◌then◌else◌}
use Rattle.std.specs.Ordering.{int_eq}
use Rattle.std.specs.List.{All, flat_map}
use Rattle.std.specs.Str.{is_utf8}
use Rattle.std.proofs.lemmas.List.Elements.{All-nil, All-cons, All-append}
use Rattle.std.proofs.lemmas.Str.{IsUtf8-from_is_utf8}
use Rattle.std.proofs.lemmas.Bool.{ltb-true, cond_both}
use Rattle.std.proofs.Props.{props}
use lib.Pointwise.{pointwise}
use Rattle.abs_codec.specs.Same.{EqualIsSame, equal_integers, equal_numbers, equal_bytes, equal_lists}
use Rattle.abs_codec.specs.Spelling.{Fits, bytes_spelling, signed_spelling, IsTextWithin}
use Rattle.dataflow_model.specs.Graph.{Outcome}
use Rattle.operators.specs.Exact.{same_part}
use Rattle.operators.specs.Lanes.{lane_of}
use Rattle.operators.specs.Operator.{IsGoodState, MayBeSent}
use Rattle.operators.specs.RowTable.{op_row, row_of}
use Rattle.operators.specs.RowSpelling.{RowIsSpelled, row_spelling, StateIsSpelled, state_spelling}
use Rattle.operators.specs.RowMeaning.{◌⊞◌, ◌⊟◌, sum_of, number_in, keep, send, collect, with_value, with_key, row_meaning, row_outcome, row_key, row_fresh, RowSuits}
use Rattle.operators.specs.declared.parameters.RowKey.{RowKey}
use Rattle.operators.specs.declared.parameters.WindowSize.{WindowSize}
use Rattle.operators.specs.declared.row.Row.{Row}
use Rattle.operators.specs.declared.row_state.RowState.{RowState}
use Rattle.operators.specs.declared.row_state.RowState.TheVariants.{Plain, Number, Numbers}
use Rattle.operators.specs.declared.row_op.RowOp.{RowOp}
use Rattle.operators.specs.declared.row_op.RowOp.TheVariants.{Add, Rekey, FilterGe, FilterLt, Split, Count, Sum, Window, LoopDown}
use Rattle.operators.specs.declared.row_table.RowKind.{RowKind}
use Rattle.operators.specs.declared.row_table.RowKind.TheVariants as kinds
use Rattle.operators.specs.contracts.row.RowPartialEq.TheImpl.{ghosts as row_comparison}
use Rattle.operators.specs.contracts.row_state.RowStatePartialEq.TheImpl.{ghosts as state_comparison}
use Rattle.operators.specs.contracts.row_op.RowOpPartialEq.TheImpl.{ghosts as op_comparison}

abbrev RowFits : Row → Type 0
RowFits = Fits RowIsSpelled row_spelling

abbrev StateFits : RowState → Type 0
StateFits = Fits StateIsSpelled state_spelling

abbrev KeyFits : List ℕ → Type 0
KeyFits = Fits (IsTextWithin (2 ^ 32 - 1)) bytes_spelling

-- ---- values that compare equal are the same value

-- named once, so that no case below unfolds the comparison to see it
differs : false ≡ true → ⊥
differs e = absurd cc

pub rows_are_exact : EqualIsSame row_comparison.eq
rows_are_exact a b h = search rules

pub states_are_exact : EqualIsSame state_comparison.eq
states_are_exact Plain Plain h = refl
states_are_exact Plain (Number n) h = absurd (differs h)
states_are_exact Plain (Numbers ns) h = absurd (differs h)
states_are_exact (Number m) Plain h = absurd (differs h)
states_are_exact (Number m) (Number n) h = let e : int_eq m n ≡ true = h in ap Number (equal_integers m n e)
states_are_exact (Number m) (Numbers ns) h = absurd (differs h)
states_are_exact (Numbers ms) Plain h = absurd (differs h)
states_are_exact (Numbers ms) (Number n) h = absurd (differs h)
states_are_exact (Numbers ms) (Numbers ns) h = let e : pointwise int_eq ms ns ≡ true = h in ap Numbers (equal_lists int_eq equal_integers ms ns e)

keys_are_exact : (j k : RowKey) → j.text ≡ k.text → j ≡ k
keys_are_exact j k e =
    let P : List ℕ → Type 0 = λ text. (length text ≤ 1024) × (is_utf8 text ≡ true) in
    same_part {P = P} (λ text h. record { text = text; within = h.0; utf8 = h.1 }) (λ text. hlevel props) j.text k.text (j.within, j.utf8) (k.within, k.utf8) e

sizes_are_exact : (j k : WindowSize) → j.n ≡ k.n → j ≡ k
sizes_are_exact j k e =
    let P : ℕ → Type 0 = λ n. (1 ≤ n) × (n ≤ 1024) in
    same_part {P = P} (λ n h. record { n = n; at_least = h.0; at_most = h.1 }) (λ n. hlevel props) j.n k.n (j.at_least, j.at_most) (k.at_least, k.at_most) e

pub ops_are_exact : EqualIsSame op_comparison.eq
ops_are_exact (Add m) (Add n) h = ap Add (equal_integers m n h)
ops_are_exact (Add m) _ h = absurd (differs h)
ops_are_exact (Rekey j) (Rekey k) h = ap Rekey (keys_are_exact j k (equal_bytes j.text k.text h))
ops_are_exact (Rekey j) _ h = absurd (differs h)
ops_are_exact (FilterGe m) (FilterGe n) h = ap FilterGe (equal_integers m n h)
ops_are_exact (FilterGe m) _ h = absurd (differs h)
ops_are_exact (FilterLt m) (FilterLt n) h = ap FilterLt (equal_integers m n h)
ops_are_exact (FilterLt m) _ h = absurd (differs h)
ops_are_exact (Split m) (Split n) h = ap Split (equal_integers m n h)
ops_are_exact (Split m) _ h = absurd (differs h)
ops_are_exact Count Count h = refl
ops_are_exact Count _ h = absurd (differs h)
ops_are_exact Sum Sum h = refl
ops_are_exact Sum _ h = absurd (differs h)
ops_are_exact (Window m) (Window n) h = ap Window (sizes_are_exact m n (equal_numbers m.n n.n h))
ops_are_exact (Window m) _ h = absurd (differs h)
ops_are_exact LoopDown LoopDown h = refl
ops_are_exact LoopDown _ h = absurd (differs h)

-- ---- numbers

saturated_fits : (z : ℤ) → FitsSigned w64 (saturate_signed w64 z)
saturated_fits (pos n) = record { sfits = omega arith }
saturated_fits (negsuc n) = record { sfits = omega arith }

sum_fits : (start : ℤ) (values : List ℤ) → FitsSigned w64 start → FitsSigned w64 (fold ◌⊞◌ start values)
sum_fits start [] fits = fits
sum_fits start (v ∷ values) fits = sum_fits (start ⊞ v) values (saturated_fits _)

-- ---- what fits

-- a row whose key is short enough fits
spelled_fits : (row : Row) → RowIsSpelled row → RowFits row
spelled_fits row h = (h, omega (arith, length-append (bytes_spelling row.k) (signed_spelling w64 row.v), h.0.0))

valued_fits : (row : Row) (v : ℤ) → RowFits row → FitsSigned w64 v → RowFits (with_value row v)
valued_fits row v h fits = spelled_fits (with_value row v) (h.0.0, fits)

keyed_fits : (row : Row) (key : RowKey) → RowFits row → RowFits (with_key row key.text)
keyed_fits row key h = spelled_fits (with_key row key.text) ((key.within, IsUtf8-from_is_utf8 key.text key.utf8), h.0.1)

key_of_row_fits : (row : Row) → RowFits row → KeyFits row.k
key_of_row_fits row h = ((omega (arith, h.0.0.0), h.0.0.1), omega (arith, h.0.0.0))

number_fits : (n : ℤ) → FitsSigned w64 n → StateFits (Number n)
number_fits n fits = (fits, lit≤ tt)

spelled_length : (values : List ℤ) → length (flat_map (signed_spelling w64) values) ≡ 8 * length values
spelled_length [] = refl
spelled_length (v ∷ values) = omega (arith, spelled_length values)

numbers_fit : (values : List ℤ) → length values ≤ 1024 → All (FitsSigned w64) values → StateFits (Numbers values)
numbers_fit values short fit = ((omega arith, fit), omega (arith, spelled_length values))

values_fit : (values : List ℤ) (row : Row) → All (FitsSigned w64) values → RowFits row → All (FitsSigned w64) (values ++ row.v ∷ [])
values_fit values row fit fits = All-append (FitsSigned w64) values (row.v ∷ []) fit (All-cons (FitsSigned w64) row.v [] fits.0.1 (All-nil (FitsSigned w64)))

-- ---- keys

key_when : (keyed : Bool) (r : Row) (key : List ℕ) → (if keyed then Some r.k else None) ≡ Some key → r.k ≡ key
key_when true r key e = cc
key_when false r key e = absurd cc

key_is : (op : RowOp) (r : Row) (key : List ℕ) → row_key op r ≡ Some key → r.k ≡ key
key_is op r key e = key_when (op_row op).is_keyed r key e

pub row_key_fits : (op : RowOp) (r : Row) (key : List ℕ) → RowFits r → row_key op r ≡ Some key → KeyFits key
row_key_fits op r key fits e = subst KeyFits (key_is op r key e) (key_of_row_fits r fits)

pub row_key_has_lane : (op : RowOp) (q r : Row) (key : List ℕ) → row_key op q ≡ Some key → row_key op r ≡ Some key → row_meaning.lane q ≡ row_meaning.lane r
row_key_has_lane op q r key is_q is_r = ap lane_of (key_is op q key is_q ∙ sym (key_is op r key is_r))

pub keyless_has_no_key : (op : RowOp) (r : Row) → (op_row op).is_keyed ≡ false → row_key op r ≡ None
keyless_has_no_key op r e = rw e refl

pub row_keyless_keeps_fresh : (op : RowOp) (r : Row) → row_key op r ≡ None → (row_outcome op (row_fresh op) r).state ≡ row_fresh op
row_keyless_keeps_fresh (FilterGe n) r none = cond_both (int_lt r.v n) (keep Plain) (send Plain 0 r) (λ o. o.state ≡ Plain) (λ e. refl) (λ e. refl)
row_keyless_keeps_fresh (FilterLt n) r none = cond_both (int_lt r.v n) (send Plain 0 r) (keep Plain) (λ o. o.state ≡ Plain) (λ e. refl) (λ e. refl)
row_keyless_keeps_fresh (Split n) r none = cond_both (int_lt r.v n) (send Plain 1 r) (send Plain 0 r) (λ o. o.state ≡ Plain) (λ e. refl) (λ e. refl)
row_keyless_keeps_fresh LoopDown r none = cond_both (int_lt (pos 0) r.v) (send Plain 1 (with_value r (r.v ⊟ pos 1))) (send Plain 0 r) (λ o. o.state ≡ Plain) (λ e. refl) (λ e. refl)
row_keyless_keeps_fresh (Add n) r none = refl
row_keyless_keeps_fresh (Rekey k) r none = refl
row_keyless_keeps_fresh Count r none = absurd cc
row_keyless_keeps_fresh Sum r none = absurd cc
row_keyless_keeps_fresh (Window n) r none = absurd cc

-- ---- ports

pub ports_are_few : (kind : RowKind) → (row_of kind).ports ≤ 2
ports_are_few kinds.Split = lit≤ tt
ports_are_few kind = lit≤ tt

-- ---- outcomes

pub row_fresh_is_good : (op : RowOp) → IsGoodState StateFits RowSuits op (row_fresh op)
row_fresh_is_good Count = (number_fits (pos 0) (record { sfits = lit< tt }), tt)
row_fresh_is_good Sum = (number_fits (pos 0) (record { sfits = lit< tt }), tt)
row_fresh_is_good (Window size) = (numbers_fit [] (lit≤ tt) (All-nil (FitsSigned w64)), size.at_least)
row_fresh_is_good (Add n) = ((tt, lit≤ tt), tt)
row_fresh_is_good (Rekey k) = ((tt, lit≤ tt), tt)
row_fresh_is_good (FilterGe n) = ((tt, lit≤ tt), tt)
row_fresh_is_good (FilterLt n) = ((tt, lit≤ tt), tt)
row_fresh_is_good (Split n) = ((tt, lit≤ tt), tt)
row_fresh_is_good LoopDown = ((tt, lit≤ tt), tt)

-- what a good state and a row that fits lead to
abbrev IsGoodOutcome : RowOp → Outcome Row RowState → Type 0
IsGoodOutcome op outcome = IsGoodState StateFits RowSuits op outcome.state × All (MayBeSent RowFits (op_row op).ports) outcome.sent

kept : (op : RowOp) (s : RowState) → IsGoodState StateFits RowSuits op s → IsGoodOutcome op (keep s)
kept op s good = (good, All-nil (MayBeSent RowFits (op_row op).ports))

sent : (op : RowOp) (s : RowState) (port : ℕ) (row : Row) → IsGoodState StateFits RowSuits op s → port < (op_row op).ports → RowFits row → IsGoodOutcome op (send s port row)
sent op s port row good within fits =
    let P : ℕ × Row → Type 0 = MayBeSent RowFits (op_row op).ports in
    (good, All-cons P (port, row) [] (within, fits) (All-nil P))

collected : (size : WindowSize) (row : Row) (values : List ℤ) → length values ≤ 1024 → All (FitsSigned w64) values → RowFits row → IsGoodOutcome (Window size) (collect size.n row values)
collected size row values short fit fits =
    let op : RowOp = Window size in
    cond_both (nat_lt (length values) size.n) (keep (Numbers values)) (send (Numbers []) 0 (with_value row (sum_of values))) (IsGoodOutcome op)
    (λ e. kept op (Numbers values) (numbers_fit values short fit, ltb-true (length values) size.n e))
    (λ e. sent op (Numbers []) 0 (with_value row (sum_of values)) (row_fresh_is_good op) (lit< tt) (valued_fits row (sum_of values) fits (sum_fits (pos 0) values (record { sfits = lit< tt }))))

outcome_is_good : (op : RowOp) (s : RowState) (r : Row) → IsGoodState StateFits RowSuits op s → RowFits r → IsGoodOutcome op (row_outcome op s r)
outcome_is_good (Add n) s r good fits = sent (Add n) s 0 (with_value r (r.v ⊞ n)) good (lit< tt) (valued_fits r (r.v ⊞ n) fits (saturated_fits _))
outcome_is_good (Rekey k) s r good fits = sent (Rekey k) s 0 (with_key r k.text) good (lit< tt) (keyed_fits r k fits)
outcome_is_good (FilterGe n) s r good fits =
    cond_both (int_lt r.v n) (keep s) (send s 0 r) (IsGoodOutcome (FilterGe n)) (λ e. kept (FilterGe n) s good) (λ e. sent (FilterGe n) s 0 r good (lit< tt) fits)
outcome_is_good (FilterLt n) s r good fits =
    cond_both (int_lt r.v n) (send s 0 r) (keep s) (IsGoodOutcome (FilterLt n)) (λ e. sent (FilterLt n) s 0 r good (lit< tt) fits) (λ e. kept (FilterLt n) s good)
outcome_is_good (Split n) s r good fits =
    cond_both (int_lt r.v n) (send s 1 r) (send s 0 r) (IsGoodOutcome (Split n)) (λ e. sent (Split n) s 1 r good (lit< tt) fits) (λ e. sent (Split n) s 0 r good (lit< tt) fits)
outcome_is_good Count s r good fits =
    let n : ℤ = number_in s ⊞ pos 1 in
    sent Count (Number n) 0 (with_value r n) (number_fits n (saturated_fits _), tt) (lit< tt) (valued_fits r n fits (saturated_fits _))
outcome_is_good Sum s r good fits =
    let n : ℤ = number_in s ⊞ r.v in
    sent Sum (Number n) 0 (with_value r n) (number_fits n (saturated_fits _), tt) (lit< tt) (valued_fits r n fits (saturated_fits _))
outcome_is_good (Window size) (Numbers values) r good fits =
    collected size r (values ++ r.v ∷ []) (omega (arith, length-append values (r.v ∷ []), good.1, size.at_most)) (values_fit values r good.0.0.1 fits) fits
outcome_is_good (Window size) Plain r good fits = absurd good.1
outcome_is_good (Window size) (Number n) r good fits = absurd good.1
outcome_is_good LoopDown s r good fits =
    cond_both (int_lt (pos 0) r.v) (send s 1 (with_value r (r.v ⊟ pos 1))) (send s 0 r) (IsGoodOutcome LoopDown)
    (λ e. sent LoopDown s 1 (with_value r (r.v ⊟ pos 1)) good (lit< tt) (valued_fits r (r.v ⊟ pos 1) fits (saturated_fits _)))
    (λ e. sent LoopDown s 0 r good (lit< tt) fits)

pub row_state_stays_good : (op : RowOp) (s : RowState) (r : Row) → IsGoodState StateFits RowSuits op s → RowFits r → IsGoodState StateFits RowSuits op (row_outcome op s r).state
row_state_stays_good op s r good fits = (outcome_is_good op s r good fits).0

pub row_sent_fits : (op : RowOp) (s : RowState) (r : Row) → IsGoodState StateFits RowSuits op s → RowFits r → All (MayBeSent RowFits (op_row op).ports) (row_outcome op s r).sent
row_sent_fits op s r good fits = (outcome_is_good op s r good fits).1
