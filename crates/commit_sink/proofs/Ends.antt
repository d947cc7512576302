-- What a search by the number of records finds.
use Rattle.std.proofs.Common.{◌≡◌, ◌<◌, ◌≤◌, ◌+◌, ◌-◌, ℕ, zero, suc, List, [], ◌∷◌, ◌++◌, length, take, get_or, slice_get, Option, Some, None, refl, sym, ap, ◌∙◌, ◌≢◌, subst, add-one, arith}
use Rattle.std.proofs.lemmas.Option.{slice_get-get_or}
use Rattle.std.specs.List.{AllWithin}
use Rattle.std.proofs.Math.Seq.{take-length}
use Rattle.std.proofs.lemmas.List.{length-append, take_more}
use Rattle.commit_sink.specs.declared.share.End.{End}
use Rattle.commit_sink.specs.Ends.{Stands, rows_of}

abbrev of_last : Option End → ℕ
of_last o = elim o [ None ↦ 0 | Some e ↦ e.rows ]

last_of : {A : Type 0} (xs : List A) (x : A) → slice_get (xs ++ x ∷ []) (length xs) ≡ Some x
last_of [] x = refl
last_of (y ∷ ys) x = last_of ys x

length_more : {A : Type 0} (xs : List A) (x : A) → length (xs ++ x ∷ []) - 1 ≡ length xs
length_more xs x = let is : length (xs ++ x ∷ []) ≡ length xs + 1 = length-append xs (x ∷ []) in omega (arith, is)

pub rows_of-more : (ends : List End) (e : End) → rows_of (ends ++ e ∷ []) ≡ e.rows
rows_of-more ends e = ap of_last (ap (slice_get (ends ++ e ∷ [])) (length_more ends e) ∙ last_of ends e)

-- up to the k-th
pub rows_of-take : (ends : List End) (k : ℕ) (d : End) → k < length ends → rows_of (take (k + 1) ends) ≡ (get_or ends k d).rows
rows_of-take ends k d within = ap rows_of (take_more ends k d within) ∙ rows_of-more (take k ends) (get_or ends k d)

-- no more than a bound on each
pub rows_of-bound : (ends : List End) (n k : ℕ) → k ≤ length ends → ((j : ℕ) (d : End) → j < k → (get_or ends j d).rows ≤ n) → rows_of (take k ends) ≤ n
rows_of-bound ends n zero within bound = omega arith
rows_of-bound [] n (suc k) within bound = absurd (omega arith)
rows_of-bound (e ∷ es) n (suc k) within bound =
    let at : rows_of (take (k + 1) (e ∷ es)) ≡ (get_or (e ∷ es) k e).rows = rows_of-take (e ∷ es) k e (omega arith) in
    let small : (get_or (e ∷ es) k e).rows ≤ n = bound k e (omega arith) in
    subst (λ m. rows_of (take m (e ∷ es)) ≤ n) (add-one k) (subst (λ r. r ≤ n) (sym at) small)

-- none has more
pub rows_of-past : (ends : List End) (i index : ℕ) → i ≡ length ends → AllWithin (λ e. e.rows ≤ index) ends 0 i → rows_of ends ≤ index
rows_of-past ends i index all below =
    subst (λ es. rows_of es ≤ index) (ap (λ k. take k ends) all ∙ take-length ends) (rows_of-bound ends index i (omega (arith, all)) (λ j d before. below j d (omega arith) before))

pub rows_of-before : (ends : List End) (i index : ℕ) → i ≤ length ends → AllWithin (λ e. e.rows ≤ index) ends 0 i → rows_of (take i ends) ≤ index
rows_of-before ends i index within below = rows_of-bound ends index i within (λ j d before. below j d (omega arith) before)

-- the first that has more
pub first_above : (ends : List End) (i index : ℕ) (d : End) → i ≤ length ends → i ≢ length ends → AllWithin (λ e. e.rows ≤ index) ends 0 i → AllWithin (λ e. index < e.rows) ends i (length ends)
    → Stands ends i index ((get_or ends i d).transaction, index - rows_of (take i ends))
first_above ends i index d within more below above =
    let there : i < length ends = omega (arith, within, more) in
    let before : rows_of (take i ends) ≤ index = rows_of-before ends i index within below in
    record {
      end = get_or ends i d;
      is = slice_get-get_or ends i d there;
      transaction = refl;
      above = above i d (omega arith) there;
      place = omega (arith, before);
    }
