-- Lists at a place where one element is changed, and lists that numbered entries make.
use Rattle.std.proofs.Common.{◌≡◌, ◌<◌, ◌+◌, ◌==◌, All, Some, slice_get, slice_set, slice_index_or, length, map, filter, cond, count_by, ℕ, zero, suc, Bool, true, false, List, [], ◌∷◌, ◌++◌, refl, sym, ap, ap₂, ◌∙◌, subst, append_assoc, arith}
use Rattle.std.proofs.lemmas.Option.{none-some, same_Some}
use Rattle.std.proofs.lemmas.Bool.{eq-eqb}
use Rattle.std.proofs.lemmas.List.Elements.{All-nil, All-append, All-head}
use Rattle.std.proofs.lemmas.List.Sums.{length-filter}
use Rattle.checkpoint_model.specs.Book.{numbered}

-- what stands before an element, and behind it
pub record Place {A : Type 0} (xs : List A) (i : ℕ) (x : A) : Type 0 where
  pub front : List A
  pub back : List A
  pub is_at : i ≡ length front
  pub was : xs ≡ front ++ x ∷ back
  pub set : (y : A) → slice_set xs i y ≡ front ++ y ∷ back

pub place : {A : Type 0} (xs : List A) (i : ℕ) (x : A) → slice_get xs i ≡ Some x → Place xs i x
place [] i x h = absurd (none-some x h)
place (y ∷ xs) zero x h = record { front = []; back = xs; is_at = refl; was = ap (λ z. z ∷ xs) (same_Some y x h); set = λ z. refl }
place (y ∷ xs) (suc i) x h =
    let rest = place xs i x h in
    record { front = y ∷ rest.front; back = rest.back; is_at = ap suc rest.is_at; was = ap (λ l. y ∷ l) rest.was; set = λ z. ap (λ l. y ∷ l) (rest.set z) }

pub get_behind : {A : Type 0} (xs : List A) (x : A) (ys : List A) (k m : ℕ) → m ≡ length xs + suc k → slice_get (xs ++ x ∷ ys) m ≡ slice_get ys k
get_behind [] x ys k zero e = absurd (omega (arith, e))
get_behind [] x ys k (suc m) e = let same : m ≡ k = omega (arith, e) in ap (slice_get ys) same
get_behind (z ∷ xs) x ys k zero e = absurd (omega (arith, e))
get_behind (z ∷ xs) x ys k (suc m) e = get_behind xs x ys k m (omega (arith, e))

pub get_put : {A : Type 0} (xs : List A) (y : A) → slice_get (xs ++ y ∷ []) (length xs) ≡ Some y
get_put [] y = refl
get_put (x ∷ xs) y = get_put xs y

pub get_put_other : {A : Type 0} (xs : List A) (y : A) (k : ℕ) → (k ≡ length xs → ⊥) → slice_get (xs ++ y ∷ []) k ≡ slice_get xs k
get_put_other [] y zero apart = absurd (apart refl)
get_put_other [] y (suc k) apart = refl
get_put_other (x ∷ xs) y zero apart = refl
get_put_other (x ∷ xs) y (suc k) apart = get_put_other xs y k (λ e. apart (ap suc e))

pub get_of_map : {A B : Type 0} (f : A → B) (xs : List A) (k : ℕ) (y : B) → slice_get (map f xs) k ≡ Some y → (x : A) × (slice_get xs k ≡ Some x) × (f x ≡ y)
get_of_map f [] k y h = absurd (none-some y h)
get_of_map f (x ∷ xs) zero y h = (x, refl, same_Some (f x) y h)
get_of_map f (x ∷ xs) (suc k) y h = get_of_map f xs k y h

pub get_in_map : {A B : Type 0} (f : A → B) (xs : List A) (k : ℕ) (x : A) → slice_get xs k ≡ Some x → slice_get (map f xs) k ≡ Some (f x)
get_in_map f [] k x h = absurd (none-some x h)
get_in_map f (y ∷ xs) zero x h = ap (λ z. Some (f z)) (same_Some y x h)
get_in_map f (y ∷ xs) (suc k) x h = get_in_map f xs k x h

-- an element of a list counts
filter_has : (xs : List ℕ) (k d : ℕ) → k < length xs → 0 < length (filter (λ m. m == slice_index_or xs k d) xs)
filter_has [] k d within = absurd (omega (arith, within))
filter_has (x ∷ xs) zero d within = subst (λ b. 0 < length (cond b (x ∷ filter (λ m. m == x) xs) (filter (λ m. m == x) xs))) (sym (eq-eqb x x refl)) (omega arith)
filter_has (x ∷ xs) (suc k) d within =
    let y = slice_index_or xs k d in
    more (x == y) x (filter (λ m. m == y) xs) (filter_has xs k d (omega (arith, within)))
  where
    more : (b : Bool) (x : ℕ) (l : List ℕ) → 0 < length l → 0 < length (cond b (x ∷ l) l)
    more true x l h = omega arith
    more false x l h = h

pub count_has : (xs : List ℕ) (k d : ℕ) → k < length xs → 0 < count_by (λ m. m == slice_index_or xs k d) xs
count_has xs k d within = subst (λ n. 0 < n) (length-filter (λ m. m == slice_index_or xs k d) xs) (filter_has xs k d within)

pub numbered_split : {A X : Type 0} (f : ℕ → A → List X) (n m : ℕ) (xs : List A) (x : A) (ys : List A) → m ≡ n + length xs → numbered f n (xs ++ x ∷ ys) ≡ numbered f n xs ++ (f m x ++ numbered f (suc m) ys)
numbered_split f n m [] x ys e = let same : n ≡ m = omega (arith, e) in ap (λ k. f k x ++ numbered f (suc k) ys) same
numbered_split f n m (y ∷ xs) x ys e =
    ap (λ l. f n y ++ l) (numbered_split f (suc n) m xs x ys (omega (arith, e)))
    ∙ sym (append_assoc (f n y) (numbered f (suc n) xs) (f m x ++ numbered f (suc m) ys))

pub numbered_all : {A X : Type 0} (P : X → Type 0) (f : ℕ → A → List X) (n : ℕ) (xs : List A) → ((k m : ℕ) (a : A) → m ≡ n + k → slice_get xs k ≡ Some a → All P (f m a)) → All P (numbered f n xs)
numbered_all P f n [] each = All-nil P
numbered_all P f n (x ∷ xs) each =
    All-append P (f n x) (numbered f (suc n) xs) (each 0 n x (omega arith) refl) (numbered_all P f (suc n) xs (λ k m a e at. each (suc k) m a (omega (arith, e)) at))

pub numbered_none : {A X : Type 0} (f : ℕ → A → List X) (n : ℕ) (xs : List A) → ((k m : ℕ) (a : A) → m ≡ n + k → slice_get xs k ≡ Some a → f m a ≡ []) → numbered f n xs ≡ []
numbered_none f n [] each = refl
numbered_none f n (x ∷ xs) each = ap₂ (λ l m. l ++ m) (each 0 n x (omega arith) refl) (numbered_none f (suc n) xs (λ k m a e at. each (suc k) m a (omega (arith, e)) at))

-- of which nothing holds
pub none_of_all : {X : Type 0} (P : X → Type 0) (xs : List X) → All P xs → ((x : X) → P x → ⊥) → xs ≡ []
none_of_all P [] all no_one = refl
none_of_all P (x ∷ xs) all no_one = absurd (no_one x (All-head P x xs all))
