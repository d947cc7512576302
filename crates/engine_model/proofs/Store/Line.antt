-- The line of a store's complete numbers.
use Rattle.std.proofs.Common.{◌≡◌, ◌<◌, ◌≤◌, ◌+◌, ◌==◌, ◌++◌, ◌||◌, inl, inr, if◌then◌else◌, ℕ, zero, suc, Bool, true, false, List, [], ◌∷◌, refl, sym, ap, ◌∙◌, arith, append-nil}
use Rattle.std.specs.List.{range_with_len, filter}
use Rattle.std.proofs.lemmas.Bool.Decides.{eqb_tells, leb_tells}
use Rattle.std.proofs.lemmas.List.Elements.{filter-append}
use Rattle.checkpoint_model.specs.Durable.{is_on}

range_last : (a n j : ℕ) → a + n ≡ j → range_with_len a (suc n) ≡ range_with_len a n ++ j ∷ []
range_last a zero j e = let same : a ≡ j = omega arith in ap (λ k. k ∷ []) same
range_last a (suc n) j e = ap (λ l. a ∷ l) (range_last (a + 1) n j (omega arith))

-- the numbers below a bound that pass a test, rising
abbrev pub passing : (ℕ → Bool) → ℕ → List ℕ
passing p n = filter p (range_with_len 0 n)

pub passing_more : (p : ℕ → Bool) (n : ℕ) → passing p (suc n) ≡ passing p n ++ (if p n then n ∷ [] else [])
passing_more p n = ap (filter p) (range_last 0 n n (omega arith)) ∙ filter-append p (range_with_len 0 n) (n ∷ [])

pub passing_yes : (p : ℕ → Bool) (n : ℕ) → p n ≡ true → passing p (suc n) ≡ passing p n ++ n ∷ []
passing_yes p n passes = passing_more p n ∙ ap (λ (b : Bool). passing p n ++ (if b then n ∷ [] else [])) passes

pub passing_no : (p : ℕ → Bool) (n : ℕ) → p n ≡ false → passing p (suc n) ≡ passing p n
passing_no p n fails = passing_more p n ∙ ap (λ (b : Bool). passing p n ++ (if b then n ∷ [] else [])) fails ∙ append-nil (passing p n)

-- tests that agree below the bound
pub passing_same : (p q : ℕ → Bool) (n : ℕ) → ((m : ℕ) → m < n → q m ≡ p m) → passing q n ≡ passing p n
passing_same p q zero same = refl
passing_same p q (suc n) same =
    passing_more q n
    ∙ ap (λ (l : List ℕ). l ++ (if q n then n ∷ [] else [])) (passing_same p q n (λ m h. same m (omega (arith, h))))
    ∙ ap (λ (b : Bool). passing p n ++ (if b then n ∷ [] else [])) (same n (omega arith))
    ∙ sym (passing_more p n)

-- from a number on none passes
pub passing_up_to : (p : ℕ → Bool) (l n : ℕ) → l ≤ n → ((m : ℕ) → l ≤ m → p m ≡ false) → passing p n ≡ passing p l
passing_up_to p l zero le none = let same : zero ≡ l = omega (arith, le) in ap (passing p) same
passing_up_to p l (suc n) le none =
    elim (leb_tells l n) [
      | inl h ↦ passing_no p n (none n h.1) ∙ passing_up_to p l n h.1 none
      | inr h ↦ let same : suc n ≡ l = omega (arith, le, h.1) in ap (passing p) same
    ]

no_pass : (b : Bool) → (b ≡ true → ⊥) → b ≡ false
no_pass true h = absurd (h refl)
no_pass false h = refl

-- the last that passes stands last
pub passing_last : (p : ℕ → Bool) (l n : ℕ) → p l ≡ true → ((m : ℕ) → p m ≡ true → m ≤ l) → l < n → passing p n ≡ passing p l ++ l ∷ []
passing_last p l n passes below lt =
    passing_up_to p (suc l) n (omega (arith, lt)) (λ m le. no_pass (p m) (λ e. let h : m ≤ l = below m e in omega (arith, h, le)))
    ∙ passing_yes p l passes

-- one more passes, above all that passed
pub passing_one_more : (p q : ℕ → Bool) (l n : ℕ) → ((m : ℕ) → q m ≡ ((m == l) || p m)) → ((m : ℕ) → p m ≡ true → m < l) → l < n → passing q n ≡ passing p n ++ l ∷ []
passing_one_more p q l n more below lt =
    passing_last q l n here at_most lt
    ∙ ap (λ (list : List ℕ). list ++ l ∷ []) (passing_same p q l less ∙ sym (passing_up_to p l n (omega (arith, lt)) (λ m le. no_pass (p m) (λ e. let h : m < l = below m e in omega (arith, h, le)))))
  where
    here : q l ≡ true
    here = more l ∙ elim (eqb_tells l l) [ inl h ↦ ap (λ (b : Bool). b || p l) h.0 | inr h ↦ absurd (h.1 refl) ]

    at_most : (m : ℕ) → q m ≡ true → m ≤ l
    at_most m e = elim (eqb_tells m l) [
      | inl h ↦ omega (arith, h.1)
      | inr h ↦ let lower : m < l = below m (sym (ap (λ (b : Bool). b || p m) h.0) ∙ sym (more m) ∙ e) in omega (arith, lower)
    ]

    less : (m : ℕ) → m < l → q m ≡ p m
    less m lower = more m ∙ elim (eqb_tells m l) [ inl h ↦ absurd (omega (arith, h.1, lower)) | inr h ↦ ap (λ (b : Bool). b || p m) h.0 ]

-- what stands on the line

on_append : (xs ys : List ℕ) (m : ℕ) → is_on (xs ++ ys) m ≡ (is_on xs m || is_on ys m)
on_append [] ys m = refl
on_append (x ∷ xs) ys m = ap (λ (b : Bool). (x == m) || b) (on_append xs ys m) ∙ or_assoc (x == m) (is_on xs m) (is_on ys m)
  where
    or_assoc : (a b c : Bool) → (a || (b || c)) ≡ ((a || b) || c)
    or_assoc true b c = refl
    or_assoc false b c = refl

pub on_passing : (p : ℕ → Bool) (n m : ℕ) → m < n → is_on (passing p n) m ≡ p m
on_passing p zero m lt = absurd (omega (arith, lt))
on_passing p (suc n) m lt =
    ap (λ (l : List ℕ). is_on l m) (passing_more p n) ∙ on_append (passing p n) (if p n then n ∷ [] else []) m
    ∙ elim (eqb_tells m n) [
      | inl same ↦ ap (λ (b : Bool). b || is_on (if p n then n ∷ [] else []) m) (off_passing p n m (omega (arith, same.1))) ∙ here (p n) m n same.1 ∙ ap p (sym same.1)
      | inr other ↦ ap (λ (b : Bool). b || is_on (if p n then n ∷ [] else []) m) (on_passing p n m (let ne = other.1 in omega (arith, lt, ne))) ∙ there (p n) (p m) m n other.1
    ]
  where
    here : (b : Bool) (m n : ℕ) → m ≡ n → is_on (if b then n ∷ [] else []) m ≡ b
    here true m n e = elim (eqb_tells n m) [ inl h ↦ ap (λ (c : Bool). c || false) h.0 | inr h ↦ absurd (h.1 (sym e)) ]
    here false m n e = refl

    apart : (n m : ℕ) → (m ≡ n → ⊥) → (n == m) ≡ false
    apart n m ne = elim (eqb_tells n m) [ inl h ↦ absurd (ne (sym h.1)) | inr h ↦ h.0 ]

    nothing_more : (b c : Bool) → c ≡ false → (b || (c || false)) ≡ b
    nothing_more true c e = refl
    nothing_more false c e = ap (λ (x : Bool). x || false) e

    nothing : (b : Bool) → (b || false) ≡ b
    nothing true = refl
    nothing false = refl

    there : (b c : Bool) (m n : ℕ) → (m ≡ n → ⊥) → (c || is_on (if b then n ∷ [] else []) m) ≡ c
    there true c m n ne = nothing_more c (n == m) (apart n m ne)
    there false c m n ne = nothing c

    off_one : (b : Bool) (k m : ℕ) → k < m → is_on (if b then k ∷ [] else []) m ≡ false
    off_one true k m lt = ap (λ (c : Bool). c || false) (apart k m (λ e. omega (arith, e, lt)))
    off_one false k m lt = refl

    off_passing : (p : ℕ → Bool) (n m : ℕ) → n ≤ m → is_on (passing p n) m ≡ false
    off_passing p zero m le = refl
    off_passing p (suc n) m le =
        ap (λ (l : List ℕ). is_on l m) (passing_more p n) ∙ on_append (passing p n) (if p n then n ∷ [] else []) m
        ∙ ap (λ (b : Bool). b || is_on (if p n then n ∷ [] else []) m) (off_passing p n m (omega (arith, le)))
        ∙ off_one (p n) n m (omega (arith, le))

-- nothing that is not below the bound stands on it
pub off_line : (p : ℕ → Bool) (n m : ℕ) → p m ≡ false → is_on (passing p n) m ≡ false
off_line p zero m fails = refl
off_line p (suc n) m fails =
    ap (λ (l : List ℕ). is_on l m) (passing_more p n) ∙ on_append (passing p n) (if p n then n ∷ [] else []) m
    ∙ ap (λ (b : Bool). b || is_on (if p n then n ∷ [] else []) m) (off_line p n m fails)
    ∙ elim (eqb_tells n m) [
      | inl same ↦ ap (λ (b : Bool). is_on (if b then n ∷ [] else []) m) (ap p same.1 ∙ fails)
      | inr other ↦ one (p n) other.0
    ]
  where
    one : (b : Bool) → (n == m) ≡ false → is_on (if b then n ∷ [] else []) m ≡ false
    one true e = ap (λ (c : Bool). c || false) e
    one false e = refl

-- of a test that only numbers below the bound pass
pub on_line : (p : ℕ → Bool) (n m : ℕ) → (p m ≡ true → m < n) → is_on (passing p n) m ≡ p m
on_line p n m below = of (p m) refl
  where
    of : (b : Bool) → p m ≡ b → is_on (passing p n) m ≡ p m
    of true e = on_passing p n m (below e)
    of false e = off_line p n m e ∙ sym e
