-- What stands in the channels at the beginning.
use Rattle.std.proofs.Common.{◌≡◌, ◌<◌, ◌≤◌, ◌+◌, ◌==◌, ◌++◌, ◌∷◌, [], ℕ, zero, suc, List, length, map, filter, flat_map, replicate, slice_get, slice_set, Some, refl, sym, ap, ◌∙◌, arith, inl, inr}
use Rattle.std.specs.List.{range_with_len}
use Rattle.std.proofs.lemmas.Bool.Decides.{eqb_tells}
use Rattle.std.proofs.lemmas.List.{map-set, map-append, append-nil, length-map}
use Rattle.std.proofs.lemmas.List.Concat.{flat_map-append}
use Rattle.std.proofs.lemmas.List.Elements.{filter-append}
use Rattle.std.proofs.lemmas.List.FromFn.{get_or-map-range_with_len, length-map-range_with_len}
use Rattle.std.proofs.lemmas.Option.{unwrap_or-slice_get}
use Rattle.channels.specs.Channel.{Contents}
use Rattle.channels.specs.declared.item.Item.{Item}
use Rattle.channels.specs.declared.item.Item.TheVariants.{Record}
use Rattle.task_part.specs.Spelling.{Logs}
use Rattle.job_state.specs.Held.{opened}
use Rattle.job_state.specs.Sending.{contents_items, items_at}
use Rattle.job_state.proofs.Putting.{items_here}

module _ {X : Type 0} where
  -- functions that agree on these numbers
  pub same_range : (f g : ℕ → X) (a c : ℕ) → ((k : ℕ) → a ≤ k → k < a + c → g k ≡ f k) → map g (range_with_len a c) ≡ map f (range_with_len a c)
  same_range f g a zero same = refl
  same_range f g a (suc c) same = ap (λ x. x ∷ map g (range_with_len (a + 1) c)) (same a (omega arith) (omega arith)) ∙ ap (λ l. f a ∷ l) (same_range f g (a + 1) c (λ k low high. same k (omega (arith, low)) (omega (arith, high))))

  -- functions that agree on all of these numbers but one
  pub set_range : (f g : ℕ → X) (a c n j : ℕ) → a + n ≡ j → n < c → ((k : ℕ) → (k ≡ j → ⊥) → g k ≡ f k) → map g (range_with_len a c) ≡ slice_set (map f (range_with_len a c)) n (g j)
  set_range f g a zero n j at within other = absurd (omega (arith, within))
  set_range f g a (suc c) zero j at within other =
      let here : a ≡ j = omega (arith, at) in
      ap (λ k. g k ∷ map g (range_with_len (a + 1) c)) here ∙ ap (λ l. g j ∷ l) (same_range f g (a + 1) c (λ k low high. other k (λ e. absurd (omega (arith, low, e, at)))))
  set_range f g a (suc c) (suc n) j at within other =
      ap (λ x. x ∷ map g (range_with_len (a + 1) c)) (other a (λ e. absurd (omega (arith, e, at)))) ∙ ap (λ l. f a ∷ l) (set_range f g (a + 1) c n j (omega (arith, at)) (omega (arith, within)) other)

  pub const_range : (x : X) (a c : ℕ) → replicate c x ≡ map (λ k. x) (range_with_len a c)
  const_range x a zero = refl
  const_range x a (suc c) = ap (λ l. x ∷ l) (const_range x (a + 1) c)

pub map_twice : {A B C : Type 0} (g : B → C) (f : A → B) (xs : List A) → map g (map f xs) ≡ map (λ x. g (f x)) xs
map_twice g f [] = refl
map_twice g f (x ∷ xs) = ap (λ l. g (f x) ∷ l) (map_twice g f xs)

module _ {R : Type 0} where
  opened_more : (openings : Logs R) (n : ℕ) (rows : List R) (k : ℕ) → opened (openings ++ (n, rows) ∷ []) k ≡ opened openings k ++ flat_map (λ (log : ℕ × List R). log.1) (filter (λ log. log.0 == k) ((n, rows) ∷ []))
  opened_more openings n rows k = ap (flat_map (λ (log : ℕ × List R). log.1)) (filter-append (λ log. log.0 == k) openings ((n, rows) ∷ [])) ∙ flat_map-append (λ log. log.1) (filter (λ log. log.0 == k) openings) _

  opened_here : (openings : Logs R) (n : ℕ) (rows : List R) → opened (openings ++ (n, rows) ∷ []) n ≡ opened openings n ++ rows
  opened_here openings n rows = opened_more openings n rows n ∙ ap (λ l. opened openings n ++ l) one
    where
      one : flat_map (λ (log : ℕ × List R). log.1) (filter (λ log. log.0 == n) ((n, rows) ∷ [])) ≡ rows
      one = elim (eqb_tells n n) [ inl h ↦ rw h.0 (append-nil rows) | inr h ↦ absurd (h.1 refl) ]

  opened_other : (openings : Logs R) (n : ℕ) (rows : List R) (k : ℕ) → (n ≡ k → ⊥) → opened (openings ++ (n, rows) ∷ []) k ≡ opened openings k
  opened_other openings n rows k apart = opened_more openings n rows k ∙ ap (λ l. opened openings k ++ l) none ∙ append-nil (opened openings k)
    where
      none : flat_map (λ (log : ℕ × List R). log.1) (filter (λ log. log.0 == k) ((n, rows) ∷ [])) ≡ []
      none = elim (eqb_tells n k) [ inl h ↦ absurd (apart h.1) | inr h ↦ rw h.0 refl ]

  abbrev pub opened_items : Logs R → ℕ → List (List (Item R))
  opened_items openings count = map (λ number. map Record (opened openings number)) (range_with_len 0 count)

  -- there are as many channels
  pub opened_length : (channels : List (Contents R)) (openings : Logs R) (count : ℕ) → contents_items channels ≡ opened_items openings count → length channels ≡ count
  opened_length channels openings count all = sym (length-map channels (λ c. c.items)) ∙ ap (λ l. length l) all ∙ length-map-range_with_len (λ k. map Record (opened openings k)) 0 count

  -- a channel's records are put last into it
  pub opened_there : (channels : List (Contents R)) (openings : Logs R) (count n : ℕ) (rows : List R) (was new : Contents R) → n < count → slice_get channels n ≡ Some was → new.items ≡ was.items ++ map Record rows →
      contents_items channels ≡ opened_items openings count → contents_items (slice_set channels n new) ≡ opened_items (openings ++ (n, rows) ∷ []) count
  opened_there channels openings count n rows was new within is filled all =
      map-set (λ c. c.items) channels n new ∙ ap (slice_set (contents_items channels) n) (filled ∙ ap (λ l. l ++ map Record rows) stood ∙ sym (map-append Record (opened openings n) rows) ∙ ap (map Record) (sym (opened_here openings n rows))) ∙ ap (λ l. slice_set l n (map Record (opened (openings ++ (n, rows) ∷ []) n))) all
      ∙ sym (set_range (λ k. map Record (opened openings k)) (λ k. map Record (opened (openings ++ (n, rows) ∷ []) k)) 0 count n n (omega arith) within (λ k apart. ap (map Record) (opened_other openings n rows k (λ e. apart (sym e)))))
    where
      stood : was.items ≡ map Record (opened openings n)
      stood = sym (items_here channels n was is) ∙ ap (λ l. items_at l n) all ∙ unwrap_or-slice_get (opened_items openings count) n [] ∙ get_or-map-range_with_len (λ k. map Record (opened openings k)) 0 count n n [] within (omega arith)

  -- there is no such channel
  pub opened_nowhere : (channels : List (Contents R)) (openings : Logs R) (count n : ℕ) (rows : List R) → count ≤ n → contents_items channels ≡ opened_items openings count → contents_items channels ≡ opened_items (openings ++ (n, rows) ∷ []) count
  opened_nowhere channels openings count n rows past all = all ∙ sym (same_range (λ k. map Record (opened openings k)) (λ k. map Record (opened (openings ++ (n, rows) ∷ []) k)) 0 count (λ k low high. ap (map Record) (opened_other openings n rows k (λ e. absurd (omega (arith, past, high, e))))))
