-- What is put into a channel is what the plain machine has the channel receive.
use Rattle.std.proofs.Common.{◌≡◌, ◌<◌, ◌≤◌, ◌+◌, ◌==◌, ◌&&◌, ℕ, zero, suc, Bool, true, false, cond, List, [], ◌∷◌, ◌++◌, length, map, filter, Option, Some, None, slice_get, All, refl, sym, ap, ◌∙◌, arith, inl, inr}
use Rattle.std.specs.List.{range_with_len}
use Rattle.std.specs.Option.{option_map_or}
use Rattle.std.proofs.lemmas.Bool.Decides.{eqb_tells}
use Rattle.std.proofs.lemmas.List.Concat.{flat_map-cons}
use Rattle.std.proofs.lemmas.List.Elements.{All-filter, All-map, All-append, All-nil}
use Rattle.std.proofs.lemmas.List.FromFn.{length-range_with_len, get_or-range_with_len}
use Rattle.std.proofs.lemmas.Option.{slice_get_within}
use Rattle.channels.specs.declared.item.Item.{Item}
use Rattle.channels.specs.declared.item.Item.TheVariants.{Record, Barrier}
use Rattle.dataflow_model.specs.Graph.{Meaning, Channel, takes_lane, admits}
use Rattle.dataflow_model.specs.Machine.{received}
use Rattle.job_graph.specs.Expanded.{Expanded, meets, numbers_of, is_output, is_target}
use Rattle.deliveries.specs.Deliveries.{barriers_of, deliveries_of_one, deliveries_of}
use Rattle.job_state.specs.Sending.{put_into, barrier_into, AreChannels}
use Rattle.job_state.proofs.Putting.{put_into_append}

not_past : {A : Type 0} (xs : List A) (i : ℕ) → i < length xs → slice_get xs i ≡ None → ⊥
not_past [] i within e = absurd (omega (arith, within))
not_past (x ∷ xs) zero within e = cc
not_past (x ∷ xs) (suc i) within e = not_past xs i (omega (arith, within)) e

eqb_swap : (m n : ℕ) → (m == n) ≡ (n == m)
eqb_swap m n =
    elim (eqb_tells m n) [
      | inl h ↦ elim (eqb_tells n m) [ inl k ↦ h.0 ∙ sym k.0 | inr k ↦ absurd (k.1 (sym h.1)) ]
      | inr h ↦ elim (eqb_tells n m) [ inl k ↦ absurd (h.1 (sym k.1)) | inr k ↦ h.0 ∙ sym k.0 ]
    ]

-- the numbers of the channels that meet a test are numbers of channels
pub numbers_below : (test : Channel → Bool) (channels : List Channel) → All (λ n. n < length channels) (numbers_of test channels)
numbers_below test channels =
    All-filter (meets test channels) (λ n. n < length channels) (range_with_len 0 (length channels))
    (λ k d h. let within : k < length channels = omega (arith, h, length-range_with_len 0 (length channels)) in omega (arith, within, get_or-range_with_len 0 (length channels) k d within))

module _ {R : Type 0} (item : Item R) (c : ℕ) where
  -- the item is put under each of these numbers: what goes into channel c
  abbrev put : List ℕ → List (Item R)
  put ns = put_into c (map (λ n. (n, item)) ns)

  skip : (x : ℕ) (ns : List ℕ) → (x ≡ c → ⊥) → put (x ∷ ns) ≡ put ns
  skip x ns apart = elim (eqb_tells x c) [ inl h ↦ absurd (apart h.1) | inr h ↦ rw h.0 refl ]

  hit : (ns : List ℕ) → put (c ∷ ns) ≡ item ∷ put ns
  hit ns = elim (eqb_tells c c) [ inl h ↦ rw h.0 refl | inr h ↦ absurd (h.1 refl) ]

  kept : (b : Bool) (x : ℕ) (ns : List ℕ) → (x ≡ c → ⊥) → put (cond b (x ∷ ns) ns) ≡ put ns
  kept true x ns other = skip x ns other
  kept false x ns other = refl

  kept_here : (b : Bool) (ns : List ℕ) → put ns ≡ [] → put (cond b (c ∷ ns) ns) ≡ cond b (item ∷ []) []
  kept_here true ns none = hit ns ∙ ap (λ l. item ∷ l) none
  kept_here false ns none = none

  -- no number of the list is c
  apart : (p : ℕ → Bool) (n a : ℕ) → ((x : ℕ) → a ≤ x → x < a + n → x ≡ c → ⊥) → put (filter p (range_with_len a n)) ≡ []
  apart p zero a none = refl
  apart p (suc n) a none = kept (p a) a (filter p (range_with_len (a + 1) n)) (none a (omega arith) (omega arith)) ∙ apart p n (a + 1) (λ x low high. none x (omega (arith, low)) (omega (arith, high)))

  here : (p : ℕ → Bool) (n : ℕ) → put (filter p (range_with_len c (suc n))) ≡ cond (p c) (item ∷ []) []
  here p n = kept_here (p c) (filter p (range_with_len (c + 1) n)) (apart p n (c + 1) (λ x low high e. omega (arith, low, e)))

  -- c stands once in the list if it meets the test
  once : (p : ℕ → Bool) (n a : ℕ) → a ≤ c → c < a + n → put (filter p (range_with_len a n)) ≡ cond (p c) (item ∷ []) []
  once p zero a low high = absurd (omega (arith, low, high))
  once p (suc n) a low high =
      elim (eqb_tells a c) [
        | inl h ↦ ap (λ x. put (filter p (range_with_len x (suc n)))) h.1 ∙ here p n
        | inr h ↦ kept (p a) a (filter p (range_with_len (a + 1) n)) h.1 ∙ once p n (a + 1) (omega (arith, low, h.1)) (omega (arith, high))
      ]

  once_at : (test : Channel → Bool) (channels : List Channel) (o : Option Channel) → slice_get channels c ≡ o → put (numbers_of test channels) ≡ cond (meets test channels c) (item ∷ []) []
  once_at test channels (Some channel) is = once (meets test channels) (length channels) 0 (omega arith) (omega (arith, slice_get_within channels c channel is))
  once_at test channels None is =
      apart (meets test channels) (length channels) 0 (λ x low high e. not_past channels c (omega (arith, high, e)) is) ∙ ap (λ b. cond b (item ∷ []) []) (sym (ap (λ o. option_map_or test o false) is))

  -- what goes into a channel of an item that is put into all that meet a test
  pub put_once : (test : Channel → Bool) (channels : List Channel) → put (numbers_of test channels) ≡ cond (meets test channels c) (item ∷ []) []
  put_once test channels = once_at test channels (slice_get channels c) refl

-- the barriers that a task sends are those that each channel is to have
pub barriers_put : (R : Type 0) (graph : Expanded) (task checkpoint c : ℕ) → put_into {R = R} c (barriers_of graph task checkpoint) ≡ barrier_into checkpoint task (slice_get graph.channels c)
barriers_put R graph task checkpoint c = put_once (Barrier checkpoint) c (is_output task) graph.channels ∙ by (slice_get graph.channels c)
  where
    by : (o : Option Channel) → cond {A = List (Item R)} (option_map_or (is_output task) o false) (Barrier checkpoint ∷ []) [] ≡ barrier_into checkpoint task o
    by None = refl
    by (Some channel) = refl

pub barriers_are_put : (R : Type 0) (graph : Expanded) (task checkpoint : ℕ) → AreChannels {R = R} (length graph.channels) (barriers_of graph task checkpoint)
barriers_are_put R graph task checkpoint = All-map {X = ℕ × Item R} (λ p. p.0 < length graph.channels) (λ n. (n, Barrier checkpoint)) (numbers_of (is_output task) graph.channels) (numbers_below (is_output task) graph.channels)

module _ {R K S O : Type 0} (meaning : Meaning R K S O) (graph : Expanded) (task : ℕ) where
  one_more : (o : Option Channel) (s : ℕ × R) (ss : List (ℕ × R)) →
      cond (option_map_or (is_target task s.0 (meaning.lane s.1)) o false) (Record s.1 ∷ []) [] ++ map Record (received meaning task ss o) ≡ map Record (received meaning task (s ∷ ss) o)
  one_more None s ss = refl
  one_more (Some channel) s ss = by (channel.sender == task) (channel.port == s.0) (s.0 == channel.port) (takes_lane channel.route (meaning.lane s.1)) (eqb_swap channel.port s.0)
    where
      by : (sends port swapped lane : Bool) → port ≡ swapped →
          cond ((sends && port) && lane) (Record s.1 ∷ []) [] ++ map Record (cond sends (map (λ r. r.1) (filter (admits meaning channel) ss)) []) ≡ map Record (cond sends (map (λ r. r.1) (cond (swapped && lane) (s ∷ filter (admits meaning channel) ss) (filter (admits meaning channel) ss))) [])
      by true true true true e = refl
      by true true true false e = refl
      by true false false lane e = refl
      by true true false lane e = absurd cc
      by true false true lane e = absurd cc
      by false port swapped lane e = refl

  nothing : (b : Bool) → map {B = Item R} Record (cond b [] []) ≡ []
  nothing true = refl
  nothing false = refl

  none_received : (o : Option Channel) → map {B = Item R} Record (received meaning task [] o) ≡ []
  none_received None = refl
  none_received (Some channel) = nothing (channel.sender == task)

  -- what a task sends goes into each channel as the plain machine has it
  pub received_is_put : (sent : List (ℕ × R)) (c : ℕ) → put_into c (deliveries_of meaning graph task sent) ≡ map Record (received meaning task sent (slice_get graph.channels c))
  received_is_put [] c = sym (none_received (slice_get graph.channels c))
  received_is_put (s ∷ ss) c =
      ap (put_into c) (flat_map-cons (deliveries_of_one meaning graph task) s ss)
      ∙ put_into_append c (deliveries_of_one meaning graph task s) (deliveries_of meaning graph task ss)
      ∙ ap (λ l. l ++ put_into c (deliveries_of meaning graph task ss)) (put_once (Record s.1) c (is_target task s.0 (meaning.lane s.1)) graph.channels)
      ∙ ap (λ l. cond (meets (is_target task s.0 (meaning.lane s.1)) graph.channels c) (Record s.1 ∷ []) [] ++ l) (received_is_put ss c)
      ∙ one_more (slice_get graph.channels c) s ss

  pub deliveries_are_put : (sent : List (ℕ × R)) → AreChannels (length graph.channels) (deliveries_of meaning graph task sent)
  deliveries_are_put [] = All-nil (λ p. p.0 < length graph.channels)
  deliveries_are_put (s ∷ ss) =
      let first = All-map (λ p. p.0 < length graph.channels) (λ n. (n, Record s.1)) (numbers_of (is_target task s.0 (meaning.lane s.1)) graph.channels) (numbers_below (is_target task s.0 (meaning.lane s.1)) graph.channels) in
      All-append (λ p. p.0 < length graph.channels) (deliveries_of_one meaning graph task s) (deliveries_of meaning graph task ss) first (deliveries_are_put ss)
