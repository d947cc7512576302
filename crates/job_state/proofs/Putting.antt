-- Channels, as items are put into them.
use Rattle.std.proofs.Common.{◌≡◌, ◌<◌, ◌≤◌, ◌+◌, ◌-◌, ◌==◌, ℕ, zero, suc, List, [], ◌∷◌, ◌++◌, length, map, filter, take, drop, get_or, Some, slice_get, slice_set, unwrap_or, refl, subst, sym, ap, ◌∙◌, arith, inl, inr}
use Rattle.std.specs.Option.{option_map, option_map_or}
use Rattle.std.proofs.lemmas.Bool.Decides.{eqb_tells}
use Rattle.std.proofs.lemmas.List.{map-set, map-append, append-nil, set_past, get_or_default, length-map, length-set, length-append, set-set, take_more, take-append-drop}
use Rattle.std.proofs.lemmas.List.Elements.{filter-append}
use Rattle.std.proofs.lemmas.Option.{slice_get-map, slice_get_past}
use Rattle.channels.specs.Channel.{Contents}
use Rattle.channels.specs.declared.item.Item.{Item}
use Rattle.channels.specs.declared.item.Item.TheVariants.{Record}
use Rattle.job_state.specs.AtOnce.{without_first}
use Rattle.job_state.specs.Sending.{items_at, put_into, contents_items, room_at, waiting_at, AreChannels, HasRoom, Puts, without_head}
use Rattle.job_state.proofs.Places.{get_set_same, get_set_other, set_same}

-- none waits for room
pub waits_none : (n k : ℕ) → waiting_at n 0 k ≡ 0
waits_none n k = elim (eqb_tells n k) [ inl h ↦ rw h.0 refl | inr h ↦ rw h.0 refl ]

module _ {R : Type 0} where
  -- the same items, and as many channels
  pub are_channels : {puts made : List (ℕ × Item R)} {count counted : ℕ} → puts ≡ made → count ≡ counted → AreChannels counted made → AreChannels count puts
  are_channels {puts} {made} {count} {counted} same many all = subst (λ n. AreChannels n puts) (sym many) (subst (AreChannels counted) (sym same) all)

  pub put_into_append : (k : ℕ) (xs ys : List (ℕ × Item R)) → put_into k (xs ++ ys) ≡ put_into k xs ++ put_into k ys
  put_into_append k xs ys = ap (map (λ p. p.1)) (filter-append (λ p. p.0 == k) xs ys) ∙ map-append (λ p. p.1) (filter (λ p. p.0 == k) xs) (filter (λ p. p.0 == k) ys)

  -- what stands in a channel that was read
  pub items_here : (channels : List (Contents R)) (n : ℕ) (was : Contents R) → slice_get channels n ≡ Some was → items_at (contents_items channels) n ≡ was.items
  items_here channels n was is = ap (λ o. unwrap_or o []) (slice_get-map (λ c. c.items) channels n ∙ ap (option_map (λ c. c.items)) is)

  -- a channel that holds what the one before it held
  pub items_kept : (channels : List (Contents R)) (n : ℕ) (was new : Contents R) → slice_get channels n ≡ Some was → new.items ≡ was.items → contents_items (slice_set channels n new) ≡ contents_items channels
  items_kept channels n was new is same =
      map-set (λ c. c.items) channels n new ∙ ap (λ x. slice_set (contents_items channels) n x) same ∙ set_same (contents_items channels) n was.items (slice_get-map (λ c. c.items) channels n ∙ ap (option_map (λ c. c.items)) is)

  -- the first items of a channel were taken away
  pub first_skipped : (count : ℕ) (channels : List (Contents R)) (n : ℕ) (was new : Contents R) → slice_get channels n ≡ Some was → new.items ≡ drop count was.items → contents_items (slice_set channels n new) ≡ without_first count n (contents_items channels)
  first_skipped count channels n was new is skipped =
      map-set (λ c. c.items) channels n new ∙ ap (λ x. slice_set (contents_items channels) n x) (skipped ∙ ap (λ l. drop count l) (sym (items_here channels n was is)))

  -- there is no such channel
  pub none_skipped : (count : ℕ) (channels : List (Contents R)) (n : ℕ) → length channels ≤ n → contents_items channels ≡ without_first count n (contents_items channels)
  none_skipped count channels n past = sym (set_past (contents_items channels) n _ (omega (arith, past, length-map channels (λ c. c.items))))

  pub nothing_past : (channels : List (Contents R)) (n : ℕ) → length channels ≤ n → items_at (contents_items channels) n ≡ []
  nothing_past channels n past = ap (λ o. unwrap_or o []) (slice_get_past (contents_items channels) n (omega (arith, past, length-map channels (λ c. c.items))))

  -- where there is nothing, no records stand first
  pub none_first : (rows : List R) (items : List (Item R)) → items ≡ [] → length rows ≡ 0 → take (length rows) items ≡ map Record rows
  none_first [] items nothing none = refl
  none_first (row ∷ rows) items nothing none = absurd (omega arith)

  pub first_none : (rows : List R) (items : List (Item R)) → items ≡ [] → take (length rows) items ≡ map Record rows → length rows ≡ 0
  first_none [] items nothing first = refl
  first_none (row ∷ rows) [] nothing first = absurd cc
  first_none (row ∷ rows) (item ∷ items) nothing first = absurd cc

  -- what was put, as it is seen
  pub puts_from : (middle after : List (Contents R)) (before : List (List (Item R))) (puts : List (ℕ × Item R)) (items : ℕ → List (Item R)) → contents_items middle ≡ before → length after ≡ length middle →
      ((k : ℕ) → items_at (contents_items after) k ≡ items_at (contents_items middle) k ++ put_into k puts) → ((k : ℕ) → put_into k puts ≡ items k) → Puts items before (contents_items after)
  puts_from middle after before puts items is same each put = record {
    same_length = length-map after (λ c. c.items) ∙ same ∙ sym (length-map middle (λ c. c.items)) ∙ ap (λ l. length l) is;
    each = λ k. each k ∙ ap (λ l. items_at l k ++ put_into k puts) is ∙ ap (λ l. items_at before k ++ l) (put k);
  }

  pub puts_same : {before middle after : List (List (Item R))} {puts : ℕ → List (Item R)} (input : ℕ) (items : ℕ → List (Item R)) → middle ≡ before → Puts puts (without_head input middle) after → ((k : ℕ) → puts k ≡ items k) → Puts items (without_head input before) after
  puts_same {before} {middle} {after} {puts} input items same put equal = record {
    same_length = put.same_length ∙ ap (λ l. length (without_head input l)) same;
    each = λ k. put.each k ∙ ap (λ l. items_at (without_head input l) k ++ puts k) same ∙ ap (λ l. items_at (without_head input before) k ++ l) (equal k);
  }

  -- an item was put last into one channel
  pub items_pushed : (channels : List (Contents R)) (n : ℕ) (was new : Contents R) (item : Item R) → n < length channels → slice_get channels n ≡ Some was → new ≡ record { items = was.items ++ item ∷ []; room = was.room - 1 } →
      (k : ℕ) → items_at (contents_items (slice_set channels n new)) k ≡ items_at (contents_items channels) k ++ put_into k ((n, item) ∷ [])
  items_pushed channels n was new item within is pushed k =
      ap (λ l. items_at l k) (map-set (λ c. c.items) channels n new) ∙
      elim (eqb_tells n k) [
        | inl h ↦ rw h.0 (ap (items_at (slice_set (contents_items channels) n new.items)) (sym h.1) ∙ here ∙ ap (λ j. items_at (contents_items channels) j ++ item ∷ []) h.1)
        | inr h ↦ rw h.0 (ap (λ o. unwrap_or o []) (get_set_other (contents_items channels) n k new.items (λ e. h.1 (sym e))) ∙ sym (append-nil (items_at (contents_items channels) k)))
      ]
    where
      here : items_at (slice_set (contents_items channels) n new.items) n ≡ items_at (contents_items channels) n ++ item ∷ []
      here =
          ap (λ l. items_at l n) (sym (map-set (λ c. c.items) channels n new)) ∙ items_here (slice_set channels n new) n new (get_set_same channels n new within) ∙ ap (λ c. c.items) pushed ∙ ap (λ l. l ++ item ∷ []) (sym (items_here channels n was is))

  -- room was taken in a channel, and an item was put last into it
  pub put_last : (channels : List (Contents R)) (n : ℕ) (was roomy new : Contents R) (item : Item R) → n < length channels → slice_get channels n ≡ Some was → roomy.items ≡ was.items → new ≡ record { items = roomy.items ++ item ∷ []; room = roomy.room - 1 } →
      Puts (λ k. put_into k ((n, item) ∷ [])) (contents_items channels) (contents_items (slice_set channels n new))
  put_last channels n was roomy new item within is same pushed =
      let between : List (Contents R) = slice_set channels n roomy in
      let inside : n < length between = omega (arith, within, length-set channels n roomy) in
      let here = get_set_same channels n roomy within in
      record {
        same_length = length-map (slice_set channels n new) (λ c. c.items) ∙ length-set channels n new ∙ sym (length-map channels (λ c. c.items));
        each = λ k. ap (λ (l : List (Contents R)). items_at (contents_items l) k) (sym (set-set channels n roomy new)) ∙ items_pushed between n roomy new item inside here pushed k ∙ ap (λ (l : List (List (Item R))). items_at l k ++ put_into k ((n, item) ∷ [])) (items_kept channels n was roomy is same);
      }

  -- one channel's room grows, or falls by so much at most
  pub room_moved : (channels : List (Contents R)) (n : ℕ) (was new : Contents R) (by : ℕ) → n < length channels → slice_get channels n ≡ Some was → was.room ≤ new.room + by → (k : ℕ) → room_at channels k ≤ room_at (slice_set channels n new) k + by
  room_moved channels n was new by within is falls k =
      elim (eqb_tells k n) [
        | inl h ↦ omega (arith, falls, ap (room_at channels) h.1, ap (room_at (slice_set channels n new)) h.1, ap (λ o. option_map_or (λ c. c.room) o 0) is, ap (λ o. option_map_or (λ c. c.room) o 0) (get_set_same channels n new within))
        | inr h ↦ omega (arith, ap (λ o. option_map_or (λ c. c.room) o 0) (get_set_other channels n k new h.1))
      ]

  pub has_room_at : {channels was : List (Contents R)} (puts : List (ℕ × Item R)) → channels ≡ was → HasRoom was puts → HasRoom channels puts
  has_room_at puts same room = subst (λ (l : List (Contents R)). HasRoom l puts) (sym same) room

  -- where there is room there is a channel
  pub room_within : (channels : List (Contents R)) (n : ℕ) → 1 ≤ room_at channels n → n < length channels
  room_within [] n room = absurd (omega (arith, room))
  room_within (c ∷ channels) zero room = omega arith
  room_within (c ∷ channels) (suc n) room = omega (arith, room_within channels n room)

  pub room_here : (channels : List (Contents R)) (n : ℕ) (was : Contents R) → slice_get channels n ≡ Some was → room_at channels n ≡ was.room
  room_here channels n was is = ap (λ o. option_map_or (λ c. c.room) o 0) is

module _ {R : Type 0} where
  -- the number of one of the items is that of a channel
  pub is_there : (count : ℕ) (puts : List (ℕ × Item R)) (i : ℕ) (p : ℕ × Item R) → AreChannels count puts → i < length puts → p ≡ get_or puts i p → p.0 < count
  is_there count puts i p all within is = omega (arith, all i p within, ap (λ q. q.0) is)

  -- how many of one item go into a channel
  into_here : (n : ℕ) (item : Item R) → length (put_into n ((n, item) ∷ [])) ≡ 1
  into_here n item = elim (eqb_tells n n) [ inl h ↦ rw h.0 refl | inr h ↦ absurd (h.1 refl) ]

  into_other : (n k : ℕ) (item : Item R) → (n ≡ k → ⊥) → length (put_into k ((n, item) ∷ [])) ≡ 0
  into_other n k item other = elim (eqb_tells n k) [ inl h ↦ absurd (other h.1) | inr h ↦ rw h.0 refl ]

  -- an item was put last into one channel, for which there was room
  pub room_pushed : (channels : List (Contents R)) (n : ℕ) (was new : Contents R) (item : Item R) → n < length channels → slice_get channels n ≡ Some was → 0 < was.room → new ≡ record { items = was.items ++ item ∷ []; room = was.room - 1 } →
      (k : ℕ) → room_at channels k ≤ room_at (slice_set channels n new) k + length (put_into k ((n, item) ∷ []))
  room_pushed channels n was new item within is room pushed k =
      elim (eqb_tells n k) [
        | inl h ↦
            omega (
              arith,
              room,
              into_here n item,
              ap (λ j. length (put_into j ((n, item) ∷ []))) h.1,
              room_moved channels n was new 1 within is (omega (arith, room, ap (λ c. c.room) pushed)) k,
            )
        | inr h ↦ omega (arith, into_other n k item h.1, ap (λ o. option_map_or (λ c. c.room) o 0) (get_set_other channels n k new (λ e. h.1 (sym e))))
      ]

  -- room was taken in one channel for one item
  pub room_reserved : (channels : List (Contents R)) (n : ℕ) (was new : Contents R) (item : Item R) → n < length channels → slice_get channels n ≡ Some was → new ≡ record was { room = was.room + 1 } →
      (k : ℕ) → room_at channels k + length (put_into k ((n, item) ∷ [])) ≤ room_at (slice_set channels n new) k
  room_reserved channels n was new item within is reserved k =
      elim (eqb_tells n k) [
        | inl h ↦
            omega (
              arith,
              into_here n item,
              ap (λ j. length (put_into j ((n, item) ∷ []))) h.1,
              ap (room_at channels) h.1,
              ap (room_at (slice_set channels n new)) h.1,
              room_here channels n was is,
              room_here (slice_set channels n new) n new (get_set_same channels n new within),
              ap (λ c. c.room) reserved,
            )
        | inr h ↦ omega (arith, into_other n k item h.1, ap (λ o. option_map_or (λ c. c.room) o 0) (get_set_other channels n k new (λ e. h.1 (sym e))))
      ]

  -- one item more waits for room
  pub waits_more : (n count k : ℕ) (item : Item R) → waiting_at n count k + length (put_into k ((n, item) ∷ [])) ≡ waiting_at n (count + 1) k
  waits_more n count k item = elim (eqb_tells n k) [ inl h ↦ rw h.0 refl | inr h ↦ rw h.0 refl ]

  -- the items put so far are the first of all
  put_first : (k : ℕ) (puts : List (ℕ × Item R)) (i : ℕ) → length (put_into k (take i puts)) ≤ length (put_into k puts)
  put_first k puts i =
      omega (
        arith,
        ap (λ l. length (put_into k l)) (take-append-drop i puts),
        ap (λ l. length l) (put_into_append k (take i puts) (drop i puts)),
        length-append (put_into k (take i puts)) (put_into k (drop i puts)),
      )

  -- for one item more
  pub put_more_of : (k : ℕ) (puts : List (ℕ × Item R)) (i : ℕ) (p : ℕ × Item R) → i < length puts → p ≡ get_or puts i p → length (put_into k (take (i + 1) puts)) ≡ length (put_into k (take i puts)) + length (put_into k (p ∷ []))
  put_more_of k puts i p within is =
      ap (λ l. length (put_into k l)) (take_more puts i p within ∙ ap (λ q. take i puts ++ q ∷ []) (sym is)) ∙ ap (λ l. length l) (put_into_append k (take i puts) (p ∷ [])) ∙ length-append (put_into k (take i puts)) (put_into k (p ∷ []))

  -- there is room for the item that comes next
  pub has_room : (channels : List (Contents R)) (met : ℕ) (puts : List (ℕ × Item R)) (p : ℕ × Item R) (was : Contents R) → ((k : ℕ) → length (put_into k puts) ≤ room_at channels k + length (put_into k (take met puts))) → met < length puts → p ≡ get_or puts met p → slice_get channels p.0 ≡ Some was → 0 < was.room
  has_room channels met puts p was room within is here =
      omega (arith, room p.0, put_first p.0 puts (met + 1), put_more_of p.0 puts met p within is, into_here p.0 p.1, room_here channels p.0 was here)

  pub room_for_one : (channels : List (Contents R)) (n : ℕ) (item : Item R) → 1 ≤ room_at channels n → HasRoom channels ((n, item) ∷ [])
  room_for_one channels n item room k =
      elim (eqb_tells n k) [
        | inl h ↦ omega (arith, room, into_here n item, ap (λ j. length (put_into j ((n, item) ∷ []))) h.1, ap (room_at channels) h.1)
        | inr h ↦ omega (arith, into_other n k item h.1)
      ]

  -- where there is room there are channels
  pub room_there : (channels : List (Contents R)) (puts : List (ℕ × Item R)) → HasRoom channels puts → AreChannels (length channels) puts
  room_there channels puts room k d within =
      let p = get_or puts k d in
      room_within channels p.0 (omega (arith, room p.0, put_first p.0 puts (k + 1), put_more_of p.0 puts k p within (get_or_default puts k d p within), into_here p.0 p.1))

-- of one alone, that one is taken
pub popped_alone : {X : Type 0} (old new : List X) (x y : X) → old ≡ x ∷ [] → old ≡ new ++ y ∷ [] → x ≡ y
popped_alone old [] x y one is = let e : x ∷ [] ≡ y ∷ [] = sym one ∙ is in cc
popped_alone old (n ∷ ns) x y one is = absurd (omega (arith, ap length one, ap length is, length-append ns (y ∷ [])))
