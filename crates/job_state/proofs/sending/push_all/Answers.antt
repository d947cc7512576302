use Rattle.std.proofs.Common.{◌≡◌, ◌<◌, ◌++◌, ◌∷◌, [], ℕ, length, take, get_or, arith, ap, sym, ◌∙◌, append_assoc}
use Rattle.std.proofs.lemmas.Iterator.Adapters.{YieldsList-from_vec}
use Rattle.std.proofs.lemmas.Iterator.Consumers.{YieldsList-so_far, YieldsList-turn}
use Rattle.std.proofs.lemmas.List.{map-id, length-set, length-append}
use Rattle.std.proofs.lemmas.Option.{slice_get-get_or}
use Rattle.channels.specs.declared.item.Item.{Item}
use Rattle.job_state.specs.Sending.{items_at, contents_items, put_into}
use Rattle.job_state.proofs.Putting.{items_pushed, put_into_append, room_pushed, is_there, has_room, room_there}
use Rattle.job_state.proofs.sending.push_all.Goals as goal

pub bounds-channels-number : goal.bounds-channels-number
bounds-channels-number g c =
    let n = c.in-Some.number in
    let p : ℕ × Item _ = (n, c.in-Some.item) in
    let puts = c.args.puts.items in
    let b = c.into_iter-number-iterator.ensures.into_iter_gives in
    let road = YieldsList-from_vec {s = c.into_iter-number-iterator.result} puts b.0 (b.1 ∙ c.args.puts.ok.0) in
    let t = YieldsList-turn road c.loop-number.yielded c.loop-number.number-iterator c.loop-number.yielded_by c.next.result c.next.new.self p c.in-Some.is c.next.ensures.steps in
    omega (arith, is_there (length c.args.channels.now) puts (length c.loop-number.yielded) p (room_there c.args.channels.now puts c.requires) t.0 t.1, c.loop-number.invariant.same_length)

pub push_reserved-requires : goal.push_reserved-requires
push_reserved-requires g c =
    let channels = c.loop-number.channels in
    let n = c.in-Some.number in
    let p : ℕ × Item _ = (n, c.in-Some.item) in
    let puts = c.args.puts.items in
    let b = c.into_iter-number-iterator.ensures.into_iter_gives in
    let road = YieldsList-from_vec {s = c.into_iter-number-iterator.result} puts b.0 (b.1 ∙ c.args.puts.ok.0) in
    let t = YieldsList-turn road c.loop-number.yielded c.loop-number.number-iterator c.loop-number.yielded_by c.next.result c.next.new.self p c.in-Some.is c.next.ensures.steps in
    let so_far : c.loop-number.yielded ≡ take (length c.loop-number.yielded) puts = sym (map-id c.loop-number.yielded) ∙ YieldsList-so_far road c.loop-number.yielded c.loop-number.number-iterator c.loop-number.yielded_by in
    let within : n < length channels = omega (arith, is_there (length c.args.channels.now) puts (length c.loop-number.yielded) p (room_there c.args.channels.now puts c.requires) t.0 t.1) in
    let was = get_or channels n c.index-channels-number.result in
    let is = slice_get-get_or channels n c.index-channels-number.result within in
    has_room channels (length c.loop-number.yielded) puts p was (λ k. omega (arith, c.loop-number.invariant.room k, ap (λ l. length (put_into k l)) so_far)) t.0 t.1 is

pub loop-number-preserved : goal.loop-number-preserved
loop-number-preserved g c =
    let channels = c.loop-number.channels in
    let n = c.in-Some.number in
    let p : ℕ × Item _ = (n, c.in-Some.item) in
    let puts = c.args.puts.items in
    let b = c.into_iter-number-iterator.ensures.into_iter_gives in
    let road = YieldsList-from_vec {s = c.into_iter-number-iterator.result} puts b.0 (b.1 ∙ c.args.puts.ok.0) in
    let t = YieldsList-turn road c.loop-number.yielded c.loop-number.number-iterator c.loop-number.yielded_by c.next.result c.next.new.self p c.in-Some.is c.next.ensures.steps in
    let so_far : c.loop-number.yielded ≡ take (length c.loop-number.yielded) puts = sym (map-id c.loop-number.yielded) ∙ YieldsList-so_far road c.loop-number.yielded c.loop-number.number-iterator c.loop-number.yielded_by in
    let new = c.push_reserved.new.self in
    let within : n < length channels = omega (arith, is_there (length c.args.channels.now) puts (length c.loop-number.yielded) p (room_there c.args.channels.now puts c.requires) t.0 t.1) in
    let was = get_or channels n c.index-channels-number.result in
    let is = slice_get-get_or channels n c.index-channels-number.result within in
    let room = has_room channels (length c.loop-number.yielded) puts p was (λ k. omega (arith, c.loop-number.invariant.room k, ap (λ l. length (put_into k l)) so_far)) t.0 t.1 is in
    let pushed = items_pushed channels n was new c.in-Some.item within is c.push_reserved.ensures in
    let moved = room_pushed channels n was new c.in-Some.item within is room c.push_reserved.ensures in
    record {
      puts = λ k. pushed k ∙ ap (λ l. l ++ put_into k (p ∷ [])) (c.loop-number.invariant.puts k) ∙ append_assoc _ (put_into k c.loop-number.yielded) _ ∙ ap (λ l. items_at (contents_items c.args.channels.now) k ++ l) (sym (put_into_append k c.loop-number.yielded (p ∷ [])));
      same_length = length-set channels n new ∙ c.loop-number.invariant.same_length;
      room = λ k. omega (arith, c.loop-number.invariant.room k, moved k, ap (λ l. length l) (put_into_append k c.loop-number.yielded (p ∷ [])), length-append (put_into k c.loop-number.yielded) (put_into k (p ∷ [])));
    }
