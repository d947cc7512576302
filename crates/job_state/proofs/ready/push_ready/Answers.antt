use Rattle.std.proofs.Common.{ℕ, ◌<◌, ◌++◌, ◌∷◌, [], length, get_or, subst, sym, refl, ap, ◌∙◌, arith}
use Rattle.std.proofs.lemmas.Option.{slice_get-get_or}
use Rattle.channels.specs.declared.item.Item.{Item}
use Rattle.channels.specs.declared.item.Item.TheVariants.{Record}
use Rattle.job_state.specs.Sending.{contents_items, items_at, put_into, puts_of, HasPlace}
use Rattle.job_state.proofs.Putting.{items_pushed, has_room, room_there}
use Rattle.job_state.proofs.Together.{items_appended}
use Rattle.job_state.proofs.ready.push_ready.Goals as goal

pub bounds-channels-number : goal.bounds-channels-number
bounds-channels-number g c =
    let channels = c.args.channels.now in
    let p : ℕ × Item _ = (c.in-One.number, Record c.in-One.row) in
    room_there channels (p ∷ []) (subst (λ r. HasPlace channels r) c.in-One.is c.requires) 0 p (omega arith)

pub push_reserved-requires : goal.push_reserved-requires
push_reserved-requires g c =
    let channels = c.args.channels.now in
    let n = c.in-One.number in
    let p : ℕ × Item _ = (n, Record c.in-One.row) in
    let room = subst (λ r. HasPlace channels r) c.in-One.is c.requires in
    let within : n < length channels = room_there channels (p ∷ []) room 0 p (omega arith) in
    has_room channels 0 (p ∷ []) p (get_or channels n c.index-channels-number.result) (λ k. omega (arith, room k)) (omega arith) refl (slice_get-get_or channels n c.index-channels-number.result within)

pub returns-in-One : goal.returns-in-One
returns-in-One g c k =
    let channels = c.args.channels.now in
    let n = c.in-One.number in
    let p : ℕ × Item _ = (n, Record c.in-One.row) in
    let room = subst (λ r. HasPlace channels r) c.in-One.is c.requires in
    let within : n < length channels = room_there channels (p ∷ []) room 0 p (omega arith) in
    let was = get_or channels n c.index-channels-number.result in
    items_pushed channels n was c.push_reserved.new.self (Record c.in-One.row) within (slice_get-get_or channels n c.index-channels-number.result within) c.push_reserved.ensures k
    ∙ ap (λ r. items_at (contents_items channels) k ++ put_into k (puts_of r)) (sym c.in-One.is)

pub push_rows-requires : goal.push_rows-requires
push_rows-requires g c = subst (λ r. HasPlace c.args.channels.now r) c.in-Rows.is c.requires

pub push_all-requires : goal.push_all-requires
push_all-requires g c = subst (λ r. HasPlace c.args.channels.now r) c.in-Each.is c.requires

pub returns-in-Together : goal.returns-in-Together
returns-in-Together g c k =
    let channels = c.args.channels.now in
    let n = c.in-Together.number in
    let takes = subst (λ r. HasPlace channels r) c.in-Together.is c.requires in
    let was = get_or channels n c.index-channels-number-in-Together.result in
    items_appended channels n was c.append.new.self c.in-Together.rows.items takes.0 (slice_get-get_or channels n c.index-channels-number-in-Together.result takes.0) c.append.ensures k
    ∙ ap (λ r. items_at (contents_items channels) k ++ put_into k (puts_of r)) (sym c.in-Together.is)
