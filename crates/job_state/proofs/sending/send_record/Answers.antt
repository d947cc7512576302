use Rattle.std.proofs.Common.{◌∷◌, [], map, slice_get, refl, sym, ap, ◌∙◌, arith}
use Rattle.channels.specs.declared.item.Item.TheVariants.{Record}
use Rattle.dataflow_model.specs.Machine.{received}
use Rattle.job_state.specs.Sending.{put_into, contents_items}
use Rattle.job_state.proofs.Holds.{on_ok, puts_at}
use Rattle.job_state.proofs.Putting.{are_channels, puts_from}
use Rattle.job_state.proofs.Received.{deliveries_are_put, received_is_put}
use Rattle.job_state.proofs.sending.send_record.Goals as goal

pub returns-clause-ok : goal.returns-clause-ok
returns-clause-ok g c =
    let meaning = g.O.Operator.meaning in
    puts_from c.reserve_row.new.channels c.push_all.new.channels (contents_items c.args.channels.now) c.in_ok-puts.puts.items (λ k. map Record (received meaning c.args.task ((0, c.args.row) ∷ []) (slice_get c.args.graph.now.channels k)))
    c.in_ok-puts.ensures.same (omega arith) c.push_all.ensures (λ k. ap (put_into k) c.in_ok-puts.ensures.puts ∙ received_is_put meaning c.args.graph.now c.args.task ((0, c.args.row) ∷ []) k)

pub send_item-requires : goal.send_item-requires
send_item-requires g c =
    are_channels (sym c.in-Some.ensures) c.requires.channels (deliveries_are_put g.O.Operator.meaning c.args.graph.now c.args.task ((0, c.args.row) ∷ [])) 0 (c.in-Some.number, Record c.args.row) (omega arith)

pub returns-in-Some-clause-ok : goal.returns-in-Some-clause-ok
returns-in-Some-clause-ok g c =
    let meaning = g.O.Operator.meaning in
    let puts = (c.in-Some.number, Record c.args.row) ∷ [] in
    on_ok c.send_item.result
    (puts_at (λ k. put_into k puts) (λ k. map Record (received meaning c.args.task ((0, c.args.row) ∷ []) (slice_get c.args.graph.now.channels k))) refl refl
    (λ k. ap (put_into k) (sym c.in-Some.ensures) ∙ received_is_put meaning c.args.graph.now c.args.task ((0, c.args.row) ∷ []) k))
    c.send_item.ensures.ok
