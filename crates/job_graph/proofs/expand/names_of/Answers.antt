use Rattle.std.proofs.Common.{◌≡◌, ◌∙◌, ◌++◌, ◌∷◌, [], map, string_bytes, option_map, refl, sym, ap}
use Rattle.std.proofs.lemmas.List.{map_push}
use Rattle.job_spec.specs.Job.{Vertex}
use Rattle.job_graph.specs.Order.{at}
use Rattle.job_graph.proofs.LeftVertices.{kept_name, dropped_name}
use Rattle.job_graph.proofs.expand.names_of.Goals as goal
use Rattle.job_graph.proofs.expand.names_of.Goals.{then-is_left+in_ok-clone+in_ok-push, else-is_left}

pub loop-i-preserved : goal.loop-i-preserved
loop-i-preserved c =
    let vs = c.args.job.now.vertices in
    let old = map string_bytes c.loop-i.names.items in
    elim c.if-is_left.branch [
      | then-is_left+in_ok-clone+in_ok-push w ↦
          let grown : map string_bytes c.if-is_left.names.items ≡ old ++ string_bytes c.vertex.result.0.now ∷ [] =
          rw (w.names-is, w.in_ok-push.ensures.items) (map_push string_bytes c.loop-i.names.items w.in_ok-clone.field-0 ∙ rw w.in_ok-clone.ensures.cases refl) in
          rw grown (kept_name old (at c.args.left.now) vs c.loop-i.i (string_bytes c.vertex.result.0.now) _ (ap (option_map (λ (v : Vertex). v.name)) c.vertex.ensures) (sym c.is_left.ensures ∙ w.if-is_left.true) c.loop-i.invariant)
      | else-is_left w ↦
          rw w.names-is (dropped_name old (at c.args.left.now) vs c.loop-i.i _ (sym c.is_left.ensures ∙ w.if-is_left.false) c.loop-i.invariant)
    ]
