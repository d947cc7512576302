use Rattle.std.proofs.Common.{rules, ◌≡◌, ◌∙◌, ◌<◌, ◌⊎◌, length, map, [], ◌∷◌, ◌++◌, sym, ap, arith, inl, inr}
use Rattle.std.proofs.lemmas.List.{append_assoc, map-append, length-append}
use Rattle.absflow_run.proofs.Rows.{one_more, all_done}
use Rattle.absflow_run.proofs.rows_log.rows_log.Goals as goal

pub loop-partition-preserved : goal.loop-partition-preserved
loop-partition-preserved c =
    let before = c.loop-partition.invariant in
    let first = c.in-Some.ensures.steps.0 in
    let second = c.in-Some.ensures.steps.1 in
    let at : c.in-Some.partition ≡ length c.loop-partition.yielded = first.1.1 ∙ before.0 in
    let longer = length-append c.loop-partition.yielded ((c.in-Some.partition, c.in-Some.rows) ∷ []) in
    let more : c.in-Some.partition < c.args.count = omega (arith, first.1.0, first.1.1, before.1) in (
      omega (arith, first.1.2, before.0, longer),
      first.0 ∙ before.1,
      ap (λ es. es ++ c.next.new.self.b.rest.items) (map-append (λ e. e.1) c.loop-partition.yielded ((c.in-Some.partition, c.in-Some.rows) ∷ []))
          ∙ append_assoc (map (λ e. e.1) c.loop-partition.yielded) (c.in-Some.rows ∷ []) c.next.new.self.b.rest.items
          ∙ ap (λ es. map (λ e. e.1) c.loop-partition.yielded ++ es) (sym second.0) ∙ before.2,
      one_more (λ rows. rows.items) c.loop-partition.yielded c.in-Some.partition c.in-Some.rows c.args.count _ _ before.3 at more c.in_ok-append_rows.ensures,
    )

pub returns-clause-rows : goal.returns-clause-rows
returns-clause-rows c =
    let before = c.loop-partition.invariant in
    let many : length c.args.partitions.items ≡ c.args.count = search rules in
    let ends : (length c.loop-partition.yielded ≡ c.args.count) ⊎ (length c.loop-partition.partition-iterator.b.rest.items ≡ 0) = elim c.in-None.ensures.steps [
      | inl done ↦ inl (omega (arith, done.1.1.0, before.0, before.1, before.3.1))
      | inr none ↦ inr (sym c.loop-partition.partition-iterator.b.rest.ok.0 ∙ none.1.0)
    ] in
    all_done (λ rows. rows.items) c.loop-partition.yielded c.loop-partition.partition-iterator.b.rest.items c.args.partitions.items c.args.count _ before.3 before.2 many ends
