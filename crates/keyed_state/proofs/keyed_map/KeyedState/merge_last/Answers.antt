use Rattle.std.proofs.Common.{◌≡◌, ◌∙◌, ◌-◌, Some, None, if◌then◌else◌, length, sym, ap, ap₂, refl}
use Rattle.keyed_state.specs.KeyedMap.{KeyedMap}
use Rattle.keyed_state.specs.Overlay.{put_over}
use Rattle.keyed_state.proofs.Laid.{merged_last, none_frozen}
use Rattle.keyed_state.proofs.keyed_map.KeyedState.merge_last.Goals as goal
use Rattle.keyed_state.proofs.keyed_map.KeyedState.merge_last.Goals.{in-Some-1, in-None-1}

pub invariant_of-self-in_ok-insert_in : goal.invariant_of-self-in_ok-insert_in
invariant_of-self-in_ok-insert_in g c =
    let old = c.self.invariant in
    let pop = c.pop_last-merged in
    let e : g.row.K.Denot × g.row.S.Denot = (c.in_ok-key.key, c.in_ok-later.later) in
    let looked = c.in-Some.ensures.last ∙ ap₂ (λ k s. Some (k, s)) (sym c.in_ok-key.ensures) (sym c.in_ok-later.ensures) in
    let merged = merged_last g.met.K.Ord.total c.self.inside.base c.self.inside.overlay.entries pop.new.self.entries pop.result e _ old.overlay_rises refl looked pop.ensures.variant pop.ensures.removal in
    record {
      base_rises = c.in_ok-insert_in.ensures.ordered;
      overlay_rises = pop.ensures.ordered;
      counted = old.counted ∙ ap length (sym merged.0) ∙ ap (λ base. length (put_over g.K.Ord.cmp base pop.new.self.entries)) (sym c.in_ok-insert_in.ensures.entries);
    }

pub returns-in_ok-insert_in-clause-ok : goal.returns-in_ok-insert_in-clause-ok
returns-in_ok-insert_in-clause-ok g c =
    let old = c.self.invariant in
    let pop = c.pop_last-merged in
    let e : g.row.K.Denot × g.row.S.Denot = (c.in_ok-key.key, c.in_ok-later.later) in
    let looked = c.in-Some.ensures.last ∙ ap₂ (λ k s. Some (k, s)) (sym c.in_ok-key.ensures) (sym c.in_ok-later.ensures) in
    let merged = merged_last g.met.K.Ord.total c.self.inside.base c.self.inside.overlay.entries pop.new.self.entries pop.result e _ old.overlay_rises refl looked pop.ensures.variant pop.ensures.removal in
    let frozen = c.self.inside.is_frozen in
    let none = none_frozen frozen c.self.inside.base c.insert_in.new.map (ap (λ m. m.frozen) c.self.view_is ∙ c.requires) in
    let entries = ap (λ base. put_over g.K.Ord.cmp base pop.new.self.entries) c.in_ok-insert_in.ensures.entries ∙ merged.0 ∙ ap (λ m. m.entries) c.self.view_is in
    let unmerged = merged.1 ∙ ap (λ m. m.unmerged - 1) c.self.view_is in
    let now : KeyedMap g.row.K.Denot g.row.S.Denot = record {
      entries = put_over g.K.Ord.cmp c.insert_in.new.map pop.new.self.entries;
      frozen = if frozen then Some c.insert_in.new.map else None;
      unmerged = length pop.new.self.entries;
    } in
    let is : now ≡ record c.args.self.now { unmerged = c.args.self.now.unmerged - 1 } =
    (λ i. record { entries = entries i; frozen = (none ∙ sym c.requires) i; unmerged = unmerged i }) in
    elim c.match-merged.branch [
      | in-Some-1 w ↦ w.self-is ∙ is
      | in-None-1 w ↦ w.self-is ∙ is
    ]
