use Rattle.std.proofs.Common.{◌≡◌, length, ap, sym, subst, ◌∙◌}
use Rattle.std.specs.List.Sorted.{IsStrictlySortedBy}
use Rattle.std.specs.Map.{keys_of}
use Rattle.keyed_state.specs.Overlay.{put_over}
use Rattle.keyed_state.proofs.Laid.{put_over-rises}
use Rattle.keyed_state.proofs.keyed_map.KeyedState.renew.Goals as goal

-- the copy alone is what was seen
pub invariant_of-self : goal.invariant_of-self
invariant_of-self g c =
    let cmp = g.K.Ord.cmp in
    let seen = put_over cmp c.self.inside.base c.self.inside.overlay.entries in
    let base : c.new.result ≡ seen = c.new.ensures ∙ c.in_ok-whole.ensures ∙ ap (λ m. m.entries) (sym c.self.view_is) in
    record {
      base_rises = subst (λ l. IsStrictlySortedBy cmp (keys_of l)) (sym base) (put_over-rises g.met.K.Ord.total c.self.inside.base c.self.inside.overlay.entries c.self.invariant.base_rises);
      overlay_rises = c.clear.ensures.ordered;
      counted = c.self.invariant.counted ∙ ap length (sym (ap (put_over cmp c.new.result) c.clear.ensures.empty ∙ base));
    }
