use Rattle.std.proofs.Common.{◌≡◌, ◌-◌, Some, None, cond, length, sym, ap, ◌∙◌, arith}
use Rattle.keyed_state.specs.Overlay.{put_over}
use Rattle.keyed_state.proofs.Laid.{nothing_over}
use Rattle.keyed_state.proofs.keyed_map.KeyedState.freeze.Goals as goal

pub returns-clause-ok : goal.returns-clause-ok
returns-clause-ok g c =
    let thawed : c.args.self.now.frozen ≡ None = sym (ap (λ m. m.frozen) c.self.view_is) ∙ ap (λ b. cond b (Some c.self.inside.base) None) c.if-self.false in
    let moved : c.in_ok-merge.field-0 ≡ c.args.self.now.unmerged - c.len-all.result = rw thawed at c.in_ok-merge.ensures.ok in
    let before : length c.self.inside.overlay.entries ≡ c.args.self.now.unmerged = ap (λ m. m.unmerged) c.self.view_is in
    let after : length c.self-2.inside.overlay.entries ≡ c.merge.new.self.unmerged = ap (λ m. m.unmerged) c.self-2.view_is in
    let none : length c.self-2.inside.overlay.entries ≡ 0 = omega (arith, c.in_ok-merge.ensures.left, c.len-all.ensures.len) in
    let seen : put_over g.K.Ord.cmp c.self-2.inside.base c.self-2.inside.overlay.entries ≡ c.args.self.now.entries = ap (λ m. m.entries) (c.self-2.view_is ∙ c.merge.ensures.stays) in
    let base : c.self-2.inside.base ≡ c.args.self.now.entries = sym (nothing_over g.met.K.Ord.total c.self-2.inside.base c.self-2.inside.overlay.entries none) ∙ seen in
    λ i. record { entries = seen i; frozen = Some (base i); unmerged = none i }
