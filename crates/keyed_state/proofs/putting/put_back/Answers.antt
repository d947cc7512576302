use Rattle.std.proofs.Common.{◌≡◌, Bool, true, false, Some, refl, ap, sym, ◌∙◌}
use Rattle.std.specs.BTreeMap.{is_at}
use Rattle.keyed_state.specs.Putting.{with_former}
use Rattle.keyed_state.proofs.Several.{none_set}
use Rattle.keyed_state.proofs.putting.put_back.Goals as goal

pub returns-in-Some : goal.returns-in-Some
returns-in-Some g c = by c.swap_state.result refl ∙ ap (with_former g.K.Ord.cmp (g.M.StateMap.entries c.args.map.now) c.args.key.now) (sym c.in-Some.is)
  where
    by : (b : Bool) → c.swap_state.result ≡ b → g.M.StateMap.entries c.swap_state.new.self ≡ with_former g.K.Ord.cmp (g.M.StateMap.entries c.args.map.now) c.args.key.now (Some c.in-Some.state)
    by true put = (c.swap_state.ensures.there put).1
    by false not_put =
        let none = c.swap_state.ensures.none not_put in
        none.1 ∙ sym (none_set (is_at (g.K.Ord.cmp c.args.key.now)) (g.M.StateMap.entries c.args.map.now) c.in-Some.state none.0)
