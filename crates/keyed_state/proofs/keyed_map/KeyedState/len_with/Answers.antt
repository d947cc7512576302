use Rattle.std.proofs.Common.{arith, ap, length, ◌≡◌}
use Rattle.keyed_state.proofs.Laid.{length-put_over}
use Rattle.keyed_state.proofs.keyed_map.KeyedState.len_with.Goals as goal

pub prove-unreachable-requires : goal.prove-unreachable-requires
prove-unreachable-requires g c =
    let most = length-put_over g.met.K.Ord.total c.self.inside.base c.self.inside.overlay.entries in
    let whole : length c.value.result.now ≡ length c.self.inside.base = ap length c.value.ensures in
    omega arith
