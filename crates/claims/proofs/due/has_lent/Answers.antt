use Rattle.std.proofs.Common.{◌≡◌, ◌<◌, Some, length, refl, sym, subst, ◌∙◌, below_more, arith}
use Rattle.std.proofs.lemmas.Bool.{false≢true}
use Rattle.std.proofs.lemmas.Option.{slice_get_read}
use Rattle.abs_codec.specs.Entries.{value_at}
use Rattle.claims.proofs.Keys.{same_under, agree_under, among_at}
use Rattle.claims.proofs.due.has_lent.Goals as goal

pub loop-index-preserved : goal.loop-index-preserved
loop-index-preserved g c =
    let keys = c.args.keys.now in
    let key = c.index-keys-index.result in
    let less : c.loop-index.index < length keys = omega arith in
    let at = slice_get_read keys (length keys) c.loop-index.index key refl less c.index-keys-index.is in
    below_more _ _ c.loop-index.invariant (λ entries held k is.
    let both : Some key ≡ Some k = sym at ∙ is in
    let same : key ≡ k = cc in
    subst (λ q. value_at g.O.Key.Ord.cmp entries q ≡ value_at g.O.Key.Ord.cmp c.args.lent.now q) same ((c.has_state.ensures entries held).0 c.if-not-has_state.false ∙ c.get.ensures))

pub returns-then-not-has_state : goal.returns-then-not-has_state
returns-then-not-has_state g c = λ entries held.
    let keys = c.args.keys.now in
    let key = c.index-keys-index.result in
    let less : c.loop-index.index < length keys = omega arith in
    let at = slice_get_read keys (length keys) c.loop-index.index key refl less c.index-keys-index.is in (
      λ e. absurd (false≢true e),
      λ same. absurd (false≢true (sym c.if-not-has_state.true ∙ (c.has_state.ensures entries held).1 (agree_under g.met.O.Key.Ord.total g.met.O.Operator.key_is_exact c.args.lent.now entries keys key (among_at keys c.loop-index.index key at) same ∙ sym c.get.ensures))),
    )

pub returns : goal.returns
returns g c = λ entries held. (λ _. same_under g.met.O.Key.Ord.total c.args.lent.now g.met.O.Operator.key_is_exact entries c.args.keys.now (λ i less. c.loop-index.invariant i (omega arith) entries held), λ _. refl)
