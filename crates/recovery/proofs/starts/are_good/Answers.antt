use Rattle.std.proofs.Common.{All, refl, subst, sym, ◌∙◌}
use Rattle.std.proofs.lemmas.List.Elements.{All-nil}
use Rattle.std.specs.Map.Iter.{deref_pair}
use Rattle.std.proofs.lemmas.Map.Iter.{rest_more}
use Rattle.std.proofs.lemmas.Bool.{false≢true}
use Rattle.abs_codec.specs.Spelling.{Fits}
use Rattle.operators.specs.Operator.{IsGoodState}
use Rattle.abs_codec.proofs.Entries.{each_goes_on, some_goes_on, some_here}
use Rattle.recovery.proofs.Entries.{all_found, found_all}
use Rattle.recovery.proofs.starts.are_good.Goals as goal

pub loop-key-preserved : goal.loop-key-preserved
loop-key-preserved g c =
    let IsGood = λ (e : g.row.O-Key.Denot × g.row.O-State.Denot). Fits g.O.Key.Codec.HasSpelling g.O.Key.Codec.spelling e.0 × IsGoodState (Fits g.O.State.Codec.HasSpelling g.O.State.Codec.spelling) g.O.Operator.Suits c.args.operator.now e.1 in
    let all = c.args.states.now in
    let before = c.loop-key.key-iterator in
    let after = c.next.new.self in
    let turn = rest_more deref_pair before after c.next.result (c.in-Some.key, c.in-Some.state) c.in-Some.is c.next.ensures.steps in
    let x = deref_pair (c.in-Some.key, c.in-Some.state) in
    record {
      each = each_goes_on IsGood all before after x turn (c.is_good.ensures.0 c.if-not-is_good.false) c.loop-key.invariant.each;
      some = some_goes_on IsGood all before after x turn c.loop-key.invariant.some;
    }

pub returns-then-not-is_good : goal.returns-then-not-is_good
returns-then-not-is_good g c =
    let Good = λ (k : g.row.O-Key.Denot) (s : g.row.O-State.Denot). Fits g.O.Key.Codec.HasSpelling g.O.Key.Codec.spelling k × IsGoodState (Fits g.O.State.Codec.HasSpelling g.O.State.Codec.spelling) g.O.Operator.Suits c.args.operator.now s in
    let IsGood = λ (e : g.row.O-Key.Denot × g.row.O-State.Denot). Good e.0 e.1 in
    let all = c.args.states.now in
    let before = c.loop-key.key-iterator in
    let after = c.next.new.self in
    let turn = rest_more deref_pair before after c.next.result (c.in-Some.key, c.in-Some.state) c.in-Some.is c.next.ensures.steps in
    let x = deref_pair (c.in-Some.key, c.in-Some.state) in (
      λ e. absurd (false≢true e),
      λ every. absurd (false≢true (sym c.if-not-is_good.true ∙ c.is_good.ensures.1 (some_here IsGood all before after x turn c.loop-key.invariant.some (found_all g.O.Key.Ord.cmp g.met.O.Operator.key_is_exact Good all c.iter-key-items.ensures.found every)))),
    )

pub returns : goal.returns
returns g c =
    let Good = λ (k : g.row.O-Key.Denot) (s : g.row.O-State.Denot). Fits g.O.Key.Codec.HasSpelling g.O.Key.Codec.spelling k × IsGoodState (Fits g.O.State.Codec.HasSpelling g.O.State.Codec.spelling) g.O.Operator.Suits c.args.operator.now s in
    let IsGood = λ (e : g.row.O-Key.Denot × g.row.O-State.Denot). Good e.0 e.1 in
    let every = c.loop-key.invariant.each (subst (All IsGood) (sym c.in-None.ensures.steps.0) (All-nil IsGood)) in
    (λ _. all_found g.O.Key.Ord.cmp g.met.O.Operator.key_is_exact Good c.args.states.now every, λ _. refl)
