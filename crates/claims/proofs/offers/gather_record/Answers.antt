use Rattle.std.proofs.Common.{sym, ap, subst, ◌∙◌}
use Rattle.std.specs.List.{All}
use Rattle.std.proofs.lemmas.List.Elements.{All-push, All-weaker}
use Rattle.claims.specs.Keys.{HasItsKey}
use Rattle.claims.proofs.offers.gather_record.Goals as goal

pub returns-clause-keys : goal.returns-clause-keys
returns-clause-keys g c =
    let key_of = g.O.Operator.meaning.key c.args.operator.now in
    let old = c.args.gathered.now in
    let Before = HasItsKey g.O.Operator.meaning c.args.operator.now old.keys.items in
    let After = HasItsKey g.O.Operator.meaning c.args.operator.now c.push_key.new.keys.items in
    let row = c.in_ok-copied.field-0 in
    let rows = All-weaker Before After (λ r held key is. c.in_ok-push_key.ensures.stay key (held key is)) old.rows.items c.requires.keyed in
    let last : After row = λ key is. c.in_ok-push_key.ensures.there key (c.in_ok-key.ensures ∙ ap key_of (sym c.in_ok-copied.ensures) ∙ is) in
    subst (λ rs. All After rs) (sym c.push_reserved.ensures.items) (All-push After old.rows.items row rows last)
