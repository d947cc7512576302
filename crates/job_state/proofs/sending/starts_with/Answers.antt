use Rattle.std.proofs.Common.{length, sym, ◌∙◌}
use Rattle.std.proofs.lemmas.Bool.{ltb-false}
use Rattle.std.proofs.lemmas.Bool.Decides.{Decides-eqb}
use Rattle.job_state.specs.Sending.{contents_items, items_at}
use Rattle.job_state.proofs.Putting.{nothing_past, none_first, first_none}
use Rattle.job_state.proofs.sending.starts_with.Goals as goal

pub returns-in-None : goal.returns-in-None
returns-in-None g c = λ _.
    let channels = c.args.channels.now in
    let rows = c.args.records.now in
    let items = items_at (contents_items channels) c.args.channel in
    let nothing = nothing_past channels c.args.channel (ltb-false c.args.channel (length channels) (sym c.in-None.ensures.lookup.0)) in
    let tells = Decides-eqb (length rows) 0 in (
      λ empty. none_first rows items nothing (tells.0 (sym c.is_empty.ensures ∙ empty)),
      λ first. c.is_empty.ensures ∙ tells.1 (first_none rows items nothing first),
    )
