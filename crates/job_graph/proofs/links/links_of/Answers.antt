use Rattle.std.proofs.Common.{map, ap, sym, subst, ◌∙◌}
use Rattle.std.specs.List.{filter}
use Rattle.job_channels.specs.Channel.{channel_view}
use Rattle.job_graph.specs.Expanded.{meets, is_on}
use Rattle.job_graph.specs.Runs.{AreRuns}
use Rattle.job_graph.proofs.Targets.{outlets_are}
use Rattle.job_graph.proofs.links.links_of.Goals as goal

pub returns : goal.returns
returns c =
    let channels = map channel_view c.args.channels.now in
    let outputs = c.in_ok-outputs.ensures in
    record {
      inputs = c.in_ok-inputs.ensures;
      outputs = outputs;
      first = c.in_ok-first.ensures ∙ ap (filter (meets (is_on 0) channels)) (c.deref.ensures.value ∙ outputs) ∙ sym (outlets_are channels c.args.task 0);
      second = c.in_ok-second.ensures ∙ ap (filter (meets (is_on 1) channels)) (c.deref-2.ensures.value ∙ outputs) ∙ sym (outlets_are channels c.args.task 1);
      first_runs = subst (λ numbers. AreRuns channels numbers c.in_ok-runs_of.field-0.items) c.deref-3.ensures.value c.in_ok-runs_of.ensures;
      second_runs = subst (λ numbers. AreRuns channels numbers c.in_ok-runs_of-2.field-0.items) c.deref-4.ensures.value c.in_ok-runs_of-2.ensures;
    }
