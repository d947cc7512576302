use Rattle.std.proofs.Common.{◌≡◌, true, false, ap, sym, subst, ◌∙◌}
use Rattle.claims.specs.Due.{WorksFrom}
use Rattle.job_graph.specs.Expanded.{Expanded, meets, is_marked}
use Rattle.job_state.specs.Held.{came_at}
use Rattle.engine_settling.specs.Advancing.{IsPending, HaveSendersCopied}
use Rattle.engine_settling.specs.Awaiting.{HasCome}
use Rattle.engine_settling.proofs.Bringing.{brings_none, holds_running, graph_same, part_on}
use Rattle.engine_settling.proofs.Gating.{works_from}
use Rattle.engine_settling.proofs.Looping.{differ, agree, came_holds, input_awaited, input_other, input_came, input_none}
use Rattle.engine_model.proofs.RulesOf.{rules_of}
use Rattle.engine_settling.proofs.taking.take_input.Goals as goal

pub returns-in_default-clause-ends : goal.returns-in_default-clause-ends
returns-in_default-clause-ends g c =
    let rules = rules_of g.O.Operator g.O.Key.Ord g.O.Record.Codec g.O.Key.Codec g.O.State.Codec in
    let old = c.args.engine.now in (
      brings_none rules old (holds_running old (λ graph h. IsPending h × HaveSendersCopied graph h c.args.marked c.args.task) c.requires.sent),
      input_none rules c.args.marked c.args.task old c.args.input (λ number works. c.in_default.ensures.none number (subst (λ (x : Expanded). WorksFrom x c.args.task c.args.input number) (sym c.graph.ensures) works))
          (λ number leads. works_from old.graph c.is_fresh.ensures.kept.expanded c.args.task c.args.input number leads) c.requires.sent,
    )

pub returns-then-is_marked-marked-clause-ends : goal.returns-then-is_marked-marked-clause-ends
returns-then-is_marked-marked-clause-ends g c =
    let rules = rules_of g.O.Operator g.O.Key.Ord g.O.Record.Codec g.O.Key.Codec g.O.State.Codec in
    let old = c.args.engine.now in
    let works : WorksFrom old.graph c.args.task c.args.input c.in-Some.channel = subst (λ (x : Expanded). WorksFrom x c.args.task c.args.input c.in-Some.channel) c.graph.ensures c.in-Some.ensures.some in
    let mark = c.is_marked.ensures ∙ ap (λ (x : Expanded). meets is_marked x.channels c.in-Some.channel) c.graph-2.ensures in (
      brings_none rules old (holds_running old (λ graph h. IsPending h × HaveSendersCopied graph h c.args.marked c.args.task) c.requires.sent),
      input_other rules c.args.marked c.args.task old c.args.input c.in-Some.channel works (λ same. differ c.is_marked.result c.args.marked c.if-is_marked-marked.true (mark ∙ same)) c.requires.sent,
    )

pub returns-then-came-clause-ends : goal.returns-then-came-clause-ends
returns-then-came-clause-ends g c =
    let rules = rules_of g.O.Operator g.O.Key.Ord g.O.Record.Codec g.O.Key.Codec g.O.State.Codec in
    let old = c.args.engine.now in
    let works : WorksFrom old.graph c.args.task c.args.input c.in-Some.channel = subst (λ (x : Expanded). WorksFrom x c.args.task c.args.input c.in-Some.channel) c.graph.ensures c.in-Some.ensures.some in (
      brings_none rules old (holds_running old (λ graph h. IsPending h × HaveSendersCopied graph h c.args.marked c.args.task) c.requires.sent),
      input_came rules c.args.marked c.args.task old c.args.input c.in-Some.channel works (came_holds rules c.args.marked c.args.task old c.in-Some.channel true c.requires.sent (sym c.came.ensures ∙ c.if-came.true)),
    )

pub up_to_barrier-requires : goal.up_to_barrier-requires
up_to_barrier-requires g c =
    let rules = rules_of g.O.Operator g.O.Key.Ord g.O.Record.Codec g.O.Key.Codec g.O.State.Codec in
    let old = c.args.engine.now in
    let works : WorksFrom old.graph c.args.task c.args.input c.in-Some.channel = subst (λ (x : Expanded). WorksFrom x c.args.task c.args.input c.in-Some.channel) c.graph.ensures c.in-Some.ensures.some in
    let mark = c.is_marked.ensures ∙ ap (λ (x : Expanded). meets is_marked x.channels c.in-Some.channel) c.graph-2.ensures in
    record { awaited = input_awaited rules c.args.marked c.args.task old c.args.input c.in-Some.channel works (sym mark ∙ agree c.is_marked.result c.args.marked c.if-is_marked-marked.false) c.requires.sent (came_holds rules c.args.marked c.args.task old c.in-Some.channel false c.requires.sent (sym c.came.ensures ∙ c.if-came.false)) }

pub returns-clause-ends : goal.returns-clause-ends
returns-clause-ends g c =
    let rules = rules_of g.O.Operator g.O.Key.Ord g.O.Record.Codec g.O.Key.Codec g.O.State.Codec in
    let old = c.args.engine.now in
    let new = c.up_to_barrier.new.engine in
    let works : WorksFrom old.graph c.args.task c.args.input c.in-Some.channel = subst (λ (x : Expanded). WorksFrom x c.args.task c.args.input c.in-Some.channel) c.graph.ensures c.in-Some.ensures.some in
    part_on rules old old new (λ graph h. came_at h c.in-Some.channel ≡ true) (λ graph h. HasCome graph h c.args.task c.args.input c.args.marked) c.up_to_barrier.result
    (brings_none rules old (holds_running old (λ graph h. IsPending h × HaveSendersCopied graph h c.args.marked c.args.task) c.requires.sent))
    (λ b came. input_came rules c.args.marked c.args.task new c.args.input c.in-Some.channel (subst (λ (x : Expanded). WorksFrom x c.args.task c.args.input c.in-Some.channel) (sym (graph_same rules b.moves old new b.works)) works) came)
    c.up_to_barrier.ensures.ends
