use Rattle.std.proofs.Common.{length, drop, ap, ◌∙◌, arith}
use Rattle.std.proofs.lemmas.List.{length-drop}
use lib.Seq.{drop-drop}
use Rattle.channels.proofs.channel.drop_first.Goals as goal

pub loop-preserved : goal.loop-preserved
loop-preserved g c = record {
  items = c.pop_front.ensures.rest ∙ ap (λ l. drop 1 l) c.loop.invariant.items ∙ drop-drop 1 c.loop.counter c.args.records.now.items;
  capacity = c.pop_front.ensures.capacity ∙ c.loop.invariant.capacity;
}

pub returns-clause-len : goal.returns-clause-len
returns-clause-len g c = omega (arith, c.requires, ap (λ l. length l) c.loop.invariant.items, length-drop c.loop.counter c.args.records.now.items)
