use Rattle.std.proofs.Common.{le_trans, length, ap, sym, ◌∙◌, subst}
use Rattle.published_lists.specs.Editions.{Follows}
use Rattle.published_lists.specs.Rows.{rows_of}
use Rattle.output_readers.specs.Seeing.{Knowledge}
use Rattle.published_lists.proofs.Beginnings.{begins_length}
use Rattle.published_lists.proofs.EachRow.{length-each_take}
use Rattle.published_lists.proofs.Growing.{follows_trans}
use Rattle.output_readers.proofs.Knowing.{view_told}
use Rattle.output_readers.proofs.output_reader.OutputReader.learn.Goals as goal

pub invariant_of-self : goal.invariant_of-self
invariant_of-self c =
    let i = c.self.inside in
    let now = c.replace_with.new.dest in
    let grows = c.replace_with.ensures.0 in record {
      told = c.later.ensures.follows now (follows_trans i.told i.place now c.self.invariant.told grows) (subst (λ e. Follows e now) (sym c.edition.ensures) c.replace_with.ensures.1);
      read = λ s. le_trans (c.self.invariant.read s) (begins_length (rows_of i.place.lists s) (rows_of now.lists s) (grows.1 s));
    }

pub returns-clause-view : goal.returns-clause-view
returns-clause-view c s =
    let i = c.self.inside in
    let now = c.replace_with.new.dest.lists in
    rw (← c.self.view_is, ← c.edition.ensures) (view_told i.read.items i.place.lists now i.told.lists c.replace_with.ensures.0.1 c.self.invariant.read c.later.result.lists c.edition.result.now.lists c.later.ensures.lists s)

pub returns-clause-subtasks : goal.returns-clause-subtasks
returns-clause-subtasks c =
    let i = c.self.inside in
    length-each_take i.read.items c.replace_with.new.dest.lists ∙ (sym (length-each_take i.read.items i.place.lists) ∙ ap (λ (k : Knowledge). length k.read) c.self.view_is)
