use Rattle.std.proofs.Common.{rules, ◌≡◌, ℕ, ◌<◌, map, length, set, ap, sym, ◌∙◌, Vec, Global, subst}
use Rattle.std.specs.Vec.{with_items}
use Rattle.std.proofs.lemmas.List.{with_items_is, length-map, length-set}
use Rattle.published_lists.specs.Beginnings.{longer}
use Rattle.published_lists.specs.Rows.{rows_of, EachBegins, each_take}
use Rattle.output_readers.specs.Seeing.{Knowledge}
use Rattle.published_lists.proofs.EachRow.{each_trans, length-each_take}
use Rattle.output_readers.proofs.Knowing.{same_view, other_view, view_begins, own_view}
use Rattle.output_readers.proofs.output_reader.OutputReader.read.Goals as goal

pub returns-in_err-rows-clause-others : goal.returns-in_err-rows-clause-others
returns-in_err-rows-clause-others c s ne =
    let i = c.self.inside in
    rw (← c.self.view_is) (same_view i.read.items i.place.lists c.replace_with.new.dest.lists i.told.lists c.replace_with.ensures.0.1 c.self.invariant.read s)

pub returns-in_err-rows-clause-err : goal.returns-in_err-rows-clause-err
returns-in_err-rows-clause-err c =
    let i = c.self.inside in
    let same : (s : ℕ) → longer (rows_of (each_take i.read.items c.replace_with.new.dest.lists) s) (rows_of i.told.lists s) ≡ longer (rows_of (each_take i.read.items i.place.lists) s) (rows_of i.told.lists s) =
    same_view i.read.items i.place.lists c.replace_with.new.dest.lists i.told.lists c.replace_with.ensures.0.1 c.self.invariant.read in
    rw (← c.self.view_is) (search rules)

pub returns-clause-begins : goal.returns-clause-begins
returns-clause-begins c =
    let i = c.self.inside in
    let now = c.replace_with.new.dest.lists in
    let grows = c.in_ok-rows.ensures.0.1 in
    let told : EachBegins i.told.lists now = each_trans i.told.lists i.place.lists now c.self.invariant.told.1 grows in
    let begins = view_begins i.read.items i.place.lists now i.told.lists grows c.self.invariant.read told c.args.subtask in
    rw (← c.self.view_is, c.in_ok-rows.ensures.1) begins

pub returns-clause-others : goal.returns-clause-others
returns-clause-others c s ne =
    let i = c.self.inside in
    let now = c.replace_with.new.dest.lists in
    let n : ℕ = c.len.result in
    let noted : (with_items i.read c.note.new.counts).items ≡ set i.read.items c.args.subtask n = with_items_is i.read c.note.new.counts (search rules) ∙ (c.note.ensures ∙ ap (λ l. set l c.args.subtask n) c.as_mut_slice.ensures.value) in
    let same = other_view i.read.items i.place.lists now i.told.lists c.in_ok-rows.ensures.0.1 c.self.invariant.read c.args.subtask n s ne in
    rw (← c.self.view_is) (ap (λ l. longer (rows_of (each_take l now) s) (rows_of i.told.lists s)) noted ∙ same)

pub returns-clause-mine : goal.returns-clause-mine
returns-clause-mine c lt =
    let i = c.self.inside in
    let now = c.replace_with.new.dest.lists in
    let grows = c.in_ok-rows.ensures.0.1 in
    let s = c.args.subtask in
    let n : ℕ = c.len.result in
    let rows = c.in_ok-rows.rows.items in
    let found : map (λ (row : Vec ℕ Global). row.items) rows ≡ rows_of now s = c.in_ok-rows.ensures.1 in
    let noted : (with_items i.read c.note.new.counts).items ≡ set i.read.items s n = with_items_is i.read c.note.new.counts (search rules) ∙ (c.note.ensures ∙ ap (λ l. set l s n) c.as_mut_slice.ensures.value) in
    let count : n ≡ length (rows_of now s) = let same : n ≡ length rows = search rules in same ∙ (sym (length-map rows (λ (row : Vec ℕ Global). row.items)) ∙ ap length found) in
    let told : EachBegins i.told.lists now = each_trans i.told.lists i.place.lists now c.self.invariant.told.1 grows in
    let there : s < length (each_take i.read.items i.place.lists) = subst (λ (k : Knowledge). s < length k.read) (sym c.self.view_is) lt in
    let own = own_view i.read.items i.place.lists now i.told.lists grows c.self.invariant.read told s n there count in
    ap (λ l. longer (rows_of (each_take l now) s) (rows_of i.told.lists s)) noted ∙ (own ∙ sym found)

pub returns-in_err-rows-clause-subtasks : goal.returns-in_err-rows-clause-subtasks
returns-in_err-rows-clause-subtasks c =
    let i = c.self.inside in
    length-each_take i.read.items c.replace_with.new.dest.lists ∙ (sym (length-each_take i.read.items i.place.lists) ∙ ap (λ (k : Knowledge). length k.read) c.self.view_is)

pub returns-clause-subtasks : goal.returns-clause-subtasks
returns-clause-subtasks c =
    let i = c.self.inside in
    let now = c.replace_with.new.dest.lists in
    let s = c.args.subtask in
    let n : ℕ = c.len.result in
    let noted : (with_items i.read c.note.new.counts).items ≡ set i.read.items s n = with_items_is i.read c.note.new.counts (search rules) ∙ (c.note.ensures ∙ ap (λ l. set l s n) c.as_mut_slice.ensures.value) in
    ap (λ l. length (each_take l now)) noted ∙ (length-each_take (set i.read.items s n) now ∙ (length-set i.read.items s n ∙ (sym (length-each_take i.read.items i.place.lists) ∙ ap (λ (k : Knowledge). length k.read) c.self.view_is)))
