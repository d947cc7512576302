use Rattle.std.proofs.Common.{◌≡◌, ℕ, List, ◌∷◌, ◌++◌, [], map, ap, ◌∙◌, rules, Vec, Global}
use Rattle.std.proofs.lemmas.List.{map-append}
use Rattle.std.proofs.Math.Seq.{map-set_same}
use Rattle.published_lists.proofs.RowLists.{map-set_row}
use Rattle.published_lists.proofs.lists.Lists.put.Goals as goal

abbrev bytes_of : Vec (Vec ℕ Global) Global → List (List ℕ)
bytes_of rows = map (λ row. row.items) rows.items

pub returns-in_default-clause-lists : goal.returns-in_default-clause-lists
returns-in_default-clause-lists c =
    let longer : bytes_of c.push.new.self ≡ bytes_of c.index_mut.result.now ++ c.args.row.items ∷ [] =
    ap (map (λ (row : Vec ℕ Global). row.items)) c.in_default.ensures.items ∙ map-append (λ (row : Vec ℕ Global). row.items) c.index_mut.result.now.items (c.args.row ∷ []) in
    rw (← c.self.view_is) (map-set_row bytes_of c.self.inside.lists.items c.args.subtask c.push.new.self c.index_mut.result.now c.args.row.items (search rules) c.index_mut.ensures.value longer)

pub returns-clause-lists : goal.returns-clause-lists
returns-clause-lists c =
    let same : bytes_of c.push.new.self ≡ bytes_of c.index_mut.result.now = ap (map (λ (row : Vec ℕ Global). row.items)) c.in-Err.ensures.items in
    (search rules, map-set_same bytes_of c.self.inside.lists.items c.args.subtask c.push.new.self c.index_mut.result.now (same ∙ ap bytes_of c.index_mut.ensures.value) ∙ ap (λ h. h.lists) c.self.view_is)
