use Rattle.std.proofs.Common.{◌≡◌, List, ◌∷◌, ◌++◌, [], map, ap, ◌∙◌, rules, Vec, Global, ℕ}
use Rattle.std.proofs.lemmas.List.{map-append}
use Rattle.published_lists.proofs.RowLists.{map-take_more}
use Rattle.published_lists.proofs.told.copy.Goals as goal

abbrev bytes : Vec ℕ Global → List ℕ
bytes row = row.items

pub loop-row-preserved : goal.loop-row-preserved
loop-row-preserved c =
    let pushed : map bytes c.push.new.self.items ≡ map bytes c.loop-row.all.items ++ c.in_ok-from_slice.field-0.items ∷ [] =
    ap (map bytes) c.in_ok-push.ensures.items ∙ map-append bytes c.loop-row.all.items (c.in_ok-from_slice.field-0 ∷ []) in
    pushed ∙ map-take_more bytes c.args.rows.now c.loop-row.row-index c.row-item.result c.in_ok-from_slice.field-0.items (map bytes c.loop-row.all.items) (search rules) c.row-item.is (search rules) c.loop-row.invariant
