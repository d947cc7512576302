use Rattle.std.proofs.Common.{is_some, rules, tests}
use Rattle.std.proofs.lemmas.Iterator.{YieldsList-from_slice}
use Rattle.std.proofs.lemmas.Iterator.Search.{all_from_yields_List}
use Rattle.serde_json.specs.Find.{as_array}
use Rattle.serde_json.specs.View.{view}
use Rattle.script_file.proofs.JsonLemmas.{all_items_view}
use Rattle.script_file.proofs.outline.are_arrays.Goals as goal

pub returns : goal.returns
returns c =
    rw (← all_items_view (λ d. is_some (as_array d)) c.args.items.now)
    (all_from_yields_List (λ v. is_some (as_array (view v))) _ _ _ c.all.ensures.ran (YieldsList-from_slice c.args.items.now cc) (λ x b q k. search (rules, tests)))
