-- What is left of a list that is worked off, item by item, through a function that gives a list for each.
use Rattle.std.proofs.Common.{◌≡◌, List, [], ◌∷◌, ◌++◌, Option, Some, refl, subst, append_assoc}
use Rattle.std.specs.List.{All, flat_map}
use Rattle.std.specs.Vec.Iter.{into_iter_items, into_iter_steps}
use Rattle.std.specs.declared.vec.IntoIter.{IntoIter}

-- an item that was taken stood first
pub taken_first : {X Z : Type 0} (before after : IntoIter X Z) (taken : Option X) (x : X) → taken ≡ Some x → into_iter_steps before taken after → into_iter_items before ≡ x ∷ into_iter_items after
taken_first before after taken x is steps = (subst (λ o. into_iter_steps before o after) is steps).0

pub left_goes_on : {X Y : Type 0} (f : X → List Y) (whole old new : List Y) (before after : List X) (x : X) → before ≡ x ∷ after → new ≡ old ++ f x → old ++ flat_map f before ≡ whole → new ++ flat_map f after ≡ whole
left_goes_on f whole old new before after x is made left = rw (made, append_assoc) (rw is at left)

pub all_still_hold : {X : Type 0} (P : X → Type 0) (items whole : List X) → items ≡ whole → All P whole → All P items
all_still_hold P items whole same all = rw same all

pub all_is_left : {X Y : Type 0} (f : X → List Y) (old : List Y) (items whole : List X) → old ≡ [] → items ≡ whole → old ++ flat_map f items ≡ flat_map f whole
all_is_left f old items whole none same = rw (none, same) refl
