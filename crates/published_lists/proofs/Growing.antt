-- Steps that keep the rule of the published lists.
use Rattle.std.proofs.Common.{◌≡◌, ℕ, ◌≢◌, List, [], ◌∷◌, ◌++◌, Option, None, Some, set, sym, refl, subst, ap, ◌∙◌, ⊎_elim}
use mathlib.Core.Option.{some}
use lib.ListN.{get_elem?}
use Rattle.crossbeam_utils.specs.Register.{Admits, TurnsAt, Forks, Merges}
use Rattle.atomic_table.proofs.Lists.{at_set, at_snoc}
use Rattle.published_lists.specs.Editions.{Edition, Follows}
use Rattle.published_lists.specs.Holding.{Held, IsSealed}
use Rattle.published_lists.specs.Rule.{Grows, Looks}
use Rattle.published_lists.proofs.EachRow.{each_self, each_trans}

pub follows_self : (x : Edition) → Follows x x
follows_self x = (refl, each_self x.lists)

pub follows_trans : (v x y : Edition) → Follows v x → Follows x y → Follows v y
follows_trans v x y a b = (b.0 ∙ a.0, each_trans v.lists x.lists y.lists a.1 b.1)

-- the lists are sealed, and follow what a seat knows
abbrev Fits : Held → Option Edition → Type 0
Fits x w = (k : Edition) → w ≡ Some k → IsSealed x × Follows k x.edition

nothing_fits : (x : Held) → Fits x None
nothing_fits x k e = absurd (cc e)

with_seat : (x : Held) (views : List (Option Edition)) (seat : ℕ) (w : Option Edition) → Grows x views → Fits x w → Grows x (set views seat w)
with_seat x views seat w h fits j u at = ⊎_elim (λ (t : (j ≡ seat) × (w ≡ Some u)). fits u t.1) (λ (t : (j ≢ seat) × (get_elem? views j ≡ some (Some u))). h j u t.1) (at_set views seat j w (Some u) at)

with_new : (x : Held) (views : List (Option Edition)) (w : Option Edition) → Grows x views → Fits x w → Grows x (views ++ w ∷ [])
with_new x views w h fits j u at = ⊎_elim (λ (t : get_elem? views j ≡ some (Some u)). h j u t) (λ (t : w ≡ Some u). fits u t) (at_snoc views w (Some u) j at)

seat_fits : (x : Held) (views : List (Option Edition)) (seat : ℕ) (v : Option Edition) → Grows x views → get_elem? views seat ≡ some v → Fits x v
seat_fits x views seat v h at k e = h seat k (at ∙ ap some e)

pub admits : Admits Grows None
admits x views h = with_new x views None h (nothing_fits x)

-- the lists grow, and the seat sees them
pub looks : (seat : ℕ) (v : Option Edition) (x y : Held) → IsSealed y → Follows x.edition y.edition → TurnsAt Grows seat v x y Looks
looks seat v x y sealed up views h at =
    let later : Grows y views = λ j u t. (sealed, follows_trans u x.edition y.edition (h j u t).1 up) in (
      Some y.edition,
      with_seat y views seat (Some y.edition) later (λ k e. let same : y.edition ≡ k = cc e in (sealed, subst (λ (z : Edition). Follows z y.edition) same (follows_self y.edition))),
      (refl, sealed, (λ k e. (seat_fits y views seat v later at k e).1)),
    )

-- the same of lists that are equal to those
pub looks_at : (seat : ℕ) (v : Option Edition) (x y z : Held) → z ≡ y → IsSealed y → Follows x.edition y.edition → TurnsAt Grows seat v x z Looks
looks_at seat v x y z is sealed up = subst (λ (h : Held). TurnsAt Grows seat v x h Looks) (sym is) (looks seat v x y sealed up)

-- a seat that knows something sees the lists as they are
pub peeks : (seat : ℕ) (v : Option Edition) (k : Edition) (x : Held) → v ≡ Some k → TurnsAt Grows seat v x x Looks
peeks seat v k x is views h at = looks seat v x x (seat_fits x views seat v h at k is).0 (follows_self x.edition) views h at

pub forks : (seat : ℕ) (v : Option Edition) → Forks Grows seat v v v
forks seat v x views h at =
    let fit = seat_fits x views seat v h at in with_new x (set views seat v) v (with_seat x views seat v h fit) fit

pub merges : (seat : ℕ) (v : Option Edition) (other : ℕ) (w : Option Edition) → Merges Grows seat v other w w None
merges seat v other w x views h at apart there =
    let theirs : Fits x w = ⊎_elim (λ (t : (other ≡ seat) × (w ≡ w)). absurd (apart t.0)) (λ (t : (other ≢ seat) × (get_elem? views other ≡ some w)). seat_fits x views other w h t.1) (at_set views seat other w w there) in
    with_seat x (set views seat w) other None (with_seat x views seat w h theirs) (nothing_fits x)
