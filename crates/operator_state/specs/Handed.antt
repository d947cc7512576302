-- What goes through the line between a task and whoever spells its copy.
use Rattle.std.specs.Prelude.{◌≡◌, ◌⊎◌, ℕ, List, [], ◌∷◌, Option, Some, None, unwrap_or}
use Rattle.std.specs.List.{All}
use Rattle.std.specs.declared.cmp.Ordering.{Ordering}
use mathlib.Core.Option.{some}
use lib.ListN.{get_elem?}
use Rattle.crossbeam_queue.specs.declared.array_queue.Doing.{Doing}
use Rattle.crossbeam_queue.specs.declared.array_queue.Slotted.{Slotted}
use Rattle.crossbeam_queue.specs.Passes.{Pass, view, IsPassOf}
use Rattle.operator_state.specs.Spelled.{GoesOn}
use Rattle.operator_state.specs.declared.handed.Sheet.{Sheet}
use Rattle.operator_state.specs.declared.handed.Sheet.TheVariants as sheet

-- the entries that a side knows to be spelled, none before it knows them
abbrev pub entries_known : {E : Type 0} → Option (List E) → List E
entries_known known = unwrap_or known []

-- the entries that a side knows
abbrev pub entries_of : {T E : Type 0} → Pass T (Option (List E)) → List E
entries_of side = entries_known (view side)

-- it is a side of this line, and knows the entries
abbrev pub IsSideOf : {T E Q A : Type 0} → Slotted (Option T) (Doing T (Option (List E))) Q A → Pass T (Option (List E)) → Type 0
IsSideOf line side = IsPassOf line side × (view side ≡ Some (entries_of side))

-- every side knows these entries
abbrev pub AllKnow : {E : Type 0} → List E → List (Option (List E)) → Type 0
AllKnow {E} entries sides = (side : ℕ) (known : Option (List E)) → get_elem? sides side ≡ some known → known ≡ Some entries

-- the entries are laid there, and known
abbrev pub Lays : {K S : Type 0} → Option (List (K × S)) → Sheet K S → Option (List (K × S)) → Type 0
Lays {K} {S} before laid after = (entries : List (K × S)) × (laid ≡ sheet.Blank entries) × (after ≡ Some entries)

-- a side puts a sheet there, and knows what it knew
abbrev pub Puts : {K S : Type 0} → Option (List (K × S)) → Sheet K S → Option (List (K × S)) → Type 0
Puts before put after = after ≡ before

module _ {K S : Type 0} (cmp : K → K → Ordering) (Key : K → Type 0) (keys : K → List ℕ) (State : S → Type 0) (states : S → List ℕ) where
  -- the sheet is of these entries: the entries themselves, or the next ones of them spelled
  abbrev pub IsSheetOf : List (K × S) → Sheet K S → Type 0
  IsSheetOf entries (sheet.Blank lent) = lent ≡ entries
  IsSheetOf entries (sheet.Written piece) = GoesOn cmp Key keys State states entries piece.begun piece.before piece.last piece.left piece.bytes.items

  -- Nothing was laid there yet, and one side alone knows the line, or both sides know the same entries, of which every sheet is.
  abbrev pub GoesThrough : List (Sheet K S) → List (Option (List (K × S))) → Type 0
  GoesThrough sheets sides =
      ((sheets ≡ []) × (sides ≡ None ∷ [])) ⊎ ((entries : List (K × S)) × AllKnow entries sides × All (IsSheetOf entries) sheets)

  -- what a side that knows the entries learns of a sheet that it takes
  abbrev pub Takes : Option (List (K × S)) → Sheet K S → Option (List (K × S)) → Type 0
  Takes before taken after = (after ≡ before) × ((entries : List (K × S)) → before ≡ Some entries → IsSheetOf entries taken)
