-- Parts of settling one after another.
use Rattle.std.proofs.Common.{◌≡◌, ◌≢◌, Option, Some, None, Result, Ok, Err, MatchOption, ℕ, List, [], ◌++◌, refl, sym, ap, subst, ◌∙◌}
use Rattle.std.proofs.lemmas.Option.{none-some, same_Some, MatchOption-at_some}
use Rattle.dataflow_model.specs.Machine.{Move}
use Rattle.job_graph.specs.Expanded.{Expanded}
use Rattle.job_state.specs.Held.{Held}
use Rattle.engine_model.specs.AllRules.{AllRules}
use Rattle.engine_model.specs.Keeps.{Keeps, Shape, RunsIn}
use Rattle.engine_model.specs.State.{State}
use Rattle.engine_model.specs.declared.fault.CoreFault.{CoreFault}
use Rattle.engine_model.specs.declared.fault.CoreFault.TheVariants.{NotReady, Memory, Device}
use Rattle.engine_plain.specs.Plain.{Stays}
use Rattle.engine.specs.Running.{IsCounted, WhileRunning}
use Rattle.engine_rounds.specs.Works.{Works}
use Rattle.engine_rounds.proofs.Many.{IsLike, like, stays_down, moves_none, works_none, works_both}
use Rattle.engine_rounds.proofs.Turning.{Calls, works_of}
use Rattle.engine_settling.specs.Advancing.{Advances}
use Rattle.engine_settling.specs.Bringing.{done_as, Holds, Brings, WentDown, EndsPart}
use Rattle.engine_settling.specs.Resting.{IsStill}
use Rattle.engine_settling.proofs.Ordering.{advances_none, advances_both}

-- what is refused since it was done counts no fault
pub counted_done : (old new : ℕ) (r : Result Unit CoreFault) → IsCounted old new r → IsCounted old new (done_as r)
counted_done old new (Ok u) e = e
counted_done old new (Err NotReady) e = e
counted_done old new (Err other) e = e

module _ {R K S O : Type 0} where
  -- ---- what a running job holds

  pub holds_one : (s : State O R K S) (P : Expanded → Held R K S → Type 0) (h : Held R K S) → s.held ≡ Some h → P s.graph h → Holds s P
  holds_one s P h is p = subst (λ (o : Option (Held R K S)). MatchOption o ⊥ (λ k. P s.graph k)) (sym is) p

  pub holds_at : (s : State O R K S) (P : Expanded → Held R K S → Type 0) (h : Held R K S) → s.held ≡ Some h → Holds s P → P s.graph h
  holds_at s P h is p = MatchOption-at_some ⊥ (λ k. P s.graph k) h is p

  -- what a running job holds, of which this is so
  pub record Here (s : State O R K S) (P : Expanded → Held R K S → Type 0) : Type 0 where
    pub h : Held R K S
    pub is : s.held ≡ Some h
    pub so : P s.graph h

  pub here : (s : State O R K S) (P : Expanded → Held R K S → Type 0) → Holds s P → Here s P
  here s P p = of s.held refl p
    where
      of : (o : Option (Held R K S)) → s.held ≡ o → MatchOption o ⊥ (λ k. P s.graph k) → Here s P
      of None is p = absurd p
      of (Some h) is p = record { h = h; is = is; so = p }

  pub holds_map : (s : State O R K S) (P Q : Expanded → Held R K S → Type 0) → Holds s P → ((h : Held R K S) → s.held ≡ Some h → P s.graph h → Q s.graph h) → Holds s Q
  holds_map s P Q p f = let a = here s P p in holds_one s Q a.h a.is (f a.h a.is a.so)

  pub holds_two : (s : State O R K S) (P Q T : Expanded → Held R K S → Type 0) → Holds s P → Holds s Q → ((h : Held R K S) → s.held ≡ Some h → P s.graph h → Q s.graph h → T s.graph h) → Holds s T
  holds_two s P Q T p q f = let a = here s P p in holds_one s T a.h a.is (f a.h a.is a.so (holds_at s Q a.h a.is q))

  pub holds_running : (s : State O R K S) (P : Expanded → Held R K S → Type 0) → Holds s P → s.held ≢ None
  holds_running s P p none = let a = here s P p in none-some a.h (sym none ∙ a.is)

  pub is_held : (s : State O R K S) (h : Held R K S) → s.held ≡ Some h → s.held ≢ None
  is_held s h is none = none-some h (sym none ∙ is)

  same_held : (s : State O R K S) (h k : Held R K S) → s.held ≡ Some h → s.held ≡ Some k → h ≡ k
  same_held s h k one two = same_Some h k (sym one ∙ two)

module _ {R K S O : Type 0} (rules : AllRules R K S O) where
  -- what every running engine keeps
  pub shape_at : (s : State O R K S) (h : Held R K S) → s.held ≡ Some h → Keeps rules s → Shape rules s.graph s.operators h
  shape_at s h is keeps = MatchOption-at_some (Unit {0}) (Shape rules s.graph s.operators) h is keeps.shape

  pub runs_at : (s : State O R K S) (h : Held R K S) → s.held ≡ Some h → Keeps rules s → RunsIn rules.lang s h
  runs_at s h is keeps = MatchOption-at_some (Unit {0}) (RunsIn rules.lang s) h is keeps.runs

  -- ---- one call

  -- a call that makes no plain step
  pub works_stays : {T : Type 0} (old new : State O R K S) (Ends : Held R K S → Held R K S → Result T CoreFault → Type 0) (result : Result T CoreFault) (leaves : Held R K S → State O R K S)
      → WhileRunning old new Ends result leaves → ((k : Held R K S) → IsLike old (leaves k)) → Calls rules old new → Stays rules.lang old new → Works rules [] old new
  works_stays old new Ends result leaves ends each calls stays =
      works_of rules old new calls [] (like old new Ends result leaves ends each) (stays_down old new Ends result leaves ends) (moves_none rules.lang old new stays)

  -- ---- one after another

  pub graph_same : (moves : List Move) (old new : State O R K S) → Works rules moves old new → new.graph ≡ old.graph
  graph_same moves old new works = ap (λ (s : State O R K S). s.graph) works.same

  pub partitions_same : (moves : List Move) (old new : State O R K S) → Works rules moves old new → new.partitions ≡ old.partitions
  partitions_same moves old new works = ap (λ (s : State O R K S). s.partitions) works.same

  pub brings_same : (s : State O R K S) (h : Held R K S) → s.held ≡ Some h → Brings rules s s
  brings_same s h is = record { before = h; after = h; was = is; is = is; moves = []; works = works_none rules s s refl; advances = advances_none h; still = λ still. still }

  pub brings_none : (s : State O R K S) → s.held ≢ None → Brings rules s s
  brings_none s running = of s.held refl
    where
      of : (o : Option (Held R K S)) → s.held ≡ o → Brings rules s s
      of None none = absurd (running none)
      of (Some h) is = brings_same s h is

  pub brings_both : (old middle new : State O R K S) → Brings rules old middle → Brings rules middle new → Brings rules old new
  brings_both old middle new one two =
      let meets : two.before ≡ one.after = same_held middle two.before one.after two.was one.is in
      let graphs = graph_same one.moves old middle one.works in
      let parts = partitions_same one.moves old middle one.works in
      record {
        before = one.before;
        after = two.after;
        was = one.was;
        is = two.is;
        moves = one.moves ++ two.moves;
        works = works_both rules one.moves two.moves old new middle one.works two.works;
        advances = advances_both one.before one.after two.after one.advances (subst (λ (h : Held R K S). Advances h two.after) meets two.advances);
        still = λ still.
            subst (λ (g : Expanded). IsStill g old.partitions two.after) graphs
            (subst (λ (p : List (List R)). IsStill middle.graph p two.after) parts
            (two.still
            (subst (λ (h : Held R K S). IsStill middle.graph middle.partitions h) (sym meets)
            (subst (λ (g : Expanded). IsStill g middle.partitions one.after) (sym graphs)
            (subst (λ (p : List (List R)). IsStill old.graph p one.after) (sym parts) (one.still still))))));
      }

  pub down_both : (old middle new : State O R K S) → Brings rules old middle → WentDown rules middle new → WentDown rules old new
  down_both old middle new one two = (one.moves ++ two.0, works_both rules one.moves two.0 old new middle one.works two.1, two.2)

  -- a part that ends early, after others
  pub part_early : (old middle new : State O R K S) (P Q : Expanded → Held R K S → Type 0) (f : CoreFault) → Brings rules old middle → EndsPart rules middle new {T = Unit {0}} P (Err f) → EndsPart rules old new {T = Unit {0}} Q (Err f)
  part_early old middle new P Q Memory one two = brings_both old middle new one two
  part_early old middle new P Q Device one two = down_both old middle new one two
  part_early old middle new P Q other one two = absurd two

  -- a part, after others
  pub part_on : (old middle new : State O R K S) (P Q : Expanded → Held R K S → Type 0) (r : Result Unit CoreFault) → Brings rules old middle
      → (Brings rules middle new → Holds new P → Holds new Q) → EndsPart rules middle new P r → EndsPart rules old new Q r
  part_on old middle new P Q (Ok u) one then two = (brings_both old middle new one two.0, then two.0 two.1)
  part_on old middle new P Q (Err f) one then two = part_early old middle new P Q f one two

  -- what is kept while the checkpoint goes on
  pub holds_kept : (old new : State O R K S) (P : Expanded → Held R K S → Type 0) → Brings rules old new → Holds old P → ((h k : Held R K S) → Advances h k → P old.graph h → P old.graph k) → Holds new P
  holds_kept old new P b p keep =
      let was = holds_at old P b.before b.was p in
      holds_one new P b.after b.is (subst (λ (g : Expanded). P g b.after) (sym (graph_same b.moves old new b.works)) (keep b.before b.after b.advances was))
