-- A source reads records, one after another.
use Rattle.std.proofs.Common.{◌≡◌, ◌<◌, ◌+◌, ◌-◌, inl, inr, ℕ, zero, suc, List, slice_get, Option, None, Some, Result, Ok, Err, refl, sym, ap, subst, ◌∙◌, arith}
use Rattle.std.specs.Prelude.{IfSome}
use Rattle.std.proofs.lemmas.Option.{slice_get_within}
use Rattle.dataflow_model.specs.Graph.{Meaning}
use Rattle.job_graph.specs.Expanded.{Expanded}
use Rattle.job_graph.specs.declared.role.Role.{Role}
use Rattle.job_graph.specs.declared.role.Role.TheVariants as role
use Rattle.job_state.specs.Held.{Held, Reads}
use Rattle.job_state.specs.Sending.{GoesInto}
use Rattle.job_state.specs.declared.holding.Holding.{Holding}
use Rattle.job_state.specs.declared.holding.Holding.TheVariants as holds
use Rattle.engine_model.proofs.Lists.{get_set_same}
use Rattle.source_log.specs.Partitions.{records_at}
use Rattle.engine_model.specs.AllRules.{AllRules}
use Rattle.engine_model.specs.Calls.{EndsRead}
use Rattle.engine_model.specs.declared.fault.CoreFault.{CoreFault}
use Rattle.engine_moves.specs.Reading.{NextFits, ReadsInTurn}

pub no_fault : (fault : CoreFault) → ◌≡◌ {A = Result Unit CoreFault} (Ok tt) (Err fault) → ⊥
no_fault fault e = cc

-- where each record goes into a channel, one does
pub known_for : {R K S O : Type 0} (meaning : Meaning R K S O) (graph : Expanded) (task : ℕ) (row : R) (known : Option ℕ) → IfSome known (λ n. (r : R) → GoesInto meaning graph task n r) → IfSome known (λ n. GoesInto meaning graph task n row)
known_for meaning graph task row None all = tt
known_for meaning graph task row (Some number) all = all row

-- a source that has read a record holds the offset behind it
pub read_moves : {R K S O : Type 0} (meaning : Meaning R K S O) (graph : Expanded) (task offset : ℕ) (row : R) (old new : Held R K S) → slice_get old.tasks task ≡ Some (holds.Source offset) → Reads meaning graph task offset row old new
    → slice_get new.tasks task ≡ Some (holds.Source (offset + 1))
read_moves meaning graph task offset row old new held reads =
    ap (λ h. slice_get h.tasks task) reads.ends ∙ get_set_same old.tasks task (holds.Source (offset + 1)) (slice_get_within old.tasks task (holds.Source offset) held)

same_partition : (a b : ℕ) → ◌≡◌ {A = Option Role} (Some (role.Source a)) (Some (role.Source b)) → a ≡ b
same_partition a b e = cc

same_offset : {K S : Type 0} (a b : ℕ) → ◌≡◌ {A = Option (Holding K S)} (Some (holds.Source a)) (Some (holds.Source b)) → a ≡ b
same_offset a b e = cc

-- so many are read, then one, and then the rest
abbrev more : ℕ → ℕ → ℕ
more zero rest = suc rest
more (suc done) rest = suc (more done rest)

more_is : (done rest : ℕ) → more done rest ≡ done + (rest + 1)
more_is zero rest = omega arith
more_is (suc done) rest = let e = more_is done rest in omega (arith, e)

module _ {R K S O : Type 0} (rules : AllRules R K S O) (graph : Expanded) (task : ℕ) (partitions : List (List R)) where
  -- the record that a source reads is the one at its offset
  pub next_fits : (h : Held R K S) (partition offset : ℕ) → slice_get graph.tasks task ≡ Some (role.Source partition) → slice_get h.tasks task ≡ Some (holds.Source offset) → ((row : R) → slice_get (records_at partitions partition) offset ≡ Some row → rules.RecordFits row) → NextFits rules graph task partitions h
  next_fits h partition offset at holding fits p o row is_source holds_it is =
      let same = same_partition p partition (sym is_source ∙ at) in
      let there = same_offset o offset (sym holds_it ∙ holding) in
      fits row (subst (λ (n : ℕ). slice_get (records_at partitions partition) n ≡ Some row) there (subst (λ (n : ℕ). slice_get (records_at partitions n) o ≡ Some row) same is))

  pub one_more : (done : ℕ) (h middle k : Held R K S) (count : ℕ) → ReadsInTurn rules graph task partitions done h middle count (Ok tt) → NextFits rules graph task partitions middle → EndsRead graph task middle k rules.lang partitions (Ok tt)
      → ReadsInTurn rules graph task partitions (suc done) h k (count + 1) (Ok tt)
  one_more zero h middle k count e fits ends =
      inr (k, 0, omega (arith, e.0), subst (λ (x : Held R K S). NextFits rules graph task partitions x) e.2 fits, subst (λ (x : Held R K S). EndsRead graph task x k rules.lang partitions (Ok tt)) e.2 ends, (refl, refl, refl))
  one_more (suc done) h middle k count (inl e) fits ends = absurd (no_fault e.0 e.2)
  one_more (suc done) h middle k count (inr e) fits ends = inr (e.0, e.1 + 1, omega (arith, e.2), e.3, e.4, one_more done e.0 middle k e.1 e.5 fits ends)

  then_refused : (done rest : ℕ) (h middle k : Held R K S) (count : ℕ) (fault : CoreFault) → ReadsInTurn rules graph task partitions done h middle count (Ok tt) → EndsRead graph task middle k rules.lang partitions (Err fault)
      → ReadsInTurn rules graph task partitions (more done rest) h k count (Err fault)
  then_refused zero rest h middle k count fault e ends = inl (fault, e.0, refl, subst (λ (x : Held R K S). EndsRead graph task x k rules.lang partitions (Err fault)) e.2 ends)
  then_refused (suc done) rest h middle k count fault (inl e) ends = absurd (no_fault e.0 e.2)
  then_refused (suc done) rest h middle k count fault (inr e) ends = inr (e.0, e.1, e.2, e.3, e.4, then_refused done rest e.0 middle k e.1 fault e.5 ends)

  -- so many were read, and then one is refused
  pub refused_after : (done most : ℕ) → done < most → (h middle k : Held R K S) (count : ℕ) (fault : CoreFault) → ReadsInTurn rules graph task partitions done h middle count (Ok tt) → EndsRead graph task middle k rules.lang partitions (Err fault)
      → ReadsInTurn rules graph task partitions most h k count (Err fault)
  refused_after done most within h middle k count fault e ends =
      let all : more done (most - (done + 1)) ≡ most = (let is = more_is done (most - (done + 1)) in omega (arith, is, within)) in
      subst (λ (n : ℕ). ReadsInTurn rules graph task partitions n h k count (Err fault)) all (then_refused done (most - (done + 1)) h middle k count fault e ends)
