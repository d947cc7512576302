-- A write to one partition, as the lists of records see it.
use Rattle.std.proofs.Common.{◌≡◌, ◌<◌, ◌^◌, ℕ, zero, suc, List, [], ◌∷◌, ◌++◌, length, get_or, replicate, slice_get, slice_set, Some, Result, Ok, Err, Vec, All, refl, subst, lit<, sym, ap, ◌∙◌}
use Rattle.std.specs.Prelude.{OnOk, OnErr}
use Rattle.std.proofs.lemmas.List.{map-set, get_or-map, length-replicate}
use Rattle.std.proofs.lemmas.List.Elements.{All-head, All-tail}
use Rattle.std.proofs.lemmas.Option.{unwrap_or-slice_get}
use Rattle.std.proofs.Math.Seq.{map-set_same}
use Rattle.std.specs.declared.alloc.Global.{Global}
use Rattle.source_log.specs.Partitions.{AllFit, records_at}
use Rattle.source_log.specs.Rows.{lists_of}
use Rattle.source_log.specs.MemoryLog.{AreShort}

records_at-lists_of : {R : Type 0} (ps : List (Vec R Global)) (p : ℕ) (d : Vec R Global) → p < length ps → records_at (lists_of ps) p ≡ (get_or ps p d).items
records_at-lists_of ps p d within = unwrap_or-slice_get (lists_of ps) p [] ∙ get_or-map (λ v. v.items) ps p d [] within

pub pushed_lists : {R : Type 0} (ps : List (Vec R Global)) (p : ℕ) (d new : Vec R Global) (more : List R) → p < length ps → new.items ≡ (get_or ps p d).items ++ more
    → lists_of (slice_set ps p new) ≡ slice_set (lists_of ps) p (records_at (lists_of ps) p ++ more)
pushed_lists ps p d new more within is =
    map-set (λ v. v.items) ps p new ∙ ap (λ rows. slice_set (lists_of ps) p rows) (is ∙ ap (λ rows. rows ++ more) (sym (records_at-lists_of ps p d within)))

pub same_lists : {R : Type 0} (ps : List (Vec R Global)) (p : ℕ) (d new : Vec R Global) → new.items ≡ (get_or ps p d).items → lists_of (slice_set ps p new) ≡ lists_of ps
same_lists ps p d new same = map-set_same (λ v. v.items) ps p new d same

-- partitions with no records
pub AreShort-replicate : {R : Type 0} (n : ℕ) → n < 2 ^ 32 → AreShort (replicate {A = List R} n [])
AreShort-replicate {R = R} n small = record {
  count = subst (λ k. k < 2 ^ 32) (sym (length-replicate n [])) small;
  rows = λ p. subst (λ k. k < 2 ^ 32) (sym (nothing p)) (lit< tt);
}
  where
    none_at : (n p : ℕ) → length (records_at (replicate {A = List R} n []) p) ≡ 0
    none_at zero p = refl
    none_at (suc n) zero = refl
    none_at (suc n) (suc p) = none_at n p

    nothing : (p : ℕ) → length (records_at (replicate {A = List R} n []) p) ≡ 0
    nothing p = none_at n p

module _ {R : Type 0} (RecordFits : R → Type 0) where
  fit_all : (rows : List R) → All RecordFits rows → (offset : ℕ) (r : R) → slice_get rows offset ≡ Some r → RecordFits r
  fit_all [] fits o r at = absurd (cc at)
  fit_all (x ∷ rows) fits zero r at = subst RecordFits (cc at) (All-head RecordFits x rows fits)
  fit_all (x ∷ rows) fits (suc o) r at = fit_all rows (All-tail RecordFits x rows fits) o r at

  fit_pushed : (rows more : List R) → ((offset : ℕ) (r : R) → slice_get rows offset ≡ Some r → RecordFits r) → All RecordFits more
      → (offset : ℕ) (r : R) → slice_get (rows ++ more) offset ≡ Some r → RecordFits r
  fit_pushed [] more fit fits o r at = fit_all more fits o r at
  fit_pushed (x ∷ rows) more fit fits zero r at = fit zero r at
  fit_pushed (x ∷ rows) more fit fits (suc o) r at = fit_pushed rows more (λ o. fit (suc o)) fits o r at

  fit_written : (partitions : List (List R)) (p : ℕ) (rows : List R) → AllFit RecordFits partitions → ((offset : ℕ) (r : R) → slice_get rows offset ≡ Some r → RecordFits r)
      → (q offset : ℕ) (r : R) → slice_get (records_at (slice_set partitions p rows) q) offset ≡ Some r → RecordFits r
  fit_written [] p rows all fit q o r at = all q o r at
  fit_written (x ∷ partitions) zero rows all fit zero o r at = fit o r at
  fit_written (x ∷ partitions) zero rows all fit (suc q) o r at = all (suc q) o r at
  fit_written (x ∷ partitions) (suc p) rows all fit zero o r at = all zero o r at
  fit_written (x ∷ partitions) (suc p) rows all fit (suc q) o r at = fit_written partitions p rows (λ q. all (suc q)) fit q o r at

  -- records that fit are put last in a partition
  pub fit_appended : (partitions : List (List R)) (p : ℕ) (more : List R) → AllFit RecordFits partitions → All RecordFits more
      → AllFit RecordFits (slice_set partitions p (records_at partitions p ++ more))
  fit_appended partitions p more all fits = fit_written partitions p (records_at partitions p ++ more) all (fit_pushed (records_at partitions p) more (all p) fits)

  -- after they were, or memory was refused
  pub fit_kept : {F : Type 0} (old new : List (List R)) (p : ℕ) (more : List R) → AllFit RecordFits old → All RecordFits more → (result : Result (Unit {0}) F)
      → OnOk result (new ≡ slice_set old p (records_at old p ++ more)) → OnErr result (new ≡ old) → AllFit RecordFits new
  fit_kept old new p more all fits (Ok u) is same = rw is (fit_appended old p more all fits)
  fit_kept old new p more all fits (Err f) is same = rw same all

  nothing_fits : (n q offset : ℕ) (r : R) → slice_get (records_at (replicate {A = List R} n []) q) offset ≡ Some r → RecordFits r
  nothing_fits zero q o r at = absurd (cc at)
  nothing_fits (suc n) zero o r at = absurd (cc at)
  nothing_fits (suc n) (suc q) o r at = nothing_fits n q o r at

  -- partitions with no records
  pub fit_nothing : (n : ℕ) → AllFit RecordFits (replicate {A = List R} n [])
  fit_nothing n = nothing_fits n

  -- partitions behind others
  pub fit_joined : (xs ys : List (List R)) → AllFit RecordFits xs → AllFit RecordFits ys → AllFit RecordFits (xs ++ ys)
  fit_joined [] ys fit more p = more p
  fit_joined (x ∷ xs) ys fit more zero = fit zero
  fit_joined (x ∷ xs) ys fit more (suc p) = fit_joined xs ys (λ q. fit (suc q)) more p

  -- after they were put there, or memory was refused
  pub fit_joined_kept : {F : Type 0} (old more new : List (List R)) → AllFit RecordFits old → AllFit RecordFits more → (result : Result (Unit {0}) F)
      → OnOk result (new ≡ old ++ more) → OnErr result (new ≡ old) → AllFit RecordFits new
  fit_joined_kept old more new fit fits (Ok u) is same = rw is (fit_joined old more fit fits)
  fit_joined_kept old more new fit fits (Err f) is same = rw same fit
