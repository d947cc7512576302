-- The bytes of a job's file: one that is short enough to be a job was read as a whole.
use Rattle.std.proofs.Common.{◌≡◌, ◌∙◌, ◌+◌, ◌≤◌, ◌++◌, ℕ, List, [], length, take, Bool, true, false, Option, None, Some, IfSome, Result, Ok, Err, IsOkAnd, if◌then◌else◌, nat_lt, refl, sym, ap, subst, arith}
use Rattle.std.proofs.lemmas.Bool.{ltb-false}
use Rattle.std.proofs.lemmas.List.{take_all, length-take}
use Rattle.std.specs.Io.Take.{take_limit, take_inner, take_remaining}
use Rattle.std.specs.declared.io.traits.Take.{Take}
use Rattle.std.specs.Option.{option_map}
use Rattle.job_graph.specs.Expanded.{Expanded}
use Rattle.job_input.specs.Judged.{IsRead}
use Rattle.job_spec.specs.Job.{Job}
use Rattle.job_spec.specs.Reading.{◌>>=◌, or_fault, job_at, job_of, value_at}
use Rattle.job_spec.specs.declared.fault.JobFault.TheVariants as faults
use Rattle.json_members.specs.Json.{json_of}

-- what is read to the end is the file's bytes, up to the limit
pub file_bytes : {R E : Type 0} (file : Result R E) (reader : R) (known : R → Option (List ℕ)) (limited : Take R) (limit : ℕ) (old new : List ℕ)
    → file ≡ Ok reader → take_inner limited ≡ reader → take_limit limited ≡ limit → old ≡ [] → IfSome (take_remaining known limited) (λ xs. new ≡ old ++ xs) → IsOkAnd file (λ r. IfSome (known r) (λ all. new ≡ take limit all))
file_bytes file reader known limited limit old new was inner bound none read =
    let P : Option (List ℕ) → Type 0 = λ o. IfSome o (λ all. new ≡ take limit all) in
    subst (λ f. IsOkAnd f (λ r. P (known r))) (sym was) (subst (λ r. P (known r)) inner (by (known limited.inner) read))
  where
    by : (o : Option (List ℕ)) → IfSome (option_map (take limited.limit) o) (λ xs. new ≡ old ++ xs) → IfSome o (λ all. new ≡ take limit all)
    by None put = tt
    by (Some all) put = put ∙ ap (λ l. l ++ take limited.limit all) none ∙ ap (λ n. take n all) bound

short : (bytes : List ℕ) (job : Job) → job_of bytes ≡ Ok job → length bytes ≤ 16777216
unfolding job_of value_at
short bytes job is = by (nat_lt 16777216 (length bytes)) refl is
  where
    by : (b : Bool) → nat_lt 16777216 (length bytes) ≡ b → ((if b then Err faults.TooMany else or_fault faults.BadJson (json_of bytes)) >>= job_at) ≡ Ok job → length bytes ≤ 16777216
    by true test read = cc
    by false test read = ltb-false 16777216 (length bytes) test

whole : (bytes all : List ℕ) (job : Job) (graph : Expanded) → bytes ≡ take (16777216 + 1) all → IsRead bytes job graph → IsRead all job graph
whole bytes all job graph front read =
    let few : length bytes ≤ 16777216 = short bytes job read.0 in
    let same : take (16777216 + 1) all ≡ all = take_all (16777216 + 1) all (omega (arith, length-take (16777216 + 1) all, ap length front)) in
    subst (λ l. IsRead l job graph) (front ∙ same) read

-- the job that was read is that of all of the file's bytes
pub whole_job : {R E : Type 0} (file : Result R E) (known : R → Option (List ℕ)) (bytes : List ℕ) (job : Job) (graph : Expanded) → IsOkAnd file (λ f. IfSome (known f) (λ all. bytes ≡ take (16777216 + 1) all)) → IsRead bytes job graph
    → IsOkAnd file (λ f. IfSome (known f) (λ all. IsRead all job graph))
whole_job (Err e) known bytes job graph front read = absurd front
whole_job (Ok f) known bytes job graph front read = by (known f) front
  where
    by : (o : Option (List ℕ)) → IfSome o (λ all. bytes ≡ take (16777216 + 1) all) → IfSome o (λ all. IsRead all job graph)
    by None same = tt
    by (Some all) same = whole bytes all job graph same read
