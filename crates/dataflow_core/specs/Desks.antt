-- Jobs that are claimed, and a desk that keeps them.
use Rattle.std.specs.Prelude.{ℕ, List, Option, Some, None, slice_get}
use Rattle.claims.specs.declared.parts.Given.{Given}

-- a claim's attempt and serial, and its work
pub record ClaimedJob (O K S R : Type 0) : Type 0 where
  pub attempt : ℕ
  pub serial : ℕ
  pub work : Given O K S R

-- the jobs by number; none where the job of a number was finished
abbrev pub DeskJobs : (O K S R : Type 0) → Type 0
DeskJobs O K S R = List (Option (ClaimedJob O K S R))

abbrev pub still_there : {A : Type 0} → Option (Option A) → Option A
still_there (Some job) = job
still_there None = None

-- the job of a number, where it is still at the desk
abbrev pub job_at : {A : Type 0} → List (Option A) → ℕ → Option A
job_at desk number = still_there (slice_get desk number)
