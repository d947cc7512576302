-- What was made of a sink's work on several records is taken in turn.
use Rattle.std.specs.Prelude.{◌≡◌, ◌⊎◌, ◌+◌, ℕ, List, [], ◌∷◌, slice_get, Some, Result, Ok, Err}
use Rattle.commit_sink.specs.Ledger.{Ledger, IsOrdered}
use Rattle.commit_sink.specs.Sink.{Sinking}
use Rattle.job_graph.specs.Expanded.{Expanded}
use Rattle.job_graph.specs.declared.role.Role.TheVariants as role
use Rattle.job_state.specs.AtOnce.{without_first}
use Rattle.job_state.specs.Held.{Held}
use Rattle.job_state.specs.declared.holding.Holding.TheVariants as holds
use Rattle.engine_model.specs.Calls.{input_at, IsBlocked}
use Rattle.engine_model.specs.Language.{Language}
use Rattle.engine_model.specs.declared.fault.CoreFault.{CoreFault}
use Rattle.engine_model.specs.declared.fault.CoreFault.TheVariants.{WrongResult}
use Rattle.claims.specs.Carried.{given_of, records_of}
use Rattle.claims.specs.Due.{EndsAccept}
use Rattle.claims.specs.declared.parts.Made.{Made}

-- the task is a sink, and its input, which is this channel, is not blocked
pub record SinksInto {R K S : Type 0} (graph : Expanded) (task input : ℕ) (h : Held R K S) (channel : ℕ) : Type 0 where
  pub subtask : ℕ
  pub sink : Sinking
  pub is_sink : slice_get graph.tasks task ≡ Some (role.Sink subtask)
  pub leads : input_at graph task input ≡ Some channel
  pub was : slice_get h.tasks task ≡ Some (holds.Sink sink)
  pub free : ¬ IsBlocked task input h

-- the first records of a channel are taken, so many
abbrev pub with_taken : {R K S : Type 0} → Held R K S → (channel count : ℕ) → Held R K S
with_taken h channel count = record h { channels = without_first count channel h.channels }

module _ {R K S O : Type 0} (lang : Language R K S O) (graph : Expanded) (operators : List O) (task input : ℕ) where
  -- What was made of the work on the record at a place of a channel is taken, once those before it are: it is taken too, or refused.
  abbrev pub EndsAcceptAt : Made O K S R → Held R K S → (channel place : ℕ) → (old new : Ledger) → Result Unit CoreFault → Type 0
  EndsAcceptAt made h channel place old new (Ok u) = EndsAccept lang graph operators task input (with_taken h channel place) (with_taken h channel (place + 1)) old new made (Ok tt)
  EndsAcceptAt made h channel place old new (Err fault) = EndsAccept lang graph operators task input (with_taken h channel place) (with_taken h channel place) old new made (Err fault)

  -- What was made of work is taken, from the first to the last, until one is refused: so many records are taken.
  abbrev pub AcceptsInTurn : List (Made O K S R) → (h k : Held R K S) → (old new : Ledger) → (count : ℕ) → Result Unit CoreFault → Type 0
  AcceptsInTurn [] h k old new count result = (count ≡ 0) × (result ≡ Ok tt) × (k ≡ h) × (new ≡ old)
  AcceptsInTurn (made ∷ rest) h k old new count result =
      ((fault : CoreFault) × (count ≡ 0) × (result ≡ Err fault) × EndsAccept lang graph operators task input h k old new made (Err fault))
      ⊎ ((middle : Held R K S) × (between : Ledger) × (others : ℕ) × (count ≡ records_of (given_of made) + others) × IsOrdered between
      × EndsAccept lang graph operators task input h middle old between made (Ok tt) × AcceptsInTurn rest middle k between new others result)

  -- a sink that may take from its input takes them in turn, and any other task none
  abbrev pub EndsRows : List (Made O K S R) → (h k : Held R K S) → (old new : Ledger) → (count : ℕ) → Result Unit CoreFault → Type 0
  EndsRows mades h k old new count result =
      ((channel : ℕ) × SinksInto graph task input h channel × AcceptsInTurn mades h k old new count result)
      ⊎ (((channel : ℕ) → ¬ SinksInto graph task input h channel) × (count ≡ 0) × (result ≡ Err WrongResult) × (k ≡ h) × (new ≡ old))
