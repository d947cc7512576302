-- Work of one record is the task's own work on the record that stands first.
use Rattle.std.proofs.Common.{◌≡◌, ◌<◌, Option, Some, Ok, ℕ, List, min, length, refl, sym, subst, arith}
use Rattle.claims.specs.Carried.{given_of, records_of}
use Rattle.claims.specs.Due.{IsDue, EndsOffer, EndsAccept}
use Rattle.claims.specs.Tasks.{EndsWork, WorksAs}
use Rattle.claims.specs.declared.parts.Given.{Given}
use Rattle.claims.specs.declared.parts.Given.TheVariants as given
use Rattle.claims.specs.declared.parts.Made.{Made}
use Rattle.claims.specs.declared.parts.Made.TheVariants as made
use Rattle.commit_sink.specs.Ledger.{Ledger}
use Rattle.job_graph.specs.Expanded.{Expanded}
use Rattle.job_graph.specs.declared.role.Role.{Role}
use Rattle.job_graph.specs.declared.role.Role.TheVariants as role
use Rattle.job_state.specs.Held.{Held}
use Rattle.engine_model.specs.Calls.{input_at}
use Rattle.engine_model.specs.Language.{Language}
use Rattle.engine_model.proofs.Calls.Batches.{operates_once}

module _ {R K S O : Type 0} (lang : Language R K S O) (graph : Expanded) (operators : List O) (task input : ℕ) (h : Held R K S) where
  -- where one record at most is asked for, one is offered
  pub offered_one : (work : Given O K S R) → EndsOffer lang graph operators task input h 1 (Ok work) → records_of work ≡ 1
  offered_one (given.Operator operand) e = at_most_one (length operand.rows.items) _ e.1.0 e.1.1.2
    where
      at_most_one : (n m : ℕ) → 0 < n → n ≡ min 1 m → n ≡ 1
      at_most_one n m some is = omega arith
  offered_one (given.Sink row) e = refl

  module _ (k : Held R K S) (old new : Ledger) (u : Unit {0}) where
    pub one_works : (m : Made O K S R) → records_of (given_of m) ≡ 1 → EndsAccept lang graph operators task input h k old new m (Ok u) → EndsWork lang graph operators task input h k old new (Ok u)
    one_works (made.Operator solved) one e =
        subst (λ (r : Option Role). WorksAs graph task input h k old new lang operators (Ok u) r (input_at graph task input)) (sym e.due.is_operator)
        (subst (λ (c : Option ℕ). WorksAs graph task input h k old new lang operators (Ok u) (Some (role.Operator e.due.number)) c) (sym e.due.leads)
        (solved.operand.operator, e.due.same_operator, operates_once lang solved.operand.operator graph task input e.channel h k solved.operand.rows.items one e.works, e.stays))
    one_works (made.Sink row bytes) one e = e.1
    one_works (made.Refused work) one e = absurd e

    -- work that is taken is due
    pub taken_due : (m : Made O K S R) → EndsAccept lang graph operators task input h k old new m (Ok u) → IsDue lang graph operators task input h (given_of m)
    taken_due (made.Operator solved) e = (e.channel, e.due)
    taken_due (made.Sink row bytes) e = e.0
    taken_due (made.Refused work) e = absurd e
