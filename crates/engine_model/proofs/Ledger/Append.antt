-- A sink appends a row to its open transaction.
use Rattle.std.proofs.Common.{◌≡◌, Option, Some, None, map, ℕ, List, [], ◌∷◌, ◌++◌, refl, sym, ap, ap₂, ◌∙◌, subst, arith}
use Rattle.checkpoint_model.specs.BookLaws.{OthersStay}
use Rattle.checkpoint_model.specs.Durable as durable
use Rattle.checkpoint_model.specs.Durable.{AreLast, transactions_of, Appends}
use Rattle.checkpoint_model.proofs.Book.{book_calls}
use Rattle.checkpoint_model.proofs.Steps.{only_one}
use Rattle.commit_sink.specs.Ledger.{Ledger, Transaction, IsOrdered, appended, with_transaction}
use Rattle.commit_sink.specs.Sink.{Sinking}
use Rattle.commit_sink.specs.declared.transactions.Progress.{Progress}
use Rattle.commit_sink.specs.declared.transactions.Progress.TheVariants.{Open}
use Rattle.engine_model.specs.Keeps.{SinkIn}
use Rattle.engine_model.specs.View.{stage_of, entry_of, book_of}
use Rattle.engine_model.proofs.Ledger.Places.{Writes, writes, order_fits, same_at}
use Rattle.engine_model.proofs.Ledger.Shares.{share, in_book, changes}
use Rattle.engine_model.proofs.Ledger.Sinks.{others_keep, pending_stay}

-- of one subtask's share and sink, and of the others'
pub record Appended (bytes : List ℕ) (subtask : ℕ) (sink : Sinking) (old new : Ledger) : Type 0 where
  pub call : Appends bytes (share old subtask) (share new subtask)
  pub others : (other : ℕ) → (other ≡ subtask → ⊥) → share new other ≡ share old other
  pub sink_in : SinkIn new subtask sink
  pub other_sinks : (other : ℕ) (sink' : Sinking) → (other ≡ subtask → ⊥) → SinkIn old other sink' → SinkIn new other sink'

module _ (old : Ledger) (subtask : ℕ) (sink : Sinking) (bytes : List ℕ) (ordered : IsOrdered old) (s : SinkIn old subtask sink) where
  abbrev more : Progress → Transaction
  more p = record { subtask = (s.opened).subtask; progress = p; records = (s.opened).records ++ bytes ∷ [] }

  abbrev now : Ledger
  now = with_transaction old sink.open_one (more Open)

  is_now : appended old sink.open_one bytes ≡ now
  is_now =
      ap (λ (o : Option Transaction). (let l : Ledger = elim o [ None ↦ old | Some t ↦ with_transaction old sink.open_one (record t { records = t.records ++ bytes ∷ [] }) ] in l)) s.opened_at
      ∙ ap (λ p. with_transaction old sink.open_one (more p)) s.opened_is

  wrote : Writes old now sink.open_one (more Open)
  wrote = writes old now sink.open_one s.opened (more Open) s.opened_at refl

  appends : Appends bytes (share old subtask) (share now subtask) × OthersStay subtask (book_of old) (book_of now)
  appends =
      let b = in_book old sink.open_one s.opened s.opened_at in
      let change = changes old now sink.open_one s.opened (more Open) b refl in
      let called = (book_calls (book_of old) (book_of now) (order_fits old ordered)).append sink.open_one bytes (entry_of s.opened) b.front b.back (ap stage_of s.opened_is) change in
      subst (λ k. Appends bytes (share old k) (share now k) × OthersStay k (book_of old) (book_of now)) s.opened_of (called.0, called.1)

  one_now : (a : Appends bytes (share old subtask) (share now subtask)) → (one : durable.Transaction (List ℕ)) × ((share now subtask).open_ones ≡ one ∷ [])
  one_now a =
      let one = s.only_one in
      let alone = only_one one.0 a.front a.changed a.back (sym one.1 ∙ a.was) in
      let x : durable.Transaction (List ℕ) = record { number = (a.changed).number; records = (a.changed).records ++ bytes ∷ [] } in
      (x, ap (λ (y : durable.SinkTransactions (List ℕ)). y.open_ones) a.ends ∙ ap₂ (λ l m. l ++ x ∷ m) alone.0 alone.2)

  sink_now : (a : Appends bytes (share old subtask) (share now subtask)) → SinkIn now subtask sink
  sink_now a =
      record {
        opened = more Open;
        opened_at = wrote.here;
        opened_of = s.opened_of;
        opened_is = refl;
        newest = λ number u above there. s.newest number u above (sym (wrote.elsewhere number (λ e. omega (arith, e, above))) ∙ there);
        only_one = one_now a;
        pending_are = pending_stay old now subtask sink.open_one s.opened (more Open) sink.pending s.opened_at s.opened_is wrote s.pending_are;
        last = subst (λ (y : durable.SinkTransactions (List ℕ)). AreLast (map (λ p. p.transaction) sink.pending) y.committed (y.committed ++ transactions_of y.pre_committed)) (sym a.ends) s.last;
      }

  in_now : Appended bytes subtask sink old now
  in_now =
      let called = appends in
      record {
        call = called.0;
        others = called.1;
        sink_in = sink_now called.0;
        other_sinks =
            λ other sink' apart s'.
            others_keep old now sink.open_one subtask (more Open) wrote (λ u there. ap (λ (v : Transaction). v.subtask) (same_at old sink.open_one u s.opened there s.opened_at) ∙ s.opened_of) s.opened_of other sink' apart (called.1 other apart) s';
      }

pub append_in : (old new : Ledger) (subtask : ℕ) (sink : Sinking) (bytes : List ℕ) → IsOrdered old → SinkIn old subtask sink → new ≡ appended old sink.open_one bytes → Appended bytes subtask sink old new
append_in old new subtask sink bytes ordered s e = subst (Appended bytes subtask sink old) (sym (e ∙ is_now old subtask sink bytes ordered s)) (in_now old subtask sink bytes ordered s)
