use Rattle.std.proofs.Common.{◌≡◌, ◌≤◌, ◌+◌, true, cond, sym, ap, subst, ◌∙◌, length, arith}
use Rattle.std.specs.Prelude.{vec_len, if◌then◌else◌}
use Rattle.std.specs.Result.{is_ok}
use Rattle.std.specs.List.{insert}
use Rattle.std.specs.List.Sorted.{IsStrictlySortedBy}
use Rattle.std.specs.Ordering.{nat_cmp}
use Rattle.std.specs.Cmp.{nat_cmp_total}
use Rattle.std.specs.FinSet as set
use Rattle.std.proofs.lemmas.List.Edits.{length-insert}
use Rattle.snapshot_store.specs.Placed.{Fits}
use Rattle.snapshot_store.specs.Memory.{IsNoted, complete_of}
use Rattle.snapshot_store.proofs.Placed.{sorted_insert}
use Rattle.snapshot_store.proofs.Noted.{found_there, from_list_insert, insert_there, is_pending, keeps_marked}
use Rattle.snapshot_store.proofs.numbers.Numbers.complete.Goals as goal

pub returns-in_default-clause-marked : goal.returns-in_default-clause-marked
returns-in_default-clause-marked c = insert_there (complete_of c.args.self.now) c.args.number
    (rw (← c.self.view_is, ← c.deref.ensures.value) (found_there c.deref.result.now c.args.number c.in_default.field-0 c.in_default.ensures.found))

fit : (c : goal.After-insert) → Fits nat_cmp (λ n. n) c.args.number c.self.inside.complete.items c.in-Err.place
fit c = subst (λ ks. Fits nat_cmp (λ n. n) c.args.number ks c.in-Err.place) c.deref.ensures.value c.in-Err.ensures.absent

-- the place that was promised
fewer : (c : goal.After-insert) → length c.remove.new.self.keys + 1 ≡ length c.self.inside.pending.keys
fewer c =
    let pending = is_pending (record { complete = c.self.inside.complete.items; pending = c.self.inside.pending.keys }) c.args.number c.in-Err.place c.self.invariant.0 (fit c)
    (subst (λ numbers. IsNoted numbers c.args.number) (sym c.self.view_is) c.requires) in
    sym (ap (λ b. length c.remove.new.self.keys + (if b then 1 else 0)) (c.remove.ensures.test ∙ pending)) ∙ c.remove.ensures.len

put : (c : goal.After-insert) → is_ok c.insert.result ≡ true
put c =
    let len : length c.self.inside.complete.items ≡ vec_len c.self.inside.complete = sym (ap length c.deref.ensures.value) ∙ c.deref.ensures.len in
    c.insert.ensures.succeeds (omega (arith, len, fewer c, c.self.invariant.1))

inserted : (c : goal.After-insert) → c.insert.new.self.items ≡ insert c.self.inside.complete.items c.in-Err.place c.args.number
inserted c = c.insert.ensures.items ∙ ap (λ b. cond b (insert c.self.inside.complete.items c.in-Err.place c.args.number) c.self.inside.complete.items) (put c)

marked : (c : goal.After-insert) → set.from_list {R = nat_cmp} c.insert.new.self.items ≡ set.insert (complete_of c.args.self.now) c.args.number
marked c = ap (set.from_list {R = nat_cmp}) (inserted c) ∙ from_list_insert c.self.inside.complete.items c.in-Err.place c.args.number
    ∙ ap (λ numbers. set.insert (complete_of numbers) c.args.number) c.self.view_is

pub invariant_of-self : goal.invariant_of-self
invariant_of-self c = (
  subst (IsStrictlySortedBy nat_cmp) (sym (inserted c)) (sorted_insert nat_cmp_total c.self.inside.complete.items c.in-Err.place c.args.number (fit c) c.self.invariant.0),
  (let more = ap length (inserted c) ∙ length-insert c.self.inside.complete.items c.in-Err.place c.args.number (subst (λ ks. c.in-Err.place ≤ length ks) c.deref.ensures.value c.in-Err.ensures.within) in
      omega (arith, more, fewer c, c.self.invariant.1, c.insert.ensures.capacity)),
)

pub returns-clause-marked : goal.returns-clause-marked
returns-clause-marked c = marked c

pub returns-clause-keeps : goal.returns-clause-keeps
returns-clause-keeps c = keeps_marked c.args.self.now (record { complete = c.insert.new.self.items; pending = c.remove.new.self.keys }) c.args.number (marked c) (rw (← c.self.view_is) c.remove.ensures.updates.0)
