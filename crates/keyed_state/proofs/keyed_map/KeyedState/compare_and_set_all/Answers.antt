use Rattle.std.proofs.Common.{◌+◌, sym, ap, ap₂, subst, ◌∙◌}
use Rattle.std.proofs.lemmas.Bool.{false≢true}
use Rattle.std.specs.List.Sorted.{IsStrictlySortedBy}
use Rattle.std.specs.Map.{keys_of}
use Rattle.keyed_state.specs.Comparing.{HaveStates}
use Rattle.keyed_state.specs.declared.comparing.SetFault.TheVariants as SetFault
use Rattle.keyed_state.proofs.Compared.{told_on, none_expected}
use Rattle.keyed_state.proofs.Laid.{put_over-rises}
use Rattle.keyed_state.proofs.Several.{states_put}
use Rattle.keyed_state.proofs.keyed_map.KeyedState.compare_and_set_all.Goals as goal

-- ---- where no other map is kept

pub returns-then-is_empty-clause-states : goal.returns-then-is_empty-clause-states
returns-then-is_empty-clause-states g c =
    states_put g.met.K.Ord.total c.exchange_all_alone.result c.args.self.now.entries c.args.entries.now.items c.exchange_all_alone.new.self.entries c.requires.rising c.exchange_all_alone.ensures.entries

pub returns-then-is_empty-clause-expected : goal.returns-then-is_empty-clause-expected
returns-then-is_empty-clause-expected g c = c.exchange_all_alone.ensures.expected

pub returns-then-is_empty-clause-changed : goal.returns-then-is_empty-clause-changed
returns-then-is_empty-clause-changed g c = c.exchange_all_alone.ensures.changed

-- ---- where another is

pub returns-then-not-has_states-clause-changed : goal.returns-then-not-has_states-clause-changed
returns-then-not-has_states-clause-changed g c = λ is same.
    let seen = subst (λ es. HaveStates g.K.Ord.cmp c.args.self.now.entries (keys_of es) c.args.expected.now) (sym c.deref.ensures.value) same in
    false≢true (sym c.if-not-has_states.true ∙ c.has_states.ensures.1 seen)

pub returns-then-not-has_states-clause-ordered : goal.returns-then-not-has_states-clause-ordered
returns-then-not-has_states-clause-ordered g c =
    subst (λ es. IsStrictlySortedBy g.K.Ord.cmp (keys_of es)) (ap (λ m. m.entries) c.self.view_is) (put_over-rises g.met.K.Ord.total c.self.inside.base c.self.inside.overlay.entries c.self.invariant.base_rises)

pub returns-in_err-set_all_beside-clause-changed : goal.returns-in_err-set_all_beside-clause-changed
returns-in_err-set_all_beside-clause-changed g c = λ is same.
    let told = told_on c.from_residual.result SetFault.Memory SetFault.Changed c.from_residual.ensures.1 is in
    absurd (cc)

pub set_all_beside-requires-clause-len : goal.set_all_beside-requires-clause-len
set_all_beside-requires-clause-len g c =
    let seen = subst (λ es. HaveStates g.K.Ord.cmp c.args.self.now.entries (keys_of es) c.args.expected.now) c.deref.ensures.value (c.has_states.ensures.0 c.if-not-has_states.false) in
    let counted = c.in-Some.ensures.1 ∙ ap₂ (λ a b. a + b) c.len.ensures.len (c.count_none.ensures ∙ none_expected g.K.Ord.cmp c.args.self.now.entries c.args.entries.now.items c.args.expected.now seen) in
    rw c.replace-entries.ensures.value counted

pub returns-clause-expected : goal.returns-clause-expected
returns-clause-expected g c =
    subst (λ es. HaveStates g.K.Ord.cmp c.args.self.now.entries (keys_of es) c.args.expected.now) c.deref.ensures.value (c.has_states.ensures.0 c.if-not-has_states.false)
