use Rattle.std.proofs.Common.{◌≡◌, ◌<◌, ℕ, length, not, refl, subst, ap, ◌∙◌, arith, take, map}
use Rattle.std.proofs.lemmas.List.{length-map}
use Rattle.channels.specs.declared.item.Item.TheVariants.{Record}
use Rattle.job_state.specs.AtOnce.{log_with_all}
use Rattle.job_state.specs.Inside.{records_of}
use Rattle.job_state.specs.Sending.{contents_items, items_at}
use Rattle.job_state.proofs.AtOnce.{there, taken_none, logged_none, taken_more, taken_is, logged_more, logged_all}
use Rattle.job_state.proofs.taking.take_all.Goals as goal

pub loop-init : goal.loop-init
loop-init g c = record {
  taken = taken_none (contents_items c.args.channels.now) (contents_items c.args.channels.now) c.args.channel refl;
  room = λ (number : ℕ). omega arith;
  came = refl;
  spare = λ h. omega (arith, c.requires.room h);
  logged = λ rows many first. logged_none c.args.is_logged c.args.channel rows (records_of c.args.logs.now);
}

pub log_taken-requires-clause-within : goal.log_taken-requires-clause-within
log_taken-requires-clause-within g c =
    omega (arith, c.requires.within, ap length c.loop.invariant.came, length-map c.loop.logs (λ l. not l.is_open), length-map c.args.logs.now (λ l. not l.is_open))

pub log_taken-requires-clause-room : goal.log_taken-requires-clause-room
log_taken-requires-clause-room g c = λ h. omega (arith, c.loop.invariant.spare h)

pub loop-preserved : goal.loop-preserved
loop-preserved g c = record {
  taken = taken_more (contents_items c.args.channels.now) (contents_items c.loop.channels) (contents_items c.take_head-taken.new.channels) c.loop.counter c.args.channel c.loop.invariant.taken c.take_head-taken.ensures.rest;
  room = λ (number : ℕ). omega (arith, c.loop.invariant.room number, c.take_head-taken.ensures.room number);
  came = c.log_taken.ensures.came ∙ c.loop.invariant.came;
  spare = λ h. omega (arith, c.loop.invariant.spare h, c.log_taken.ensures.room);
  logged = λ rows many first.
      let next = there rows c.loop.counter (omega (arith, many)) in
      let first_all = subst (λ n. take n (items_at (contents_items c.args.channels.now) c.args.channel) ≡ map Record rows) many first in
      let is = c.take_head-taken.ensures.taken ∙ taken_is (contents_items c.args.channels.now) (contents_items c.loop.channels) c.loop.counter c.args.channel rows next.0 c.loop.invariant.taken first_all next.1 in
      let within : c.args.channel < length (records_of c.args.logs.now) = omega (arith, c.requires.within, length-map c.args.logs.now (λ l. l.records)) in
      logged_more c.args.is_logged c.args.channel c.loop.counter rows next.0 (records_of c.args.logs.now) (records_of c.loop.logs) (records_of c.log_taken.new.logs) within next.1 (c.loop.invariant.logged rows many first) (c.log_taken.ensures.logged next.0 is);
}

pub returns-clause-logged : goal.returns-clause-logged
returns-clause-logged g c = λ rows many first.
    let end : c.loop.counter ≡ c.args.count = omega arith in
    logged_all c.args.is_logged c.args.channel c.args.count rows (records_of c.args.logs.now) (records_of c.loop.logs) many
    (subst (λ n. records_of c.loop.logs ≡ log_with_all c.args.is_logged c.args.channel (take n rows) (records_of c.args.logs.now)) end (c.loop.invariant.logged rows many first))
