-- What a sound engine that runs a line has committed.
use Rattle.std.proofs.Common.{◌≡◌, ℕ, zero, suc, ◌<◌, ◌≤◌, inl, inr, List, [], ◌∷◌, ◌++◌, map, filter, length, take, slice_get, Some, refl, sym, ap, ap₂, ◌∙◌, subst, arith, append-nil, append_assoc, length-append, take_at}
use Rattle.std.proofs.lemmas.List.{map-append}
use Rattle.dataflow_model.specs.Graph.{SourceTask, Job, Begins}
use Rattle.dataflow_model.specs.Machine.{Configuration}
use Rattle.checkpoint_model.specs.Durable.{Devices, is_on, joined, transactions_of, IsSink, IsLegal}
use Rattle.checkpoint_model.proofs.Moments.{successive}
use Rattle.checkpoint_model.proofs.Restarting.{none_or_more}
use Rattle.engine_lines.specs.Line.{sent_along, applied, line_channel, IsLine, IsLineAt}
use Rattle.engine_lines.specs.PlainLaws.{CommitsBeginning, LinesCommitBeginnings, LoggedLinesCommitBeginnings}
use Rattle.engine_lines.proofs.LineRuns.{lines_apply}

get_within : {A : Type 0} (xs : List A) (j : ℕ) → j < length xs → (x : A) × (slice_get xs j ≡ Some x)
get_within [] j h = absurd (omega (arith, h))
get_within (x ∷ xs) zero h = (x, refl)
get_within (x ∷ xs) (suc j) h = get_within xs j (omega (arith, h))

module _ {R K S O B : Type 0} (job : Job R K S O) (spell : R → B) (partition : ℕ) (operator : O) (devices : Devices R K S B) (cuts : List (Configuration R K S)) (legal : IsLegal job spell cuts devices) (is : IsLine job partition operator) where
  is_sink : IsSink job 2
  is_sink = ap (λ ts. slice_get ts 2) is.tasks

  -- the cut of the sink's last committed checkpoint
  pub record LastCut (j : ℕ) : Type 0 where
    pub at : Configuration R K S
    pub number : ℕ
    pub is_cut : slice_get cuts j ≡ Some at
    pub is_number : slice_get devices.store.line j ≡ Some number
    pub line_at : IsLineAt job partition operator at
    pub output : map spell (at.tasks 2).output ≡ joined (devices.sinks 2).committed

  last_cut : (j : ℕ) → length (devices.sinks 2).committed ≡ suc j → LastCut j
  last_cut j e =
      let t = devices.sinks 2 in
      let rest = transactions_of (filter (λ p. is_on devices.store.line p.checkpoint) t.pre_committed) in
      let long : length t.committed ≤ length devices.store.line = omega (arith, legal.settled_each 2 is_sink, length-append t.committed rest) in
      let m = successive job cuts legal.successive in
      let cut = get_within cuts j (omega (arith, long, e, legal.one_each)) in
      let number = get_within devices.store.line j (omega (arith, long, e)) in
      let moment = get_within m.1 j (omega (arith, long, e, legal.one_each, m.2.one_each)) in
      let at = m.2.at_each j moment.0 cut.0 cut.1 moment.1 in
      record {
        at = cut.0;
        number = number.0;
        is_cut = cut.1;
        is_number = number.1;
        line_at = lines_apply job partition operator (take moment.0 m.0) cut.0 is at.1;
        output = legal.outputs j cut.0 2 cut.1 is_sink ∙ ap joined (take_at t.committed rest (suc j) e);
      }

  -- of nothing committed
  from_nothing : (devices.sinks 2).committed ≡ [] → CommitsBeginning job spell partition operator devices
  from_nothing none =
      record {
        offset = 0;
        within = omega arith;
        committed = ap joined none;
        from_none = λ e. refl;
        from_part = λ j n part e is_number has is_part. absurd (omega (arith, e, ap length none));
      }

  -- of a cut with empty channels
  from_cut : (j : ℕ) → length (devices.sinks 2).committed ≡ suc j → (c : LastCut j) → c.at.channels 0 ≡ [] → c.at.channels 1 ≡ [] → CommitsBeginning job spell partition operator devices
  from_cut j e c first second =
      let output = (c.at.tasks 2).output in
      let states = (c.at.tasks 1).states in
      let sent : output ≡ applied job.meaning operator (take (c.at.tasks 0).offset (job.partitions partition)) =
      sym (append-nil output)
      ∙ sym (append-nil (output ++ []))
      ∙ ap₂ (λ x y. output ++ x ++ sent_along job.meaning operator states y) (sym second) (sym first)
      ∙ c.line_at.sent in
      record {
        offset = (c.at.tasks 0).offset;
        within = c.line_at.read;
        committed = sym c.output ∙ ap (map spell) sent;
        from_none = λ none. absurd (omega (arith, e, ap length none));
        from_part =
            λ i n part long is_number has is_part.
            let same : i ≡ j = omega (arith, e, long) in
            let cut = legal.parts j c.at n c.is_cut (subst (λ k. slice_get devices.store.line k ≡ Some n) same is_number) has in
            cut.offsets 0 part (SourceTask partition) (ap (λ ts. slice_get ts 0) is.tasks) is_part;
      }

  begins_at : (j : ℕ) (c : LastCut j) → Begins (joined (devices.sinks 2).committed) (map spell (applied job.meaning operator (take (c.at.tasks 0).offset (job.partitions partition))))
  begins_at j c =
      let output = (c.at.tasks 2).output in
      let rest = sent_along job.meaning operator (c.at.tasks 1).states (c.at.channels 0) in
      let more = map spell (c.at.channels 1 ++ rest) in (
        more,
        ap (map spell) (sym c.line_at.sent ∙ append_assoc output (c.at.channels 1) rest)
            ∙ map-append spell output (c.at.channels 1 ++ rest)
            ∙ ap (λ l. l ++ more) c.output,
      )

module _ {R K S O B : Type 0} where
  pub lines_commit : (job : Job R K S O) (spell : R → B) → LinesCommitBeginnings job spell
  lines_commit job spell is_logged partition operator devices running is first second s =
      elim (none_or_more (devices.sinks 2).committed) [
        | inl none ↦ from_nothing job spell partition operator devices s.cuts s.legal is none
        | inr some ↦
            let c = last_cut job spell partition operator devices s.cuts s.legal is some.0 some.1 in
            from_cut job spell partition operator devices s.cuts s.legal is some.0 some.1 c
            (s.clear some.0 0 c.at (line_channel 0 is.first) c.is_cut (ap (λ cs. slice_get cs 0) is.channels) first)
            (s.clear some.0 1 c.at (line_channel 1 is.second) c.is_cut (ap (λ cs. slice_get cs 1) is.channels) second)
      ]

  pub logged_lines_commit : (job : Job R K S O) (spell : R → B) → LoggedLinesCommitBeginnings job spell
  logged_lines_commit job spell is_logged partition operator devices running is s =
      elim (none_or_more (devices.sinks 2).committed) [
        | inl none ↦ (0, omega arith, ([], sym (ap (λ l. joined l ++ []) none)))
        | inr some ↦
            let c = last_cut job spell partition operator devices s.cuts s.legal is some.0 some.1 in
            ((c.at.tasks 0).offset, c.line_at.read, begins_at job spell partition operator devices s.cuts s.legal is some.0 c)
      ]
