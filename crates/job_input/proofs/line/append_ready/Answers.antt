use Rattle.std.proofs.Common.{◌≡◌, ◌≢◌, ◌-◌, All, Ok, take, drop, refl, sym, ap, subst, ◌∙◌, rules, arith, eq-eqb, eqb-true, get_or, get_or-take, length, le_refl, length-take-le, drop_of_length-le, []}
use Rattle.std.proofs.lemmas.List.Elements.{All-more}
use Rattle.std.specs.Io.{StopsAt, IsEmptyOrEndsWith}
use Rattle.std.specs.Io.KnownBytes.{Consumes}
use Rattle.std.specs.Io.BufRead.{FillKeeps, DropsConsumable}
use Rattle.std.proofs.KnownBytes.{Consumes-nil, Consumes-kept}
use Rattle.std.proofs.BufReadLemmas.{Consumes_shown, zero_unless_positive}
use Rattle.std.proofs.Transfers.{starts_with_of_eq, starts_with_of_append, drop-appended, StopsAt-of_none_appended, StopsAt-take, All-of_none_appended}
use Rattle.job_input.proofs.line.append_ready.Goals.{then-end-eq0, else-end-eq0}
use Rattle.job_input.proofs.line.append_ready.Goals as goal

pub returns-then-eq : goal.returns-then-eq
returns-then-eq g c =
    record {
      appends = starts_with_of_eq _ _ refl;
      stops = StopsAt-of_none_appended c.args.line.now.items _ _ refl;
      bytes = subst (Consumes _ _) (sym (drop_of_length-le c.args.line.now.items (le_refl _))) (Consumes-kept _ _ _ [] (Consumes-nil _) c.fill_buf.follows.holds-at-none.0);
      end = search rules;
      no_end_unless_done = λ _. All-of_none_appended c.args.line.now.items _ _ refl;
      done_at_end = search rules;
    }

pub returns-else-eq : goal.returns-else-eq
returns-else-eq g c =
    record { appends = starts_with_of_eq _ _ refl; stops = StopsAt-of_none_appended c.args.line.now.items _ _ refl; bytes = subst (Consumes _ _) (sym (drop_of_length-le c.args.line.now.items (le_refl _))) (Consumes-kept _ _ _ [] (Consumes-nil _) c.fill_buf.follows.holds-at-none.0); end = search rules; no_end_unless_done = λ _. All-of_none_appended c.args.line.now.items _ _ refl; done_at_end = search rules }

pub returns-in_err-extend_from_slice : goal.returns-in_err-extend_from_slice
returns-in_err-extend_from_slice g c =
    let items = c.in_err-extend_from_slice.ensures.items in
    record { appends = starts_with_of_eq _ _ items; stops = StopsAt-of_none_appended c.args.line.now.items _ _ items; bytes = subst (Consumes _ _) (sym (ap (drop (length c.args.line.now.items)) items ∙ drop_of_length-le c.args.line.now.items (le_refl _))) (Consumes-kept _ _ _ [] (Consumes-nil _) c.fill_buf.follows.holds-at-none.0); end = search rules; no_end_unless_done = λ _. All-of_none_appended c.args.line.now.items _ _ items; done_at_end = search rules }

pub returns : goal.returns
returns g c =
    let items = c.in_ok-extend_from_slice.ensures.items in
    let tail = sym (drop-appended _ _ _ items) in
    let end = c.len_through_end-end in
    let rested = c.fill_buf.follows.lender-at-none in
    let filled = subst (FillKeeps _ (g.R.Read.remaining rested) (g.R.BufRead.consumable_len rested)) c.in-Ok.is c.fill_buf.follows.holds-at-none in
    let same : c.if-end-eq0.file ≡ rested = search rules in
    let drops = subst (λ r. DropsConsumable (g.R.Read.remaining r) (g.R.Read.remaining c.consume.new.self) (g.R.BufRead.consumable_len r) end.result) same c.consume.ensures.bytes in
    let moved = Consumes_shown _ _ _ _ c.in-Ok.available.now end.result end.ensures.bound c.in-Ok.ensures.front c.in-Ok.ensures.end filled.0 filled.1 drops in
    record {
      appends = starts_with_of_append _ _ _ items;
      stops = subst (λ l. StopsAt l 10) tail (StopsAt-take _ _ _ end.ensures.bound end.ensures.before);
      bytes = subst (Consumes _ _) tail moved.0;
      end = λ _ none.
          let zero : end.result ≡ 0 = sym (length-take-le end.result c.in-Ok.available.now end.ensures.bound) ∙ ap length tail ∙ none in
          moved.1 (zero_unless_positive _ _ end.ensures.some zero);
      no_end_unless_done = λ more. subst (All (λ x. x ≢ 10)) tail (elim c.if-end-eq0.branch [
        | then-end-eq0 w ↦ absurd (more (ap Ok (search rules)))
        | else-end-eq0 w ↦ subst (λ k. All (λ x. x ≢ 10) (take k c.in-Ok.available.now)) (omega (arith, w.if-end-eq0.false))
            (All-more (λ x. x ≢ 10) _ (end.result - 1) 0 (omega (arith, w.if-end-eq0.false, end.ensures.bound)) end.ensures.before (λ e. more (ap Ok (w.is_done-is ∙ eq-eqb _ _ e))))
      ]);
      done_at_end = λ done. subst (λ l. IsEmptyOrEndsWith l 10) tail (λ some.
          let long = length-take-le end.result c.in-Ok.available.now end.ensures.bound in
          elim c.if-end-eq0.branch [
            | then-end-eq0 w ↦ absurd (omega (arith, w.if-end-eq0.true))
            | else-end-eq0 w ↦ ap (λ n. get_or (take end.result c.in-Ok.available.now) (n - 1) 0) long
                ∙ get_or-take end.result c.in-Ok.available.now (end.result - 1) 0 (omega arith) ∙ eqb-true _ _ (sym w.is_done-is ∙ search rules)
          ]);
    }
