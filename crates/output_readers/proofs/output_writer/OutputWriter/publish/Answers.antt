use Rattle.std.proofs.Common.{◌≡◌, [], drop, sym, ap, ◌∙◌, subst}
use Rattle.published_lists.specs.Editions.{Edition}
use Rattle.published_lists.specs.Operations.{after_all, staged}
use Rattle.published_lists.proofs.Growing.{admits}
use Rattle.output_readers.proofs.Writing.{follows_shown, refused, accepted}
use Rattle.output_readers.proofs.output_writer.OutputWriter.publish.Goals as goal

pub reader-requires : goal.reader-requires
reader-requires g c = admits

pub replace_with-requires : goal.replace_with-requires
replace_with-requires g c =
    let w = c.self.inside.writer in
    let kept = c.self.invariant in
    let new = c.again-2.result in
    let is = c.again-2.ensures in
    let lists : new.lists ≡ (staged w.desk.shown.value w.behind w.log.items).lists = ap (λ (e : Edition). e.lists) is ∙ c.in-Some.ensures.lists in
    let history : new.history ≡ c.self.inside.last.history = ap (λ (e : Edition). e.history) is ∙ c.in-Some.ensures.history in
    (lists, follows_shown w.desk.shown.value (staged w.desk.shown.value w.behind w.log.items) c.self.inside.last new kept.named kept.begins history lists)

pub invariant_of-self : goal.invariant_of-self
invariant_of-self g c =
    let i = c.self.inside in
    let w = i.writer in
    let now = c.replace_with.new.dest in
    let new = c.again.result in
    let ends = c.in_err-replace_with.ensures in
    let same : c.again-2.result ≡ new = c.again-2.ensures ∙ sym c.again.ensures in
    let lists : new.lists ≡ (staged w.desk.shown.value w.behind w.log.items).lists = ap (λ (e : Edition). e.lists) c.again.ensures ∙ c.in-Some.ensures.lists in
    let history : new.history ≡ i.last.history = ap (λ (e : Edition). e.history) c.again.ensures ∙ c.in-Some.ensures.history in
    refused _ _ w.desk.shown.value (staged w.desk.shown.value w.behind w.log.items) i.last new _ _ c.self.invariant history lists _ now.desk.shown.value (staged now.desk.shown.value now.behind now.log.items) ends.0 (ends.1 ∙ ap (λ (e : Edition). e.lists) same) ends.2

pub invariant_of-self-2 : goal.invariant_of-self-2
invariant_of-self-2 g c =
    let i = c.self.inside in
    let w = i.writer in
    let was = c.replace_with.new.dest in
    let now = c.relay-reader.new.writer in
    let stays = c.relay-reader.ensures.same in
    let new = c.again.result in
    let ends = c.in_ok-replace_with.ensures in
    let same : c.again-2.result ≡ new = c.again-2.ensures ∙ sym c.again.ensures in
    let lists : new.lists ≡ (staged w.desk.shown.value w.behind w.log.items).lists = ap (λ (e : Edition). e.lists) c.again.ensures ∙ c.in-Some.ensures.lists in
    let history : new.history ≡ i.last.history = ap (λ (e : Edition). e.history) c.again.ensures ∙ c.in-Some.ensures.history in
    let shown : now.desk.shown.value ≡ was.desk.shown.value = ap (λ s. s.value) stays.0 in
    let done : drop now.behind now.log.items ≡ [] = ap (λ b. drop b now.log.items) stays.2 ∙ (ap (λ l. drop was.behind l.items) stays.1 ∙ ends.2) in
    accepted _ _ w.desk.shown.value (staged w.desk.shown.value w.behind w.log.items) i.last new _ _ c.self.invariant history lists _ now.desk.shown.value (staged now.desk.shown.value now.behind now.log.items)
    (ap (λ h. h.lists) shown ∙ (ends.0 ∙ ap (λ (e : Edition). e.lists) same))
    (ap (λ h. h.edition) shown ∙ (ends.1 ∙ same))
    (ap (after_all now.desk.shown.value) done)
    (stays.3 ∙ (ends.3 ∙ ap Rattle.std.proofs.Common.Some same))
