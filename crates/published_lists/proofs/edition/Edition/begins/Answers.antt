use Rattle.std.proofs.Common.{◌≡◌, ◌∙◌, List, ap, sym, subst, arith}
use mathlib.Core.List.{IsPrefix}
use Rattle.published_lists.specs.Editions.{Edition, last_of}
use Rattle.published_lists.proofs.Histories.{Lists, last_begins, either_follows}
use Rattle.published_lists.proofs.edition.Edition.begins.Goals as goal

pub returns : goal.returns
returns c =
    let xs = c.self.inside.seen.log in
    let ys = c.other.inside.seen.log in
    let both = c.learn.new.self.log in
    let this : IsPrefix xs both = subst (λ (l : List Lists). IsPrefix l both) (ap (λ s. s.log) c.again-both.ensures) c.learn.ensures.2 in
    let history : c.other.inside.seen.book ≡ c.self.inside.seen.book = ap (λ k. k.history) c.other.view_is ∙ (c.requires ∙ sym (ap (λ k. k.history) c.self.view_is)) in
    let mine : Edition = record { history = c.self.inside.seen.book; entries = c.self.inside.count; lists = last_of xs } in
    let theirs : Edition = record { history = c.other.inside.seen.book; entries = c.other.inside.count; lists = last_of ys } in
    rw (← c.self.view_is, ← c.other.view_is)
    (either_follows mine theirs c.self.inside.count c.other.inside.count
    (λ le. (history, last_begins xs ys both c.other.invariant.1 this c.learn.ensures.3 (omega (arith, le, c.self.invariant.0, c.other.invariant.0))))
    (λ le. (sym history, last_begins ys xs both c.self.invariant.1 c.learn.ensures.3 this (omega (arith, le, c.self.invariant.0, c.other.invariant.0)))))
