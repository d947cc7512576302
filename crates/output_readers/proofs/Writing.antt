-- What a writer keeps where it publishes, and where it is refused.
use Rattle.std.proofs.Common.{◌≡◌, List, Option, Some, ℕ, length, sym, ap, ◌∙◌, subst}
use Rattle.std.specs.List.{All}
use Rattle.logbook.specs.Pages.{Book}
use Rattle.published_lists.specs.Editions.{Edition, Follows}
use Rattle.published_lists.specs.Holding.{Held, IsSealed}
use Rattle.published_lists.specs.Rows.{EachBegins, Counts}
use Rattle.output_readers.specs.Seeing.{Knowledge, IsOpening, IsWriting}
use Rattle.published_lists.proofs.EachRow.{each_self, each_trans}
use Rattle.published_lists.proofs.Growing.{follows_self}

-- an edition that names all that was handed in follows the one that is shown
pub follows_shown : (shown next : Held) (last new : Edition) → Follows shown.edition last → EachBegins last.lists next.lists → new.history ≡ last.history → new.lists ≡ next.lists → Follows shown.edition new
follows_shown shown next last new f b h l =
    (h ∙ f.0, each_trans shown.edition.lists last.lists new.lists f.1 (subst (λ x. EachBegins last.lists x) (sym l) b))

module _ (book : Book) (seat : Option Edition) (shown next : Held) (last new : Edition) (lengths : List ℕ) (rest : List Knowledge) (kept : IsWriting book seat shown next last lengths rest) (h : new.history ≡ last.history) (l : new.lists ≡ next.lists) where
  same_readers : All (IsOpening new.history (length lengths)) rest
  same_readers = subst (λ b. All (IsOpening b (length lengths)) rest) (sym h) kept.readers

  -- the lists were named, and are not shown
  pub refused : (seat' : Option Edition) (shown' next' : Held) → shown' ≡ shown → next'.lists ≡ new.lists → seat' ≡ seat → IsWriting book seat' shown' next' new lengths rest
  refused seat' shown' next' e n s = record {
    head = kept.head ∙ sym h;
    known = s ∙ (kept.known ∙ ap (λ (x : Held). Some x.edition) (sym e));
    sealed = subst (λ (x : Held). IsSealed x) (sym e) kept.sealed;
    named = subst (λ (x : Held). Follows x.edition new) (sym e) (follows_shown shown next last new kept.named kept.begins h l);
    begins = subst (λ x. EachBegins new.lists x) (sym n) (each_self new.lists);
    counts = subst (λ x. Counts lengths x) (sym (n ∙ l)) kept.counts;
    readers = same_readers;
  }

  -- the lists are shown
  pub accepted : (seat' : Option Edition) (shown' next' : Held) → shown'.lists ≡ new.lists → shown'.edition ≡ new → next' ≡ shown' → seat' ≡ Some new → IsWriting book seat' shown' next' new lengths rest
  accepted seat' shown' next' m e n s =
      let all : next'.lists ≡ new.lists = ap (λ (x : Held). x.lists) n ∙ m in record {
        head = kept.head ∙ sym h;
        known = s ∙ ap Some (sym e);
        sealed = ap (λ (x : Edition). x.lists) e ∙ sym m;
        named = subst (λ x. Follows x new) (sym e) (follows_self new);
        begins = subst (λ x. EachBegins new.lists x) (sym all) (each_self new.lists);
        counts = subst (λ x. Counts lengths x) (sym (all ∙ l)) kept.counts;
        readers = same_readers;
      }
