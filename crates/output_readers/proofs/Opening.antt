-- A reader that was told of empty lists.
use Rattle.std.proofs.Common.{◌≡◌, ℕ, ◌≤◌, ◌<◌, true, false, leb, List, [], length, replicate, get_or, take, refl, sym, ap, ◌∙◌, subst, ⊎_elim}
use Rattle.std.proofs.lemmas.List.{get_or-replicate, get_or_past, length-replicate}
use Rattle.std.proofs.lemmas.Bool.Decides.{leb_tells}
use Rattle.published_lists.specs.Beginnings.{longer}
use Rattle.published_lists.specs.Editions.{Edition}
use Rattle.published_lists.specs.Rows.{rows_of, each_take}
use Rattle.output_readers.specs.Seeing.{IsOpening}
use Rattle.published_lists.proofs.Beginnings.{take_of_none}
use Rattle.published_lists.proofs.EachRow.{rows_of-each_take, length-each_take}

no_rows : (n s : ℕ) → rows_of {A = List ℕ} (replicate n []) s ≡ []
no_rows n s = ⊎_elim
    (λ (t : (leb n s ≡ true) × (n ≤ s)). get_or_past (replicate n []) s [] (subst (λ k. k ≤ s) (sym (length-replicate n [])) t.1))
    (λ (t : (leb n s ≡ false) × (s < n)). get_or-replicate n s [] [] t.1)
    (leb_tells n s)

pub opening : (e told : Edition) (n : ℕ) (lengths : List ℕ) → e.lists ≡ replicate n [] → told ≡ e → length lengths ≡ n
    → IsOpening e.history n (record { history = e.history; found = e.lists; read = each_take lengths e.lists; told = told.lists })
opening e told n lengths empty same long =
    let none : (s : ℕ) → rows_of e.lists s ≡ [] = λ s. ap (λ l. rows_of l s) empty ∙ no_rows n s in
    let unread : (s : ℕ) → rows_of (each_take lengths e.lists) s ≡ [] = λ s. rows_of-each_take lengths e.lists s ∙ (ap (take (get_or lengths s 0)) (none s) ∙ take_of_none (get_or lengths s 0)) in record {
      history = refl;
      subtasks = length-each_take lengths e.lists ∙ long;
      view = λ s. ap (λ l. longer l (rows_of told.lists s)) (unread s) ∙ ap (longer []) (ap (λ (x : Edition). rows_of x.lists s) same ∙ none s);
    }
