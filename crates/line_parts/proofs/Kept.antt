-- Bytes that a reader loses and a text gets.
use Rattle.std.proofs.Common.{◌≡◌, ◌∙◌, ℕ, List, ◌++◌, Option, None, Some, OnSome, sym, ap, append_assoc}
use Rattle.std.specs.Io.KnownBytes.{Consumes, Keeps, prepend_known}

pub kept : (a b : Option (List ℕ)) (old new bs : List ℕ) → new ≡ old ++ bs → Consumes a b bs → Keeps (prepend_known old a) (prepend_known new b)
kept None b old new bs is gone = tt
kept (Some xs) None old new bs is gone = absurd gone
kept (Some xs) (Some ys) old new bs is gone = ap (λ l. l ++ ys) is ∙ append_assoc old bs ys ∙ ap (λ l. old ++ l) (sym gone)

-- what was known is known still
pub on_known : (a b : Option (List ℕ)) (old new : List ℕ) (P : Type 0) → Keeps (prepend_known old a) (prepend_known new b) → OnSome b P → OnSome a P
on_known None b old new P same h = tt
on_known (Some xs) None old new P same h = absurd same
on_known (Some xs) (Some ys) old new P same h = h
