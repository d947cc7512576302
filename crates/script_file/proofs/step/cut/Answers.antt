use Rattle.std.proofs.Common.{◌≡◌, ◌==◌, ◌<◌, ℕ, List, Bor, Option, Some, None, length, MatchOption, ok_or, lit<, refl, arith}
use Rattle.std.specs.List.{position_or_len, before_first, after_first}
use Rattle.std.proofs.lemmas.Bool.{lt-ltb, le-ltb}
use Rattle.script_file.specs.declared.fault.ItemFault.TheVariants as one
use Rattle.script_file.specs.Cuts.{bad, cut}
use Rattle.script_file.specs.Faults.{FindsItem}
use Rattle.script_file.proofs.step.cut.Goals as goal

cut_from : (text : List ℕ) (r : Option (Bor (List ℕ) × Bor (List ℕ)))
    → MatchOption r (position_or_len (λ b. b == 32) text ≡ length text) (λ x. (x.0.now ≡ before_first (λ b. b == 32) text) × (x.1.now ≡ after_first (λ b. b == 32) text) × (position_or_len (λ b. b == 32) text < length text))
    → FindsItem (λ (p : Bor (List ℕ) × Bor (List ℕ)). (p.0.now, p.1.now)) (ok_or r one.Bad) (bad (cut text))
unfolding cut
cut_from text None h = rw (le-ltb (position_or_len (λ b. b == 32) text) (length text) (omega arith)) refl
cut_from text (Some x) h = rw (lt-ltb (position_or_len (λ b. b == 32) text) (length text) h.2, ← h.0, ← h.1) refl

pub returns : goal.returns
returns c = rw c.ok_or.ensures.value (cut_from c.args.text.now c.split_once.result (c.split_once.ensures.byte (lit< tt) (λ w o h. h)))
