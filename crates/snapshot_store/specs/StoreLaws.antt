-- Laws of what a store holds.
use Rattle.std.specs.Prelude.{◌≡◌, ℕ, ◌==◌, ◌&&◌, ◌||◌, cond, List, Some}
use Rattle.std.specs.Ordering.{nat_cmp}
use Rattle.std.specs.Cmp.{IsTotalOrder, then_total, on_total, nat_cmp_total, both_tied, unsigned_ties, unsigned_tied}
use Rattle.std.specs.FinMap as map
use Rattle.std.specs.FinSet as set
use Rattle.std.proofs.Common.{sym, ap, ◌∙◌}
use Rattle.snapshot_store.specs.Store.{Stored, key_cmp, part_of, is_complete, with_part, completed}

pub key_cmp_total : IsTotalOrder key_cmp
key_cmp_total = then_total (on_total (λ (k : ℕ × ℕ). k.0) nat_cmp_total) (on_total (λ (k : ℕ × ℕ). k.1) nat_cmp_total)

-- a part that is put is there, and no other is changed
pub part_of-with_part : (s : Stored) (n t : ℕ) (bytes : List ℕ) (m u : ℕ)
    → part_of (with_part s n t bytes) m u ≡ cond ((m == n) && (u == t)) (Some bytes) (part_of s m u)
part_of-with_part s n t bytes m u =
    map.get-insert key_cmp_total s.parts (n, t) bytes (m, u)
    ∙ ap (λ c. cond c (Some bytes) (part_of s m u)) (sym (both_tied (m == n) (u == t) (nat_cmp m n) (nat_cmp u t) (unsigned_ties m n) (unsigned_ties u t)))

-- a number that is made complete is complete, and no other is changed
pub is_complete-completed : (s : Stored) (n m : ℕ) → is_complete (completed s n) m ≡ ((m == n) || is_complete s m)
is_complete-completed s n m = set.contains-insert nat_cmp_total s.complete n m ∙ ap (λ c. c || is_complete s m) (unsigned_tied m n)
