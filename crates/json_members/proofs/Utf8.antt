-- The value of bytes, where they are UTF-8 and where they are not.
use Rattle.std.proofs.Common.{◌≡◌, ℕ, List, true, false, cond, None, refl}
use Rattle.std.specs.Str.{IsUtf8, is_utf8}
use Rattle.std.proofs.lemmas.Str.{IsUtf8-from_is_utf8, is_utf8-from_IsUtf8}
use Rattle.serde_json.specs.Read.{read}
use Rattle.json_members.specs.Json.{json_of}

pub json_of-text : (bytes : List ℕ) → IsUtf8 bytes → json_of bytes ≡ read bytes
unfolding json_of
json_of-text bytes h = rw (is_utf8-from_IsUtf8 bytes h) refl

pub json_of-none : (bytes : List ℕ) → (IsUtf8 bytes → read bytes ≡ None) → json_of bytes ≡ None
unfolding json_of
json_of-none bytes h =
    elim (is_utf8 bytes) as (λ b. is_utf8 bytes ≡ b → cond b (read bytes) None ≡ None) [
      | true ↦ λ e. h (IsUtf8-from_is_utf8 _ e)
      | false ↦ λ e. refl
    ] refl
