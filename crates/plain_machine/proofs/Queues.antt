-- What a channel receives, by its description.
use Rattle.std.proofs.Common.{◌≡◌, ◌++◌, ◌<◌, ◌==◌, if◌then◌else◌, slice_get, get_or, length, map, ℕ, List, [], append-nil, refl, sym, ap, ◌∙◌}
use Rattle.std.proofs.lemmas.Option.{slice_get_read, slice_get-map}
use Rattle.std.proofs.lemmas.Bool.{eq-eqb, ne_eqb}
use Rattle.std.specs.Option.{option_map}
use Rattle.plain_machine.specs.declared.job.Channel as code_channel
use Rattle.dataflow_model.specs.Graph.{Meaning, admitted}
use Rattle.dataflow_model.specs.Machine.{received}
use Rattle.plain_machine.specs.Plain.{channel_of}

pub received_at : {R K S O : Type 0} (meaning : Meaning R K S O) (channels : List code_channel.Channel) (i : ℕ) (c : code_channel.Channel) (task : ℕ) (sent : List (ℕ × R)) → i < length channels → c ≡ get_or channels i c → received meaning task sent (slice_get (map channel_of channels) i) ≡ (if c.sender == task then admitted meaning (channel_of c) sent else [])
received_at meaning channels i c task sent within is =
    ap (received meaning task sent) (slice_get-map channel_of channels i ∙ ap (option_map channel_of) (slice_get_read channels (length channels) i c refl within is))

if_here : {A : Type 0} (m n : ℕ) (x y : A) → m ≡ n → (if m == n then x else y) ≡ x
if_here m n x y e = ap (λ b. if b then x else y) (eq-eqb m n e)

if_apart : {A : Type 0} (m n : ℕ) (x y : A) → (m ≡ n → ⊥) → (if m == n then x else y) ≡ y
if_apart m n x y apart = ap (λ b. if b then x else y) (ne_eqb m n apart)

-- a channel after its sender sent
pub queue_sent : {R K S O : Type 0} (meaning : Meaning R K S O) (channels : List code_channel.Channel) (i : ℕ) (c : code_channel.Channel) (sender task : ℕ) (sent : List (ℕ × R)) (queue put base left rest : List R) →
    i < length channels → c ≡ get_or channels i c → c.sender ≡ sender → sender ≡ task → queue ≡ put → put ≡ base ++ admitted meaning (channel_of c) sent → base ≡ left → left ≡ rest →
    queue ≡ rest ++ received meaning task sent (slice_get (map channel_of channels) i)
queue_sent meaning channels i c sender task sent queue put base left rest within is from same puts e f g =
    puts
    ∙ e
    ∙ ap (λ l. l ++ admitted meaning (channel_of c) sent) (f ∙ g)
    ∙ ap (λ l. rest ++ l) (sym (received_at meaning channels i c task sent within is ∙ if_here c.sender task _ _ (from ∙ same)))

-- a channel after another task sent
pub queue_kept : {R K S O : Type 0} (meaning : Meaning R K S O) (channels : List code_channel.Channel) (i : ℕ) (c : code_channel.Channel) (sender task : ℕ) (sent : List (ℕ × R)) (queue base left rest : List R) →
    i < length channels → c ≡ get_or channels i c → (c.sender ≡ sender → ⊥) → sender ≡ task → queue ≡ base → base ≡ left → left ≡ rest →
    queue ≡ rest ++ received meaning task sent (slice_get (map channel_of channels) i)
queue_kept meaning channels i c sender task sent queue base left rest within is apart same e f g =
    e
    ∙ f
    ∙ g
    ∙ sym (append-nil rest)
    ∙ ap (λ l. rest ++ l) (sym (received_at meaning channels i c task sent within is ∙ if_apart c.sender task _ _ (λ h. apart (h ∙ sym same))))
