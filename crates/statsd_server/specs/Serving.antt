-- The text that a server serves of what is to come.
use Rattle.std.specs.Prelude.{◌≡◌, ℕ, List}
use Rattle.std.proofs.Common.{◌∙◌, sym}
use Rattle.std.proofs.Math.Logic.{∥∥₁_elim, ∥∥₁_prop}
use Rattle.std.specs.Coded.{Coded-set, coded_list, coded_ℕ, ×_prop, Π_prop}
use mathlib.Core.HLevel.{Σ_prop_path}
use Rattle.statsd_server.specs.Groups.{groups_of, served_text, Coming}
use Rattle.statsd_server.specs.Packets.{Packet}
use Rattle.statsd_server.specs.Server.{ServerMemory, StandsFor}

-- there are earlier groups, and packets in hand, for which the server stands
abbrev pub Stands : ServerMemory → Type 0
Stands memory = ∥ ((earlier : List (List Packet)) × (hand : List Packet) × StandsFor earlier hand memory) ∥₁

-- a text for all that may come is what is served of it, for whatever the server stands
abbrev pub Serves : ServerMemory → (Coming → List ℕ) → Type 0
Serves memory text = (earlier : List (List Packet)) (hand : List Packet) → StandsFor earlier hand memory
    → (coming : Coming) → text coming ≡ served_text earlier (groups_of coming hand)

-- what the server serves of what may come: there is one such text
abbrev pub Serving : ServerMemory → Type 0
Serving memory = (text : Coming → List ℕ) × (Stands memory × Serves memory text)

serves_prop : (memory : ServerMemory) (text : Coming → List ℕ) → IsProp (Stands memory × Serves memory text)
serves_prop memory text =
    ×_prop ∥∥₁_prop (Π_prop (λ earlier. Π_prop (λ hand. Π_prop (λ stands. Π_prop (λ coming.
    Coded-set (coded_list coded_ℕ) _ _)))))

same_text : (memory : ServerMemory) (a b : Serving memory) (coming : Coming) → a.0 coming ≡ b.0 coming
same_text memory a b coming = ∥∥₁_elim a.1.0 (Coded-set (coded_list coded_ℕ) _ _)
    (λ x. a.1.1 x.0 x.1 x.2 coming ∙ sym (b.1.1 x.0 x.1 x.2 coming))

pub serving_prop : (memory : ServerMemory) → IsProp (Serving memory)
serving_prop memory = λ a b. Σ_prop_path (serves_prop memory) (λ i. λ coming. same_text memory a b coming i)
