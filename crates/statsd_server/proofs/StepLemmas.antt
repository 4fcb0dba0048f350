-- What receiving once makes of the text that is served of what is left.
use Rattle.std.proofs.Common.{◌≡◌, ◌<◌, ◌+◌, ◌==◌, ℕ, true, false, cond, Bool, List, [], ◌∷◌, nat_lt}
use Rattle.std.proofs.Common.{refl, sym, ap, subst, ◌∙◌, arith, take, Some, None}
use Rattle.std.proofs.Math.Logic.{∥∥₁_elim}
use Rattle.std.proofs.lemmas.Bool.{eqb-false, eqb-true}
use Rattle.std.specs.Coded.{Coded-set, coded_list, coded_ℕ}
use Rattle.std.specs.Io.KnownBytes.{Keeps}
use Rattle.std.specs.Option.{option_map}
use Rattle.std.specs.Prelude.{Option, Ok}
use Rattle.statsd_server.specs.declared.datagrams.Dgram.{Dgram}
use Rattle.statsd_server.specs.declared.datagrams.Dgram.TheVariants as datagrams
use Rattle.statsd_server.specs.declared.datagrams.Got.{Got}
use Rattle.statsd_server.specs.declared.datagrams.Got.TheVariants as gots
use Rattle.statsd_server.specs.declared.stage.Stage.{Stage}
use Rattle.statsd_server.specs.declared.stage.Stage.TheVariants.{Open, Pending, Complete, Ended}
use Rattle.statsd_server.specs.Datagrams.{Receives}
use Rattle.statsd_server.specs.Groups.{groups, served_text, Growing, Rule}
use Rattle.statsd_server.specs.Packets.{Packet}
use Rattle.statsd_server.specs.Server.{ServerMemory}
use Rattle.statsd_server.specs.Serving.{Serving}
use Rattle.statsd_server.specs.Stages.{behind_end, behind_quiet, text_by}
use Rattle.statsd_server.proofs.StandingLemmas.{end_none, end_some, quiet_none, quiet_some}

some_of : (n : ℕ) → (n == 0) ≡ false → 0 < n
some_of n e = let ne = eqb-false n 0 e in omega arith

same_groups : (rule : Rule) (quiets : ℕ) (earlier : List (List Packet)) (hand : List Packet) (packet : Packet)
    (left : List Dgram) → served_text earlier (groups rule hand 0 (datagrams.Packet packet ∷ left))
    ≡ served_text earlier (groups rule hand quiets (datagrams.Packet packet ∷ left))
unfolding groups
same_groups rule quiets earlier hand packet left = refl

module _ (memory : ServerMemory) (a : Serving memory) (rule : Rule) (quiets : ℕ) where
  from_open : (stage : Stage) (before now : List ℕ) (old new : Option (List Dgram)) → stage ≡ Open quiets
      → (next is : Stage) → next ≡ is → Keeps (option_map (text_by a.0 rule (Open quiets) before) old)
      (option_map (text_by a.0 rule is now) new) → Keeps (option_map (text_by a.0 rule stage before) old)
      (option_map (text_by a.0 rule next now) new)
  from_open stage before now old new s next is n h =
      subst (λ (x : Stage). Keeps (option_map (text_by a.0 rule x before) old)
      (option_map (text_by a.0 rule next now) new)) (sym s)
      (subst (λ (x : Stage). Keeps (option_map (text_by a.0 rule (Open quiets) before) old)
      (option_map (text_by a.0 rule x now) new)) (sym n) h)

  -- ---- a quiet

  quiet_here : (buffer : List ℕ) (left : List Dgram)
      → text_by a.0 rule (behind_quiet rule.quiet_limit memory.packets quiets) buffer left
      ≡ a.0 (Growing rule quiets (datagrams.Quiet ∷ left))
  quiet_here buffer left =
      elim (memory.packets == 0) as (λ t. (memory.packets == 0) ≡ t → text_by a.0 rule
      (cond t (cond (nat_lt (quiets + 1) rule.quiet_limit) (Open (quiets + 1)) Ended) Complete) buffer left
      ≡ a.0 (Growing rule quiets (datagrams.Quiet ∷ left))) [
        | true ↦ λ e. counted (nat_lt (quiets + 1) rule.quiet_limit)
            ∙ sym (quiet_none memory a rule quiets left (eqb-true memory.packets 0 e))
        | false ↦ λ e. sym (quiet_some memory a rule quiets left (some_of memory.packets e))
      ] refl
    where
      counted : (t : Bool) → text_by a.0 rule (cond t (Open (quiets + 1)) Ended) buffer left
          ≡ cond t (a.0 (Growing rule (quiets + 1) left)) []
      counted true = refl
      counted false = refl

  quiet_open : (before now : List ℕ) (old new : Option (List Dgram)) → Receives old new (Ok gots.Quiet) now
      → Keeps (option_map (text_by a.0 rule (Open quiets) before) old)
      (option_map (text_by a.0 rule (behind_quiet rule.quiet_limit memory.packets quiets) now) new)
  quiet_open before now None new h = tt
  quiet_open before now (Some xs) None h = absurd h
  quiet_open before now (Some xs) (Some ys) h =
      quiet_here now ys ∙ ap (λ (left : List Dgram). a.0 (Growing rule quiets left)) (sym h)

  pub quiet_keeps : (stage next : Stage) (got : Got) (before now : List ℕ) (old new : Option (List Dgram))
      → stage ≡ Open quiets → got ≡ gots.Quiet → next ≡ behind_quiet rule.quiet_limit memory.packets quiets
      → Receives old new (Ok got) now → Keeps (option_map (text_by a.0 rule stage before) old)
      (option_map (text_by a.0 rule next now) new)
  quiet_keeps stage next got before now old new s g n h =
      from_open stage before now old new s next _ n
      (quiet_open before now old new (subst (λ (x : Got). Receives old new (Ok x) now) g h))

  -- ---- the end

  end_here : (buffer : List ℕ)
      → text_by a.0 rule (behind_end memory.packets) buffer [] ≡ a.0 (Growing rule quiets [])
  end_here buffer =
      elim (memory.packets == 0) as (λ t. (memory.packets == 0) ≡ t
      → text_by a.0 rule (cond t Ended Complete) buffer [] ≡ a.0 (Growing rule quiets [])) [
        | true ↦ λ e. sym (end_none memory a rule quiets (eqb-true memory.packets 0 e))
        | false ↦ λ e. sym (end_some memory a rule quiets (some_of memory.packets e))
      ] refl

  end_open : (before now : List ℕ) (old new : Option (List Dgram)) → Receives old new (Ok gots.End) now
      → Keeps (option_map (text_by a.0 rule (Open quiets) before) old)
      (option_map (text_by a.0 rule (behind_end memory.packets) now) new)
  end_open before now None new h = tt
  end_open before now (Some xs) None h = absurd h
  end_open before now (Some xs) (Some ys) h =
      ap (text_by a.0 rule (behind_end memory.packets) now) h.1 ∙ end_here now
      ∙ ap (λ (left : List Dgram). a.0 (Growing rule quiets left)) (sym h.0)

  pub end_keeps : (stage next : Stage) (got : Got) (before now : List ℕ) (old new : Option (List Dgram))
      → stage ≡ Open quiets → got ≡ gots.End → next ≡ behind_end memory.packets
      → Receives old new (Ok got) now → Keeps (option_map (text_by a.0 rule stage before) old)
      (option_map (text_by a.0 rule next now) new)
  end_keeps stage next got before now old new s g n h =
      from_open stage before now old new s next _ n
      (end_open before now old new (subst (λ (x : Got). Receives old new (Ok x) now) g h))

  -- ---- a packet

  -- the quiets before it count no more
  packet_here : (packet : Packet) (left : List Dgram) → a.0 (Growing rule 0 (datagrams.Packet packet ∷ left))
      ≡ a.0 (Growing rule quiets (datagrams.Packet packet ∷ left))
  packet_here packet left = ∥∥₁_elim a.1.0 (Coded-set (coded_list coded_ℕ) _ _) (λ x.
      a.1.1 x.0 x.1 x.2 (Growing rule 0 (datagrams.Packet packet ∷ left))
      ∙ same_groups rule quiets x.0 x.1 packet left
      ∙ sym (a.1.1 x.0 x.1 x.2 (Growing rule quiets (datagrams.Packet packet ∷ left))))

  packet_open : (size : ℕ) (before now : List ℕ) (old new : Option (List Dgram)) (text : List Dgram → List ℕ)
      → Receives old new (Ok (gots.Packet size)) now
      → ((left : List Dgram) → text left ≡ text_by a.0 rule (Pending size) now left)
      → Keeps (option_map (text_by a.0 rule (Open quiets) before) old) (option_map text new)
  packet_open size before now None new text h same = tt
  packet_open size before now (Some xs) None text h same = absurd h
  packet_open size before now (Some xs) (Some ys) text h same =
      same ys ∙ packet_here (take size now) ys ∙ ap (λ (left : List Dgram). a.0 (Growing rule quiets left)) (sym h)

  pub packet_keeps : (stage : Stage) (got : Got) (size : ℕ) (before now : List ℕ) (old new : Option (List Dgram))
      (text : List Dgram → List ℕ) → stage ≡ Open quiets → got ≡ gots.Packet size → Receives old new (Ok got) now
      → ((left : List Dgram) → text left ≡ text_by a.0 rule (Pending size) now left)
      → Keeps (option_map (text_by a.0 rule stage before) old) (option_map text new)
  packet_keeps stage got size before now old new text s g h same =
      subst (λ (x : Stage). Keeps (option_map (text_by a.0 rule x before) old) (option_map text new)) (sym s)
      (packet_open size before now old new text (subst (λ (x : Got). Receives old new (Ok x) now) g h) same)
