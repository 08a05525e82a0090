-- an end that is alike to the other end of its link binds with it alike

use Rattle.std.proofs.Common.{◌≡◌, ◌<◌, true, true≢false, List, Option, None, Some, refl, sym, ◌∙◌, ap, subst, inl, inr, map}
use Rattle.std.specs.Prelude.{is_some}
use Rattle.live_model.specs.world_model.Words.{Side, Peer, Timers, at, Setup, Label, label_number, labels_of, Grant, grant_label}
use Rattle.live_model.specs.world_model.ifmp_wire.declared.message.Message.{Message}
use Rattle.live_model.specs.world_model.port_model.Port.{Port}
use Rattle.law_port_facts.specs.ordered_lists.Ordered.{Every}
use Rattle.law_port_facts.proofs.ordered_lists.Every.{every_map}
use Rattle.law_live_links.specs.Law.{EndOfLink, number_of, expected_of, LeadOn}
use Rattle.law_live_unseen.specs.Law.{SeenLabel, seen_label, SeenGrant, seen_grant, AreAlike}
use Rattle.law_live_unseen.proofs.Alike.{like_every, like_order, like_some, grant_key, lead_alike, given_alike, granted_alike}
use Rattle.law_live_bindings.specs.Law.{IsHeldOrNew, AreBinding, LikePortsBind}

-- *With other labels*, that are seen alike
module _ (timers : Timers) (taker : Setup) (grants : List Grant) (said : List Message) where
  -- a label with this that is seen of it
  abbrev as_label : SeenLabel → Label
  as_label s = record { number = s.number; state = s.state; flow = s.flow; idle = 0; ticks = s.ticks; join = None }

  abbrev IsSo : SeenLabel → Type 0
  IsSo s = IsHeldOrNew timers taker grants said (as_label s)

  there : (label : Label) → IsHeldOrNew timers taker grants said label → IsSo (seen_label label)
  there label (inl h) = inl (record { offered = h.offered; told = h.told; in_range = h.in_range; grant = h.grant; granted = h.granted; same_flow = h.same_flow; stays = h.stays; lives = h.lives })
  there label (inr n) = inr (record { young = n.young; in_range = n.in_range; ungranted = n.ungranted; comes = n.comes })

  back : (label : Label) → IsSo (seen_label label) → IsHeldOrNew timers taker grants said label
  back label (inl h) = inl (record { offered = h.offered; told = h.told; in_range = h.in_range; grant = h.grant; granted = h.granted; same_flow = h.same_flow; stays = h.stays; lives = h.lives })
  back label (inr n) = inr (record { young = n.young; in_range = n.in_range; ungranted = n.ungranted; comes = n.comes })

  labels_alike : (labels after : List Label) → map seen_label after ≡ map seen_label labels → Every (IsHeldOrNew timers taker grants said) labels
      → Every (IsHeldOrNew timers taker grants said) after
  labels_alike labels after same h =
      every_map (λ (label : Label). IsSo (seen_label label)) (IsHeldOrNew timers taker grants said) after back
      (like_every seen_label IsSo labels after same (every_map (IsHeldOrNew timers taker grants said) (λ (label : Label). IsSo (seen_label label)) labels there h))

-- *With other grants*
module _ (timers : Timers) (taker : Setup) (grants after : List Grant) (same : map seen_grant after ≡ map seen_grant grants) (said : List Message) where
  grants_alike : (label : Label) → IsHeldOrNew timers taker grants said label → IsHeldOrNew timers taker after said label
  grants_alike label (inl held) = inl (granted_alike grants after same timers taker said label held)
  grants_alike label (inr new) = inr (record { young = new.young; in_range = new.in_range; ungranted = none (at grant_label label.number after) still; comes = new.comes })
    where
      still : is_some (at grant_label label.number after) ≡ is_some (at grant_label label.number grants)
      still = like_some seen_grant grant_label grant_key (λ x. refl) label.number grants after same

      none : (o : Option Grant) → is_some o ≡ is_some (at grant_label label.number grants) → o ≡ None
      none None e = refl
      none (Some grant) e = absurd (true≢false (e ∙ ap (λ (o : Option Grant). is_some o) new.ungranted))

module _ (one other : EndOfLink) (port : Port) (binding : AreBinding one other) (alike : AreAlike one.port port) where
  -- the port with the same adjacency
  abbrev then : EndOfLink
  then = record one { port = record port { adjacency = one.port.adjacency } }

  abbrev labels_now : List Label
  labels_now = labels_of one.port

  then_binding : AreBinding then other
  then_binding = record {
    met = binding.met;
    one_end = record {
      of_link = binding.one_end.of_link;
      in_session = alike.in_session ∙ binding.one_end.in_session;
      labels_apart = like_order seen_label (λ (a b : SeenLabel). a.number < b.number) labels_now (labels_of port) alike.labels binding.one_end.labels_apart;
      grants_apart = like_order seen_grant (λ (a b : SeenGrant). a.label ≡ b.label → ⊥) one.port.grants port.grants alike.grants binding.one_end.grants_apart;
      refreshes = binding.one_end.refreshes;
      in_time = binding.one_end.in_time;
      counted = binding.one_end.counted;
    };
    other_end = binding.other_end;
    there = record {
      numbers = subst (λ n. LeadOn one.port.adjacency.own other.port.adjacency.own one.setup.timers (labels_of port) (expected_of other.port) n one.said) (sym alike.number)
          (lead_alike labels_now (labels_of port) alike.labels one.port.adjacency.own other.port.adjacency.own one.setup.timers (expected_of other.port) (number_of one.port) one.said binding.there.numbers);
      labels = labels_alike one.setup.timers other.setup other.port.grants one.said labels_now (labels_of port) alike.labels binding.there.labels;
      grants = given_alike labels_now (labels_of port) alike.labels other.port.grants binding.there.grants;
      heard = binding.there.heard;
    };
    back = record {
      numbers = subst (λ n. LeadOn other.port.adjacency.own one.port.adjacency.own other.setup.timers (labels_of other.port) n (number_of other.port) other.said) (sym alike.expected) binding.back.numbers;
      labels = every_map (IsHeldOrNew other.setup.timers one.setup one.port.grants other.said) (IsHeldOrNew other.setup.timers one.setup port.grants other.said) (labels_of other.port)
          (grants_alike other.setup.timers one.setup one.port.grants port.grants alike.grants other.said) binding.back.labels;
      grants = like_every seen_grant (λ (s : SeenGrant). is_some (at label_number s.label (labels_of other.port)) ≡ true) one.port.grants port.grants alike.grants binding.back.grants;
      heard = binding.back.heard;
    };
  }

  pub port_binds : AreBinding (record one { port = port }) other
  port_binds = subst (λ (side : Side Peer). AreBinding (record one { port = record port { adjacency = side } }) other) (sym alike.adjacency) then_binding

pub like_ports_bind : LikePortsBind
like_ports_bind one other port binding alike = port_binds one other port binding alike
