-- what is on its way to an end is heard, while labels are being bound

use Rattle.std.proofs.Common.{◌≡◌, ◌≢◌, ℕ, ◌≤◌, ◌<◌, ◌+◌, Bool, false, true, List, [], ◌∷◌, ◌++◌, append-nil, length, Some, refl, sym, ◌∙◌, ap, subst, arith, ◌⊎◌, inl, inr}
use Rattle.std.specs.Prelude.{◌&&◌, ◌==◌, max, nat_eq, nat_le, nat_lt, is_some}
use Rattle.std.specs.Option.{option_map_or}
use Rattle.std.proofs.lemmas.Bool.{eq-eqb}
use Rattle.std.proofs.lemmas.Bool.Decides.{nat_tests}
use Rattle.live_model.specs.world_model.Words.{Addr, Ack, Peer, Side, same_peer, hello_of, label_channel_of, label_number_of, at, put, Redirect, Desk, Setup, is_in_range, Label, Wiring, Offered, label_number, labels_of, Grant, Idle, grant_label, most_grants, has_room, Session, Work, last_number, takes, hears}
use Rattle.live_model.specs.world_model.gsmp_wire.declared.request.Request.{Request}
use Rattle.live_model.specs.world_model.ifmp_wire.declared.message.Message.{Message}
use Rattle.live_model.specs.world_model.ifmp_wire.declared.message.Message.TheVariants.{Adjacency}
use Rattle.live_model.specs.world_model.port_model.Port.{Port}
use Rattle.live_model.specs.world_model.port_model.declared.action.Action.{Action}
use Rattle.live_model.specs.world_model.port_model.declared.action.Action.TheVariants.{Ask}
use Rattle.live_model.specs.Met.{HaveMet}
use Rattle.law_port_facts.specs.ordered_lists.Ordered.{Every, InOrder}
use Rattle.law_port_facts.proofs.ordered_lists.Every.{every_map, every_map2}
use Rattle.law_port_facts.proofs.Keyed.{at_key, at_every, at_put_same, at_put_other, by_eq, put_every, put_order, every_more, apart_more, each_found}
use Rattle.law_live_labels.specs.Law.{IsTaken, accepted}
use Rattle.law_live_labels.proofs.Agreed.{in_range_number, grants_are_made, grants_are_refreshed}
use Rattle.law_live_greetings.specs.Law.{WaitsForNone}
use Rattle.law_live_greetings.proofs.Heard.{ports_hear_acks}
use Rattle.law_live_nodes.specs.Law.{told_by}
use Rattle.law_live_links.specs.Law.{EndOfLink, number_of, IsGreeting, IsRefresh, LeadOn, IsOf, IsToldAnew, IsHeld, working, left_by, hearing}
use Rattle.law_live_links.proofs.Resting.{end_in, by_session}
use Rattle.law_live_bindings.specs.Law.{IsNew, IsHeldOrNew, AreBinding, BindOn, grant_branch, AskAtMost, none, some, HasRoomFor, HearingKeepsBinding}
use Rattle.law_live_bindings.proofs.Places.{at_more_same, at_more_other}
use Rattle.law_live_bindings.proofs.Resting.{in_range_of, labels_differ}

number : (n : ℕ) → nat_eq n n ≡ true
number n = eq-eqb n n refl

both : (x y : Bool) → x ≡ true → y ≡ true → (x && y) ≡ true
both true y p q = q
both false y p q = absurd (cc p)

peer_itself : (x : Peer) → same_peer x x ≡ true
peer_itself x = both (x.instance.0 == x.instance.0) (x.address.0 == x.address.0) (number x.instance.0) (number x.address.0)

one_number : (m n : ℕ) → Some m ≡ Some n → m ≡ n
one_number m n e = cc

one_grant : (x y : Grant) → Some x ≡ Some y → x ≡ y
one_grant x y e = cc

one_label : (x y : Label) → Some x ≡ Some y → x ≡ y
one_label x y e = cc

whole : (n m : ℕ) → n ≤ n + m
whole n m = omega arith

-- where one branch is asked at most, nothing is said
silent : {branch : ℕ → Request} {actions : List Action} → AskAtMost branch actions → told_by actions ≡ []
silent none = refl
silent (some n) = refl

module _ (desk : Desk) (instances : ℕ) (setup : Setup) (side : Side Peer) (tally : ℕ) (s : Session) (grants : List Grant) (said : List Message)
    (far_setup : Setup) (far_port : Port) (message : Message) (rest : List Message) where
  abbrev one : EndOfLink
  one = end_in setup side tally s grants said

  abbrev other : EndOfLink
  other = record { setup = far_setup; port = far_port; said = message ∷ rest }

  abbrev other_then : EndOfLink
  other_then = record { setup = far_setup; port = far_port; said = rest }

  abbrev source : Addr
  source = far_port.adjacency.own.address

  abbrev far_labels : List Label
  far_labels = labels_of far_port

  abbrev calm : Side Peer
  calm = record side { silence = 0 }

  -- *A label of the other end*, by the grants and what is on its way
  abbrev IsSo : List Grant → List Message → Label → Type 0
  IsSo held messages = IsHeldOrNew far_setup.timers setup held messages

  abbrev Comes : List Message → Label → Type 0
  Comes messages label = ((label.state ≡ Wiring) × (IsToldAnew label.number messages → ⊥)) ⊎ ((label.state ≡ Offered) × IsToldAnew label.number messages)

  -- a message that isn't of it is heard
  unless_of : (label : Label) → (IsOf label.number message → ⊥) → Comes (message ∷ rest) label → Comes rest label
  unless_of label apart (inl wires) = inl (wires.0, λ told. wires.1 (inr told))
  unless_of label apart (inr (is, inl of_it)) = absurd (apart of_it)
  unless_of label apart (inr (is, inr told)) = inr (is, told)

  lives_unless_of : (P : Type 0) (label : Label) → (IsOf label.number message → ⊥) → P ⊎ IsToldAnew label.number (message ∷ rest) → P ⊎ IsToldAnew label.number rest
  lives_unless_of P label apart (inl lives) = inl lives
  lives_unless_of P label apart (inr (inl of_it)) = absurd (apart of_it)
  lives_unless_of P label apart (inr (inr told)) = inr told

  -- so that what is found of it among the grants stays
  stays_so : (held : List Grant) (label : Label) → at grant_label label.number held ≡ at grant_label label.number grants → (IsOf label.number message → ⊥)
      → IsSo grants (message ∷ rest) label → IsSo held rest label
  stays_so held label same apart (inl h) = inl (record {
    offered = h.offered;
    told = h.told;
    in_range = h.in_range;
    grant = h.grant;
    granted = same ∙ h.granted;
    same_flow = h.same_flow;
    stays = h.stays;
    lives = lives_unless_of (far_setup.timers.lifetime ≤ h.grant.lifetime + label.ticks) label apart h.lives;
  })
  stays_so held label same apart (inr n) = inr (record { young = n.young; in_range = n.in_range; ungranted = same ∙ n.ungranted; comes = unless_of label apart n.comes })

  -- *What is left* of a port that says nothing, and asks for one branch at most
  abbrev work_then : Port → List Action → Work
  work_then port actions = record { port = port; actions = actions; halted = false; instances = instances }

  abbrev one_then : Port → EndOfLink
  one_then port = record { setup = setup; port = port; said = said }

  abbrev BindsOn : Type 0
  BindsOn = BindOn one other_then (hearing desk instances source one message) (AskAtMost (grant_branch setup))

  binds_on : (port : Port) (actions : List Action) → hearing desk instances source one message ≡ work_then port actions → AskAtMost (grant_branch setup) actions
      → AreBinding (one_then port) other_then → BindsOn
  binds_on port actions is asks binding = record {
    going = ap (λ (w : Work). w.halted) is;
    acts = subst (λ (w : Work). AskAtMost (grant_branch setup) w.actions) (sym is) asks;
    binding = subst (λ (w : Work). AreBinding (left_by one w) other_then) (sym is)
        (subst (λ (messages : List Message). AreBinding (record { setup = setup; port = port; said = messages }) other_then) (sym (ap (λ messages. said ++ messages) (silent asks) ∙ append-nil said)) binding);
  }

  module _ (binding : AreBinding one other) where
    abbrev met : HaveMet side far_port.adjacency
    met = binding.met

    -- the port, that heard its peer
    abbrev heard_port : (expected known : ℕ) → List Grant → (redirects : ℕ) → Port
    heard_port expected known held redirects = record {
      adjacency = calm;
      session = Some (record s { expected = expected; known = known });
      grants = held;
      redirects = redirects;
    }

    heard_binding : (expected known : ℕ) (held : List Grant) (redirects : ℕ)
        → LeadOn far_port.adjacency.own side.own far_setup.timers far_labels expected (number_of far_port) rest
        → Every (IsSo held rest) far_labels
        → Every (λ (grant : Grant). is_some (at label_number grant.label far_labels) ≡ true) held
        → InOrder (λ (a b : Grant). grant_label a ≡ grant_label b → ⊥) held
        → AreBinding (one_then (heard_port expected known held redirects)) other_then
    heard_binding expected known held redirects leads are given apart = record {
      met = record { one_is_up = met.one_is_up; other_is_up = met.other_is_up; one_knows = met.one_knows; other_knows = met.other_knows };
      one_end = record {
        of_link = binding.one_end.of_link;
        in_session = refl;
        labels_apart = binding.one_end.labels_apart;
        grants_apart = apart;
        refreshes = binding.one_end.refreshes;
        in_time = binding.one_end.in_time;
        counted = binding.one_end.counted;
      };
      other_end = record {
        of_link = binding.other_end.of_link;
        in_session = binding.other_end.in_session;
        labels_apart = binding.other_end.labels_apart;
        grants_apart = binding.other_end.grants_apart;
        refreshes = binding.other_end.refreshes;
        in_time = binding.other_end.in_time;
        counted = binding.other_end.counted;
      };
      there = record { numbers = binding.there.numbers; labels = binding.there.labels; grants = binding.there.grants; heard = binding.there.heard };
      back = record { numbers = leads; labels = are; grants = given; heard = inl refl };
    }

    -- *A greeting*
    module _ (greeting : IsGreeting far_port.adjacency.own side.own message) (leads : LeadOn far_port.adjacency.own side.own far_setup.timers far_labels s.expected (number_of far_port) rest) where
      waits : Every (λ (label : Label). WaitsForNone label.state) s.labels
      waits = every_map (IsHeldOrNew setup.timers far_setup far_port.grants said) (λ (label : Label). WaitsForNone label.state) s.labels waits_for_none binding.there.labels
        where
          waits_for_none : (label : Label) → IsHeldOrNew setup.timers far_setup far_port.grants said label → WaitsForNone label.state
          waits_for_none label (inl held) = subst WaitsForNone (sym held.offered) tt
          waits_for_none label (inr new) = by new.comes
            where
              by : ((label.state ≡ Wiring) × (IsToldAnew label.number said → ⊥)) ⊎ ((label.state ≡ Offered) × IsToldAnew label.number said) → WaitsForNone label.state
              by (inl wires) = subst WaitsForNone (sym wires.0) tt
              by (inr tells) = subst WaitsForNone (sym tells.0) tt

      greeted : hearing desk instances source one message ≡ work_then (heard_port s.expected (max s.known greeting.expected) grants tally) []
      greeted = ap (λ m. hears setup desk (working instances one) source m)
          (greeting.is ∙ ap (λ stored. Adjacency (hello_of greeting.expected (record { kind = Ack; sender = far_port.adjacency.own; receiver = stored }))) (sym met.other_knows))
          ∙ ports_hear_acks setup desk (working instances one) s far_port.adjacency greeting.expected refl refl met waits

      greeting_heard : BindsOn
      greeting_heard = binds_on (heard_port s.expected (max s.known greeting.expected) grants tally) [] greeted none
          (heard_binding s.expected (max s.known greeting.expected) grants tally leads
          (every_map (IsSo grants (message ∷ rest)) (IsSo grants rest) far_labels (λ label. stays_so grants label refl (λ of_it. subst (IsOf label.number) greeting.is of_it)) binding.back.labels)
          binding.back.grants binding.one_end.grants_apart)

    -- *A REDIRECT* of a label of the other end
    module _ (refresh : IsRefresh far_port.adjacency.own side.own far_setup.timers far_labels s.expected message)
        (leads : LeadOn far_port.adjacency.own side.own far_setup.timers far_labels (s.expected + 1) (number_of far_port) rest) where
      abbrev label : Label
      label = refresh.label

      abbrev lifetime : ℕ
      lifetime = far_setup.timers.lifetime

      its_own : IsSo grants (message ∷ rest) label
      its_own = at_every label_number (IsSo grants (message ∷ rest)) label.number far_labels label binding.back.labels refresh.held

      in_range : is_in_range setup label.number ≡ true
      in_range = in_range_of label its_own

      known : label_number_of (label_channel_of label.number) ≡ Some label.number
      known = in_range_number setup label.number in_range

      of_another : (x : Label) → label.number ≢ x.number → IsOf x.number message → ⊥
      of_another x differs of_it = differs (one_number label.number x.number (sym known ∙ subst (IsOf x.number) refresh.is of_it))

      of_it : IsOf label.number message
      of_it = subst (IsOf label.number) (sym refresh.is) known

      taken : takes one.port source far_port.adjacency.own.instance side.own.instance s.expected ≡ true
      taken = both (option_map_or (same_peer far_port.adjacency.own) side.stored false && (side.own.instance.0 == side.own.instance.0)) (nat_le s.expected s.expected && nat_lt s.expected last_number)
          (both (option_map_or (same_peer far_port.adjacency.own) side.stored false) (side.own.instance.0 == side.own.instance.0)
          (ap (λ stored. option_map_or (same_peer far_port.adjacency.own) stored false) met.one_knows ∙ peer_itself far_port.adjacency.own) (number side.own.instance.0))
          (both (nat_le s.expected s.expected) (nat_lt s.expected last_number) (at_most s.expected) (below s.expected last_number refresh.number_left))
        where
          at_most : (n : ℕ) → nat_le n n ≡ true
          at_most n = grind (arith, nat_tests)

          below : (m n : ℕ) → m < n → nat_lt m n ≡ true
          below m n h = grind (arith, nat_tests)

      is_taken : IsTaken setup (working instances one) s source far_port.adjacency.own.instance side.own.instance s.expected label.number
      is_taken = record { working = record { of_link = binding.one_end.of_link; going = refl; is_open = refl }; taken = taken; in_range = in_range }

      comes : hearing desk instances source one message
          ≡ hears setup desk (working instances one) source (Redirect far_port.adjacency.own.instance side.own.instance s.expected lifetime (label_channel_of label.number) label.flow)
      comes = ap (λ m. hears setup desk (working instances one) source m) refresh.is

      abbrev pub next_tally : ℕ
      next_tally = (accepted (working instances one) s s.expected grants).redirects

      abbrev taken_port : List Grant → Port
      taken_port held = heard_port (s.expected + 1) s.known held next_tally

      -- *that isn't granted yet*: a grant is made
      module _ (new : IsNew far_setup.timers setup grants (message ∷ rest) label) (few : length grants < most_grants) (room : has_room desk (working instances one) ≡ true) where
        abbrev grant : Grant
        grant = record { label = label.number; flow = label.flow; lifetime = lifetime; state = Idle }

        abbrev more_grants : List Grant
        more_grants = grants ++ grant ∷ []

        pub grant_made : hearing desk instances source one message ≡ work_then (taken_port more_grants) (Ask (grant_branch setup label.number) false ∷ [])
        grant_made = comes ∙ grants_are_made setup desk (working instances one) s source far_port.adjacency.own.instance side.own.instance s.expected label.number lifetime label.flow is_taken new.ungranted few room

        was_offered : Comes (message ∷ rest) label → label.state ≡ Offered
        was_offered (inl wires) = absurd (wires.1 (inl of_it))
        was_offered (inr tells) = tells.0

        held_now : IsHeld far_setup.timers setup more_grants rest label
        held_now = record {
          offered = was_offered new.comes;
          told = new.young;
          in_range = new.in_range;
          grant = grant;
          granted = at_more_same grant_label grants grant new.ungranted;
          same_flow = refl;
          stays = refl;
          lives = inl (whole lifetime label.ticks);
        }

        so_now : (x : Label) → IsSo grants (message ∷ rest) x → at label_number x.number far_labels ≡ Some x → IsSo more_grants rest x
        so_now x is found = by_eq label.number x.number
            (λ same t. subst (λ (l : Label). IsSo more_grants rest l) (one_label label x (sym refresh.held ∙ (ap (λ k. at label_number k far_labels) same ∙ found))) (inl held_now))
            (λ differs t. stays_so more_grants x (at_more_other grant_label x.number grants grant differs) (of_another x differs) is)

        pub granted_binding : AreBinding (one_then (taken_port more_grants)) other_then
        granted_binding = heard_binding (s.expected + 1) s.known more_grants next_tally leads
            (every_map2 (IsSo grants (message ∷ rest)) (λ (x : Label). at label_number x.number far_labels ≡ Some x) (IsSo more_grants rest) far_labels so_now binding.back.labels
            (each_found label_number far_labels (labels_differ far_labels binding.other_end.labels_apart)))
            (every_more (λ (g : Grant). is_some (at label_number g.label far_labels) ≡ true) grants grant binding.back.grants (ap (λ o. is_some o) refresh.held))
            (apart_more grant_label grants grant new.ungranted binding.one_end.grants_apart)

        grant_heard : BindsOn
        grant_heard = binds_on (taken_port more_grants) (Ask (grant_branch setup label.number) false ∷ []) grant_made (some label.number) granted_binding

      -- *that is granted*: the grant has its lifetime anew
      module _ (held : IsHeld far_setup.timers setup grants (message ∷ rest) label) where
        abbrev old_grant : Grant
        old_grant = held.grant

        same_label : old_grant.label ≡ label.number
        same_label = at_key grant_label label.number grants old_grant held.granted

        granted : at grant_label old_grant.label grants ≡ Some old_grant
        granted = ap (λ k. at grant_label k grants) same_label ∙ held.granted

        abbrev renewed : Grant
        renewed = record old_grant { lifetime = lifetime }

        abbrev renewed_grants : List Grant
        renewed_grants = put grant_label renewed grants

        refreshed : hearing desk instances source one message ≡ work_then (taken_port renewed_grants) []
        refreshed = comes
            ∙ (ap (λ n. hears setup desk (working instances one) source (Redirect far_port.adjacency.own.instance side.own.instance s.expected lifetime (label_channel_of n) label.flow)) (sym same_label)
            ∙ (ap (λ f. hears setup desk (working instances one) source (Redirect far_port.adjacency.own.instance side.own.instance s.expected lifetime (label_channel_of old_grant.label) f)) (sym held.same_flow)
            ∙ grants_are_refreshed setup desk (working instances one) s source far_port.adjacency.own.instance side.own.instance s.expected lifetime old_grant
            (subst (λ n. IsTaken setup (working instances one) s source far_port.adjacency.own.instance side.own.instance s.expected n) (sym same_label) is_taken) granted held.stays))

        so_then : (x : Label) → IsSo grants (message ∷ rest) x → IsSo renewed_grants rest x
        so_then x is = by_eq old_grant.label x.number (λ same t. renews same is)
            (λ differs t. stays_so renewed_grants x (at_put_other grant_label renewed x.number grants differs) (of_another x (λ e. differs (same_label ∙ e))) is)
          where
            renews : old_grant.label ≡ x.number → IsSo grants (message ∷ rest) x → IsSo renewed_grants rest x
            renews same (inl h) = inl (record {
              offered = h.offered;
              told = h.told;
              in_range = h.in_range;
              grant = renewed;
              granted = ap (λ k. at grant_label k renewed_grants) (sym same) ∙ at_put_same grant_label renewed grants old_grant granted;
              same_flow = ap (λ (g : Grant). g.flow) (one_grant old_grant h.grant (sym granted ∙ (ap (λ k. at grant_label k grants) same ∙ h.granted))) ∙ h.same_flow;
              stays = held.stays;
              lives = inl (whole lifetime x.ticks);
            })
            renews same (inr n) = absurd (cc (sym n.ungranted ∙ (ap (λ k. at grant_label k grants) (sym same) ∙ granted)))

        refresh_heard : BindsOn
        refresh_heard = binds_on (taken_port renewed_grants) [] refreshed none
            (heard_binding (s.expected + 1) s.known renewed_grants next_tally leads
            (every_map (IsSo grants (message ∷ rest)) (IsSo renewed_grants rest) far_labels so_then binding.back.labels)
            (put_every grant_label (λ (g : Grant). is_some (at label_number g.label far_labels) ≡ true) renewed grants
            (at_every grant_label (λ (g : Grant). is_some (at label_number g.label far_labels) ≡ true) old_grant.label grants old_grant binding.back.grants granted) binding.back.grants)
            (put_order grant_label (λ m n. m ≡ n → ⊥) renewed grants binding.one_end.grants_apart))

      redirect_heard : HasRoomFor desk instances one message → BindsOn
      redirect_heard room = by its_own
        where
          by : IsSo grants (message ∷ rest) label → BindsOn
          by (inl held) = refresh_heard held
          by (inr new) = (let here = room label.number of_it new.ungranted in grant_heard new here.0 here.1)

    first_heard : HasRoomFor desk instances one message → BindsOn
    first_heard room = by binding.back.numbers
      where
        by : (IsGreeting far_port.adjacency.own side.own message × LeadOn far_port.adjacency.own side.own far_setup.timers far_labels s.expected (number_of far_port) rest)
            ⊎ (IsRefresh far_port.adjacency.own side.own far_setup.timers far_labels s.expected message × LeadOn far_port.adjacency.own side.own far_setup.timers far_labels (s.expected + 1) (number_of far_port) rest)
            → BindsOn
        by (inl greets) = greeting_heard greets.0 greets.1
        by (inr tells) = redirect_heard tells.0 tells.1 room

pub hearing_keeps_binding : HearingKeepsBinding
hearing_keeps_binding desk instances one other message rest binding first room =
    by_session (λ (x : EndOfLink). AreBinding x other → HasRoomFor desk instances x message
    → BindOn x (record other { said = rest }) (hearing desk instances other.port.adjacency.own.address x message) (AskAtMost (grant_branch x.setup)))
    each one binding.one_end.in_session binding room
  where
    each : (setup : Setup) (side : Side Peer) (tally : ℕ) (s : Session) (grants : List Grant) (said : List Message)
        → AreBinding (end_in setup side tally s grants said) other → HasRoomFor desk instances (end_in setup side tally s grants said) message
        → BindOn (end_in setup side tally s grants said) (record other { said = rest })
        (hearing desk instances other.port.adjacency.own.address (end_in setup side tally s grants said) message) (AskAtMost (grant_branch setup))
    each setup side tally s grants said b =
        first_heard desk instances setup side tally s grants said other.setup other.port message rest
        (subst (λ (y : EndOfLink). AreBinding (end_in setup side tally s grants said) y) (λ i. record { setup = other.setup; port = other.port; said = first i }) b)
