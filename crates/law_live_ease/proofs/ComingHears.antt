-- what comes on the default channel of a port of such a node: what is refused, a packet, or the first message that the other end said

use Rattle.std.proofs.Common.{◌≡◌, ◌⊎◌, inl, inr, ℕ, ◌<◌, Bool, true, false, List, [], ◌∷◌, Some, Option, refl, sym, ◌∙◌, ap, subst, arith}
use Rattle.std.specs.Prelude.{◌&&◌, ◌==◌, nat_le, nat_lt}
use Rattle.std.specs.Option.{option_map_or}
use Rattle.std.proofs.lemmas.Bool.{eq-eqb}
use Rattle.std.proofs.lemmas.Bool.Decides.{nat_tests}
use Rattle.world_model.specs.Words.{Policy, NodeId, Addr, Instance, Ack, Peer, Side, hello_of, said, same_peer, Redirect, label_channel_of, at, is_in_range, Label, label_number, labels_of, Grant, grant_label, is_leaving, Session, last_number, Linked, port_key, linked_at, begins, ForDefault, nothing_taken, with_reassembly, Topology, Site}
use Rattle.world_model.specs.Controller.{Acted}
use Rattle.world_model.specs.ifmp_wire.declared.message.Message.{Message}
use Rattle.world_model.specs.ifmp_wire.declared.message.Message.TheVariants.{Adjacency}
use Rattle.world_model.specs.network_model.declared.event.Event.{Event}
use Rattle.live_model.specs.Met.{HaveMet}
use Rattle.law_live_journeys.specs.law_port_facts.ordered_lists.Ordered.{Every}
use Rattle.law_live_journeys.proofs.law_port_facts.ordered_lists.Every.{every_map}
use Rattle.law_live_journeys.proofs.law_port_facts.Keyed.{at_key, at_every, at_put_same}
use Rattle.law_live_journeys.specs.law_live_hearing.Law.{acting}
use Rattle.law_live_journeys.specs.law_live_labels.Law.{IsTaken}
use Rattle.law_live_journeys.specs.law_live_greetings.Law.{WaitsForNone}
use Rattle.law_live_journeys.specs.law_live_links.Law.{number_of, expected_of, LeadOn, IsGreeting, IsRefresh, IsHeld}
use Rattle.law_live_journeys.specs.law_live_worlds.Law.{end_of}
use Rattle.law_live_journeys.specs.law_live_mirrors.Asking.{WorksPlainly, CanAsk, MayWire}
use Rattle.law_live_journeys.specs.law_live_bindings.Law.{AreBinding, IsNew, IsHeldOrNew}
use Rattle.law_live_journeys.specs.law_live_bound.Law.{HoldsPacket}
use Rattle.law_live_journeys.specs.law_live_asking.Frames.{HoldsMessage, MakesGrant, MayWork, plainly, counts, grants}
use Rattle.law_live_journeys.proofs.law_live_asking.Frames.{begins_plainly, acks_work_plainly, refreshes_work_plainly}
use Rattle.law_live_journeys.proofs.law_live_brought.Heard.{Packet}
use Rattle.law_live_ease.proofs.ComingFree.{spare_is_free, ungranted_is_free}
use Rattle.law_live_ease.proofs.ComingMessages.{IsRefused, message_work}
use Rattle.law_live_ease.proofs.ComingNode.{Brought, HasSession, IsThere, EndAt, w, up, number_left, room, link_of, bound, end_of_link, in_session}

-- *A port hears so*: what is refused; a packet, which is counted; an ACK; a REDIRECT of a label that it has a grant of; or of a new one
pub data HearsSo (a : Acted) (linked : Linked) (payload : List ℕ) : Type 0 where
  refused : IsRefused payload → HearsSo a linked payload
  counted : (packet : List ℕ) → HoldsPacket payload packet → MayWire a linked → HearsSo a linked payload
  greeted : (s : Session) (other : Side Peer) (next : ℕ) → HoldsMessage payload other.own.address (Adjacency (hello_of next (said other Ack)))
      → linked.port.session ≡ Some s → HaveMet linked.port.adjacency other → Every (λ (label : Label). WaitsForNone label.state) s.labels → HearsSo a linked payload
  refreshed : (s : Session) (source : Addr) (sender peer : Instance) (number lifetime : ℕ) (grant : Grant)
      → HoldsMessage payload source (Redirect sender peer number lifetime (label_channel_of grant.label) grant.flow)
      → IsTaken linked.setup (begins a linked) s source sender peer number grant.label → at grant_label grant.label linked.port.grants ≡ Some grant → is_leaving grant.state ≡ false
      → HearsSo a linked payload
  granted : MakesGrant a linked payload → HearsSo a linked payload

pub may_work : (a : Acted) (linked : Linked) (payload : List ℕ) → linked_at a.controller linked.setup.port ≡ Some linked → HearsSo a linked payload → MayWork a linked payload
may_work a linked payload there (refused is) = plainly (subst (WorksPlainly a linked) (sym (is.works a linked)) (begins_plainly a linked there))
may_work a linked payload there (counted packet holds may) = counts packet holds may
may_work a linked payload there (greeted s other next holds is_open met waits) = plainly
    (subst (WorksPlainly a linked) (sym (message_work payload other.own.address (Adjacency (hello_of next (said other Ack))) holds a linked))
    (acks_work_plainly a linked s other next there is_open met waits))
may_work a linked payload there (refreshed s source sender peer number lifetime grant holds taken held stays) = plainly
    (subst (WorksPlainly a linked) (sym (message_work payload source (Redirect sender peer number lifetime (label_channel_of grant.label) grant.flow) holds a linked))
    (refreshes_work_plainly a linked s source sender peer number lifetime grant there taken held stays))
may_work a linked payload there (granted is) = grants is

number : (n : ℕ) → (n == n) ≡ true
number n = eq-eqb n n refl

both : (x y : Bool) → x ≡ true → y ≡ true → (x && y) ≡ true
both true y p q = q
both false y p q = absurd (cc p)

peer_itself : (x : Peer) → same_peer x x ≡ true
peer_itself x = both (x.instance.0 == x.instance.0) (x.address.0 == x.address.0) (number x.instance.0) (number x.address.0)

at_most : (n : ℕ) → nat_le n n ≡ true
at_most n = grind (arith, nat_tests)

below : (m n : ℕ) → m < n → nat_lt m n ≡ true
below m n h = grind (arith, nat_tests)

module _ {policy : Policy} {topology : Topology} {before : List Event} {node : NodeId} {site : Site} (m : Brought policy topology before node site) (q : Linked) (own : IsThere m q) where
  abbrev pub b : Acted
  b = with_reassembly (acting (w m) site) (ForDefault q) nothing_taken

  abbrev pub q_now : Linked
  q_now = record q { reassembly = nothing_taken }

  pub found_now : linked_at b.controller q.setup.port ≡ Some q_now
  found_now = at_put_same port_key q_now site.controller.ports q own

  abbrev e : EndAt m q
  e = end_of_link m q own

  abbrev far : Linked
  far = e.binding.ends.bind.far_linked

  abbrev far_said : List Message
  far_said = e.binding.ends.far_said

  binding : AreBinding (end_of q e.binding.ends.said) (end_of far far_said)
  binding = bound m q e

  session : HasSession q
  session = in_session m q own

  abbrev s : Session
  s = session.session

  can : CanAsk b
  can = record { up = up m; number_left = number_left m }

  may_wire : MayWire b q_now
  may_wire = record { can = can; of_link = link_of m q own; there = found_now; ascend = binding.one_end.labels_apart; free = λ number spare. spare_is_free m q own number spare }

  -- *No message*
  pub hears_other : (payload : List ℕ) → IsRefused payload ⊎ Packet payload → HearsSo b q_now payload
  hears_other payload (inl is) = refused is
  hears_other payload (inr it) = counted it.packet it.holds may_wire

  -- *A REDIRECT* of a label in range is taken
  same_labels : labels_of q.port ≡ s.labels
  same_labels = ap (λ (o : Option Session). option_map_or (λ (x : Session). x.labels) o []) session.is_open

  waits : Every (λ (label : Label). WaitsForNone label.state) s.labels
  waits = subst (Every (λ (label : Label). WaitsForNone label.state)) same_labels
      (every_map (IsHeldOrNew q.setup.timers far.setup far.port.grants e.binding.ends.said) (λ (label : Label). WaitsForNone label.state) (labels_of q.port) (λ label is. each label is) binding.there.labels)
    where
      each : (label : Label) → IsHeldOrNew q.setup.timers far.setup far.port.grants e.binding.ends.said label → WaitsForNone label.state
      each label (inl held) = subst WaitsForNone (sym held.offered) tt
      each label (inr new) = elim new.comes [ inl wiring ↦ subst WaitsForNone (sym wiring.0) tt | inr offered ↦ subst WaitsForNone (sym offered.0) tt ]

  taken : (label : ℕ) → expected_of q.port < last_number → is_in_range q.setup label ≡ true
      → IsTaken q.setup (begins b q_now) s far.port.adjacency.own.address far.port.adjacency.own.instance q.port.adjacency.own.instance (expected_of q.port) label
  taken label number_left in_range = record {
    working = record { of_link = binding.one_end.of_link; going = refl; is_open = session.is_open };
    taken = both (option_map_or (same_peer far.port.adjacency.own) q.port.adjacency.stored false && (q.port.adjacency.own.instance.0 == q.port.adjacency.own.instance.0)) _
        (both (option_map_or (same_peer far.port.adjacency.own) q.port.adjacency.stored false) (q.port.adjacency.own.instance.0 == q.port.adjacency.own.instance.0)
        (ap (λ (stored : Option Peer). option_map_or (same_peer far.port.adjacency.own) stored false) binding.met.one_knows ∙ peer_itself far.port.adjacency.own) (number q.port.adjacency.own.instance.0)) due;
    in_range = in_range;
  }
    where
      expected : expected_of q.port ≡ s.expected
      expected = ap (λ (o : Option Session). option_map_or (λ (x : Session). x.expected) o 0) session.is_open

      due : option_map_or (λ (x : Session). nat_le x.expected (expected_of q.port) && nat_lt (expected_of q.port) last_number) q.port.session false ≡ true
      due = ap (λ (o : Option Session). option_map_or (λ (x : Session). nat_le x.expected (expected_of q.port) && nat_lt (expected_of q.port) last_number) o false) session.is_open
          ∙ both (nat_le s.expected (expected_of q.port)) (nat_lt (expected_of q.port) last_number) (ap (nat_le s.expected) expected ∙ at_most s.expected) (below (expected_of q.port) last_number number_left)

  -- *The first message* of the other end
  module _ (payload : List ℕ) (message : Message) (rest : List Message) (first : far_said ≡ message ∷ rest) (holds : HoldsMessage payload far.port.adjacency.own.address message) where
    greets : IsGreeting far.port.adjacency.own q.port.adjacency.own message → HearsSo b q_now payload
    greets g = greeted s far.port.adjacency g.expected (subst (HoldsMessage payload far.port.adjacency.own.address)
        (g.is ∙ ap (λ (stored : Option Peer). Adjacency (hello_of g.expected (record { kind = Ack; sender = far.port.adjacency.own; receiver = stored }))) (sym binding.met.other_knows)) holds)
        session.is_open binding.met waits

    module _ (r : IsRefresh far.port.adjacency.own q.port.adjacency.own far.setup.timers (labels_of far.port) (expected_of q.port) message) where
      refreshes : IsHeld far.setup.timers q.setup q.port.grants far_said r.label → HearsSo b q_now payload
      refreshes held = refreshed s far.port.adjacency.own.address far.port.adjacency.own.instance q.port.adjacency.own.instance (expected_of q.port) far.setup.timers.lifetime held.grant
          (subst (HoldsMessage payload far.port.adjacency.own.address)
          (r.is ∙ (ap (λ n. Redirect far.port.adjacency.own.instance q.port.adjacency.own.instance (expected_of q.port) far.setup.timers.lifetime (label_channel_of n) r.label.flow) (sym same_label)
          ∙ ap (λ f. Redirect far.port.adjacency.own.instance q.port.adjacency.own.instance (expected_of q.port) far.setup.timers.lifetime (label_channel_of held.grant.label) f) (sym held.same_flow))) holds)
          (taken held.grant.label r.number_left (ap (is_in_range q.setup) same_label ∙ held.in_range))
          (ap (λ k. at grant_label k q.port.grants) same_label ∙ held.granted) held.stays
        where
          same_label : held.grant.label ≡ r.label.number
          same_label = at_key grant_label r.label.number q.port.grants held.grant held.granted

      makes : IsNew far.setup.timers q.setup q.port.grants far_said r.label → HearsSo b q_now payload
      makes new = granted (record {
        session = s;
        source = far.port.adjacency.own.address;
        sender = far.port.adjacency.own.instance;
        peer = q.port.adjacency.own.instance;
        number = expected_of q.port;
        label = r.label.number;
        lifetime = far.setup.timers.lifetime;
        flow = r.label.flow;
        holds = subst (HoldsMessage payload far.port.adjacency.own.address) r.is holds;
        takes = record { can = can; there = found_now; taken = taken r.label.number r.number_left new.in_range };
        spare = new.ungranted;
        few = (room m q own).grants;
        room = (room m q own).requests;
        free = ungranted_is_free m q own r.label.number new.in_range new.ungranted;
      })

      tells : HearsSo b q_now payload
      tells = elim (at_every label_number (IsHeldOrNew far.setup.timers q.setup q.port.grants far_said) r.label.number (labels_of far.port) r.label binding.back.labels r.held) [
        | inl held ↦ refreshes held
        | inr new ↦ makes new
      ]

    pub hears_message : HearsSo b q_now payload
    hears_message = elim (subst (LeadOn far.port.adjacency.own q.port.adjacency.own far.setup.timers (labels_of far.port) (expected_of q.port) (number_of far.port)) first binding.back.numbers) [
      | inl g ↦ greets g.0
      | inr r ↦ tells r.0
    ]
