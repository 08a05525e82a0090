-- frames of a default channel and of labels leave desk and ports tied

use Rattle.std.proofs.Common.{◌≡◌, ◌≢◌, ◌⊎◌, inl, inr, ℕ, ◌<◌, false, List, [], Some, Result, Ok, Err, refl, sym, ◌∙◌, ap, subst}
use Rattle.std.specs.Prelude.{max}
use Rattle.world_model.specs.Words.{Mark, Addr, Instance, EncapsFault, default_unwrapped, Ack, Side, Peer, said, hello_of, Redirect, label_channel_of, Request, at, put, label_end, control_end, is_estab, last_transaction, Desk, Label, labels_of, Grant, Idle, grant_label, is_leaving, Session, Work, counts, used, hears, Controller, Linked, port_key, linked_at, begins, works_as, at_port, forwards_packet, label_holds, counted_at, default_holds}
use Rattle.world_model.specs.Controller.{Acted}
use Rattle.world_model.specs.ifmp_wire.declared.message.Message.{Message}
use Rattle.world_model.specs.ifmp_wire.declared.message.Message.TheVariants.{Adjacency}
use Rattle.live_model.specs.Met.{HaveMet}
use Rattle.law_live_journeys.specs.law_port_facts.ordered_lists.Ordered.{Every}
use Rattle.law_live_journeys.specs.law_live_labels.Law.{IsTaken, accepted, left, makes_grant}
use Rattle.law_live_journeys.proofs.law_live_labels.Agreed.{grants_are_made, grants_are_refreshed}
use Rattle.law_live_journeys.specs.law_live_greetings.Law.{WaitsForNone}
use Rattle.law_live_journeys.proofs.law_live_greetings.Heard.{ports_hear_acks}
use Rattle.law_live_journeys.proofs.law_live_others.Holding.{SameWork, forwards_same}
use Rattle.law_live_journeys.specs.law_live_mirrors.Mirrors.{standing_on}
use Rattle.law_live_journeys.specs.law_live_mirrors.Asking.{MayWire}
use Rattle.law_live_journeys.proofs.law_live_mirrors.Nodes.{at_port_is}
use Rattle.law_live_journeys.specs.law_live_bindings.Law.{grant_branch}
use Rattle.law_live_journeys.proofs.law_live_bindings.Places.{at_more_same, at_more_other}
use Rattle.law_live_journeys.specs.law_live_asking.Frames.{MakesGrant}
use Rattle.law_live_ease.proofs.ComingOwed.{Idles, Owes, of_grant}
use Rattle.law_live_ease.proofs.ComingChanges.{has_put, had_put, has_more, had_more, owed_alike, owed_or}
use Rattle.law_live_ease.proofs.ComingPorts.{TieOf, tie_by, plain_ties, asks_ties, rule_ties, alike_by, same_alike, own_labels, from_session, to_session, used_ties, counts_ties}
use Rattle.law_live_ease.proofs.ComingMessages.{packet_is, message_is}
use Rattle.law_live_ease.proofs.ComingHears.{HearsSo, refused, counted, greeted, refreshed, granted}

-- *Behind a packet that is sent on* they are tied as before
sent_ties : (a b : Acted) → SameWork a b → TieOf a → TieOf b
sent_ties a b same tie = tie_by b a.controller.ports a.controller.desk same.ports same.desk tie

-- *On the channel of a label*
pub label_ties : (a : Acted) (linked : Linked) (label : Label) (mark : Mark) (r : Result (List ℕ) EncapsFault) → TieOf a → TieOf (label_holds a linked label mark r)
label_ties a linked label mark (Err fault) tie = tie
label_ties a linked label mark (Ok packet) tie = (let b : Acted = forwards_packet a mark packet in
    rule_ties b linked.setup.port (λ setup desk w. used w label.number) (λ l there same. used_ties b l there label.number (sent_ties a b (forwards_same a mark packet) tie))
    (sent_ties a b (forwards_same a mark packet) tie))

-- *Behind a packet that is forwarded* the port is there still, and may ask for a label as before
module _ (a : Acted) (linked : Linked) (mark : Mark) (packet : List ℕ) where
  same_behind : SameWork a (forwards_packet a mark packet)
  same_behind = forwards_same a mark packet

  pub there_behind : linked_at a.controller linked.setup.port ≡ Some linked → linked_at (forwards_packet a mark packet).controller linked.setup.port ≡ Some linked
  there_behind there = ap (λ (ports : List Linked). at port_key linked.setup.port.0 ports) same_behind.ports ∙ there

  pub may_behind : MayWire a linked → MayWire (forwards_packet a mark packet) linked
  may_behind may = record {
    can = record {
      up = ap (λ side. is_estab side.state) same_behind.adjacency ∙ may.can.up;
      number_left = subst (λ (d : Desk). d.next < last_transaction) (sym same_behind.desk) may.can.number_left;
    };
    of_link = may.of_link;
    there = there_behind may.there;
    ascend = may.ascend;
    free = λ number spare. subst (λ (d : Desk). standing_on d (label_end linked.setup.port number) ≡ []) (sym same_behind.desk) (may.free number spare);
  }

module _ (a : Acted) (linked : Linked) (there : linked_at a.controller linked.setup.port ≡ Some linked) (tie : TieOf a) where
  -- *A packet is counted*
  counted_ties : (mark : Mark) (packet : List ℕ) → MayWire a linked → TieOf (counted_at (forwards_packet a mark packet) linked.setup.port packet)
  counted_ties mark packet may = subst TieOf (sym (at_port_is b linked.setup.port (λ setup desk w. counts setup desk w packet) linked (there_behind a linked mark packet there)))
      (counts_ties b linked (there_behind a linked mark packet there) (may_behind a linked mark packet may) (sent_ties a b (forwards_same a mark packet) tie) packet)
    where
      b : Acted
      b = forwards_packet a mark packet

  -- *A port hears a message*
  hears_ties : (source : Addr) (message : Message) (w : Work) → hears linked.setup a.controller.desk (begins a linked) source message ≡ w → TieOf (works_as a linked w)
      → TieOf (at_port a linked.setup.port (λ setup desk v. hears setup desk v source message))
  hears_ties source message w is ties = subst TieOf
      (sym (at_port_is a linked.setup.port (λ setup desk v. hears setup desk v source message) linked there ∙ ap (works_as a linked) is)) ties

  -- an ACK
  module _ (s : Session) (is_open : linked.port.session ≡ Some s) where
    greeted_ties : (other : Side Peer) (next : ℕ) → HaveMet linked.port.adjacency other → Every (λ (label : Label). WaitsForNone label.state) s.labels
        → TieOf (at_port a linked.setup.port (λ setup desk v. hears setup desk v other.own.address (Adjacency (hello_of next (said other Ack)))))
    greeted_ties other next met waits = hears_ties other.own.address (Adjacency (hello_of next (said other Ack))) known
        (ports_hear_acks linked.setup a.controller.desk (begins a linked) s other next refl is_open met waits)
        (plain_ties a linked known there tt (same_alike linked known (sym (own_labels linked s is_open)) refl) tie)
      where
        known : Work
        known = record (begins a linked) {
          port = record linked.port { adjacency = record linked.port.adjacency { silence = 0 }; session = Some (record s { known = max s.known next }) };
        }

  -- a REDIRECT of a label that is granted
  refreshed_ties : (s : Session) (source : Addr) (sender peer : Instance) (number lifetime : ℕ) (grant : Grant) → IsTaken linked.setup (begins a linked) s source sender peer number grant.label
      → at grant_label grant.label linked.port.grants ≡ Some grant → is_leaving grant.state ≡ false
      → TieOf (at_port a linked.setup.port (λ setup desk v. hears setup desk v source (Redirect sender peer number lifetime (label_channel_of grant.label) grant.flow)))
  refreshed_ties s source sender peer number lifetime grant taken held stays = hears_ties source (Redirect sender peer number lifetime (label_channel_of grant.label) grant.flow) lasting
      (grants_are_refreshed linked.setup a.controller.desk (begins a linked) s source sender peer number lifetime grant taken held stays)
      (plain_ties a linked lasting there tt (alike_by linked lasting (from_session linked s taken.working.is_open) (to_session linked s taken.working.is_open)
      (has_put grant_label Idles refreshed_grant linked.port.grants grant held (λ idle. idle)) (had_put grant_label Idles refreshed_grant linked.port.grants grant held (λ idle. idle))) tie)
    where
      refreshed_grant : Grant
      refreshed_grant = record grant { lifetime = lifetime }

      lasting : Work
      lasting = left (begins a linked) (accepted (begins a linked) s number (put grant_label (record grant { lifetime = lifetime }) linked.port.grants)) []

  -- and of a new one
  module _ (payload : List ℕ) (g : MakesGrant a linked payload) where
    abbrev new : Grant
    new = record { label = g.label; flow = g.flow; lifetime = g.lifetime; state = Idle }

    abbrev made : Work
    made = makes_grant linked.setup (begins a linked) g.session g.number g.label g.lifetime g.flow

    is_open : linked.port.session ≡ Some g.session
    is_open = g.takes.taken.working.is_open

    now : at grant_label g.label made.port.grants ≡ Some new
    now = at_more_same grant_label linked.port.grants new g.spare

    others : (n : ℕ) → g.label ≢ n → at grant_label n made.port.grants ≡ at grant_label n linked.port.grants
    others n differs = at_more_other grant_label n linked.port.grants new differs

    forth : (request : Request) → Owes linked request → Owes (record linked { port = made.port }) request
    forth = owed_alike linked.setup (labels_of linked.port) (labels_of made.port) linked.port.grants made.port.grants (from_session linked g.session is_open)
        (has_more grant_label Idles new linked.port.grants made.port.grants g.spare now others)

    back : (request : Request) → Owes (record linked { port = made.port }) request → Owes linked request ⊎ (request ≡ grant_branch linked.setup g.label)
    back = owed_or linked.setup (labels_of made.port) (labels_of linked.port) made.port.grants linked.port.grants (grant_branch linked.setup g.label)
        (λ n has. inl (to_session linked g.session is_open n has))
        (λ n has. elim (had_more grant_label Idles new linked.port.grants made.port.grants g.spare now others n has) [
          | inl was ↦ inl was
          | inr same ↦ inr (ap (grant_branch linked.setup) same)
        ])

    granted_ties : TieOf (at_port a linked.setup.port (λ setup desk v. hears setup desk v g.source (Redirect g.sender g.peer g.number g.lifetime (label_channel_of g.label) g.flow)))
    granted_ties = hears_ties g.source (Redirect g.sender g.peer g.number g.lifetime (label_channel_of g.label) g.flow) made
        (grants_are_made linked.setup a.controller.desk (begins a linked) g.session g.source g.sender g.peer g.number g.label g.lifetime g.flow g.takes.taken g.spare g.few g.room)
        (asks_ties a linked made (control_end linked.setup.port g.label) (label_end linked.setup.port g.label) there g.takes.can refl g.free
        (of_grant g.label (record { item = new; held = now; is = refl })) forth back tie)

  -- *The whole*
  pub default_ties : (mark : Mark) (payload : List ℕ) → HearsSo a linked payload → TieOf (default_holds a linked.setup.port mark (default_unwrapped payload))
  default_ties mark payload (refused is) = tie_by (default_holds a linked.setup.port mark (default_unwrapped payload)) a.controller.ports a.controller.desk
      (ap (λ (c : Controller). c.ports) (is.same a linked.setup.port mark)) (ap (λ (c : Controller). c.desk) (is.same a linked.setup.port mark)) tie
  default_ties mark payload (counted packet holds may) = subst TieOf (sym (packet_is a linked.setup.port mark payload packet holds)) (counted_ties mark packet may)
  default_ties mark payload (greeted s other next holds is_open met waits) = subst TieOf
      (sym (message_is payload other.own.address (Adjacency (hello_of next (said other Ack))) holds a linked.setup.port mark)) (greeted_ties s is_open other next met waits)
  default_ties mark payload (refreshed s source sender peer number lifetime grant holds taken held stays) = subst TieOf
      (sym (message_is payload source (Redirect sender peer number lifetime (label_channel_of grant.label) grant.flow) holds a linked.setup.port mark))
      (refreshed_ties s source sender peer number lifetime grant taken held stays)
  default_ties mark payload (granted g) = subst TieOf
      (sym (message_is payload g.source (Redirect g.sender g.peer g.number g.lifetime (label_channel_of g.label) g.flow) g.holds a linked.setup.port mark)) (granted_ties payload g)
