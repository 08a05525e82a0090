-- what is held stays at a frame of the default channel of a port that hears so, and at one of a label's channel

use Rattle.std.proofs.Common.{◌≡◌, ℕ, false, List, [], None, Some, Result, Ok, Err, refl, sym, ◌∙◌, ap, subst}
use Rattle.std.specs.Prelude.{max}
use Rattle.world_model.specs.Words.{Mark, Addr, Instance, EncapsFault, default_unwrapped, Ack, Side, Peer, said, hello_of, Redirect, label_channel_of, at, put, label_end, control_end, Label, labels_of, Grant, Idle, grant_label, is_leaving, Session, Work, counts, hears, Linked, linked_at, begins, works_as, at_port, Controller, forwards_packet, counted_at, default_holds, label_holds}
use Rattle.world_model.specs.Controller.{Acted}
use Rattle.world_model.specs.ifmp_wire.declared.message.Message.{Message}
use Rattle.world_model.specs.ifmp_wire.declared.message.Message.TheVariants.{Adjacency}
use Rattle.live_model.specs.Met.{HaveMet}
use Rattle.law_live_ease.specs.law_port_facts.ordered_lists.Ordered.{Every}
use Rattle.law_live_ease.specs.law_live_labels.Law.{IsTaken, accepted, left, makes_grant}
use Rattle.law_live_ease.proofs.law_live_labels.Agreed.{grants_are_made, grants_are_refreshed}
use Rattle.law_live_ease.specs.law_live_greetings.Law.{WaitsForNone}
use Rattle.law_live_ease.proofs.law_live_greetings.Heard.{ports_hear_acks}
use Rattle.law_live_ease.proofs.law_live_others.Holding.{forwards_same}
use Rattle.law_live_ease.specs.law_live_mirrors.Asking.{MayWire}
use Rattle.law_live_ease.proofs.law_live_mirrors.Nodes.{at_port_is}
use Rattle.law_live_ease.proofs.law_live_bindings.Places.{at_more_same, at_more_other}
use Rattle.law_live_ease.specs.law_live_asking.Frames.{MakesGrant}
use Rattle.law_live_ease.specs.law_live_joining.Joins.{lent_grant}
use Rattle.law_live_ease.proofs.ComingPorts.{own_labels}
use Rattle.law_live_ease.proofs.ComingFrames.{there_behind, may_behind}
use Rattle.law_live_ease.proofs.ComingMessages.{packet_is, message_is}
use Rattle.law_live_ease.proofs.ComingHears.{HearsSo, refused, counted, greeted, refreshed, granted}
use Rattle.law_live_cut_through.proofs.LabelsTold.{goes_like, goes_fresh, all_put, all_more}
use Rattle.law_live_cut_through.proofs.LabelsKeeping.{held_grant, labels_same, grants_same, HeldStays, held_same, held_then, plain_keeps, asks_keeps}
use Rattle.law_live_cut_through.proofs.LabelsCounting.{used_keeps, counts_keep}

-- *On the channel of a label*
pub label_keeps : (a : Acted) (linked : Linked) (label : Label) (mark : Mark) (r : Result (List ℕ) EncapsFault) → HeldStays a.controller (label_holds a linked label mark r).controller
label_keeps a linked label mark (Err fault) = held_same a.controller (label_holds a linked label mark (Err fault)).controller refl
label_keeps a linked label mark (Ok packet) = held_then a.controller b.controller (label_holds a linked label mark (Ok packet)).controller
    (held_same a.controller b.controller (forwards_same a mark packet).ports) (used_keeps b linked.setup.port label.number)
  where
    b : Acted
    b = forwards_packet a mark packet

-- *On a default channel*
module _ (a : Acted) (linked : Linked) (there : linked_at a.controller linked.setup.port ≡ Some linked) where
  abbrev Keeps : Acted → Type 0
  Keeps b = HeldStays a.controller b.controller

  -- a packet is counted
  counted_keeps : (mark : Mark) (packet : List ℕ) → MayWire a linked → Keeps (counted_at (forwards_packet a mark packet) linked.setup.port packet)
  counted_keeps mark packet may = held_then a.controller b.controller (counted_at b linked.setup.port packet).controller (held_same a.controller b.controller (forwards_same a mark packet).ports)
      (subst (λ (x : Acted). HeldStays b.controller x.controller) (sym (at_port_is b linked.setup.port (λ setup desk w. counts setup desk w packet) linked (there_behind a linked mark packet there)))
      (counts_keep b linked (there_behind a linked mark packet there) (may_behind a linked mark packet may) packet))
    where
      b : Acted
      b = forwards_packet a mark packet

  -- a port hears a message
  hears_keep : (source : Addr) (message : Message) (w : Work) → hears linked.setup a.controller.desk (begins a linked) source message ≡ w → Keeps (works_as a linked w)
      → Keeps (at_port a linked.setup.port (λ setup desk v. hears setup desk v source message))
  hears_keep source message w is keeps = subst Keeps
      (sym (at_port_is a linked.setup.port (λ setup desk v. hears setup desk v source message) linked there ∙ ap (works_as a linked) is)) keeps

  -- an ACK
  greeted_keeps : (s : Session) (other : Side Peer) (next : ℕ) → linked.port.session ≡ Some s → HaveMet linked.port.adjacency other → Every (λ (label : Label). WaitsForNone label.state) s.labels
      → Keeps (at_port a linked.setup.port (λ setup desk v. hears setup desk v other.own.address (Adjacency (hello_of next (said other Ack)))))
  greeted_keeps s other next is_open met waits = hears_keep other.own.address (Adjacency (hello_of next (said other Ack))) known
      (ports_hear_acks linked.setup a.controller.desk (begins a linked) s other next refl is_open met waits)
      (plain_keeps a linked there known tt (record {
        labels = labels_same (labels_of linked.port) s.labels (sym (own_labels linked s is_open));
        grants = grants_same linked.port.grants linked.port.grants refl;
      }))
    where
      known : Work
      known = record (begins a linked) {
        port = record linked.port { adjacency = record linked.port.adjacency { silence = 0 }; session = Some (record s { known = max s.known next }) };
      }

  -- a REDIRECT of a label that is granted
  refreshed_keeps : (s : Session) (source : Addr) (sender peer : Instance) (number lifetime : ℕ) (grant : Grant) → IsTaken linked.setup (begins a linked) s source sender peer number grant.label
      → at grant_label grant.label linked.port.grants ≡ Some grant → is_leaving grant.state ≡ false
      → Keeps (at_port a linked.setup.port (λ setup desk v. hears setup desk v source (Redirect sender peer number lifetime (label_channel_of grant.label) grant.flow)))
  refreshed_keeps s source sender peer number lifetime grant taken held stays = hears_keep source (Redirect sender peer number lifetime (label_channel_of grant.label) grant.flow) lasting
      (grants_are_refreshed linked.setup a.controller.desk (begins a linked) s source sender peer number lifetime grant taken held stays)
      (plain_keeps a linked there lasting tt (record {
        labels = labels_same (labels_of linked.port) s.labels (sym (own_labels linked s taken.working.is_open));
        grants = all_put held_grant lent_grant grant_label linked.port.grants grant (record grant { lifetime = lifetime }) held (goes_like held_grant lent_grant grant (record grant { lifetime = lifetime }) refl refl);
      }))
    where
      lasting : Work
      lasting = left (begins a linked) (accepted (begins a linked) s number (put grant_label (record grant { lifetime = lifetime }) linked.port.grants)) []

  -- and of a new one
  granted_keeps : (payload : List ℕ) (g : MakesGrant a linked payload)
      → Keeps (at_port a linked.setup.port (λ setup desk v. hears setup desk v g.source (Redirect g.sender g.peer g.number g.lifetime (label_channel_of g.label) g.flow)))
  granted_keeps payload g = hears_keep g.source (Redirect g.sender g.peer g.number g.lifetime (label_channel_of g.label) g.flow) making
      (grants_are_made linked.setup a.controller.desk (begins a linked) g.session g.source g.sender g.peer g.number g.label g.lifetime g.flow g.takes.taken g.spare g.few g.room)
      (asks_keeps a linked there making (control_end linked.setup.port g.label) (label_end linked.setup.port g.label) g.takes.can refl (record {
        labels = labels_same (labels_of linked.port) g.session.labels (sym (own_labels linked g.session g.takes.taken.working.is_open));
        grants = all_more held_grant lent_grant grant_label linked.port.grants making.port.grants new g.spare (at_more_same grant_label linked.port.grants new g.spare)
            (λ k differs. at_more_other grant_label k linked.port.grants new differs) (goes_fresh held_grant lent_grant None new refl refl);
      }))
    where
      new : Grant
      new = record { label = g.label; flow = g.flow; lifetime = g.lifetime; state = Idle }

      making : Work
      making = makes_grant linked.setup (begins a linked) g.session g.number g.label g.lifetime g.flow

  -- *The whole*
  pub default_keeps : (mark : Mark) (payload : List ℕ) → HearsSo a linked payload → Keeps (default_holds a linked.setup.port mark (default_unwrapped payload))
  default_keeps mark payload (refused is) = held_same a.controller (default_holds a linked.setup.port mark (default_unwrapped payload)).controller
      (ap (λ (c : Controller). c.ports) (is.same a linked.setup.port mark))
  default_keeps mark payload (counted packet holds may) = subst Keeps (sym (packet_is a linked.setup.port mark payload packet holds)) (counted_keeps mark packet may)
  default_keeps mark payload (greeted s other next holds is_open met waits) = subst Keeps
      (sym (message_is payload other.own.address (Adjacency (hello_of next (said other Ack))) holds a linked.setup.port mark)) (greeted_keeps s other next is_open met waits)
  default_keeps mark payload (refreshed s source sender peer number lifetime grant holds taken held stays) = subst Keeps
      (sym (message_is payload source (Redirect sender peer number lifetime (label_channel_of grant.label) grant.flow) holds a linked.setup.port mark))
      (refreshed_keeps s source sender peer number lifetime grant taken held stays)
  default_keeps mark payload (granted g) = subst Keeps
      (sym (message_is payload g.source (Redirect g.sender g.peer g.number g.lifetime (label_channel_of g.label) g.flow) g.holds a linked.setup.port mark)) (granted_keeps payload g)
