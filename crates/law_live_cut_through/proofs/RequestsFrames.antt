-- so it keeps it at a frame of a default channel, or of a label's

use Rattle.std.proofs.Common.{◌≡◌, ℕ, ◌<◌, Bool, true, false, not, List, [], Option, None, Some, is_some, Result, Ok, Err, refl, sym, ◌∙◌, ap, subst}
use Rattle.std.specs.Prelude.{◌&&◌, max}
use Rattle.std.specs.Option.{option_map, option_map_or}
use Rattle.world_model.specs.Words.{Mark, Addr, Instance, FlowId, label_channel_of, same_flow, EncapsFault, default_unwrapped, Ack, Side, Peer, said, hello_of, Redirect, at, put, entered, key_le, label_end, control_end, Desk, Label, Wiring, label_number, label_at, label_for, labels_of, lowest_spare, serves, Grant, grant_label, is_leaving, Session, Work, has_room, with_session, with_label, packets_in, counted_once, packet_flow, wires, counts_flow, counts_by, counts, used, used_label, hears, Controller, Linked, linked_at, begins, works_as, at_port, forwards_packet, label_holds, counted_at, default_holds}
use Rattle.world_model.specs.Controller.{Acted}
use Rattle.world_model.specs.ifmp_wire.declared.message.Message.{Message}
use Rattle.world_model.specs.ifmp_wire.declared.message.Message.TheVariants.{Adjacency}
use Rattle.world_model.specs.port_model.Labels.{is_spare}
use Rattle.world_model.specs.port_model.Setup.{label_numbers, is_between}
use Rattle.live_model.specs.Met.{HaveMet}
use Rattle.law_live_ease.specs.law_port_facts.ordered_lists.Ordered.{Every, InOrder}
use Rattle.law_live_ease.proofs.law_port_facts.Keyed.{on_both, at_key, find_at}
use Rattle.law_live_ease.proofs.law_port_facts.Found.{find_passes}
use Rattle.law_live_ease.specs.law_live_labels.Law.{IsTaken, accepted, left, makes_grant}
use Rattle.law_live_ease.proofs.law_live_labels.Agreed.{grants_are_made, grants_are_refreshed}
use Rattle.law_live_ease.specs.law_live_greetings.Law.{WaitsForNone}
use Rattle.law_live_ease.proofs.law_live_greetings.Heard.{ports_hear_acks}
use Rattle.law_live_ease.proofs.law_live_others.Holding.{forwards_same}
use Rattle.law_live_ease.specs.law_live_mirrors.Asking.{MayWire}
use Rattle.law_live_ease.proofs.law_live_mirrors.Nodes.{at_port_is}
use Rattle.law_live_ease.specs.law_live_asking.Frames.{MakesGrant}
use Rattle.law_live_ease.proofs.ComingFrames.{there_behind, may_behind}
use Rattle.law_live_ease.proofs.ComingMessages.{packet_is, message_is}
use Rattle.law_live_ease.proofs.ComingHears.{HearsSo, refused, counted, greeted, refreshed, granted}
use Rattle.law_live_cut_through.proofs.RequestsKeeping.{stay, change, enter, Keeps, Of, of_by, sent_on, rule_on, plain_on, asks_on}

abbrev labels_by : Option Session → List Label
labels_by o = option_map_or (λ (x : Session). x.labels) o []

-- *A label is put* in a session, if there is one
labels_put : (label : Label) (o : Option Session) → labels_by (option_map (λ (x : Session). record x { labels = put label_number label x.labels }) o) ≡ put label_number label (labels_by o)
labels_put label None = refl
labels_put label (Some s) = refl

-- *A spare label* isn't held
module _ (linked : Linked) (s : Session) (n : ℕ) (lowest : lowest_spare linked.setup s.least s.greatest s.labels ≡ Some n) where
  second : (x y : Bool) → (x && y) ≡ true → y ≡ true
  second true y e = e
  second false y e = absurd (cc e)

  none : (o : Option Label) → not (is_some o) ≡ true → o ≡ None
  none None e = refl
  none (Some label) e = absurd (cc e)

  spare_is : at label_number n s.labels ≡ None
  spare_is = none (at label_number n s.labels) (second (is_between s.least s.greatest (label_channel_of n)) (is_spare s.labels n)
      (find_passes (λ m. is_between s.least s.greatest (label_channel_of m) && is_spare s.labels m) (label_numbers linked.setup) n lowest))

module _ (T : List Linked → Desk → Type 0) (k : Keeps T) where
  -- *A label is used*
  module _ (b : Acted) (linked : Linked) (there : linked_at b.controller linked.setup.port ≡ Some linked) where
    abbrev On : Work → Type 0
    On w = Of T (works_as b linked w)

    idle_on : Of T b → On (begins b linked)
    idle_on = plain_on T k b linked (begins b linked) there tt (stay refl)

    uses_on : (label : Label) → at label_number label.number (labels_of linked.port) ≡ Some label → Of T b → On (used_label (begins b linked) (Some label))
    uses_on label held = plain_on T k b linked (with_label (begins b linked) (record label { idle = 0 })) there tt
        (change label (record label { idle = 0 }) held refl refl (labels_put (record label { idle = 0 }) linked.port.session))

    pub used_on : (number : ℕ) → Of T b → On (used (begins b linked) number)
    used_on number t = by (label_at linked.port number) refl
      where
        by : (o : Option Label) → label_at linked.port number ≡ o → On (used_label (begins b linked) o)
        by None found = idle_on t
        by (Some label) found = uses_on label (subst (λ n. at label_number n (labels_of linked.port) ≡ Some label) (sym (at_key label_number number (labels_of linked.port) label found)) found) t

    -- *A packet is counted*
    module _ (may : MayWire b linked) (t : Of T b) where
      module _ (s : Session) (is_open : linked.port.session ≡ Some s) (flow : FlowId) where
        own_labels : labels_of linked.port ≡ s.labels
        own_labels = ap labels_by is_open

        in_order : InOrder (λ (x y : Label). label_number x < label_number y) s.labels
        in_order = subst (InOrder (λ (x y : Label). label_number x < label_number y)) own_labels may.ascend

        abbrev s_counted : Session
        s_counted = record s { counted = counted_once s.counted flow }

        abbrev w_counted : Work
        w_counted = with_session (begins b linked) (λ old. s_counted)

        counts_alone : On w_counted
        counts_alone = plain_on T k b linked w_counted there tt (stay (ap (λ (o : Option Session). labels_by (option_map (λ (old : Session). s_counted) o)) is_open ∙ sym own_labels)) t

        -- a spare label is wired, for a flow that none serves
        wires_on : label_for s.labels flow ≡ None → (n : ℕ) → lowest_spare linked.setup s.least s.greatest s.labels ≡ Some n → On (wires linked.setup w_counted flow (Some n))
        wires_on unserved n lowest = asks_on T k b linked wired (label_end linked.setup.port n) (control_end linked.setup.port n) there may.can refl
            (enter new (ap (at label_number n) own_labels ∙ spare_is linked s n lowest) (ap (λ (labels : List Label). label_for labels flow) own_labels ∙ unserved) labels_then) t
          where
            new : Label
            new = record { number = n; state = Wiring; flow = flow; idle = 0; ticks = 0; join = None }

            wired : Work
            wired = wires linked.setup w_counted flow (Some n)

            labels_then : labels_of wired.port ≡ entered (key_le label_number) new (labels_of linked.port)
            labels_then = ap (λ (o : Option Session). labels_by (option_map (λ (x : Session). record x { labels = entered (key_le label_number) new x.labels }) (option_map (λ (old : Session). s_counted) o))) is_open
                ∙ ap (entered (key_le label_number) new) (sym own_labels)

        by_spare : label_for s.labels flow ≡ None → (o : Option ℕ) → lowest_spare linked.setup s.least s.greatest s.labels ≡ o → On (wires linked.setup w_counted flow o)
        by_spare unserved None is = counts_alone
        by_spare unserved (Some n) is = wires_on unserved n is

        by_flow : (o : Option Label) → label_for s.labels flow ≡ o → On (counts_flow linked.setup b.controller.desk (begins b linked) s flow o)
        by_flow (Some label) is = uses_on label (ap (at label_number label.number) own_labels
            ∙ find_at label_number (λ (x : Label). serves x.state && same_flow x.flow flow) s.labels label in_order is) t
        by_flow None is = on_both On (linked.setup.policy.offers flow (packets_in s_counted.counted flow) && has_room b.controller.desk w_counted)
            (wires linked.setup w_counted flow (lowest_spare linked.setup s.least s.greatest s.labels)) w_counted (by_spare is (lowest_spare linked.setup s.least s.greatest s.labels) refl) counts_alone

      by_session : (o : Option Session) → linked.port.session ≡ o → (flow : Option FlowId) → On (counts_by linked.setup b.controller.desk (begins b linked) o flow)
      by_session None is flow = idle_on t
      by_session (Some s) is None = idle_on t
      by_session (Some s) is (Some flow) = by_flow s is flow (label_for s.labels flow) refl

      pub counts_on : (packet : List ℕ) → On (counts linked.setup b.controller.desk (begins b linked) packet)
      counts_on packet = by_session linked.port.session refl (packet_flow packet)

  -- *On the channel of a label*
  pub label_on : (a : Acted) (linked : Linked) (label : Label) (mark : Mark) (r : Result (List ℕ) EncapsFault) → Of T a → Of T (label_holds a linked label mark r)
  label_on a linked label mark (Err fault) t = t
  label_on a linked label mark (Ok packet) t = (let b : Acted = forwards_packet a mark packet in
      rule_on T b linked.setup.port (λ setup desk w. used w label.number) (λ l there. used_on b l there label.number (sent_on T a b (forwards_same a mark packet) t))
      (sent_on T a b (forwards_same a mark packet) t))

  -- *On a default channel*
  module _ (a : Acted) (linked : Linked) (there : linked_at a.controller linked.setup.port ≡ Some linked) (t : Of T a) where
    counted_on : (mark : Mark) (packet : List ℕ) → MayWire a linked → Of T (counted_at (forwards_packet a mark packet) linked.setup.port packet)
    counted_on mark packet may = subst (Of T) (sym (at_port_is b linked.setup.port (λ setup desk w. counts setup desk w packet) linked (there_behind a linked mark packet there)))
        (counts_on b linked (there_behind a linked mark packet there) (may_behind a linked mark packet may) (sent_on T a b (forwards_same a mark packet) t) packet)
      where
        b : Acted
        b = forwards_packet a mark packet

    -- *A port hears a message*
    hears_on : (source : Addr) (message : Message) (w : Work) → hears linked.setup a.controller.desk (begins a linked) source message ≡ w → Of T (works_as a linked w)
        → Of T (at_port a linked.setup.port (λ setup desk v. hears setup desk v source message))
    hears_on source message w is on = subst (Of T)
        (sym (at_port_is a linked.setup.port (λ setup desk v. hears setup desk v source message) linked there ∙ ap (works_as a linked) is)) on

    -- an ACK
    greeted_on : (s : Session) (other : Side Peer) (next : ℕ) → linked.port.session ≡ Some s → HaveMet linked.port.adjacency other → Every (λ (label : Label). WaitsForNone label.state) s.labels
        → Of T (at_port a linked.setup.port (λ setup desk v. hears setup desk v other.own.address (Adjacency (hello_of next (said other Ack)))))
    greeted_on s other next is_open met waits = hears_on other.own.address (Adjacency (hello_of next (said other Ack))) known
        (ports_hear_acks linked.setup a.controller.desk (begins a linked) s other next refl is_open met waits)
        (plain_on T k a linked known there tt (stay (sym (ap labels_by is_open))) t)
      where
        known : Work
        known = record (begins a linked) {
          port = record linked.port { adjacency = record linked.port.adjacency { silence = 0 }; session = Some (record s { known = max s.known next }) };
        }

    -- a REDIRECT of a label that is granted
    refreshed_on : (s : Session) (source : Addr) (sender peer : Instance) (number lifetime : ℕ) (grant : Grant) → IsTaken linked.setup (begins a linked) s source sender peer number grant.label
        → at grant_label grant.label linked.port.grants ≡ Some grant → is_leaving grant.state ≡ false
        → Of T (at_port a linked.setup.port (λ setup desk v. hears setup desk v source (Redirect sender peer number lifetime (label_channel_of grant.label) grant.flow)))
    refreshed_on s source sender peer number lifetime grant taken held stays = hears_on source (Redirect sender peer number lifetime (label_channel_of grant.label) grant.flow) lasting
        (grants_are_refreshed linked.setup a.controller.desk (begins a linked) s source sender peer number lifetime grant taken held stays)
        (plain_on T k a linked lasting there tt (stay (sym (ap labels_by taken.working.is_open))) t)
      where
        lasting : Work
        lasting = left (begins a linked) (accepted (begins a linked) s number (put grant_label (record grant { lifetime = lifetime }) linked.port.grants)) []

    -- and of a new one
    granted_on : (payload : List ℕ) (g : MakesGrant a linked payload)
        → Of T (at_port a linked.setup.port (λ setup desk v. hears setup desk v g.source (Redirect g.sender g.peer g.number g.lifetime (label_channel_of g.label) g.flow)))
    granted_on payload g = hears_on g.source (Redirect g.sender g.peer g.number g.lifetime (label_channel_of g.label) g.flow) made
        (grants_are_made linked.setup a.controller.desk (begins a linked) g.session g.source g.sender g.peer g.number g.label g.lifetime g.flow g.takes.taken g.spare g.few g.room)
        (asks_on T k a linked made (control_end linked.setup.port g.label) (label_end linked.setup.port g.label) there g.takes.can refl
        (stay (sym (ap labels_by g.takes.taken.working.is_open))) t)
      where
        made : Work
        made = makes_grant linked.setup (begins a linked) g.session g.number g.label g.lifetime g.flow

    -- *The whole*
    pub default_on : (mark : Mark) (payload : List ℕ) → HearsSo a linked payload → Of T (default_holds a linked.setup.port mark (default_unwrapped payload))
    default_on mark payload (refused is) = of_by T (default_holds a linked.setup.port mark (default_unwrapped payload)) a.controller.ports a.controller.desk
        (ap (λ (c : Controller). c.ports) (is.same a linked.setup.port mark)) (ap (λ (c : Controller). c.desk) (is.same a linked.setup.port mark)) t
    default_on mark payload (counted packet holds may) = subst (Of T) (sym (packet_is a linked.setup.port mark payload packet holds)) (counted_on mark packet may)
    default_on mark payload (greeted s other next holds is_open met waits) = subst (Of T)
        (sym (message_is payload other.own.address (Adjacency (hello_of next (said other Ack))) holds a linked.setup.port mark)) (greeted_on s other next is_open met waits)
    default_on mark payload (refreshed s source sender peer number lifetime grant holds taken held stays) = subst (Of T)
        (sym (message_is payload source (Redirect sender peer number lifetime (label_channel_of grant.label) grant.flow) holds a linked.setup.port mark))
        (refreshed_on s source sender peer number lifetime grant taken held stays)
    default_on mark payload (granted g) = subst (Of T)
        (sym (message_is payload g.source (Redirect g.sender g.peer g.number g.lifetime (label_channel_of g.label) g.flow) g.holds a linked.setup.port mark)) (granted_on payload g)
