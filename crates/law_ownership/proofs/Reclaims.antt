-- a label that isn't recalled is in no reclaim that is on its way, and none is owed: the law of its line, as the network shows it

use Rattle.std.proofs.Common.{◌≡◌, ℕ, Bool, true, [], Option, None, Some, refl, sym, ◌∙◌, ap, subst, if◌then◌else◌}
use Rattle.std.specs.Prelude.{Contains}
use Rattle.std.specs.Option.{option_map_or}
use Rattle.law_frame_readings.specs.world_model.Words.{End, Instance, is_label_number, label_channel_of, FlowId, Reclaim, ReclaimAck, at, Label, LabelState, Wiring, Offered, Recalled, Wired, Grant, Leaving, grant_label, Session, Linked, port_key, World, session_at, grants_at, Past, Way, IsWay, HasNoReclaim, IsNotRecalled, IsNotRecalledIn, held}
use Rattle.law_frame_readings.specs.world_model.ifmp_wire.declared.message.Message.{Message}
use Rattle.law_frame_readings.proofs.law_port_facts.Keyed.{at_every, each_found}
use Rattle.law_frame_readings.specs.law_controller_facts.Sound.{IsLinkedPort}
use Rattle.law_label_line.specs.Cells as lines
use Rattle.law_label_line.specs.Cells.{Downstream, Upstream}
use Rattle.law_label_line.specs.Line as line_specs
use Rattle.law_label_line.specs.Line.{Line}
use Rattle.law_label_line.specs.Law as laws
use Rattle.law_label_line.specs.Law.{Always, OnlyRecalledIsReclaimed, IsNoReclaim, OwesNothing}
use Rattle.law_frame_readings.specs.law_port_views.Link.{LinkLabel}
use Rattle.law_frame_readings.specs.law_port_views.Heard.{heard_by}
use Rattle.law_frame_readings.specs.law_port_views.Flows.{flow_number}
use Rattle.law_frame_readings.specs.law_port_views.Shown.{label_of, label_in, grant_in, GrantShows}
use Rattle.law_frame_readings.proofs.law_port_views.Recalling.{names_own}
use Rattle.law_frame_readings.specs.law_shown_cells.Label.{OnLink, OnControl}
use Rattle.law_frame_readings.specs.law_world_views.Shown.{WorldShows}
use Rattle.law_frame_readings.specs.law_world_views.Pairs.{IsLike}
use Rattle.law_frame_readings.specs.law_world_views.Between.{HasLabelLine, setups_of}
use Rattle.law_unused_labels.proofs.Seen.{every_contained, holds_message}
use Rattle.law_unused_labels.proofs.Places.{linked_is, label_is, is_open, on_out, on_up, on_down, in_chain}
use Rattle.law_unused_labels.proofs.Links.{link_of, link_is}
use Rattle.law_ownership.specs.Owning.{IsKept, HasOwnWays}
use Rattle.law_ownership.proofs.Words.{erased_reclaim, by_place}

module _ (law : Always OnlyRecalledIsReclaimed) (past : Past) (kept : IsKept past) (ways_own : HasOwnWays past) (of_link : Way) (on : IsWay past.topology of_link) (label : ℕ) (number : is_label_number label ≡ true)
    (session : Session) (opened : session_at past.now of_link.down ≡ Some session) (unrecalled : IsNotRecalled (held session label)) where
  abbrev link : LinkLabel
  link = link_of past.topology of_link label

  abbrev w : World
  w = past.now

  abbrev h : HasLabelLine past link
  h = kept.world.labels link (link_is past.topology kept.topology_is of_link on label number)

  abbrev line : Line
  line = h.line

  abbrev s : WorldShows link (IsLike w link) w line
  s = h.shows

  none : laws.HasNoReclaim line
  none = subst OnlyRecalledIsReclaimed h.reached.is (law h.reached.downstream h.reached.upstream h.reached.fresh h.reached.downstream_drawn h.reached.upstream_drawn h.reached.moves) (is_open past link h session opened)
      (subst laws.IsNotRecalled (sym (label_is past link h session opened)) (line_label (held session label) unrecalled))
    where
      line_in : (flow : ℕ) (state : LabelState) → IsNotRecalledIn state → laws.IsNotRecalled (label_in flow state)
      line_in flow Wiring h = tt
      line_in flow Offered h = tt
      line_in flow (Recalled last acknowledged) h = h
      line_in flow Wired h = tt

      line_label : (o : Option Label) → IsNotRecalled o → laws.IsNotRecalled (label_of o)
      line_label None h = tt
      line_label (Some label) h = line_in (flow_number label.flow) label.state h

  named : (sender peer : Instance) (n : ℕ) (flow : FlowId) → heard_by Downstream label (Reclaim sender peer n (label_channel_of label) flow) ≡ Some (lines.Reclaim sender.0 peer.0 n (flow_number flow))
  named sender peer n flow = ap (λ (b : Bool). Some (if b then lines.Reclaim sender.0 peer.0 n (flow_number flow) else lines.Other sender.0 peer.0 n)) (names_own label label number refl)

  named_ack : (sender peer : Instance) (n : ℕ) (flow : FlowId) → heard_by Upstream label (ReclaimAck sender peer n (label_channel_of label) flow) ≡ Some (lines.ReclaimAck sender.0 peer.0 (flow_number flow))
  named_ack sender peer n flow = ap (λ (b : Bool). if b then Some (lines.ReclaimAck sender.0 peer.0 (flow_number flow)) else None) (names_own label label number refl)

  pub no_reclaims : HasNoReclaim w of_link label
  no_reclaims = record {
    no_reclaim = λ cell sender peer n flow has message own far.
        let m : Message = Reclaim sender peer n (label_channel_of label) flow in
        let x : lines.Message = lines.Reclaim sender.0 peer.0 n (flow_number flow) in
        by_place w of_link.down of_link.up cell ((ways_own.told of_link on).0 cell m has message refl own)
        (λ chained. holds_message IsNoReclaim (OnControl of_link.up.port) Downstream link w.notes.frames erased_reclaim cell m x (kept.world.numbers.taken of_link.up cell chained).0 message (named sender peer n flow) (in_chain past link h IsNoReclaim none.none_sent Upstream cell chained))
        (λ up e. holds_message IsNoReclaim (OnControl of_link.up.port) Downstream link w.notes.frames erased_reclaim cell m x e message (named sender peer n flow) (on_up past link h IsNoReclaim none.none_sent Upstream cell up))
        (λ out e. holds_message IsNoReclaim OnLink Downstream link w.notes.frames erased_reclaim cell m x e message (named sender peer n flow) (on_out past link h IsNoReclaim none.none_sent Downstream cell out))
        (λ down e. holds_message IsNoReclaim (OnControl of_link.down.port) Downstream link w.notes.frames erased_reclaim cell m x e message (named sender peer n flow) (on_down past link h IsNoReclaim none.none_sent Downstream cell down));
    no_ack = λ cell sender peer n flow has message own far.
        let m : Message = ReclaimAck sender peer n (label_channel_of label) flow in
        let x : lines.Message = lines.ReclaimAck sender.0 peer.0 (flow_number flow) in
        by_place w of_link.up of_link.down cell ((ways_own.told of_link on).1 cell m has message refl own)
        (λ chained. holds_message IsNoReclaim (OnControl of_link.down.port) Upstream link w.notes.frames erased_reclaim cell m x (kept.world.numbers.taken of_link.down cell chained).0 message (named_ack sender peer n flow) (in_chain past link h IsNoReclaim none.none_sent Downstream cell chained))
        (λ up e. holds_message IsNoReclaim (OnControl of_link.down.port) Upstream link w.notes.frames erased_reclaim cell m x e message (named_ack sender peer n flow) (on_up past link h IsNoReclaim none.none_sent Downstream cell up))
        (λ out e. holds_message IsNoReclaim OnLink Upstream link w.notes.frames erased_reclaim cell m x e message (named_ack sender peer n flow) (on_out past link h IsNoReclaim none.none_sent Upstream cell out))
        (λ down e. holds_message IsNoReclaim (OnControl of_link.up.port) Upstream link w.notes.frames erased_reclaim cell m x e message (named_ack sender peer n flow) (on_down past link h IsNoReclaim none.none_sent Upstream cell down));
    none_owed = λ grant input has same leaving. owed grant input has same leaving;
  }
    where
      up_linked : Linked
      up_linked = (s.net.end Upstream).linked

      port : IsLinkedPort (setups_of (s.end Upstream).controller) up_linked
      port = at_every port_key (IsLinkedPort (setups_of (s.end Upstream).controller)) of_link.up.port.0 (s.end Upstream).controller.ports up_linked
          (kept.sound of_link.up.node (s.end Upstream) (s.found Upstream)).ports.each (s.net.end Upstream).found

      owed : (grant : Grant) (input : End) → Contains (grants_at w of_link.up) grant → grant.label ≡ label → grant.state ≡ Leaving input true → ⊥
      owed grant input has same leaving = subst OwesNothing line_is none.none_owed
        where
          among : Contains up_linked.port.grants grant
          among = subst (λ (o : Option Linked). Contains (option_map_or (λ linked. linked.port.grants) o []) grant) (linked_is past link h Upstream) has

          found : at grant_label label up_linked.port.grants ≡ Some grant
          found = ap (λ (n : ℕ). at grant_label n up_linked.port.grants) (sym same)
              ∙ every_contained (λ (g : Grant). at grant_label (grant_label g) up_linked.port.grants ≡ Some g) up_linked.port.grants grant (each_found grant_label up_linked.port.grants port.apart) among

          line_is : line.grant ≡ line_specs.Leaving (flow_number grant.flow) true
          line_is = subst (λ (o : Option Grant). GrantShows line.upstream.state o line.grant) found (s.net.end Upstream).shown.grant ∙ ap (grant_in (flow_number grant.flow)) leaving
