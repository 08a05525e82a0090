-- users of a label stand for the flow that it was bound to last: cells by what they mean, grants, joins and REDIRECTs by the
-- parts of the world that say so

use Rattle.std.proofs.Common.{◌≡◌, ◌≢◌, ℕ, ◌<◌, Bool, true, false, Option, None, Some, refl, sym, ◌∙◌, ap, subst, arith, if◌then◌else◌}
use Rattle.std.specs.Prelude.{Contains, is_some, ◌&&◌, nat_lt, nat_le}
use Rattle.std.proofs.Common.{inl, inr}
use Rattle.std.proofs.lemmas.List.Elements.{Contains-append_cases, Contains-append_left, Contains-append_right}
use Rattle.std.proofs.lemmas.Bool.Decides.{nat_tests}
use Rattle.law_frame_readings.specs.world_model.Words.{NodeId, PortNo, Down, Up, Out, Channel, End, is_label_number, is_label_channel, label_channel_of, number_of_channel, Cell, Standing, control_end, label_end, default_channel, same_channel, port_on, on_link, queue_at, IsTopology, to_switch, requests_chain_at, gsmp_to_switch, on_channel, copy_under, Past, last_bound, Way, IsWay, User, ByCell, ByBranch, ByRequest, Uses, on_the_link, off_the_link, granted, connected, copied, from_controller, StandsForLast}
use Rattle.law_frame_readings.specs.world_model.network_model.declared.link.LinkEnd.{LinkEnd}
use Rattle.law_frame_readings.specs.world_model.Topology.{peer_of}
use Rattle.law_frame_readings.specs.world_model.Users.{request_stands, redirect_comes}
use Rattle.law_frame_readings.proofs.law_port_facts.Keyed.{by_eq}
use Rattle.law_frame_readings.proofs.law_shown_cells.Frames.{differ}
use Rattle.law_unused_labels.proofs.law_causes.Shown.{IsPeer, peer_back}
use Rattle.law_unused_labels.proofs.law_causes.Ends.{parts_of_control}
use Rattle.law_frame_readings.specs.law_port_views.Link.{LinkLabel}
use Rattle.law_frame_readings.specs.law_world_views.Pairs.{Pairs, by_branch, by_desk, by_copy}
use Rattle.law_frame_readings.specs.law_world_views.Marks.{Heading, heading_at, own_end, Means, early, control, local, plain, labelled, HasCome}
use Rattle.law_frame_readings.specs.law_world_views.Between.{IsWorld, IsLinkLabel}
use Rattle.law_unused_labels.specs.Unused.{HasOwnChannels}
use Rattle.law_unused_labels.proofs.Reading.{filtered_back}
use Rattle.law_unused_labels.proofs.Links.{link_of, link_is}

above_32 : (c : Channel) → is_label_channel c ≡ true → c.vci ≢ 15
above_32 c t e = by c.vpi c.vci t e
  where
    by : (p v : ℕ) → (nat_lt p 16 && (nat_le 32 v && nat_lt v 1024)) ≡ true → v ≡ 15 → ⊥
    by p v t e = grind (arith, nat_tests, t, e)

pub low_vpi : (c : Channel) → is_label_channel c ≡ true → c.vpi < 16
low_vpi c t = by c.vpi c.vci t
  where
    by : (p v : ℕ) → (nat_lt p 16 && (nat_le 32 v && nat_lt v 1024)) ≡ true → p < 16
    by p v t = grind (arith, nat_tests, t)

pub no_default : (label : ℕ) → is_label_number label ≡ true → same_channel (label_channel_of label) default_channel ≡ false
no_default label t = differ (label_channel_of label) default_channel (λ e. above_32 (label_channel_of label) t (ap (λ (x : Channel). x.vci) e))

number_again : (label : ℕ) → number_of_channel (label_channel_of label) ≡ label
number_again label = omega arith

some_is : {X : Type 0} (x y : X) → Some x ≡ Some y → x ≡ y
some_is x y e = cc

has_some : {X : Type 0} (o : Option X) (x : X) → o ≡ Some x → is_some o ≡ true
has_some o x e = ap is_some e

own_is : (node : NodeId) (port : PortNo) → 0 < port.0 → own_end node port ≡ Some (record { node = node; port = port })
own_is node port more = by_eq port.0 0 (λ same t. absurd (omega (arith, more, same))) (λ other f. ap (λ (b : Bool). if b then none else Some end) f)
  where
    end : LinkEnd
    end = record { node = node; port = port }

    none : Option LinkEnd
    none = None

module _ (past : Past) (is : IsTopology past.topology) (world : IsWorld past) (way : Way) (on : IsWay past.topology way) (label : ℕ) (number : is_label_number label ≡ true) where
  abbrev link : LinkLabel
  link = link_of past.topology way label

  of : IsLinkLabel past.topology link
  of = link_is past.topology is way on label number

  pub down : IsPeer past.topology way.down way.up
  down = peer_back past.topology is way.down way.up on.upstream

  pub up : IsPeer past.topology way.up way.down
  up = peer_back past.topology is way.up way.down on.downstream

  -- *A cell of the label* that goes to the downstream end
  labelled_cell : (to : Heading) (cell : Cell) → Means past to cell.header.last cell.mark → to.end ≡ Some way.down → to.channel ≡ label_channel_of label → StandsForLast past way label (ByCell cell)
  labelled_cell to cell means far channel = by means
    where
      other : same_channel to.channel default_channel ≡ false
      other = ap (λ (x : Channel). same_channel x default_channel) channel ∙ no_default label number

      not_default : same_channel to.channel default_channel ≡ true → ⊥
      not_default e = cc (sym e ∙ other)

      by : Means past to cell.header.last cell.mark → StandsForLast past way label (ByCell cell)
      by (early d l c) = absurd (not_default d)
      by (control d c source message made) = absurd (not_default d)
      by (local d none c) = absurd (not_default d)
      by (plain d l end to_end packet made come newest) = absurd (not_default d)
      by (labelled d end to_end flow bound payload packet made carried come newest) =
          let there : end ≡ way.down = some_is end way.down (sym to_end ∙ far) in
          let came : HasCome past cell.mark.packet way.down.node packet = subst (λ (x : LinkEnd). HasCome past cell.mark.packet x.node packet) there come in
          record {
            flow = flow;
            bound = subst (λ (x : ℕ). last_bound past.records way.down x ≡ Some flow) (ap number_of_channel channel ∙ number_again label)
                (subst (λ (x : LinkEnd). last_bound past.records x (number_of_channel to.channel) ≡ Some flow) there bound);
            stands = record {
              payload = payload;
              made = made;
              packet = packet;
              carried = carried;
              time = came.time;
              so_far = came.so_far;
              reached = came.reached;
            };
          }

  control_parts : (port : PortNo) (c : Channel) → c ≡ (control_end port label).channel → (port_on c ≡ port) × (on_link c ≡ label_channel_of label)
  control_parts port c e =
      let parts : _ = parts_of_control port (label_channel_of label) (low_vpi (label_channel_of label) number) in
      (ap port_on e ∙ ap (λ (n : ℕ). record { 0 = n }) parts.0, ap on_link e ∙ parts.1)

  module _ (own : HasOwnChannels past.now way label) where
    joined : (input : End) → 0 < input.port.0 → Pairs past.now way.up.node input (label_end way.up.port label) → StandsForLast past way label (ByBranch input)
    joined input above pair = world.hops link of input above pair

    asked_too : (input : End) → StandsForLast past way label (ByBranch input) → StandsForLast past way label (ByRequest input)
    asked_too input s = record { flow = s.flow; bound = s.bound; stands = s.stands }

    copied_there : (cell : Cell) (s : Standing) → Contains (to_switch past.now way.up.node) cell → copy_under past.now.notes.frames cell.mark ≡ Some s → Contains (gsmp_to_switch past.now way.up.node) cell
    copied_there cell s has copy = elim (Contains-append_cases (requests_chain_at past.now way.up.node) (queue_at past.now (Down way.up.node)) cell has) [
      | inl chained ↦ Contains-append_left (requests_chain_at past.now way.up.node) (on_channel default_channel (queue_at past.now (Down way.up.node))) cell chained
      | inr waits ↦ Contains-append_right (requests_chain_at past.now way.up.node) (on_channel default_channel (queue_at past.now (Down way.up.node))) cell
          (filtered_back (λ c. same_channel c.header.channel default_channel) (queue_at past.now (Down way.up.node)) cell waits (own.copies cell s waits copy))
    ]

    pub stands_for_last : (user : User) → Uses past.now way label user → StandsForLast past way label user
    stands_for_last _ (on_the_link cell has channel) =
        labelled_cell (heading_at past.topology (Out way.up.node way.up.port) cell.header.channel) cell
        (world.meanings (Out way.up.node way.up.port) cell (down.node, has_some (peer_of past.topology way.up.node way.up.port) way.down on.downstream) has) on.downstream channel
    stands_for_last _ (off_the_link cell has channel) =
        let parts : _ = control_parts way.down.port cell.header.channel channel in
        labelled_cell (heading_at past.topology (Up way.down.node) cell.header.channel) cell
        (world.meanings (Up way.down.node) cell up.node has)
        (ap (own_end way.down.node) parts.0 ∙ own_is way.down.node way.down.port (omega (arith, down.own.0))) parts.1
    stands_for_last _ (granted grant has same) = record { flow = grant.flow; bound = (world.users link of).grants grant has same; stands = refl }
    stands_for_last _ (connected input above leads_to) = joined input above (by_branch leads_to)
    stands_for_last _ (request_stands input s above has leads_to) = asked_too input (joined input above (by_desk s has leads_to))
    stands_for_last _ (copied input s cell above has copy leads_to) = asked_too input (joined input above (by_copy s cell (copied_there cell s has copy) copy leads_to))
    stands_for_last _ (redirect_comes flow cell has redirect) = record {
      flow = flow;
      bound = (world.users link of).redirects cell redirect.sender redirect.peer redirect.number redirect.lifetime flow (own.redirects cell flow has redirect) redirect.message;
      stands = refl;
    }
    stands_for_last _ (from_controller cell has channel) =
        let parts : _ = control_parts way.up.port cell.header.channel channel in
        labelled_cell (heading_at past.topology (Down way.up.node) cell.header.channel) cell
        (world.meanings (Down way.up.node) cell down.node has)
        (ap (peer_of past.topology way.up.node) parts.0 ∙ on.downstream) parts.1
