-- a packet that enters is heard along its way, and delivered at the last node

use Rattle.std.proofs.Common.{◌≡◌, ℕ, ◌+◌, ◌-◌, ◌<◌, true, false, List, [], ◌∷◌, ◌++◌, append_assoc, length, Contains, None, Some, refl, sym, ◌∙◌, ap, subst, arith}
use Rattle.std.specs.Option.{option_map_or}
use Rattle.world_model.specs.Words.{NodeId, PortNo, Addr, Up, Delivered, Policy, Mark, Here, default_home, default_payload, best, Local, hop_of, onward, ttl_of, destination_of, next_mark, has_entry, has_loss_of, inject_refusal, Topology, World, Site, site_at, is_empty, next, world_after, IsNode, IsRun, past_of, IsTame, table_in}
use Rattle.world_model.specs.World.{opened}
use Rattle.world_model.specs.ipv4_forward.declared.table.Route.{Route}
use Rattle.world_model.specs.network_model.declared.link.LinkEnd.{LinkEnd}
use Rattle.world_model.specs.network_model.declared.event.Event.{Event}
use Rattle.world_model.specs.network_model.declared.event.Event.TheVariants.{Inject, Carry}
use Rattle.law_live_carried_out.proofs.law_causes.Shown.{peer_back}
use Rattle.law_packet_worlds.proofs.Hops.{accepted_onward}
use Rattle.law_live_carried_out.specs.law_run_facts.Nodes.{HasSite}
use Rattle.law_live_carried_out.proofs.law_run_facts.Rooms.{runs_keep_nodes}
use Rattle.law_live_carried_out.proofs.law_run_facts.Steps.{after_one}
use Rattle.law_live_carried_out.specs.law_true_runs.Runs.{HoldsInRuns, IsWhole}
use Rattle.law_live_carried_out.specs.law_live_hearing.Law.{world_at, Hears}
use Rattle.law_live_carried_out.proofs.law_live_hearing.Going.{after_all}
use Rattle.law_live_journeys.specs.Law.{entering, GoesOn, IsRouted, IsBrought}
use Rattle.law_live_journeys.specs.Hops.{IsStretch, ComesTo}
use Rattle.law_live_journeys.specs.Journeys.{KeepsRoutes, LeadsTo, IsWayFrom, last_node, behind_hops, IsUngranted, GoesUngranted, EntersUngranted, ComesAlong, IsDeliveredIn, PacketsGoTheirWay}
use Rattle.law_live_journeys.proofs.Entering.{entries_forward, entries_are_delivered}
use Rattle.law_live_journeys.proofs.Brought.{brought_forward, brought_are_delivered}
use Rattle.law_live_journeys.proofs.Runs.{begun, unlost_before}
use Rattle.law_live_journeys.proofs.Hops.{hops_are_heard}
use Rattle.law_live_journeys.proofs.Tables.{tables_stay}
use Rattle.law_live_journeys.proofs.Ways.{same_destination, less_to_live, leads_on, ends_here, frame_unlost}

-- *It stands at a node* in an event: it goes on by its route, or is delivered there
record Stands (topology : Topology) (w : World) (event : Event) (node : NodeId) (came : Mark) (packet : List ℕ) : Type 0 where
  pub site : Site
  pub there : site_at w node ≡ Some site
  pub goes : (port : PortNo) → IsRouted site.controller port packet → has_entry (next topology w event).notes.entries (next_mark came) ≡ false
      → GoesOn topology w event (record { node = node; port = port }) came packet
  pub ends : hop_of site.controller.table packet ≡ Here → Contains (next topology w event).notes.records (Delivered node came.packet packet)

stands_entering : (topology : Topology) (w : World) (node : NodeId) (packet : List ℕ) (h : HasSite w node) → inject_refusal packet ≡ None
    → Stands topology w (Inject node packet) node (entering w) packet
stands_entering topology w node packet h accepted = record {
  site = h.site;
  there = h.is;
  goes = λ port routed unlost. entries_forward topology w (record { node = node; port = port }) h.site packet h.is accepted routed unlost;
  ends = λ here. entries_are_delivered topology w node h.site packet h.is accepted here;
}

stands_brought : (topology : Topology) (w : World) (far : LinkEnd) (came : Mark) (packet : List ℕ) → 0 < came.packet → IsBrought topology w far came packet
    → Stands topology w (Carry (Up far.node)) far.node came packet
stands_brought topology w far came packet some b = record {
  site = b.site;
  there = b.there;
  goes = λ port routed unlost. brought_forward topology w far port came packet b some routed unlost;
  ends = λ here. brought_are_delivered topology w far came packet b here;
}

module _ (whole : HoldsInRuns IsWhole) (policy : Policy) (topology : Topology) (past events : List Event) (stretch : IsStretch policy topology past events)
    (keeps : KeepsRoutes policy topology past events) (number : ℕ) (some : 0 < number)
    (unlost : has_loss_of number (world_at policy topology (past ++ events)).notes.entries ≡ false) where
  abbrev tables : NodeId → List Route
  tables node = table_in node (world_at policy topology past)

  abbrev now : List Event → World
  now first = world_at policy topology (past ++ first)

  -- *From an event of the stretch on*
  module _ (first rest : List Event) (event : Event) (are : events ≡ first ++ event ∷ rest) where
    split : past ++ events ≡ (past ++ first) ++ event ∷ rest
    split = ap (λ (es : List Event). past ++ es) are ∙ sym (append_assoc past first (event ∷ rest))

    behind : past ++ events ≡ ((past ++ first) ++ event ∷ []) ++ rest
    behind = split ∙ sym (append_assoc (past ++ first) (event ∷ []) rest)

    shorter : IsStretch policy topology (past ++ first) (event ∷ rest)
    shorter = record {
      run = subst (IsRun policy topology) split stretch.run;
      addresses = stretch.addresses;
      tame = subst (λ (es : List Event). IsTame (past_of policy topology es).records) split stretch.tame;
      empties = subst (λ (es : List Event). is_empty (world_at policy topology es) ≡ true) split stretch.empties;
    }

    none_in_end : (mark : Mark) → mark.packet ≡ number → has_entry (world_at policy topology (past ++ events)).notes.entries mark ≡ false
    none_in_end mark is = frame_unlost (world_at policy topology (past ++ events)).notes.entries mark
        (subst (λ (n : ℕ). has_loss_of n (world_at policy topology (past ++ events)).notes.entries ≡ false) (sym is) unlost)

    none_next : (mark : Mark) → mark.packet ≡ number → has_entry (next topology (now first) event).notes.entries mark ≡ false
    none_next mark is = subst (λ (v : World). has_entry v.notes.entries mark ≡ false) (after_one topology (opened policy topology) (past ++ first) event)
        (unlost_before policy topology ((past ++ first) ++ event ∷ []) rest mark
        (subst (λ (es : List Event). has_entry (world_at policy topology es).notes.entries mark ≡ false) behind (none_in_end mark is)))

    -- the whole stretch has what comes behind it
    here : (front : List Event) → ((past ++ first) ++ event ∷ []) ++ front ≡ past ++ (first ++ event ∷ front)
    here front = append_assoc (past ++ first) (event ∷ []) front ∙ append_assoc past first (event ∷ front)

    in_stretch : (far : LinkEnd) (mark : Mark) (packet : List ℕ) → ComesTo policy topology ((past ++ first) ++ event ∷ []) rest far mark packet → ComesTo policy topology past events far mark packet
    in_stretch far mark packet c =
        record {
          front = first ++ event ∷ c.front;
          rest = c.rest;
          are = are ∙ (ap (λ (es : List Event). first ++ event ∷ es) c.are ∙ sym (append_assoc first (event ∷ c.front) (Carry (Up far.node) ∷ c.rest)));
          brought = subst (λ (es : List Event). IsBrought topology (world_at policy topology es) far mark packet) (here c.front) c.brought;
          heard = subst (λ (es : List Event). Hears topology (world_at policy topology es) far.node (default_home far.port).channel mark (default_payload packet)) (here c.front) c.heard;
          holds = c.holds;
        }

    -- *A hop*
    module _ (node : NodeId) (came : Mark) (packet : List ℕ) (stands : Stands topology (now first) event node came packet) (within : IsNode topology node)
        (own : came.packet ≡ number) (accepted : inject_refusal packet ≡ None) where
      table_is : stands.site.controller.table ≡ tables node
      table_is = sym (ap (λ o. option_map_or (λ (s : Site). s.controller.table) o []) stands.there) ∙ tables_stay policy topology past events keeps first (event ∷ rest) are node

      ended : best (tables node) (destination_of packet) ≡ Some Local → IsDeliveredIn topology (world_at policy topology past) events node number packet
      ended route = record {
        front = first;
        event = event;
        rest = rest;
        are = are;
        told = subst (λ (n : ℕ). Contains (next topology (world_after topology (world_at policy topology past) first) event).notes.records (Delivered node n packet)) own
            (subst (λ (v : World). Contains (next topology v event).notes.records (Delivered node came.packet packet)) (after_all topology (opened policy topology) past first)
            (stands.ends (ends_here stands.site.controller.table packet (ap (λ (t : List Route). best t (destination_of packet)) table_is ∙ route))));
      }

      hops : (far : LinkEnd) → LeadsTo topology (tables node) node (destination_of packet) far → 1 < ttl_of packet → IsUngranted topology (now first) node packet far
          → ComesTo policy topology ((past ++ first) ++ event ∷ []) rest far (next_mark came) (onward packet)
      hops far leads lives ungranted =
          let routed : IsRouted stands.site.controller leads.port packet = record {
            route = leads_on stands.site.controller.table packet leads.port lives (ap (λ (t : List Route). best t (destination_of packet)) table_is ∙ leads.route);
            ungranted = ungranted stands.site leads.port stands.there leads.linked;
          } in
          hops_are_heard whole policy topology (past ++ first) rest event (record { node = node; port = leads.port }) far came packet shorter within leads.linked accepted
          (stands.goes leads.port routed (none_next (next_mark came) own))
          (subst (λ (es : List Event). has_entry (world_at policy topology es).notes.entries (next_mark came) ≡ false) split (none_in_end (next_mark came) own))

  -- *Along the way*
  goes : (ends : List LinkEnd) (first rest : List Event) (event : Event) → events ≡ first ++ event ∷ rest
      → (node : NodeId) (came : Mark) (packet : List ℕ) → Stands topology (now first) event node came packet → IsNode topology node → came.packet ≡ number
      → inject_refusal packet ≡ None → IsWayFrom topology tables (destination_of packet) node ends → length ends < ttl_of packet
      → EntersUngranted policy topology past events (now first) node came packet ends
      → ComesAlong policy topology ((past ++ first) ++ event ∷ []) rest came packet ends
      × IsDeliveredIn topology (world_at policy topology past) events (last_node node ends) number (behind_hops packet ends)
  unfolding in_stretch
  goes [] first rest event are node came packet stands within own accepted way lives ungranted =
      (tt, ended first rest event are node came packet stands within own accepted way)
  goes (far ∷ ends) first rest event are node came packet stands within own accepted way lives ungranted =
      let near : ComesTo policy topology ((past ++ first) ++ event ∷ []) rest far (next_mark came) (onward packet) =
      hops first rest event are node came packet stands within own accepted far way.0 (omega (arith, lives)) ungranted.0 in
      let hop : ComesTo policy topology past events far (next_mark came) (onward packet) = in_stretch first rest event are far (next_mark came) (onward packet) near in
      let more : 0 < came.packet = subst (λ (n : ℕ). 0 < n) (sym own) some in
      let there : Stands topology (now hop.front) (Carry (Up far.node)) far.node (next_mark came) (onward packet) =
      stands_brought topology (now hop.front) far (next_mark came) (onward packet) more hop.brought in
      let on : IsWayFrom topology tables (destination_of (onward packet)) far.node ends =
      subst (λ (d : Addr). IsWayFrom topology tables d far.node ends) (sym (same_destination packet accepted)) way.1 in
      let later = goes ends hop.front hop.rest (Carry (Up far.node)) hop.are far.node (next_mark came) (onward packet) there
      (peer_back topology stretch.run.topology_is (record { node = node; port = way.0.port }) far way.0.linked).node own (accepted_onward packet accepted) on
      (let less : ttl_of (onward packet) ≡ ttl_of packet - 1 = less_to_live packet accepted in omega (arith, lives, less))
      (still_ungranted ends hop ungranted.1) in (
        (
          near,
          subst (λ (es : List Event). ComesAlong policy topology (es ++ Carry (Up far.node) ∷ []) near.rest (next_mark came) (onward packet) ends)
              (sym (here first rest event are near.front)) later.0,
        ),
        later.1,
      )
    where
      -- as it is brought
      still_ungranted : (ends : List LinkEnd) (hop : ComesTo policy topology past events far (next_mark came) (onward packet))
          → GoesUngranted policy topology past events far (next_mark came) (onward packet) ends
          → EntersUngranted policy topology past events (now hop.front) far.node (next_mark came) (onward packet) ends
      still_ungranted [] hop is = tt
      still_ungranted (next_end ∷ ends) hop is = (is.0 hop.front hop.rest hop.are hop.brought, is.1)

pub packets_go_their_way : HoldsInRuns IsWhole → PacketsGoTheirWay
packets_go_their_way whole policy topology past events first rest node packet ends stretch keeps e =
    let w : World = world_at policy topology (past ++ first) in
    let split : past ++ events ≡ (past ++ first) ++ Inject node packet ∷ rest = ap (λ (es : List Event). past ++ es) e.enters ∙ sym (append_assoc past first (Inject node packet ∷ rest)) in
    let within : IsNode topology node = (stretch.run.each (past ++ first) rest (Inject node packet) split).meant.0 in
    let h : HasSite w node = runs_keep_nodes policy topology (past ++ first) (begun whole policy topology past events stretch (past ++ first) (Inject node packet ∷ rest) split) node within in
    let way = goes whole policy topology past events stretch keeps (w.sent + 1) (omega arith) e.unlost ends first rest (Inject node packet) e.enters node (entering w) packet
    (stands_entering topology w node packet h e.accepted) within refl e.accepted e.way e.lives e.ungranted in
    record { comes = way.0; delivered = way.1 }

-- *In the whole stretch* it comes to each of the ends
module _ (policy : Policy) (topology : Topology) (past events : List Event) where
  abbrev pub FoundAlong : Mark → (packet : List ℕ) → List LinkEnd → Type 0
  FoundAlong mark packet [] = Unit {0}
  FoundAlong mark packet (far ∷ ends) = ComesTo policy topology past events far (next_mark mark) (onward packet) × FoundAlong (next_mark mark) (onward packet) ends

  pub found_along : (ends : List LinkEnd) (before rest : List Event) → events ≡ before ++ rest → (mark : Mark) (packet : List ℕ)
      → ComesAlong policy topology (past ++ before) rest mark packet ends → FoundAlong mark packet ends
  found_along [] before rest e mark packet along = tt
  found_along (far ∷ ends) before rest e mark packet (c, along) =
      let here : (past ++ before) ++ c.front ≡ past ++ (before ++ c.front) = append_assoc past before c.front in
      let carry : List Event = Carry (Up far.node) ∷ [] in
      let found : ComesTo policy topology past events far (next_mark mark) (onward packet) = record {
        front = before ++ c.front;
        rest = c.rest;
        are = e ∙ (ap (λ (es : List Event). before ++ es) c.are ∙ sym (append_assoc before c.front (Carry (Up far.node) ∷ c.rest)));
        brought = subst (λ (es : List Event). IsBrought topology (world_at policy topology es) far (next_mark mark) (onward packet)) here c.brought;
        heard = subst (λ (es : List Event). Hears topology (world_at policy topology es) far.node (default_home far.port).channel (next_mark mark) (default_payload (onward packet))) here c.heard;
        holds = c.holds;
      } in (
        found,
        found_along ends ((before ++ c.front) ++ carry) c.rest
            (found.are ∙ sym (append_assoc (before ++ c.front) carry c.rest)) (next_mark mark) (onward packet)
            (subst (λ (es : List Event). ComesAlong policy topology es c.rest (next_mark mark) (onward packet) ends)
            (ap (λ (es : List Event). es ++ carry) here ∙ append_assoc past (before ++ c.front) carry) along),
      )
