-- each event leaves a good world

use Rattle.std.proofs.Common.{◌≡◌, ◌⊎◌, inl, inr, ℕ, suc, ◌<◌, ◌+◌, Bool, true, false, List, [], ◌∷◌, length, cond, Option, None, Some, refl, sym, ◌∙◌, ap, subst, arith}
use Rattle.std.specs.Prelude.{Contains, is_some, ◌==◌}
use Rattle.std.proofs.lemmas.Bool.Decides.{nat_tests}
use Rattle.law_arrival_views.specs.world_model.Words.{NodeId, PortNo, Place, Down, Up, Out, Mark, RouteChange, Cell, Loss, Lost, control_port, injected, change_comes, node_restarts, IsTopology, IsNode, IsPlace, World, Site, site_at, with_site, controller_acts, switch_acts, queue_at, with_queue, with_queue_in, same_queue, Past, IsTame, arrives_at, arrives, carries_head, loses_head}
use Rattle.law_arrival_views.specs.ordered_lists.Ordered.{Every}
use Rattle.law_arrival_views.proofs.ordered_lists.Every.{every_map}
use Rattle.law_arrival_views.specs.world_model.crossbar_model.Crossbar.{input_of}
use Rattle.law_arrival_views.specs.world_model.Switch as switches
use Rattle.law_arrival_views.specs.world_model.Conduct as switch
use Rattle.law_arrival_views.specs.world_model.Controller.{Acted, ports_of}
use Rattle.law_arrival_views.specs.world_model.Cells as takes
use Rattle.law_arrival_views.specs.world_model.Ticks.{ticks}
use Rattle.law_arrival_views.specs.world_model.network_model.declared.link.LinkEnd.{LinkEnd}
use Rattle.law_arrival_views.specs.world_model.Topology.{peer_of}
use Rattle.law_arrival_views.specs.world_model.World.{at_controller, at_switch}
use Rattle.law_arrival_views.specs.world_model.Step.{note}
use Rattle.law_arrival_views.proofs.world_model.Lists.{length_set}
use Rattle.law_arrival_views.proofs.world_model.Queues.{Sets}
use Rattle.law_run_facts.specs.law_world_views.Marks.{Heading, heading_at, HasCome, IsNewest, Means}
use Rattle.law_unused_labels.proofs.law_causes.Shown.{IsPeer, peer_back}
use Rattle.law_run_facts.proofs.law_actor_pace.Controllers.{cell_follows, injected_paces, ticks_paces, restarts_paces, change_changes}
use Rattle.law_packet_worlds.proofs.Walk.{Kept, node_restarts_kept, change_comes_kept, ticks_kept}
use Rattle.law_packet_worlds.proofs.Records.{routes_has}
use Rattle.law_packet_worlds.proofs.Cut.{one}
use Rattle.law_packet_worlds.proofs.Meant.{in_frames, IsProper}
use Rattle.law_packet_worlds.proofs.Good.{Turn, IsTurn, IsGood, nothing}
use Rattle.law_packet_worlds.proofs.Frames.{in_hand}
use Rattle.law_packet_worlds.proofs.Sends.{now_of, HasGrants, IsReady, good_routes}
use Rattle.law_packet_worlds.proofs.Quietly.{BindsNone, NoBind, push_none, fate_none, AllowsDefault, AreFew, few_kept, both_kept, good_kept, IsQuiet, may_quiet, bind_quiet, IsSilent, may_silent, none_kept}
use Rattle.law_packet_worlds.proofs.Takes.{Leaves}
use Rattle.law_packet_worlds.proofs.Cells.{cell_leaves}
use Rattle.law_packet_worlds.proofs.Switches.{good_lost}
use Rattle.law_packet_worlds.proofs.Worlds.{IsNet, HasSiteAt, site_there, one_place, two_places, no_peer, is_turn, to_turn, from_turn}
use Rattle.law_packet_worlds.proofs.Turns.{arrives_as, IsKnown, IsKnownWorld, IsOld, IsUnlabelled, Ends, all_old, node_is, found_put, other_put, in_site, Good, turn, controller_world, controller_unlabelled, Pops, queue_is, pops}
use Rattle.law_packet_worlds.proofs.SwitchWorlds.{at_work, Crossed, tick_leaves, restart_leaves, comes_leaves}

module _ (base : Past) (topology_is : IsTopology base.topology) (time : ℕ) (timed : length base.events ≡ suc time) where
  abbrev To : World → World → Type 0
  To w v = Ends base time w v

  -- *A controller acts* in a network
  module _ (w : World) (net : IsNet base.topology w) (node : NodeId) (site : Site) (found : site_at w node ≡ Some site) (known : IsKnown base time node site) where
    abbrev T : Turn
    T = turn base topology_is time timed w net (Down node)

    abbrev pub started : Acted
    started = record { controller = site.controller; notes = w.notes; numbers = w.numbers }

    abbrev P : Cell → Type 0
    P = IsOld base.topology w (Down node)

    others : AllowsDefault P
    others cell e = inl e

    turned : IsTurn T
    turned = is_turn base topology_is time timed w net (Down node) known.number

    apart : peer_of T.base.topology node (record { 0 = 0 }) ≡ None
    apart = no_peer base.topology topology_is node

    pub starts : (hand : ℕ → ℕ) → Good base topology_is time timed hand w → IsGood T hand (now_of started)
    starts hand good = subst (λ (cs : List Cell). IsGood T hand (record { cells = cs; notes = w.notes; controls = w.numbers.controls })) (in_site w (Down node) site found)
        (to_turn base topology_is time timed w net hand (Down node) known.number good)

    few : AreFew P started
    few = subst (Every P) (in_site w (Down node) site found) (all_old base.topology w (Down node))

    pub ready : IsReady T started
    ready = (let own : site.controller.node ≡ node = node_is w node site found in record {
      place = ap (λ (n : NodeId). Down n) (sym own);
      held = ap (λ (n : NodeId). base.history.held n time) own ∙ known.held;
      linked = λ packet port e. (let to = known.linked packet port e in (to.0, ap (λ (n : NodeId). peer_of base.topology n port) own ∙ to.1, to.2));
      granted = subst (λ (n : NodeId). Every (HasGrants T n) site.controller.ports) (sym own) (known.granted T refl);
    })

    pub ends : (b : Acted) → b.controller.node ≡ site.controller.node → ports_of b.controller ≡ ports_of site.controller → Leaves T P b
        → To w (record (with_site w (record site { controller = b.controller })) { notes = b.notes; numbers = b.numbers })
    ends b same ports l = record {
      good = controller_world base topology_is time timed w net nothing node site b known.number found same ports l.good;
      binds = by l.binds;
    }
      where
        by : BindsNone b.notes.records ⊎ AreFew P b → BindsNone b.notes.records ⊎ IsUnlabelled base.topology w (record (with_site w (record site { controller = b.controller })) { notes = b.notes; numbers = b.numbers })
        by (inl none) = inl none
        by (inr old) = inr (controller_unlabelled base topology_is time timed w net node site b known.number found same ports old)

    -- a cell comes
    pub cell_ends : (cell : Cell) → Good base topology_is time timed (in_hand cell) w → Means (in_frames base w.notes.frames) (heading_at base.topology (Up node) cell.header.channel) cell.header.last cell.mark
        → BindsNone w.notes.records → IsTame (takes.cell_comes started cell).notes.records
        → To w (record (with_site w (record site { controller = (takes.cell_comes started cell).controller })) { notes = (takes.cell_comes started cell).notes; numbers = (takes.cell_comes started cell).numbers })
    cell_ends cell good m none tame =
        let f = cell_follows (cell.mark.frame + 1) started cell (omega arith) in
        ends (takes.cell_comes started cell) f.node f.ports
        (cell_leaves T turned node refl apart P others started (node_is w node site found) ready (known.labels T refl) cell m (starts (in_hand cell) good) none few tame)

    -- it ticks, restarts, or a change of routes comes
    Loud : Kept IsQuiet (λ a. IsGood T nothing (now_of a) × AreFew P a)
    Loud = both_kept IsQuiet (λ a. IsGood T nothing (now_of a)) (AreFew P) (good_kept T node refl apart nothing IsQuiet (λ item q. q)) (few_kept P others IsQuiet)

    Soft : Kept IsSilent (λ a. IsGood T nothing (now_of a) × BindsNone a.notes.records)
    Soft = both_kept IsSilent (λ a. IsGood T nothing (now_of a)) (λ a. BindsNone a.notes.records) (good_kept T node refl apart nothing IsSilent (λ item q. q.0)) none_kept

    pub tick_ends : Good base topology_is time timed nothing w
        → To w (record (with_site w (record site { controller = (ticks started).controller })) { notes = (ticks started).notes; numbers = (ticks started).numbers })
    tick_ends good =
        let p = ticks_paces 0 started in
        let h = ticks_kept IsQuiet may_quiet (λ a. IsGood T nothing (now_of a) × AreFew P a) Loud bind_quiet started (starts nothing good, few) in
        ends (ticks started) p.node p.ports (record { good = h.0; binds = inr h.1 })

    pub restart_ends : BindsNone w.notes.records → Good base topology_is time timed nothing w
        → To w (record (with_site w (record site { controller = (node_restarts started).controller })) { notes = (node_restarts started).notes; numbers = (node_restarts started).numbers })
    restart_ends none good =
        let p = restarts_paces 0 started in
        let h = node_restarts_kept IsSilent may_silent (λ a. IsGood T nothing (now_of a) × BindsNone a.notes.records) Soft started (starts nothing good, none) in
        ends (node_restarts started) p.node p.ports (record { good = h.0; binds = inl h.1 })

    pub change_ends : (change : RouteChange) → BindsNone w.notes.records → Good base topology_is time timed nothing w
        → To w (record (with_site w (record site { controller = (change_comes started change).controller })) { notes = (change_comes started change).notes; numbers = (change_comes started change).numbers })
    change_ends change none good =
        let p = change_changes 0 started change in
        let h = change_comes_kept IsSilent may_silent (λ a. IsGood T nothing (now_of a) × BindsNone a.notes.records) Soft started change (starts nothing good, none) in
        ends (change_comes started change) p.node p.ports (record { good = h.0; binds = inl h.1 })

    -- a packet enters
    pub inject_ends : (number : ℕ) (packet : List ℕ) → HasCome (in_frames base w.notes.frames) number node packet → IsNewest w.notes.frames (record { packet = number; frame = 0 })
        → BindsNone w.notes.records → Good base topology_is time timed (one number) w
        → To w (record (with_site w (record site { controller = (injected started number packet).controller })) { notes = (injected started number packet).notes; numbers = (injected started number packet).numbers })
    inject_ends number packet come newest none good =
        let p = injected_paces 1 started number packet (omega arith) in
        let mark : Mark = record { packet = number; frame = 0 } in
        let here : HasCome (in_frames base w.notes.frames) number site.controller.node packet = subst (λ (n : NodeId). HasCome (in_frames base w.notes.frames) number n packet) (sym (node_is w node site found)) come in
        ends (injected started number packet) p.node p.ports (record {
          good = good_routes T turned started mark packet ready here newest (starts (one number) good);
          binds = inl (routes_has BindsNone NoBind (λ item fate bind. bind) (λ items item q k. push_none items item q k) fate_none started mark packet none);
        })

  -- *What is seen of a queue behind a pop* was there before
  tail_there : (x : Cell) (xs : List Cell) (y : Cell) → Contains xs y → Contains (x ∷ xs) y
  tail_there x xs y c = (suc c.0, omega (arith, c.1), c.2)

  older : (w v x : World) (place : Place) (cell : Cell) (cells : List Cell) → IsPlace base.topology place → Sets w v place cells → queue_at w place ≡ cell ∷ cells
      → IsUnlabelled base.topology v x → IsUnlabelled base.topology w x
  older w v x place cell cells is sets queue old other there =
      every_map (IsOld base.topology v other) (IsOld base.topology w other) (queue_at x other) (λ c o. by c o) (old other there)
    where
      was : (c : Cell) → Contains (queue_at v other) c → (t : Bool) → same_queue place other ≡ t → Contains (queue_at w other) c
      was c in_v true e =
          let same : place ≡ other = one_place base.topology topology_is place other is there e in
          let there_now : Contains cells c = subst (λ (q : List Cell). Contains q c) (sets.here place refl refl) (subst (λ (p : Place). Contains (queue_at v p) c) (sym same) in_v) in
          subst (λ (p : Place). Contains (queue_at w p) c) same (subst (λ (q : List Cell). Contains q c) (sym queue) (tail_there cell cells c there_now))
      was c in_v false e = subst (λ (q : List Cell). Contains q c) (sets.away other (two_places place other e)) in_v

      by : (c : Cell) → IsOld base.topology v other c → IsOld base.topology w other c
      by c (inl d) = inl d
      by c (inr in_v) = inr (was c in_v (same_queue place other) refl)

  older_ends : (w v x : World) (place : Place) (cell : Cell) (cells : List Cell) → IsPlace base.topology place → Sets w v place cells → queue_at w place ≡ cell ∷ cells → To v x → To w x
  older_ends w v x place cell cells is sets queue e = record { good = e.good; binds = by e.binds }
    where
      by : BindsNone x.notes.records ⊎ IsUnlabelled base.topology v x → BindsNone x.notes.records ⊎ IsUnlabelled base.topology w x
      by (inl none) = inl none
      by (inr old) = inr (older w v x place cell cells is sets queue old)

  module _ (w : World) (net : IsNet base.topology w) (known : IsKnownWorld base time w) (none : BindsNone w.notes.records) where
    -- *A site of a world whose cell was taken* is known still
    known_popped : (place : Place) (site : Site) (cells : List Cell) (node : NodeId) → IsKnown base time node site → IsKnown base time node (with_queue_in site place cells)
    known_popped (Down n) site cells node k = record { number = k.number; held = k.held; linked = k.linked; granted = k.granted; labels = k.labels; leads = k.leads; queues = k.queues }
    known_popped (Up n) site cells node k = record { number = k.number; held = k.held; linked = k.linked; granted = k.granted; labels = k.labels; leads = k.leads; queues = length_set site.switch.crossbar.queues 0 cells ∙ k.queues }
    known_popped (Out n p) site cells node k = record { number = k.number; held = k.held; linked = k.linked; granted = k.granted; labels = k.labels; leads = k.leads; queues = length_set site.switch.crossbar.queues p.0 cells ∙ k.queues }

    -- *A cell is lost*
    pub loses : (place : Place) → IsPlace base.topology place → Good base topology_is time timed nothing w → To w (loses_head w place (queue_at w place))
    loses place is good = by (queue_at w place) refl
      where
        s : HasSiteAt w place
        s = site_there base.topology w place net is

        by : (q : List Cell) → queue_at w place ≡ q → To w (loses_head w place q)
        by [] e = record { good = good; binds = inl none }
        by (cell ∷ cells) e =
            let p : Pops base topology_is time timed w net place cell cells s.site = pops base topology_is time timed w net place cell cells s.site is s.found e good in
            let v : World = with_site w (with_queue_in s.site place cells) in
            let gone : World = note v (Loss cell.mark Lost) in
            let lost = good_lost (turn base topology_is time timed w net place) (record { cells = cells; notes = w.notes; controls = w.numbers.controls }) cell Lost p.turned in
            subst (λ (x : World). To w (note x (Loss cell.mark Lost))) (sym (queue_is base topology_is time timed w net place s.site cells s.found)) (record {
              good = from_turn base topology_is time timed w net nothing gone place cells is (record { here = p.sets.here; away = p.sets.away; order = p.sets.order; shaped = p.sets.shaped }) refl lost;
              binds = inl (push_none w.notes.records (Loss cell.mark Lost) refl none);
            })

    -- *A cell is carried*
    carries_up : (n : NodeId) → IsPlace base.topology (Up n) → Good base topology_is time timed nothing w → (site : Site) → site_at w n ≡ Some site → (cell : Cell) (cells : List Cell) → queue_at w (Up n) ≡ cell ∷ cells
        → IsTame (arrives base.topology (with_queue w (Up n) cells) (Up n) cell).notes.records → To w (arrives base.topology (with_queue w (Up n) cells) (Up n) cell)
    carries_up n is good site found cell cells e tame =
        let new : Site = with_queue_in site (Up n) cells in
        let v : World = with_site w new in
        let p : Pops base topology_is time timed w net (Up n) cell cells site = pops base topology_is time timed w net (Up n) cell cells site is found e good in
        let there : site_at v n ≡ Some new = found_put w n site new found refl in
        let whole : arrives base.topology (with_queue w (Up n) cells) (Up n) cell ≡ controller_acts v (Some new) (λ a. takes.cell_comes a cell) =
        ap (λ (x : World). at_controller x n (λ a. takes.cell_comes a cell)) (queue_is base topology_is time timed w net (Up n) site cells found) ∙ ap (λ (o : Option Site). controller_acts v o (λ a. takes.cell_comes a cell)) there in
        subst (To w) (sym whole) (older_ends w v _ (Up n) cell cells is p.sets e
        (cell_ends v p.still n new there (known_popped (Up n) site cells n (known n site found)) cell p.good p.means none (subst (λ (x : World). IsTame x.notes.records) whole tame)))

    -- a cell comes to a switch of the world behind a pop
    crossed : (v : World) → IsNet base.topology v → (n : NodeId) (site : Site) → site_at v n ≡ Some site → IsKnown base time n site → BindsNone v.notes.records → (port : PortNo) (cell : Cell) → Good base topology_is time timed (in_hand cell) v
        → Means (in_frames base v.notes.frames) (arrives_as base.topology n (input_of port cell)) cell.header.last cell.mark
        → IsProper base.topology (arrives_as base.topology n (input_of port cell)) → To w (at_switch v n (λ a. switch.cell_comes a port cell))
    crossed v v_net n site found k silent port cell good m proper =
        let c : Crossed base topology_is time timed v v_net n site found k silent (switch.cell_comes (at_work v site) port cell) = comes_leaves base topology_is time timed v v_net n site found k silent port cell good m proper in
        subst (λ (o : Option Site). To w (switch_acts v o (λ a. switch.cell_comes a port cell))) (sym found) (record { good = c.good; binds = inl c.binds })

    carries_down : (n : NodeId) → IsPlace base.topology (Down n) → Good base topology_is time timed nothing w → (site : Site) → site_at w n ≡ Some site → (cell : Cell) (cells : List Cell) → queue_at w (Down n) ≡ cell ∷ cells
        → To w (arrives base.topology (with_queue w (Down n) cells) (Down n) cell)
    carries_down n is good site found cell cells e =
        let new : Site = with_queue_in site (Down n) cells in
        let p : Pops base topology_is time timed w net (Down n) cell cells site = pops base topology_is time timed w net (Down n) cell cells site is found e good in
        subst (λ (x : World). To w (at_switch x n (λ a. switch.cell_comes a control_port cell))) (sym (queue_is base topology_is time timed w net (Down n) site cells found))
        (crossed (with_site w new) p.still n new (found_put w n site new found refl) (known_popped (Down n) site cells n (known n site found)) none control_port cell p.good p.means p.proper)

    carries_out : (n : NodeId) (q : PortNo) → IsPlace base.topology (Out n q) → Good base topology_is time timed nothing w → (site : Site) → site_at w n ≡ Some site → (cell : Cell) (cells : List Cell) → queue_at w (Out n q) ≡ cell ∷ cells
        → To w (arrives base.topology (with_queue w (Out n q) cells) (Out n q) cell)
    carries_out n q is good site found cell cells e = by (peer_of base.topology n q) refl
      where
        new : Site
        new = with_queue_in site (Out n q) cells

        far_key : (far : LinkEnd) → 0 < far.port.0 → (far.port.0 == 0) ≡ false
        far_key far some = grind (arith, nat_tests, some)

        by : (o : Option LinkEnd) → peer_of base.topology n q ≡ o → To w (arrives_at (with_queue w (Out n q) cells) cell o)
        by None none_there = (let clash : false ≡ true = sym (ap is_some none_there) ∙ is.1 in absurd (cc clash))
        by (Some far) led =
            let p : Pops base topology_is time timed w net (Out n q) cell cells site = pops base topology_is time timed w net (Out n q) cell cells site is found e good in
            let peer : IsPeer base.topology (record { node = n; port = q }) far = peer_back base.topology topology_is (record { node = n; port = q }) far led in
            let far_site : HasSiteAt w (Down far.node) = site_there base.topology w (Down far.node) net peer.node in
            let v : World = with_site w (with_queue_in site (Out n q) cells) in
            let there : site_at v far.node ≡ Some far_site.site = other_put w n far.node site (with_queue_in site (Out n q) cells) found refl (λ same. peer.apart (sym same)) ∙ far_site.found in
            let heading : heading_at base.topology (Out n q) cell.header.channel ≡ arrives_as base.topology far.node (input_of far.port cell) =
            ap (λ (o : Option LinkEnd). let h : Heading = record { end = o; channel = cell.header.channel } in h) led
            ∙ ap (λ (b : Bool). cond b (heading_at base.topology (Down far.node) cell.header.channel) (record { end = Some far; channel = cell.header.channel })) (sym (far_key far (omega (arith, peer.port.0)))) in
            subst (λ (x : World). To w (at_switch x far.node (λ a. switch.cell_comes a far.port cell))) (sym (queue_is base topology_is time timed w net (Out n q) site cells found))
            (crossed v p.still far.node far_site.site there (known far.node far_site.site far_site.found) none far.port cell p.good
            (subst (λ (h : Heading). Means (in_frames base w.notes.frames) h cell.header.last cell.mark) heading p.means) (subst (IsProper base.topology) heading p.proper))

    pub carries : (place : Place) → IsPlace base.topology place → Good base topology_is time timed nothing w → IsTame (carries_head base.topology w place (queue_at w place)).notes.records
        → To w (carries_head base.topology w place (queue_at w place))
    carries place is good = by (queue_at w place) refl
      where
        by_place : (place : Place) → IsPlace base.topology place → (cell : Cell) (cells : List Cell) → queue_at w place ≡ cell ∷ cells → IsTame (arrives base.topology (with_queue w place cells) place cell).notes.records
            → To w (arrives base.topology (with_queue w place cells) place cell)
        by_place (Down n) is cell cells e tame = (let s = site_there base.topology w (Down n) net is in carries_down n is good s.site s.found cell cells e)
        by_place (Up n) is cell cells e tame = (let s = site_there base.topology w (Up n) net is in carries_up n is good s.site s.found cell cells e tame)
        by_place (Out n q) is cell cells e tame = (let s = site_there base.topology w (Out n q) net is in carries_out n q is good s.site s.found cell cells e)

        by : (q : List Cell) → queue_at w place ≡ q → IsTame (carries_head base.topology w place q).notes.records → To w (carries_head base.topology w place q)
        by [] e tame = record { good = good; binds = inl none }
        by (cell ∷ cells) e tame = by_place place is cell cells e tame

    -- *An actor of a node acts*
    at_node : (P : World → Type 0) (n : NodeId) (act : Acted → Acted) → IsNode base.topology n → ((site : Site) → site_at w n ≡ Some site → P (controller_acts w (Some site) act)) → P (at_controller w n act)
    at_node P n act is each = (let s = site_there base.topology w (Down n) net is in subst (λ (o : Option Site). P (controller_acts w o act)) (sym s.found) (each s.site s.found))

    at_its_switch : (P : World → Type 0) (n : NodeId) (act : switches.ActedSwitch → switches.ActedSwitch) → IsNode base.topology n → ((site : Site) → site_at w n ≡ Some site → P (switch_acts w (Some site) act)) → P (at_switch w n act)
    at_its_switch P n act is each = (let s = site_there base.topology w (Down n) net is in subst (λ (o : Option Site). P (switch_acts w o act)) (sym s.found) (each s.site s.found))

    pub ticks_at : (n : NodeId) → IsNode base.topology n → Good base topology_is time timed nothing w → To w (at_controller w n ticks)
    ticks_at n is good = at_node (To w) n ticks is (λ site found. tick_ends w net n site found (known n site found) good)

    pub restarts_at : (n : NodeId) → IsNode base.topology n → Good base topology_is time timed nothing w → To w (at_controller w n node_restarts)
    restarts_at n is good = at_node (To w) n node_restarts is (λ site found. restart_ends w net n site found (known n site found) none good)

    pub changes_at : (n : NodeId) (change : RouteChange) → IsNode base.topology n → Good base topology_is time timed nothing w → To w (at_controller w n (λ a. change_comes a change))
    changes_at n change is good = at_node (To w) n (λ a. change_comes a change) is (λ site found. change_ends w net n site found (known n site found) change none good)

    pub injects_at : (n : NodeId) (packet : List ℕ) (number : ℕ) → IsNode base.topology n → HasCome (in_frames base w.notes.frames) number n packet → IsNewest w.notes.frames (record { packet = number; frame = 0 })
        → Good base topology_is time timed (one number) w → To w (at_controller w n (λ a. injected a number packet))
    injects_at n packet number is come newest good = at_node (To w) n (λ a. injected a number packet) is (λ site found. inject_ends w net n site found (known n site found) number packet come newest none good)

    pub switch_ticks_at : (n : NodeId) → IsNode base.topology n → Good base topology_is time timed nothing w → To w (at_switch w n switch.tick_comes)
    switch_ticks_at n is good = at_its_switch (To w) n switch.tick_comes is (λ site found. (let c = tick_leaves base topology_is time timed w net n site found (known n site found) none good in record { good = c.good; binds = inl c.binds }))

    pub switch_restarts_at : (n : NodeId) → IsNode base.topology n → Good base topology_is time timed nothing w → To w (at_switch w n switch.restarted)
    switch_restarts_at n is good = at_its_switch (To w) n switch.restarted is (λ site found. (let c = restart_leaves base topology_is time timed w net n site found (known n site found) none good in record { good = c.good; binds = inl c.binds }))
