-- what an event puts into a queue of the way is what it took from the queue before, where none of that is lost

use Rattle.std.proofs.Common.{◌≡◌, ◌≢◌, ℕ, suc, ◌≤◌, ◌==◌, ◌&&◌, Bool, true, false, true≢false, List, [], ◌∷◌, ◌++◌, length, Option, None, Some, refl, sym, ◌∙◌, ap, ap₂, subst, arith, if◌then◌else◌}
use Rattle.std.specs.Prelude.{drop}
use Rattle.std.specs.Option.{option_map_or}
use Rattle.std.proofs.lemmas.List.{append_cancel_left}
use Rattle.std.proofs.lemmas.Bool.Decides.{nat_tests}
use Rattle.world_model.specs.Words.{NodeId, PortNo, Place, Down, Up, Out, Channel, End, Cell, Journal, has_entry, at, queue_of, control_port, default_channel, default_end, default_home, same_channel, on_channel_of, is_gsmp, tick_comes, restarted, Topology, World, Site, site_key, site_at, place_node, queue_at, queue_in, same_queue, with_queue, arrives_at, arrives, carries_head, put_away, next, output_at}
use Rattle.world_model.specs.Switch.{ActedSwitch}
use Rattle.world_model.specs.Conduct.{cell_comes}
use Rattle.world_model.specs.World.{at_switch}
use Rattle.world_model.specs.Topology.{peer_of}
use Rattle.world_model.specs.crossbar_model.Crossbar.{input_of, output_of}
use Rattle.world_model.specs.network_model.declared.link.LinkEnd.{LinkEnd}
use Rattle.world_model.specs.network_model.declared.event.Event.{Event}
use Rattle.world_model.specs.network_model.declared.event.Event.TheVariants.{Inject, Carry, Lose, Tick, TickSwitch, Restart, RestartSwitch, Forge, Route}
use Rattle.law_passing.specs.Reached.{switch_at, carried_to, owns}
use Rattle.law_passing.specs.telling_model.Passing.{cells_put_at, left}
use Rattle.law_passing.proofs.Queues.{waits, by_queue, one_queue, taken_is}
use Rattle.law_passing.proofs.Worlds.{change_by_passing}
use Rattle.law_live_hearing.proofs.Sites.{switching, down_notes, down_now, down_site, out_notes, out_site, queue_of_site}
use Rattle.law_live_hearing.proofs.Switching.{goes_on}
use Rattle.law_live_carries.specs.Law.{taken_at}
use Rattle.law_live_orders.specs.Law.{is_last_on, last_marks}
use Rattle.law_live_orders.specs.Slots.{IsUnlost}
use Rattle.law_live_orders.proofs.Marks.{channel_is, channel_self, marks_here, marks_there, none_more}
use Rattle.law_live_orders.proofs.Switches.{first, second, IsOther, tick_keeps, restart_keeps, cell_keeps}
use Rattle.law_live_orders.proofs.Sites.{acting, acted, marks_kept, WasThere, was_there, output_there, nine_queues}
use Rattle.law_live_orders.proofs.Hops.{AreEnds, home_not_gsmp, link_not_gsmp, numbers_apart, untaken, taken_here, unowned}
use Rattle.law_link_orders.specs.Law.{MayLead, LeavesUnlost}

zero_not : (n : ℕ) → 1 ≤ n → (0 == n) ≡ false
zero_not n some = grind (arith, nat_tests, some)

both : (p q : Bool) → p ≡ true → q ≡ true → (p && q) ≡ true
both true q e h = h
both false q e h = e

one_less : (a b : ℕ) → suc a ≡ suc b → a ≡ b
one_less a b e = omega (arith, e)

-- *Homes* are no channel of GSMP
other_at_home : (port : PortNo) → 1 ≤ port.0 → IsOther control_port (default_home port).channel
other_at_home port some e = ap (λ (b : Bool). b && true) (zero_not (default_home port).channel.vpi (omega (arith, some)))

other_at_link : (port : PortNo) (channel : Channel) → 1 ≤ port.0 → IsOther port channel
other_at_link port channel some e = absurd (omega (arith, some, e))

module _ (t : Topology) (w : World) where
  abbrev u : World
  u = put_away w

  -- *What is put*: nothing, where no cell is carried
  empty : (source place : Place) (channel : Channel) → queue_at w source ≡ [] → last_marks channel (cells_put_at t w (Carry source) place) ≡ []
  empty source place channel e = unowned t w (Carry source) place channel (ap (λ (q : List Cell). owns (carried_to t source q) place) e)

  -- or where the last cells stay as they are
  put_none : (event : Event) (place : Place) (channel : Channel) → last_marks channel (queue_at (next t w event) place) ≡ last_marks channel (left w event place) → last_marks channel (cells_put_at t w event place) ≡ []
  put_none event place channel e = none_more channel (left w event place) (cells_put_at t w event place) (ap (last_marks channel) (sym (change_by_passing t w event place)) ∙ e)

  ticked_none : (node : NodeId) (place : Place) (channel : Channel) → ((site : Site) → last_marks channel (queue_in (acted u site tick_comes) place) ≡ last_marks channel (queue_in site place))
      → last_marks channel (cells_put_at t w (TickSwitch node) place) ≡ []
  ticked_none node place channel keeps = put_none (TickSwitch node) place channel (marks_kept u node tick_comes place channel (λ site found same. keeps site))

  restarted_none : (node : NodeId) (place : Place) (channel : Channel) → ((site : Site) → last_marks channel (queue_in (acted u site restarted) place) ≡ last_marks channel (queue_in site place))
      → last_marks channel (cells_put_at t w (RestartSwitch node) place) ≡ []
  restarted_none node place channel keeps = put_none (RestartSwitch node) place channel (marks_kept u node restarted place channel (λ site found same. keeps site))

  -- a cell that goes on is put behind what waits
  put_one : (source to : Place) (c : Cell) → same_queue source to ≡ false → queue_at (next t w (Carry source)) to ≡ queue_at w to ++ c ∷ [] → cells_put_at t w (Carry source) to ≡ c ∷ []
  put_one source to c apart goes = append_cancel_left (left w (Carry source) to) (cells_put_at t w (Carry source) to) (c ∷ [])
      (sym (change_by_passing t w (Carry source) to)
      ∙ (goes ∙ ap (λ (b : Bool). (if b then drop 1 (queue_at w to) else queue_at w to) ++ c ∷ []) (sym apart)))

  -- *A cell is carried to a switch* that doesn't put it there
  module _ (source : Place) (cell : Cell) (cells : List Cell) (waiting : queue_at w source ≡ cell ∷ cells) (node : NodeId) (act : ActedSwitch → ActedSwitch) where
    abbrev v : World
    v = with_queue u source cells

    put_kept : ((to : Place) → waits (arrives t v source cell).sites to ≡ waits (at_switch v node act).sites to) → (to : Place) (channel : Channel)
        → ((site : Site) → site_at v (place_node to) ≡ Some site → node.0 ≡ (place_node to).0 → last_marks channel (queue_in (acted v site act) to) ≡ last_marks channel (queue_in site to))
        → last_marks channel (cells_put_at t w (Carry source) to) ≡ []
    put_kept arrives_is to channel keeps = put_none (Carry source) to channel
        (ap (last_marks channel) (ap (λ (q : List Cell). waits (carries_head t u source q).sites to) waiting ∙ arrives_is to)
        ∙ (marks_kept v node act to channel keeps ∙ ap (last_marks channel) (taken_is u source cell cells waiting to)))

  -- *No other branch* leads there then either
  alone_then : (node : NodeId) (input output : End) → ((other : End) → output_at w node other ≡ Some output → other ≡ input) → (source : Place) (cells : List Cell) (site : Site)
      → site_at (with_queue u source cells) node ≡ Some site → (other : End) → output_of site.switch.crossbar.branches other ≡ Some output → other ≡ input
  alone_then node input output alone source cells site found other e =
      let was : WasThere u source node site = was_there u source cells node site found in
      alone other (output_there w node other was.site was.found ∙ (ap (λ bs. output_of bs other) (sym was.branches) ∙ e))

  -- *The way*
  module _ (one far : LinkEnd) (ends : AreEnds t one far) (way : MayLead t w one far) where
    abbrev home : Channel
    home = (default_home one.port).channel

    abbrev far_home : Channel
    far_home = (default_home far.port).channel

    abbrev out : Place
    out = Out one.node one.port

    abbrev up : Place
    up = Up far.node

    abbrev down : Place
    down = Down one.node

    abbrev near : Site
    near = way.within.0.site

    abbrev there : Site
    there = way.within.1.site

    other_up : IsOther control_port far_home
    other_up = other_at_home far.port ends.far_some

    other_out : IsOther one.port default_channel
    other_out = other_at_link one.port default_channel ends.some

    near_at : (node : NodeId) → node.0 ≡ one.node.0 → site_at w node ≡ Some near
    near_at node n = subst (λ (k : ℕ). at site_key k w.sites ≡ Some near) (sym n) way.within.0.is

    -- *To the far controller* from the link
    abbrev pub HopsUp : Event → Type 0
    HopsUp event = last_marks far_home (cells_put_at t w event up) ≡ last_marks default_channel (taken_at w event out)

    -- what leads home there comes from the link
    home_then : (source : Place) (cells : List Cell) (site : Site) → site_at (with_queue u source cells) far.node ≡ Some site → (other : End)
        → output_of site.switch.crossbar.branches other ≡ Some (default_home far.port) → other ≡ default_end far.port
    home_then source cells site found other e = alone_then far.node (default_end far.port) (default_home far.port) way.home source cells site found other e

    -- none from its own controller
    up_from_down : (node : NodeId) (q : List Cell) → queue_at w (Down node) ≡ q → last_marks far_home (cells_put_at t w (Carry (Down node)) up) ≡ []
    up_from_down node [] e = empty (Down node) up far_home e
    up_from_down node (cell ∷ cells) e = put_kept (Down node) cell cells e node (λ a. cell_comes a control_port cell) (λ to. refl) up far_home
        (λ site found same. cell_keeps control_port far_home other_up (acting (with_queue u (Down node) cells) site) control_port cell
        (λ led last. (let on : 0 ≡ far.port.0 = ap (λ (x : End). x.port.0) (home_then (Down node) cells site found (input_of control_port cell) led) in
        absurd (omega (arith, ends.far_some, on)))))

    -- nor from another link
    up_from_other : (node : NodeId) (port : PortNo) (q : List Cell) → queue_at w (Out node port) ≡ q → same_queue (Out node port) out ≡ false
        → last_marks far_home (cells_put_at t w (Carry (Out node port)) up) ≡ []
    up_from_other node port [] e apart = empty (Out node port) up far_home e
    up_from_other node port (cell ∷ cells) e apart = by (peer_of t node port) refl
      where
        by : (o : Option LinkEnd) → peer_of t node port ≡ o → last_marks far_home (cells_put_at t w (Carry (Out node port)) up) ≡ []
        by None p = unowned t w (Carry (Out node port)) up far_home (ap (λ (q : List Cell). owns (carried_to t (Out node port) q) up) e ∙ ap (λ (o : Option LinkEnd). owns (switch_at o) up) p)
        by (Some end) p = put_kept (Out node port) cell cells e end.node (λ a. cell_comes a end.port cell)
            (λ to. ap (λ (o : Option LinkEnd). waits (arrives_at (with_queue u (Out node port) cells) cell o).sites to) p) up far_home
            (λ site found same. cell_keeps control_port far_home other_up (acting (with_queue u (Out node port) cells) site) end.port cell
            (λ led last. (let on : end.port.0 ≡ far.port.0 = ap (λ (x : End). x.port.0) (home_then (Out node port) cells site found (input_of end.port cell) led) in
            let is : (node.0 ≡ one.node.0) × (port.0 ≡ one.port.0) = ends.alone node port end p same on in
            not_apart is.0 is.1)))
          where
            not_apart : node.0 ≡ one.node.0 → port.0 ≡ one.port.0 → ⊥
            not_apart n p = true≢false (sym (by_queue (Out node port) out (λ a b f. f) (λ a f. absurd (a n)) (λ a b f. absurd (b (ap suc p)))) ∙ apart)

    -- each from this one
    up_from_out : (node : NodeId) (port : PortNo) (q : List Cell) → queue_at w (Out node port) ≡ q → node.0 ≡ one.node.0 → port.0 ≡ one.port.0 → same_queue (Out node port) out ≡ true
        → IsUnlost t w (Out node port) → HopsUp (Carry (Out node port))
    up_from_out node port [] e n p f unlost =
        empty (Out node port) up far_home e ∙ sym (taken_here t w (Out node port) out default_channel [] f (sym (one_queue w (Out node port) out n (ap suc p)) ∙ e))
    up_from_out node port (cell ∷ cells) e n p f unlost = by (is_last_on default_channel cell) refl
      where
        taken : last_marks default_channel (taken_at w (Carry (Out node port)) out) ≡ last_marks default_channel (cell ∷ [])
        taken = taken_here t w (Out node port) out default_channel (cell ∷ cells) f (sym (one_queue w (Out node port) out n (ap suc p)) ∙ e)

        linked : peer_of t node port ≡ Some far
        linked = ap₂ (λ (a b : ℕ). peer_of t (record { 0 = a }) (record { 0 = b })) n p ∙ way.linked

        arrived : (to : Place) → waits (arrives t (with_queue u (Out node port) cells) (Out node port) cell).sites to ≡ waits (at_switch (with_queue u (Out node port) cells) far.node (λ a. cell_comes a far.port cell)).sites to
        arrived to = ap (λ (o : Option LinkEnd). waits (arrives_at (with_queue u (Out node port) cells) cell o).sites to) linked

        apart : far.node.0 ≢ node.0
        apart same = ends.apart (same ∙ n)

        -- unlost, it goes home
        put : cell.header.channel ≡ default_channel → cells_put_at t w (Carry (Out node port)) up ≡ on_channel_of cell (default_home far.port) ∷ []
        put on =
            let queues : length there.switch.crossbar.queues ≡ 9 = nine_queues w far.node there way.shaped way.within.1.is in
            let unlost_there : has_entry (cell_comes (switching w there) far.port cell).notes.entries cell.mark ≡ false =
            ap (λ (j : Journal). has_entry j.entries cell.mark) (sym (out_notes t w node near (near_at node n) cell cells port far linked apart there way.within.1.is e)) ∙ unlost cell cells e in
            let goes : queue_of (cell_comes (switching w there) far.port cell).switch.crossbar control_port ≡ queue_of there.switch.crossbar control_port ++ on_channel_of cell (default_home far.port) ∷ [] =
            goes_on (switching w there) far.port cell (default_home far.port)
            (λ output led. way.leads.1.home output (output_there w far.node (default_end far.port) there way.within.1.is
            ∙ (ap (λ (c : Channel). output_of there.switch.crossbar.branches (record { port = far.port; channel = c })) (sym on) ∙ led)))
            (omega (arith, queues)) (link_not_gsmp far.port ends.far_some cell.header.channel) unlost_there in
            put_one (Out node port) up (on_channel_of cell (default_home far.port)) (numbers_apart (Out node port) up (λ same. absurd (omega (arith, same, p, ends.some))))
            (ap (λ (o : Option Site). option_map_or (λ s. queue_in s up) o []) (out_site t w node near (near_at node n) cell cells port far linked apart there way.within.1.is e)
            ∙ (goes ∙ ap (λ (q : List Cell). q ++ on_channel_of cell (default_home far.port) ∷ []) (sym (queue_of_site w far.node there up way.within.1.is))))

        by : (b : Bool) → is_last_on default_channel cell ≡ b → HopsUp (Carry (Out node port))
        by false last = put_kept (Out node port) cell cells e far.node (λ a. cell_comes a far.port cell) arrived up far_home
            (λ site found same. cell_keeps control_port far_home other_up (acting (with_queue u (Out node port) cells) site) far.port cell
            (λ led ends_it. (let on : cell.header.channel ≡ default_channel = ap (λ (x : End). x.channel) (home_then (Out node port) cells site found (input_of far.port cell) led) in
            true≢false (sym (both cell.header.last (same_channel cell.header.channel default_channel) ends_it (ap (λ (c : Channel). same_channel c default_channel) on)) ∙ last))))
            ∙ sym (taken ∙ marks_there default_channel cell [] last)
        by true last =
            ap (last_marks far_home) (put (channel_is cell.header.channel default_channel (second cell.header.last (same_channel cell.header.channel default_channel) last)))
            ∙ (marks_here far_home (on_channel_of cell (default_home far.port)) [] (both cell.header.last (same_channel far_home far_home) (first cell.header.last (same_channel cell.header.channel default_channel) last) (channel_self far_home))
            ∙ sym (taken ∙ marks_here default_channel cell [] last))

    up_from_link : (node : NodeId) (port : PortNo) → (node.0 ≡ one.node.0 → port.0 ≡ one.port.0 → IsUnlost t w (Out node port)) → HopsUp (Carry (Out node port))
    up_from_link node port unlost = by_queue (Out node port) out
        (λ n number f. up_from_out node port (queue_at w (Out node port)) refl n (one_less port.0 one.port.0 number) f (unlost n (one_less port.0 one.port.0 number)))
        (λ n f. up_from_other node port (queue_at w (Out node port)) refl f ∙ sym (untaken t w (Out node port) out default_channel f))
        (λ n number f. up_from_other node port (queue_at w (Out node port)) refl f ∙ sym (untaken t w (Out node port) out default_channel f))

    carried_by_controller : (node other : NodeId) (q : List Cell) → owns (carried_to t (Up node) q) (Up other) ≡ false
    carried_by_controller node other [] = refl
    carried_by_controller node other (cell ∷ cells) = refl

    carried_by_controller_out : (node other : NodeId) (port : PortNo) (q : List Cell) → owns (carried_to t (Up node) q) (Out other port) ≡ false
    carried_by_controller_out node other port [] = refl
    carried_by_controller_out node other port (cell ∷ cells) = refl

    pub hops_up : (event : Event) → LeavesUnlost t w one event → HopsUp event
    hops_up (Inject node octets) none = unowned t w (Inject node octets) up far_home refl
    hops_up (Carry (Down node)) none = up_from_down node (queue_at w (Down node)) refl ∙ sym (untaken t w (Down node) out default_channel (numbers_apart (Down node) out (λ e. absurd (omega (arith, e)))))
    hops_up (Carry (Up node)) none = unowned t w (Carry (Up node)) up far_home (carried_by_controller node far.node (queue_at w (Up node)))
        ∙ sym (untaken t w (Up node) out default_channel (numbers_apart (Up node) out (λ e. absurd (omega (arith, e, ends.some)))))
    hops_up (Carry (Out node port)) none = up_from_link node port none
    hops_up (Lose place) none = absurd none
    hops_up (Tick node) none = unowned t w (Tick node) up far_home refl
    hops_up (TickSwitch node) none = ticked_none node up far_home (λ site. tick_keeps control_port far_home other_up (acting u site))
    hops_up (Restart node) none = unowned t w (Restart node) up far_home refl
    hops_up (RestartSwitch node) none = restarted_none node up far_home (λ site. restart_keeps control_port far_home other_up (acting u site))
    hops_up (Forge place channel payload) none = absurd none
    hops_up (Route node change) none = unowned t w (Route node change) up far_home refl

    -- *To the link* from the near controller
    abbrev pub HopsOut : Event → Type 0
    HopsOut event = last_marks default_channel (cells_put_at t w event out) ≡ last_marks home (taken_at w event down)

    -- what leads out there comes from home
    out_then : (source : Place) (cells : List Cell) (site : Site) → site_at (with_queue u source cells) one.node ≡ Some site → (other : End)
        → output_of site.switch.crossbar.branches other ≡ Some (default_end one.port) → other ≡ default_home one.port
    out_then source cells site found other e = alone_then one.node (default_home one.port) (default_end one.port) way.out source cells site found other e

    -- none from a link
    out_from_link : (node : NodeId) (port : PortNo) (q : List Cell) → queue_at w (Out node port) ≡ q → last_marks default_channel (cells_put_at t w (Carry (Out node port)) out) ≡ []
    out_from_link node port [] e = empty (Out node port) out default_channel e
    out_from_link node port (cell ∷ cells) e = by (peer_of t node port) refl
      where
        by : (o : Option LinkEnd) → peer_of t node port ≡ o → last_marks default_channel (cells_put_at t w (Carry (Out node port)) out) ≡ []
        by None p = unowned t w (Carry (Out node port)) out default_channel (ap (λ (q : List Cell). owns (carried_to t (Out node port) q) out) e ∙ ap (λ (o : Option LinkEnd). owns (switch_at o) out) p)
        by (Some end) p = put_kept (Out node port) cell cells e end.node (λ a. cell_comes a end.port cell)
            (λ to. ap (λ (o : Option LinkEnd). waits (arrives_at (with_queue u (Out node port) cells) cell o).sites to) p) out default_channel
            (λ site found same. cell_keeps one.port default_channel other_out (acting (with_queue u (Out node port) cells) site) end.port cell
            (λ led last. (let on : end.port.0 ≡ 0 = ap (λ (x : End). x.port.0) (out_then (Out node port) cells site found (input_of end.port cell) led) in
            absurd (omega (arith, (ends.numbered node port end p).1, on)))))

    -- nor from another controller
    out_from_other : (node : NodeId) (q : List Cell) → queue_at w (Down node) ≡ q → node.0 ≢ one.node.0 → last_marks default_channel (cells_put_at t w (Carry (Down node)) out) ≡ []
    out_from_other node [] e apart = empty (Down node) out default_channel e
    out_from_other node (cell ∷ cells) e apart =
        put_kept (Down node) cell cells e node (λ a. cell_comes a control_port cell) (λ to. refl) out default_channel (λ site found same. absurd (apart same))

    -- each from this one
    out_from_down : (node : NodeId) (q : List Cell) → queue_at w (Down node) ≡ q → node.0 ≡ one.node.0 → same_queue (Down node) down ≡ true → IsUnlost t w (Down node) → HopsOut (Carry (Down node))
    out_from_down node [] e n f unlost = empty (Down node) out default_channel e ∙ sym (taken_here t w (Down node) down home [] f (sym (one_queue w (Down node) down n refl) ∙ e))
    out_from_down node (cell ∷ cells) e n f unlost = by (is_last_on home cell) refl
      where
        taken : last_marks home (taken_at w (Carry (Down node)) down) ≡ last_marks home (cell ∷ [])
        taken = taken_here t w (Down node) down home (cell ∷ cells) f (sym (one_queue w (Down node) down n refl) ∙ e)

        -- unlost, it goes out
        put : cell.header.channel ≡ home → cells_put_at t w (Carry (Down node)) out ≡ on_channel_of cell (default_end one.port) ∷ []
        put on =
            let queues : length near.switch.crossbar.queues ≡ 9 = nine_queues w one.node near way.shaped way.within.0.is in
            let unlost_near : has_entry (cell_comes (switching w near) control_port cell).notes.entries cell.mark ≡ false =
            ap (λ (j : Journal). has_entry j.entries cell.mark) (sym (down_notes t w node near (near_at node n) cell cells e)) ∙ unlost cell cells e in
            let goes : queue_of (cell_comes (switching w near) control_port cell).switch.crossbar one.port ≡ queue_of near.switch.crossbar one.port ++ on_channel_of cell (default_end one.port) ∷ [] =
            goes_on (switching w near) control_port cell (default_end one.port)
            (λ output led. way.leads.0.out output (output_there w one.node (default_home one.port) near way.within.0.is
            ∙ (ap (λ (c : Channel). output_of near.switch.crossbar.branches (record { port = control_port; channel = c })) (sym on) ∙ led)))
            (omega (arith, queues, ends.most)) (ap (is_gsmp control_port) on ∙ home_not_gsmp one.port ends.some) unlost_near in
            put_one (Down node) out (on_channel_of cell (default_end one.port)) (numbers_apart (Down node) out (λ same. absurd (omega (arith, same))))
            (ap (λ (o : Option Site). option_map_or (λ s. queue_in s out) o [])
            (subst (λ (k : ℕ). at site_key k (next t w (Carry (Down node))).sites ≡ Some (down_now t w node near (near_at node n) cell cells)) n (down_site t w node near (near_at node n) cell cells e))
            ∙ (goes ∙ ap (λ (q : List Cell). q ++ on_channel_of cell (default_end one.port) ∷ []) (sym (queue_of_site w one.node near out way.within.0.is))))

        by : (b : Bool) → is_last_on home cell ≡ b → HopsOut (Carry (Down node))
        by false last = put_kept (Down node) cell cells e node (λ a. cell_comes a control_port cell) (λ to. refl) out default_channel
            (λ site found same. cell_keeps one.port default_channel other_out (acting (with_queue u (Down node) cells) site) control_port cell
            (λ led ends_it. (let on : cell.header.channel ≡ home = ap (λ (x : End). x.channel) (out_then (Down node) cells site found (input_of control_port cell) led) in
            true≢false (sym (both cell.header.last (same_channel cell.header.channel home) ends_it (ap (λ (c : Channel). same_channel c home) on ∙ channel_self home)) ∙ last))))
            ∙ sym (taken ∙ marks_there home cell [] last)
        by true last =
            ap (last_marks default_channel) (put (channel_is cell.header.channel home (second cell.header.last (same_channel cell.header.channel home) last)))
            ∙ (marks_here default_channel (on_channel_of cell (default_end one.port)) [] (both cell.header.last true (first cell.header.last (same_channel cell.header.channel home) last) refl)
            ∙ sym (taken ∙ marks_here home cell [] last))

    out_from_controller : (node : NodeId) → (node.0 ≡ one.node.0 → IsUnlost t w (Down node)) → HopsOut (Carry (Down node))
    out_from_controller node unlost = by_queue (Down node) down
        (λ n number f. out_from_down node (queue_at w (Down node)) refl n f (unlost n))
        (λ n f. out_from_other node (queue_at w (Down node)) refl n ∙ sym (untaken t w (Down node) down home f))
        (λ n number f. absurd (number refl))

    pub hops_out : (event : Event) → LeavesUnlost t w one event → HopsOut event
    hops_out (Inject node octets) none = unowned t w (Inject node octets) out default_channel refl
    hops_out (Carry (Down node)) none = out_from_controller node none
    hops_out (Carry (Up node)) none = unowned t w (Carry (Up node)) out default_channel (carried_by_controller_out node one.node one.port (queue_at w (Up node)))
        ∙ sym (untaken t w (Up node) down home (numbers_apart (Up node) down (λ e. absurd (omega (arith, e)))))
    hops_out (Carry (Out node port)) none = out_from_link node port (queue_at w (Out node port)) refl
        ∙ sym (untaken t w (Out node port) down home (numbers_apart (Out node port) down (λ e. absurd (omega (arith, e)))))
    hops_out (Lose place) none = absurd none
    hops_out (Tick node) none = unowned t w (Tick node) out default_channel refl
    hops_out (TickSwitch node) none = ticked_none node out default_channel (λ site. tick_keeps one.port default_channel other_out (acting u site))
    hops_out (Restart node) none = unowned t w (Restart node) out default_channel refl
    hops_out (RestartSwitch node) none = restarted_none node out default_channel (λ site. restart_keeps one.port default_channel other_out (acting u site))
    hops_out (Forge place channel payload) none = absurd none
    hops_out (Route node change) none = unowned t w (Route node change) out default_channel refl
