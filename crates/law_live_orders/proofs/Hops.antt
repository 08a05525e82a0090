-- what an event puts into a queue of the way is what it took from the queue before

use Rattle.std.proofs.Common.{◌≡◌, ◌≢◌, ℕ, suc, ◌≤◌, ◌==◌, ◌&&◌, Bool, true, false, true≢false, List, [], ◌∷◌, ◌++◌, take, length, Option, None, Some, nat_lt, refl, sym, ◌∙◌, ap, ap₂, subst, arith, if◌then◌else◌}
use Rattle.std.specs.Option.{option_map_or}
use Rattle.std.proofs.lemmas.List.{append_cancel_left}
use Rattle.std.proofs.lemmas.Bool.Decides.{nat_tests}
use Rattle.world_model.specs.Words.{NodeId, PortNo, Place, Down, Up, Out, Channel, End, Cell, control_port, default_channel, default_end, default_home, same_channel, on_channel_of, is_gsmp, tick_comes, restarted, Topology, World, Site, site_at, place_node, queue_at, queue_in, queue_number, same_queue, with_queue, arrives_at, arrives, carries_head, put_away, next, OfSwitch, has_slot, IsShaped, IsNode}
use Rattle.world_model.specs.Switch.{Switch, ActedSwitch, free_slots}
use Rattle.world_model.specs.Conduct.{cell_comes}
use Rattle.world_model.specs.World.{at_switch}
use Rattle.world_model.specs.Topology.{peer_of}
use Rattle.world_model.specs.crossbar_model.Crossbar.{input_of, output_of}
use Rattle.world_model.specs.network_model.declared.link.LinkEnd.{LinkEnd}
use Rattle.world_model.specs.network_model.declared.event.Event.{Event}
use Rattle.world_model.specs.network_model.declared.event.Event.TheVariants.{Inject, Carry, Lose, Tick, TickSwitch, Restart, RestartSwitch, Forge, Route}
use Rattle.law_passing.specs.Reached.{switch_at, carried_to, reached, owns}
use Rattle.law_passing.specs.telling_model.Passing.{cells_put_at, left}
use Rattle.law_passing.proofs.Queues.{waits, by_queue, one_queue, taken_is}
use Rattle.law_passing.proofs.Worlds.{change_by_passing, of_the_actor}
use Rattle.law_live_carries.specs.Law.{taken_at}
use Rattle.law_live_orders.specs.Law.{is_last_on, last_marks, LeadsAlone, IsOpenWay, HasSlotFor, LosesNone}
use Rattle.law_live_orders.proofs.Marks.{channel_is, channel_self, marks_here, marks_there, none_more}
use Rattle.law_live_orders.proofs.Switches.{first, second, IsOther, tick_keeps, restart_keeps, cell_keeps, cell_goes}
use Rattle.law_live_orders.proofs.Sites.{acting, acted, marks_kept, queue_now, IsAway, WasThere, was_there, IsThere, still_there, leads_there, output_there, nine_queues}

-- *Two ends of a link*
pub record AreEnds (t : Topology) (one far : LinkEnd) : Type 0 where
  pub some : 1 ≤ one.port.0
  pub most : one.port.0 ≤ 8
  pub far_some : 1 ≤ far.port.0
  pub apart : far.node.0 ≢ one.node.0
  pub within : IsNode t one.node
  pub far_within : IsNode t far.node
  pub numbered : (node : NodeId) (port : PortNo) (end : LinkEnd) → peer_of t node port ≡ Some end → (1 ≤ port.0) × (1 ≤ end.port.0)
  pub alone : (node : NodeId) (port : PortNo) (end : LinkEnd) → peer_of t node port ≡ Some end → end.node.0 ≡ far.node.0 → end.port.0 ≡ far.port.0
      → (node.0 ≡ one.node.0) × (port.0 ≡ one.port.0)

zero_not : (n : ℕ) → 1 ≤ n → (0 == n) ≡ false
zero_not n some = grind (arith, nat_tests, some)

not_zero : (n : ℕ) → 1 ≤ n → (n == 0) ≡ false
not_zero n some = grind (arith, nat_tests, some)

both : (p q : Bool) → p ≡ true → q ≡ true → (p && q) ≡ true
both true q e h = h
both false q e h = e

-- *Homes* are no channel of GSMP
other_at_home : (port : PortNo) → 1 ≤ port.0 → IsOther control_port (default_home port).channel
other_at_home port some e = ap (λ (b : Bool). b && true) (zero_not (default_home port).channel.vpi (omega (arith, some)))

other_at_link : (port : PortNo) (channel : Channel) → 1 ≤ port.0 → IsOther port channel
other_at_link port channel some e = absurd (omega (arith, some, e))

pub home_not_gsmp : (port : PortNo) → 1 ≤ port.0 → is_gsmp control_port (default_home port).channel ≡ false
home_not_gsmp port some = ap (λ (b : Bool). b && true) (not_zero (default_home port).channel.vpi (omega (arith, some)))

pub link_not_gsmp : (port : PortNo) → 1 ≤ port.0 → (channel : Channel) → is_gsmp port channel ≡ false
link_not_gsmp port some channel = ap (λ (b : Bool). b && ((channel.vpi == 0) && (channel.vci == 15))) (not_zero port.0 some)

-- *Queues that aren't one*
pub numbers_apart : (p q : Place) → queue_number p ≢ queue_number q → same_queue p q ≡ false
numbers_apart p q apart = by_queue p q (λ node number t. absurd (apart number)) (λ node t. t) (λ node number t. t)

pub nodes_apart : (p q : Place) → (place_node p).0 ≢ (place_node q).0 → same_queue p q ≡ false
nodes_apart p q apart = by_queue p q (λ node number t. absurd (apart node)) (λ node t. t) (λ node number t. absurd (apart node))

one_less : (a b : ℕ) → suc a ≡ suc b → a ≡ b
one_less a b e = omega (arith, e)

module _ (t : Topology) (w : World) where
  abbrev u : World
  u = put_away w

  -- *What is taken*
  pub untaken : (source place : Place) (channel : Channel) → same_queue source place ≡ false → last_marks channel (taken_at w (Carry source) place) ≡ []
  untaken source place channel e = ap (λ (b : Bool). last_marks channel (if b then take 1 (queue_at w place) else [])) e

  pub taken_here : (source place : Place) (channel : Channel) (q : List Cell) → same_queue source place ≡ true → queue_at w place ≡ q → last_marks channel (taken_at w (Carry source) place) ≡ last_marks channel (take 1 q)
  taken_here source place channel q e is = ap (λ (b : Bool). last_marks channel (if b then take 1 (queue_at w place) else [])) e ∙ ap (λ (cs : List Cell). last_marks channel (take 1 cs)) is

  -- *What is put* into queues of others is nothing
  pub unowned : (event : Event) (place : Place) (channel : Channel) → owns (reached t w event) place ≡ false → last_marks channel (cells_put_at t w event place) ≡ []
  unowned event place channel e = ap (last_marks channel) (of_the_actor t w event place e)

  empty : (source place : Place) (channel : Channel) → queue_at w source ≡ [] → last_marks channel (cells_put_at t w (Carry source) place) ≡ []
  empty source place channel e = unowned (Carry source) place channel (ap (λ (q : List Cell). owns (carried_to t source q) place) e)

  -- and so it is of the channel where its last cells stay as they are
  put_none : (event : Event) (place : Place) (channel : Channel) → last_marks channel (queue_at (next t w event) place) ≡ last_marks channel (left w event place) → last_marks channel (cells_put_at t w event place) ≡ []
  put_none event place channel e = none_more channel (left w event place) (cells_put_at t w event place) (ap (last_marks channel) (sym (change_by_passing t w event place)) ∙ e)

  ticked_none : (node : NodeId) (place : Place) (channel : Channel) → ((site : Site) → last_marks channel (queue_in (acted u site tick_comes) place) ≡ last_marks channel (queue_in site place))
      → last_marks channel (cells_put_at t w (TickSwitch node) place) ≡ []
  ticked_none node place channel keeps = put_none (TickSwitch node) place channel (marks_kept u node tick_comes place channel (λ site found same. keeps site))

  restarted_none : (node : NodeId) (place : Place) (channel : Channel) → ((site : Site) → last_marks channel (queue_in (acted u site restarted) place) ≡ last_marks channel (queue_in site place))
      → last_marks channel (cells_put_at t w (RestartSwitch node) place) ≡ []
  restarted_none node place channel keeps = put_none (RestartSwitch node) place channel (marks_kept u node restarted place channel (λ site found same. keeps site))

  -- *A cell is carried to a switch*
  module _ (source : Place) (cell : Cell) (cells : List Cell) (waiting : queue_at w source ≡ cell ∷ cells) (node : NodeId) (act : ActedSwitch → ActedSwitch) where
    abbrev v : World
    v = with_queue u source cells

    module _ (arrives_is : (to : Place) → waits (arrives t v source cell).sites to ≡ waits (at_switch v node act).sites to) where
      queue_next : (to : Place) → queue_at (next t w (Carry source)) to ≡ waits (at_switch v node act).sites to
      queue_next to = ap (λ (q : List Cell). waits (carries_head t u source q).sites to) waiting ∙ arrives_is to

      put_kept : (to : Place) (channel : Channel) → ((site : Site) → site_at v (place_node to) ≡ Some site → node.0 ≡ (place_node to).0
          → last_marks channel (queue_in (acted v site act) to) ≡ last_marks channel (queue_in site to))
          → last_marks channel (cells_put_at t w (Carry source) to) ≡ []
      put_kept to channel keeps = put_none (Carry source) to channel
          (ap (last_marks channel) (queue_next to) ∙ (marks_kept v node act to channel keeps ∙ ap (last_marks channel) (taken_is u source cell cells waiting to)))

      put_one : (to : Place) (site : Site) → site_at v (place_node to) ≡ Some site → node.0 ≡ (place_node to).0 → (c : Cell)
          → queue_in (acted v site act) to ≡ queue_in site to ++ c ∷ [] → cells_put_at t w (Carry source) to ≡ c ∷ []
      put_one to site found same c goes = append_cancel_left (left w (Carry source) to) (cells_put_at t w (Carry source) to) (c ∷ [])
          (sym (change_by_passing t w (Carry source) to) ∙ (queue_next to ∙ (queue_now v node act to site found same ∙ (goes
          ∙ ap (λ (q : List Cell). q ++ c ∷ []) (sym (ap (λ (o : Option Site). option_map_or (λ s. queue_in s to) o []) found) ∙ taken_is u source cell cells waiting to)))))

  -- *A branch* leads there then too
  module _ (node : NodeId) (input output : End) (lead : LeadsAlone w node input output) (source : Place) (cells : List Cell) where
    pub there : IsThere (with_queue u source cells) node
    there = (let is : IsThere w node = leads_there w node input output lead.leads in still_there u source cells node (record { site = is.site; found = is.found }))

    module _ (site : Site) (found : site_at (with_queue u source cells) node ≡ Some site) where
      was : WasThere u source node site
      was = was_there u source cells node site found

      pub alone_then : (i : End) → output_of site.switch.crossbar.branches i ≡ Some output → i ≡ input
      alone_then i e = lead.alone i (output_there w node i was.site was.found ∙ (ap (λ bs. output_of bs i) (sym was.branches) ∙ e))

      pub leads_then : output_of site.switch.crossbar.branches input ≡ Some output
      leads_then = ap (λ bs. output_of bs input) was.branches ∙ (sym (output_there w node input was.site was.found) ∙ lead.leads)

      pub slot_then : IsAway source node → has_slot w (OfSwitch node) ≡ true → nat_lt 0 (free_slots site.switch) ≡ true
      slot_then away slot = ap (λ (s : Switch). nat_lt 0 (free_slots s)) (was.same away)
          ∙ (sym (ap (λ (o : Option Site). option_map_or (λ s. nat_lt 0 (free_slots s.switch)) o false) was.found) ∙ slot)

      pub size_then : IsShaped w → length site.switch.crossbar.queues ≡ 9
      size_then shaped = was.size ∙ nine_queues w node was.site shaped was.found

  -- *The way*
  module _ (one far : LinkEnd) (ends : AreEnds t one far) (way : IsOpenWay t w one far) where
    abbrev home : Channel
    home = (default_home one.port).channel

    abbrev far_home : Channel
    far_home = (default_home far.port).channel

    abbrev out : Place
    out = Out one.node one.port

    abbrev up : Place
    up = Up far.node

    abbrev down : Place
    down = Down one.node

    other_up : IsOther control_port far_home
    other_up = other_at_home far.port ends.far_some

    other_out : IsOther one.port default_channel
    other_out = other_at_link one.port default_channel ends.some

    -- *To the far controller* from the link
    abbrev pub HopsUp : Event → Type 0
    HopsUp event = last_marks far_home (cells_put_at t w event up) ≡ last_marks default_channel (taken_at w event out)

    -- none from its own controller
    up_from_down : (node : NodeId) (q : List Cell) → queue_at w (Down node) ≡ q → last_marks far_home (cells_put_at t w (Carry (Down node)) up) ≡ []
    up_from_down node [] e = empty (Down node) up far_home e
    up_from_down node (cell ∷ cells) e = put_kept (Down node) cell cells e node (λ a. cell_comes a control_port cell) (λ to. refl) up far_home
        (λ site found same. cell_keeps control_port far_home other_up (acting (with_queue u (Down node) cells) site) control_port cell
        (λ leads last. (let at : 0 ≡ far.port.0 = ap (λ (x : End). x.port.0) (alone_then far.node (default_end far.port) (default_home far.port) way.home (Down node) cells site found (input_of control_port cell) leads) in
        absurd (omega (arith, ends.far_some, at)))))

    -- nor from another link
    up_from_other : (node : NodeId) (port : PortNo) (q : List Cell) → queue_at w (Out node port) ≡ q → same_queue (Out node port) out ≡ false
        → last_marks far_home (cells_put_at t w (Carry (Out node port)) up) ≡ []
    up_from_other node port [] e apart = empty (Out node port) up far_home e
    up_from_other node port (cell ∷ cells) e apart = by (peer_of t node port) refl
      where
        by : (o : Option LinkEnd) → peer_of t node port ≡ o → last_marks far_home (cells_put_at t w (Carry (Out node port)) up) ≡ []
        by None p = unowned (Carry (Out node port)) up far_home (ap (λ (q : List Cell). owns (carried_to t (Out node port) q) up) e ∙ ap (λ (o : Option LinkEnd). owns (switch_at o) up) p)
        by (Some end) p = put_kept (Out node port) cell cells e end.node (λ a. cell_comes a end.port cell)
            (λ to. ap (λ (o : Option LinkEnd). waits (arrives_at (with_queue u (Out node port) cells) cell o).sites to) p) up far_home
            (λ site found same. cell_keeps control_port far_home other_up (acting (with_queue u (Out node port) cells) site) end.port cell
            (λ leads last. (let at : end.port.0 ≡ far.port.0 = ap (λ (x : End). x.port.0) (alone_then far.node (default_end far.port) (default_home far.port) way.home (Out node port) cells site found (input_of end.port cell) leads) in
            let is : (node.0 ≡ one.node.0) × (port.0 ≡ one.port.0) = ends.alone node port end p same at in
            not_apart is.0 is.1)))
          where
            not_apart : node.0 ≡ one.node.0 → port.0 ≡ one.port.0 → ⊥
            not_apart n p = true≢false (sym (by_queue (Out node port) out (λ a b f. f) (λ a f. absurd (a n)) (λ a b f. absurd (b (ap suc p)))) ∙ apart)

    -- each from this one
    up_from_out : (node : NodeId) (port : PortNo) (q : List Cell) → queue_at w (Out node port) ≡ q → node.0 ≡ one.node.0 → port.0 ≡ one.port.0 → same_queue (Out node port) out ≡ true
        → HasSlotFor w far.node default_channel q → HopsUp (Carry (Out node port))
    up_from_out node port [] e n p f slot =
        empty (Out node port) up far_home e ∙ sym (taken_here (Out node port) out default_channel [] f (sym (one_queue w (Out node port) out n (ap suc p)) ∙ e))
    up_from_out node port (cell ∷ cells) e n p f slot = by (is_last_on default_channel cell) refl
      where
        taken : last_marks default_channel (taken_at w (Carry (Out node port)) out) ≡ last_marks default_channel (cell ∷ [])
        taken = taken_here (Out node port) out default_channel (cell ∷ cells) f (sym (one_queue w (Out node port) out n (ap suc p)) ∙ e)

        linked : peer_of t node port ≡ Some far
        linked = ap₂ (λ (a b : ℕ). peer_of t (record { 0 = a }) (record { 0 = b })) n p ∙ way.linked

        arrived : (to : Place) → waits (arrives t (with_queue u (Out node port) cells) (Out node port) cell).sites to ≡ waits (at_switch (with_queue u (Out node port) cells) far.node (λ a. cell_comes a far.port cell)).sites to
        arrived to = ap (λ (o : Option LinkEnd). waits (arrives_at (with_queue u (Out node port) cells) cell o).sites to) linked

        by : (b : Bool) → is_last_on default_channel cell ≡ b → HopsUp (Carry (Out node port))
        by false last = put_kept (Out node port) cell cells e far.node (λ a. cell_comes a far.port cell) arrived up far_home
            (λ site found same. cell_keeps control_port far_home other_up (acting (with_queue u (Out node port) cells) site) far.port cell
            (λ leads ends_it. (let at : cell.header.channel ≡ default_channel = ap (λ (x : End). x.channel) (alone_then far.node (default_end far.port) (default_home far.port) way.home (Out node port) cells site found (input_of far.port cell) leads) in
            true≢false (sym (both cell.header.last (same_channel cell.header.channel default_channel) ends_it (ap (λ (c : Channel). same_channel c default_channel) at)) ∙ last))))
            ∙ sym (taken ∙ marks_there default_channel cell [] last)
        by true last =
            let on : cell.header.channel ≡ default_channel = channel_is cell.header.channel default_channel (second cell.header.last (same_channel cell.header.channel default_channel) last) in
            let s : IsThere (with_queue u (Out node port) cells) far.node = there far.node (default_end far.port) (default_home far.port) way.home (Out node port) cells in
            let queues : length s.site.switch.crossbar.queues ≡ 9 = size_then far.node (default_end far.port) (default_home far.port) way.home (Out node port) cells s.site s.found way.shaped in
            let put : cells_put_at t w (Carry (Out node port)) up ≡ on_channel_of cell (default_home far.port) ∷ [] =
            put_one (Out node port) cell cells e far.node (λ a. cell_comes a far.port cell) arrived up s.site s.found refl (on_channel_of cell (default_home far.port))
            (cell_goes (acting (with_queue u (Out node port) cells) s.site) far.port cell (default_home far.port)
            (ap (λ (c : Channel). output_of s.site.switch.crossbar.branches (record { port = far.port; channel = c })) on
            ∙ leads_then far.node (default_end far.port) (default_home far.port) way.home (Out node port) cells s.site s.found)
            (omega (arith, queues))
            (slot_then far.node (default_end far.port) (default_home far.port) way.home (Out node port) cells s.site s.found (λ same. ends.apart (sym same ∙ n)) (slot last))
            (link_not_gsmp far.port ends.far_some cell.header.channel)) in
            ap (last_marks far_home) put
            ∙ (marks_here far_home (on_channel_of cell (default_home far.port)) [] (both cell.header.last (same_channel far_home far_home) (first cell.header.last (same_channel cell.header.channel default_channel) last) (channel_self far_home))
            ∙ sym (taken ∙ marks_here default_channel cell [] last))

    up_from_link : (node : NodeId) (port : PortNo) → (node.0 ≡ one.node.0 → port.0 ≡ one.port.0 → HasSlotFor w far.node default_channel (queue_at w out)) → HopsUp (Carry (Out node port))
    up_from_link node port slot = by_queue (Out node port) out
        (λ n number f. up_from_out node port (queue_at w (Out node port)) refl n (one_less port.0 one.port.0 number) f
        (subst (HasSlotFor w far.node default_channel) (sym (one_queue w (Out node port) out n number)) (slot n (one_less port.0 one.port.0 number))))
        (λ n f. up_from_other node port (queue_at w (Out node port)) refl f ∙ sym (untaken (Out node port) out default_channel f))
        (λ n number f. up_from_other node port (queue_at w (Out node port)) refl f ∙ sym (untaken (Out node port) out default_channel f))

    carried_by_controller : (node other : NodeId) (q : List Cell) → owns (carried_to t (Up node) q) (Up other) ≡ false
    carried_by_controller node other [] = refl
    carried_by_controller node other (cell ∷ cells) = refl

    carried_by_controller_out : (node other : NodeId) (port : PortNo) (q : List Cell) → owns (carried_to t (Up node) q) (Out other port) ≡ false
    carried_by_controller_out node other port [] = refl
    carried_by_controller_out node other port (cell ∷ cells) = refl

    pub hops_up : (event : Event) → LosesNone t w one far event → HopsUp event
    hops_up (Inject node octets) none = unowned (Inject node octets) up far_home refl
    hops_up (Carry (Down node)) none = up_from_down node (queue_at w (Down node)) refl ∙ sym (untaken (Down node) out default_channel (numbers_apart (Down node) out (λ e. absurd (omega (arith, e)))))
    hops_up (Carry (Up node)) none = unowned (Carry (Up node)) up far_home (carried_by_controller node far.node (queue_at w (Up node)))
        ∙ sym (untaken (Up node) out default_channel (numbers_apart (Up node) out (λ e. absurd (omega (arith, e, ends.some)))))
    hops_up (Carry (Out node port)) none = up_from_link node port none.1
    hops_up (Lose place) none = absurd none
    hops_up (Tick node) none = unowned (Tick node) up far_home refl
    hops_up (TickSwitch node) none = ticked_none node up far_home (λ site. tick_keeps control_port far_home other_up (acting u site))
    hops_up (Restart node) none = unowned (Restart node) up far_home refl
    hops_up (RestartSwitch node) none = restarted_none node up far_home (λ site. restart_keeps control_port far_home other_up (acting u site))
    hops_up (Forge place channel payload) none = absurd none
    hops_up (Route node change) none = unowned (Route node change) up far_home refl

    -- *To the link* from the near controller
    abbrev pub HopsOut : Event → Type 0
    HopsOut event = last_marks default_channel (cells_put_at t w event out) ≡ last_marks home (taken_at w event down)

    -- none from a link
    out_from_link : (node : NodeId) (port : PortNo) (q : List Cell) → queue_at w (Out node port) ≡ q → last_marks default_channel (cells_put_at t w (Carry (Out node port)) out) ≡ []
    out_from_link node port [] e = empty (Out node port) out default_channel e
    out_from_link node port (cell ∷ cells) e = by (peer_of t node port) refl
      where
        by : (o : Option LinkEnd) → peer_of t node port ≡ o → last_marks default_channel (cells_put_at t w (Carry (Out node port)) out) ≡ []
        by None p = unowned (Carry (Out node port)) out default_channel (ap (λ (q : List Cell). owns (carried_to t (Out node port) q) out) e ∙ ap (λ (o : Option LinkEnd). owns (switch_at o) out) p)
        by (Some end) p = put_kept (Out node port) cell cells e end.node (λ a. cell_comes a end.port cell)
            (λ to. ap (λ (o : Option LinkEnd). waits (arrives_at (with_queue u (Out node port) cells) cell o).sites to) p) out default_channel
            (λ site found same. cell_keeps one.port default_channel other_out (acting (with_queue u (Out node port) cells) site) end.port cell
            (λ leads last. (let at : end.port.0 ≡ 0 = ap (λ (x : End). x.port.0) (alone_then one.node (default_home one.port) (default_end one.port) way.out (Out node port) cells site found (input_of end.port cell) leads) in
            absurd (omega (arith, (ends.numbered node port end p).1, at)))))

    -- nor from another controller
    out_from_other : (node : NodeId) (q : List Cell) → queue_at w (Down node) ≡ q → node.0 ≢ one.node.0 → last_marks default_channel (cells_put_at t w (Carry (Down node)) out) ≡ []
    out_from_other node [] e apart = empty (Down node) out default_channel e
    out_from_other node (cell ∷ cells) e apart =
        put_kept (Down node) cell cells e node (λ a. cell_comes a control_port cell) (λ to. refl) out default_channel (λ site found same. absurd (apart same))

    -- each from this one
    out_from_down : (node : NodeId) (q : List Cell) → queue_at w (Down node) ≡ q → node.0 ≡ one.node.0 → same_queue (Down node) down ≡ true → HasSlotFor w one.node home q → HopsOut (Carry (Down node))
    out_from_down node [] e n f slot = empty (Down node) out default_channel e ∙ sym (taken_here (Down node) down home [] f (sym (one_queue w (Down node) down n refl) ∙ e))
    out_from_down node (cell ∷ cells) e n f slot = by (is_last_on home cell) refl
      where
        taken : last_marks home (taken_at w (Carry (Down node)) down) ≡ last_marks home (cell ∷ [])
        taken = taken_here (Down node) down home (cell ∷ cells) f (sym (one_queue w (Down node) down n refl) ∙ e)

        by : (b : Bool) → is_last_on home cell ≡ b → HopsOut (Carry (Down node))
        by false last = put_kept (Down node) cell cells e node (λ a. cell_comes a control_port cell) (λ to. refl) out default_channel
            (λ site found same. cell_keeps one.port default_channel other_out (acting (with_queue u (Down node) cells) site) control_port cell
            (λ leads ends_it. (let at : cell.header.channel ≡ home = ap (λ (x : End). x.channel) (alone_then one.node (default_home one.port) (default_end one.port) way.out (Down node) cells site found (input_of control_port cell) leads) in
            true≢false (sym (both cell.header.last (same_channel cell.header.channel home) ends_it (ap (λ (c : Channel). same_channel c home) at ∙ channel_self home)) ∙ last))))
            ∙ sym (taken ∙ marks_there home cell [] last)
        by true last =
            let on : cell.header.channel ≡ home = channel_is cell.header.channel home (second cell.header.last (same_channel cell.header.channel home) last) in
            let s : IsThere (with_queue u (Down node) cells) one.node = there one.node (default_home one.port) (default_end one.port) way.out (Down node) cells in
            let queues : length s.site.switch.crossbar.queues ≡ 9 = size_then one.node (default_home one.port) (default_end one.port) way.out (Down node) cells s.site s.found way.shaped in
            let put : cells_put_at t w (Carry (Down node)) out ≡ on_channel_of cell (default_end one.port) ∷ [] =
            put_one (Down node) cell cells e node (λ a. cell_comes a control_port cell) (λ to. refl) out s.site s.found n (on_channel_of cell (default_end one.port))
            (cell_goes (acting (with_queue u (Down node) cells) s.site) control_port cell (default_end one.port)
            (ap (λ (c : Channel). output_of s.site.switch.crossbar.branches (record { port = control_port; channel = c })) on
            ∙ leads_then one.node (default_home one.port) (default_end one.port) way.out (Down node) cells s.site s.found)
            (omega (arith, queues, ends.most))
            (slot_then one.node (default_home one.port) (default_end one.port) way.out (Down node) cells s.site s.found tt (slot last))
            (ap (is_gsmp control_port) on ∙ home_not_gsmp one.port ends.some)) in
            ap (last_marks default_channel) put
            ∙ (marks_here default_channel (on_channel_of cell (default_end one.port)) [] (both cell.header.last true (first cell.header.last (same_channel cell.header.channel home) last) refl)
            ∙ sym (taken ∙ marks_here home cell [] last))

    out_from_controller : (node : NodeId) → (node.0 ≡ one.node.0 → HasSlotFor w one.node home (queue_at w down)) → HopsOut (Carry (Down node))
    out_from_controller node slot = by_queue (Down node) down
        (λ n number f. out_from_down node (queue_at w (Down node)) refl n f (subst (HasSlotFor w one.node home) (sym (one_queue w (Down node) down n refl)) (slot n)))
        (λ n f. out_from_other node (queue_at w (Down node)) refl n ∙ sym (untaken (Down node) down home f))
        (λ n number f. absurd (number refl))

    pub hops_out : (event : Event) → LosesNone t w one far event → HopsOut event
    hops_out (Inject node octets) none = unowned (Inject node octets) out default_channel refl
    hops_out (Carry (Down node)) none = out_from_controller node none.1
    hops_out (Carry (Up node)) none = unowned (Carry (Up node)) out default_channel (carried_by_controller_out node one.node one.port (queue_at w (Up node)))
        ∙ sym (untaken (Up node) down home (numbers_apart (Up node) down (λ e. absurd (omega (arith, e)))))
    hops_out (Carry (Out node port)) none = out_from_link node port (queue_at w (Out node port)) refl
        ∙ sym (untaken (Out node port) down home (numbers_apart (Out node port) down (λ e. absurd (omega (arith, e)))))
    hops_out (Lose place) none = absurd none
    hops_out (Tick node) none = unowned (Tick node) out default_channel refl
    hops_out (TickSwitch node) none = ticked_none node out default_channel (λ site. tick_keeps one.port default_channel other_out (acting u site))
    hops_out (Restart node) none = unowned (Restart node) out default_channel refl
    hops_out (RestartSwitch node) none = restarted_none node out default_channel (λ site. restart_keeps one.port default_channel other_out (acting u site))
    hops_out (Forge place channel payload) none = absurd none
    hops_out (Route node change) none = unowned (Route node change) out default_channel refl
