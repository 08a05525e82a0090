-- the two ends bind on in a network

use Rattle.std.proofs.Common.{◌≡◌, ◌≢◌, ℕ, ◌≤◌, ◌==◌, ◌&&◌, Bool, true, false, List, [], ◌∷◌, ◌++◌, drop, Option, Some, refl, sym, ◌∙◌, ap, subst, arith, if◌then◌else◌}
use Rattle.std.proofs.lemmas.Bool.Decides.{nat_tests}
use Rattle.world_model.specs.Words.{NodeId, PortNo, Addr, Up, Channel, Mark, Request, Setup, at, put, default_channel, default_home, port_on, on_link, hears as hears_it, nothing_taken, with_reassembly, taker_of, ForGsmp, ForDefault, ForLabel, is_estab, frame_holds, gsmp_holds, Controller, Linked, linked_at, port_key, at_port, Topology, World, Site, site_at, queue_at, with_queue_in, next}
use Rattle.world_model.specs.Cells.{Taker, taker_at}
use Rattle.world_model.specs.Controller.{Acted}
use Rattle.world_model.specs.Gsmp.{message_comes}
use Rattle.world_model.specs.ifmp_wire.declared.message.Message.{Message}
use Rattle.world_model.specs.network_model.declared.link.LinkEnd.{LinkEnd}
use Rattle.world_model.specs.network_model.declared.event.Event.TheVariants.{Carry}
use Rattle.law_port_facts.proofs.Keyed.{at_key, at_put_same}
use Rattle.law_causes.proofs.Ends.{parts_of_control}
use Rattle.law_live_hearing.specs.Law.{acting, Hears}
use Rattle.law_live_links.specs.Law.{EndOfLink}
use Rattle.law_live_unseen.specs.Law.{AreAlike}
use Rattle.law_live_worlds.specs.Law.{Shows, end_of}
use Rattle.law_live_arrivals.proofs.Arriving.{elsewhere}
use Rattle.law_live_elsewhere.proofs.Elsewhere.{one_left, far_left}
use Rattle.law_live_others.specs.Law.{IsUp}
use Rattle.law_live_numbers.proofs.Standing.{nodes_stay_up}
use Rattle.law_live_bindings.specs.Law.{AreBinding, label_branch, grant_branch, told_of}
use Rattle.law_live_bindings.proofs.Alike.{like_ports_bind}
use Rattle.law_live_bindings.proofs.Resting.{agreed_ends_bind, bindings_are_agreed, swapped}
use Rattle.law_live_bound.specs.Law.{BindsAt}
use Rattle.law_live_bound.specs.Worlds.{BindIn, BindingGoesBothWays, AgreeingWorldsBind, BoundWorldsAgree, LikeWorldsBind, CarriesElsewhereKeepBinding, StaysUp, CountingsKeepBinding, HearingsKeepBinding, SwitchSays, OffersAreMade, GrantsAreStarted, HeardFramesKeepNodesUp, OffersKeepNodesUp, StartsKeepNodesUp}
use Rattle.law_live_bound.proofs.Frames.{packets_keep_binding, messages_keep_binding}
use Rattle.law_live_bound.proofs.Successes.{label_branches_keep_binding, grant_branches_keep_binding}
use Rattle.law_live_bound.proofs.Standing.{label_branches_keep_nodes_up, grant_branches_keep_nodes_up}

-- *Either way*, and at rest
pub binding_goes_both_ways : BindingGoesBothWays
binding_goes_both_ways w one far said far_said b = record {
  linked = b.far_linked;
  far_linked = b.linked;
  shows = b.far_shows;
  far_shows = b.shows;
  binding = swapped b.binding;
}

pub agreeing_worlds_bind : AgreeingWorldsBind
agreeing_worlds_bind w one far said far_said agree = record {
  linked = agree.linked;
  far_linked = agree.far_linked;
  shows = agree.shows;
  far_shows = agree.far_shows;
  binding = agreed_ends_bind (end_of agree.linked said) (end_of agree.far_linked far_said) agree.agreed;
}

pub bound_worlds_agree : BoundWorldsAgree
bound_worlds_agree w one far bind none far_none = record {
  linked = bind.linked;
  far_linked = bind.far_linked;
  shows = bind.shows;
  far_shows = bind.far_shows;
  agreed = (bindings_are_agreed (end_of bind.linked []) (end_of bind.far_linked []) bind.binding refl refl none far_none).agreed;
}

-- *Ports left alike*
end_binds : (linked after : Linked) (said : List Message) (other : EndOfLink) → after.setup ≡ linked.setup → AreAlike linked.port after.port
    → AreBinding (end_of linked said) other → AreBinding (end_of after said) other
end_binds linked after said other setup alike binding =
    subst (λ (s : Setup). AreBinding (let e : EndOfLink = record { setup = s; port = after.port; said = said } in e) other) (sym setup)
    (like_ports_bind (end_of linked said) other after.port binding alike)

pub like_worlds_bind : LikeWorldsBind
like_worlds_bind w v one far said far_said bind left far_left = record {
  linked = left.linked;
  far_linked = far_left.linked;
  shows = left.shows;
  far_shows = far_left.shows;
  binding = swapped (end_binds bind.far_linked far_left.linked far_said (end_of left.linked said) far_left.setup far_left.alike
      (swapped (end_binds bind.linked left.linked said (end_of bind.far_linked far_said) left.setup left.alike bind.binding)));
}

pub carries_elsewhere_keep_binding : CarriesElsewhereKeepBinding
carries_elsewhere_keep_binding topology w one far place said far_said is bind =
    like_worlds_bind w (next topology w (Carry place)) one far said far_said bind
    (one_left topology w one far place is bind.linked bind.shows)
    (far_left topology w one far place is bind.far_linked bind.far_shows)

pub one_site : (x y : Site) → Some x ≡ Some y → x ≡ y
one_site x y e = cc

pub one_linked : (x y : Linked) → Some x ≡ Some y → x ≡ y
one_linked x y e = cc

one_taker : (x y : Taker) → Some x ≡ Some y → x ≡ y
one_taker x y e = cc

-- *A carry to one's controller*, that leaves it as it acted
module _ (topology : Topology) (w : World) (one far : LinkEnd) (said far_said : List Message) (apart : one.node.0 ≢ far.node.0) (bind : BindIn w one far said far_said)
    (site : Site) (there : site_at w one.node ≡ Some site) (b : Acted)
    (acts : site_at (next topology w (Carry (Up one.node))) one.node
    ≡ Some (record (with_queue_in site (Up one.node) (drop 1 (queue_at w (Up one.node)))) { controller = b.controller })) (up : StaysUp topology w one.node) where
  abbrev after : Site
  after = record (with_queue_in site (Up one.node) (drop 1 (queue_at w (Up one.node)))) { controller = b.controller }

  pub is_up : IsUp b
  is_up = up after acts

  pub acted_binds : (said_then far_then : List Message) → BindsAt b one.port said_then (end_of bind.far_linked far_then)
      → BindIn (next topology w (Carry (Up one.node))) one far said_then far_then
  acted_binds said_then far_then at_one = record {
    linked = at_one.linked;
    far_linked = bind.far_linked;
    shows = record { site = after; there = acts; of_port = at_one.of_port; address = at_one.address };
    far_shows = record {
      site = bind.far_shows.site;
      there = elsewhere topology w one.node far.node.0 apart site there ∙ bind.far_shows.there;
      of_port = bind.far_shows.of_port;
      address = bind.far_shows.address;
    };
    binding = at_one.binding;
  }

-- *Before it*, with a chain that was taken
module _ (w : World) (one : LinkEnd) (said : List Message) (other : EndOfLink) (linked : Linked) (shows : Shows w one linked) (binding : AreBinding (end_of linked said) other) where
  abbrev c : Acted
  c = acting w shows.site

  abbrev gsmp_before : BindsAt (with_reassembly c ForGsmp nothing_taken) one.port said other
  gsmp_before = record { linked = linked; of_port = shows.of_port; address = shows.address; binding = binding }

  abbrev emptied : Linked
  emptied = record linked { reassembly = nothing_taken }

  own_key : port_key linked ≡ one.port.0
  own_key = at_key port_key one.port.0 shows.site.controller.ports linked shows.of_port

  abbrev default_before : BindsAt (with_reassembly c (ForDefault linked) nothing_taken) one.port said other
  default_before = record {
    linked = emptied;
    of_port = ap (λ k. at port_key k (put port_key emptied shows.site.controller.ports)) (sym own_key)
        ∙ at_put_same port_key emptied shows.site.controller.ports linked (ap (λ k. at port_key k shows.site.controller.ports) own_key ∙ shows.of_port);
    address = shows.address;
    binding = binding;
  }

-- *Who takes the cells* of a default channel
not_zero : (n : ℕ) → 1 ≤ n → (n == 0) ≡ false
not_zero n some = grind (arith, nat_tests, some)

pub some_port : (n : ℕ) → (n == 0) ≡ false → 1 ≤ n
some_port n other = grind (arith, nat_tests, other)

pub default_taker : (c : Controller) (port : PortNo) (linked : Linked) → 1 ≤ port.0 → linked_at c port ≡ Some linked → taker_of c (default_home port).channel ≡ Some (ForDefault linked)
default_taker c port linked some found =
    let home : Channel = (default_home port).channel in
    let parts : ((port_on home).0 ≡ port.0) × (on_link home ≡ default_channel) = parts_of_control port default_channel (omega arith) in
    ap (λ (b : Bool). if (b && true) then Some ForGsmp else taker_at (linked_at c (port_on home)) (on_link home)) (not_zero home.vpi (omega (arith, some)))
    ∙ (ap (λ (k : ℕ). taker_at (at port_key k c.ports) (on_link home)) parts.0
    ∙ (ap (λ (o : Option Linked). taker_at o (on_link home)) found
    ∙ ap (λ (link : Channel). taker_at (Some linked) link) parts.1))

-- *A frame is heard* by a taker that is known
pub heard_as : (topology : Topology) (w : World) (node : NodeId) (channel : Channel) (mark : Mark) (payload : List ℕ) (h : Hears topology w node channel mark payload)
    (site : Site) → site_at w node ≡ Some site → (taker : Taker) → taker_of site.controller channel ≡ Some taker
    → site_at (next topology w (Carry (Up node))) node
    ≡ Some (record (with_queue_in site (Up node) (drop 1 (queue_at w (Up node)))) { controller = (frame_holds (with_reassembly (acting w site) taker nothing_taken) taker mark payload).controller })
heard_as topology w node channel mark payload h site there taker takes =
    h.acts
    ∙ (ap (λ (t : Taker). after h.site t) (one_taker h.taker taker (sym h.takes ∙ (ap (λ (s : Site). taker_of s.controller channel) same ∙ takes)))
    ∙ ap (λ (s : Site). after s taker) same)
  where
    same : h.site ≡ site
    same = one_site h.site site (sym h.found ∙ there)

    after : Site → Taker → Option Site
    after s t = Some (record (with_queue_in s (Up node) (drop 1 (queue_at w (Up node)))) { controller = (frame_holds (with_reassembly (acting w s) t nothing_taken) t mark payload).controller })

pub countings_keep_binding : CountingsKeepBinding
countings_keep_binding topology w one far mark payload packet said far_said apart bind hears holds range up =
    acted_binds topology w one far said far_said apart bind site bind.shows.there b acts up said far_said counted
  where
    site : Site
    site = bind.shows.site

    other : EndOfLink
    other = end_of bind.far_linked far_said

    key : port_key bind.linked ≡ one.port.0
    key = at_key port_key one.port.0 site.controller.ports bind.linked bind.shows.of_port

    own_port : bind.linked.setup.port ≡ one.port
    own_port = λ i. record { 0 = key i }

    before : Acted
    before = with_reassembly (acting w site) (ForDefault bind.linked) nothing_taken

    b : Acted
    b = frame_holds before (ForDefault bind.linked) mark payload

    acts : site_at (next topology w (Carry (Up one.node))) one.node ≡ Some (record (with_queue_in site (Up one.node) (drop 1 (queue_at w (Up one.node)))) { controller = b.controller })
    acts = heard_as topology w one.node (default_home one.port).channel mark payload hears site bind.shows.there (ForDefault bind.linked)
        (default_taker site.controller one.port bind.linked (some_port one.port.0 (ap (λ n. n == 0) (sym key) ∙ bind.binding.one_end.of_link)) bind.shows.of_port)

    -- the port goes by its own number
    binds_there : (port : PortNo) → one.port ≡ port → BindsAt before port said other
    binds_there port same =
        let d : BindsAt before one.port said other = default_before w one said other bind.linked bind.shows bind.binding in
        record { linked = record bind.linked { reassembly = nothing_taken }; of_port = ap (linked_at before.controller) (sym same) ∙ d.of_port; address = bind.shows.address; binding = bind.binding }

    counted : BindsAt b one.port said other
    counted = subst (λ (port : PortNo). BindsAt b port said other) own_port
        (packets_keep_binding before bind.linked mark payload packet said other (binds_there bind.linked.setup.port (sym own_port)) holds range
        (is_up topology w one far said far_said apart bind site bind.shows.there b acts up))

pub hearings_keep_binding : HearingsKeepBinding
hearings_keep_binding topology w one far message said far_said apart bind hears room up =
    acted_binds topology w one far said (message ∷ far_said) apart bind site bind.shows.there b acts up said far_said told
  where
    site : Site
    site = bind.shows.site

    other : EndOfLink
    other = end_of bind.far_linked (message ∷ far_said)

    key : port_key bind.linked ≡ one.port.0
    key = at_key port_key one.port.0 site.controller.ports bind.linked bind.shows.of_port

    own_port : bind.linked.setup.port ≡ one.port
    own_port = λ i. record { 0 = key i }

    before : Acted
    before = with_reassembly (acting w site) (ForDefault bind.linked) nothing_taken

    b : Acted
    b = at_port before one.port (λ setup desk v. hears_it setup desk v other.port.adjacency.own.address message)

    same_site : hears.site ≡ site
    same_site = one_site hears.site site (sym hears.there ∙ bind.shows.there)

    same_linked : hears.linked ≡ bind.linked
    same_linked = one_linked hears.linked bind.linked (sym hears.of_port ∙ (ap (λ (s : Site). linked_at s.controller one.port) same_site ∙ bind.shows.of_port))

    acts : site_at (next topology w (Carry (Up one.node))) one.node ≡ Some (record (with_queue_in site (Up one.node) (drop 1 (queue_at w (Up one.node)))) { controller = b.controller })
    acts = hears.acts
        ∙ (ap (λ (s : Site). after s hears.linked hears.linked.setup.port from) same_site
        ∙ (ap (λ (l : Linked). after site l l.setup.port from) same_linked
        ∙ (ap (λ (p : PortNo). after site bind.linked p from) own_port
        ∙ ap (λ source. after site bind.linked one.port source) (sym bind.far_shows.address))))
      where
        from : Addr
        from = bind.far_shows.site.controller.address

        after : Site → Linked → PortNo → Addr → Option Site
        after s l p source = Some (record (with_queue_in s (Up one.node) (drop 1 (queue_at w (Up one.node)))) {
          controller = (at_port (with_reassembly (acting w s) (ForDefault l) nothing_taken) p (λ setup desk v. hears_it setup desk v source message)).controller;
        })

    told : BindsAt b one.port said (end_of bind.far_linked far_said)
    told = messages_keep_binding before one.port message said far_said other (default_before w one said other bind.linked bind.shows bind.binding) refl room
        (is_up topology w one far said (message ∷ far_said) apart bind site bind.shows.there b acts up)

-- *What the switch says*
module _ (topology : Topology) (w : World) (node : NodeId) (site : Site) (there : site_at w node ≡ Some site) (request : Request) (says : SwitchSays topology w node site request) where
  abbrev told_it : Acted
  told_it = message_comes (with_reassembly (acting w site) ForGsmp nothing_taken) says.message

  pub switch_told : site_at (next topology w (Carry (Up node))) node ≡ Some (record (with_queue_in site (Up node) (drop 1 (queue_at w (Up node)))) { controller = told_it.controller })
  switch_told = heard_as topology w node default_channel says.mark says.payload says.hears site there ForGsmp refl
      ∙ ap (λ r. Some (record (with_queue_in site (Up node) (drop 1 (queue_at w (Up node)))) { controller = (gsmp_holds (with_reassembly (acting w site) ForGsmp nothing_taken) r).controller })) says.holds

pub offers_are_made : OffersAreMade
offers_are_made topology w one far label said far_said apart bind says held wiring left up =
    let site : Site = bind.shows.site in
    let other : EndOfLink = end_of bind.far_linked far_said in
    let b : Acted = told_it topology w one.node site bind.shows.there (label_branch bind.linked.setup label.number) says in
    acted_binds topology w one far said far_said apart bind site bind.shows.there b (switch_told topology w one.node site bind.shows.there (label_branch bind.linked.setup label.number) says) up
    (said ++ told_of (end_of bind.linked said) other label ∷ []) far_said
    (label_branches_keep_binding (with_reassembly (acting w site) ForGsmp nothing_taken) one.port says.message label said other (gsmp_before w one said other bind.linked bind.shows bind.binding)
    (record { standing = says.success.standing; is = says.success.is; of_request = says.success.of_request }) held wiring left
    (is_up topology w one far said far_said apart bind site bind.shows.there b (switch_told topology w one.node site bind.shows.there (label_branch bind.linked.setup label.number) says) up))

pub grants_are_started : GrantsAreStarted
grants_are_started topology w one far number said far_said apart bind says low up =
    let site : Site = bind.shows.site in
    let other : EndOfLink = end_of bind.far_linked far_said in
    let b : Acted = told_it topology w one.node site bind.shows.there (grant_branch bind.linked.setup number) says in
    acted_binds topology w one far said far_said apart bind site bind.shows.there b (switch_told topology w one.node site bind.shows.there (grant_branch bind.linked.setup number) says) up
    said far_said
    (grant_branches_keep_binding (with_reassembly (acting w site) ForGsmp nothing_taken) one.port says.message number said other (gsmp_before w one said other bind.linked bind.shows bind.binding)
    (record { standing = says.success.standing; is = says.success.is; of_request = says.success.of_request }) low
    (is_up topology w one far said far_said apart bind site bind.shows.there b (switch_told topology w one.node site bind.shows.there (grant_branch bind.linked.setup number) says) up))

-- *Nodes stay up*
chain_up : (a : Acted) (taker : Taker) → IsUp a → IsUp (with_reassembly a taker nothing_taken)
chain_up a ForGsmp up = up
chain_up a (ForDefault linked) up = up
chain_up a (ForLabel linked label) up = up

pub left_up : (topology : Topology) (w : World) (node : NodeId) (site : Site) (b : Acted)
    → site_at (next topology w (Carry (Up node))) node ≡ Some (record (with_queue_in site (Up node) (drop 1 (queue_at w (Up node)))) { controller = b.controller })
    → IsUp b → StaysUp topology w node
left_up topology w node site b acts up now there = subst (λ (s : Site). is_estab s.controller.adjacency.state ≡ true)
    (one_site (record (with_queue_in site (Up node) (drop 1 (queue_at w (Up node)))) { controller = b.controller }) now (sym acts ∙ there)) up

pub heard_frames_keep_nodes_up : HeardFramesKeepNodesUp
heard_frames_keep_nodes_up topology w node channel mark payload hears up numbers =
    let before : Acted = with_reassembly (acting w hears.site) hears.taker nothing_taken in
    left_up topology w node hears.site (frame_holds before hears.taker mark payload) hears.acts
    (nodes_stay_up before hears.taker mark payload (chain_up (acting w hears.site) hears.taker up) numbers)

pub offers_keep_nodes_up : OffersKeepNodesUp
offers_keep_nodes_up topology w one far label said far_said bind says held wiring left quiet =
    let site : Site = bind.shows.site in
    let other : EndOfLink = end_of bind.far_linked far_said in
    let request : Request = label_branch bind.linked.setup label.number in
    left_up topology w one.node site (told_it topology w one.node site bind.shows.there request says) (switch_told topology w one.node site bind.shows.there request says)
    (label_branches_keep_nodes_up (with_reassembly (acting w site) ForGsmp nothing_taken) one.port says.message label said other (gsmp_before w one said other bind.linked bind.shows bind.binding)
    (record { standing = says.success.standing; is = says.success.is; of_request = says.success.of_request }) held wiring left
    (record { up = quiet.up; none_waits = quiet.none_waits; unspent = quiet.unspent }))

pub starts_keep_nodes_up : StartsKeepNodesUp
starts_keep_nodes_up topology w node site setup number there says quiet =
    let request : Request = grant_branch setup number in
    left_up topology w node site (told_it topology w node site there request says) (switch_told topology w node site there request says)
    (grant_branches_keep_nodes_up (with_reassembly (acting w site) ForGsmp nothing_taken) says.message setup number
    (record { standing = says.success.standing; is = says.success.is; of_request = says.success.of_request })
    (record { up = quiet.up; none_waits = quiet.none_waits; unspent = quiet.unspent }))
