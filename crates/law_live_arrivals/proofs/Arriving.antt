-- a port that hears a message in a network is the end that hears it

use Rattle.std.proofs.Common.{◌≡◌, ◌≢◌, ℕ, List, [], ◌∷◌, ◌++◌, append-nil, Some, refl, sym, ◌∙◌, ap, subst, fold}
use Rattle.std.specs.Prelude.{drop}
use Rattle.world_model.specs.Words.{NodeId, Addr, Up, Peer, Cell, at, put, Work, hears, nothing_taken, with_reassembly, ForDefault, Linked, linked_at, port_key, at_port, begins, with_work, works, performs_in_estab, Topology, World, Site, site_key, site_at, controller_acts, queue_at, with_queue_in, with_queue_of, carries_head, put_away, next}
use Rattle.world_model.specs.Cells as controller
use Rattle.world_model.specs.Controller as controllers
use Rattle.world_model.specs.ifmp_wire.declared.message.Message.{Message}
use Rattle.world_model.specs.network_model.declared.link.LinkEnd.{LinkEnd}
use Rattle.world_model.specs.network_model.declared.event.Event.TheVariants.{Carry}
use Rattle.world_model.proofs.Lists.{at_key, at_put_same, at_put_other}
use Rattle.law_passing.proofs.Controllers.{cell_adds}
use Rattle.law_live_nodes.specs.Law.{told_by}
use Rattle.law_live_links.specs.Law.{EndOfLink, AreAgreed, hearing, heard_by, HearsOn}
use Rattle.law_live_links.proofs.Resting.{swapped}
use Rattle.law_live_links.proofs.Hearing.{hearing_keeps_agreement}
use Rattle.law_live_worlds.specs.Law.{end_of, AgreeIn}
use Rattle.law_live_arrivals.specs.Law.{acting, PortHears, HearingsKeepAgreement}

one_site : (x y : Site) → Some x ≡ Some y → x ≡ y
one_site x y e = cc

one_linked : (x y : Linked) → Some x ≡ Some y → x ≡ y
one_linked x y e = cc

one_peer : (x y : Peer) → Some x ≡ Some y → x ≡ y
one_peer x y e = cc

-- *Other nodes* are as they were behind a carry to a controller
module _ (topology : Topology) (w : World) (node : NodeId) (k : ℕ) (other : node.0 ≢ k) where
  module _ (site : Site) (found : site_at w node ≡ Some site) (cell : Cell) (cells : List Cell) where
    abbrev up : World
    up = with_queue_of (put_away w) (Up node) cells (Some site)

    abbrev heard : controllers.Acted
    heard = controller.cell_comes (record { controller = site.controller; notes = (put_away w).notes; numbers = w.numbers }) cell

    key : site_key site ≡ node.0
    key = at_key site_key node.0 w.sites site found

    -- its queue without the cell
    abbrev emptier : Site
    emptier = with_queue_in site (Up node) cells

    left_there : site_at up node ≡ Some emptier
    left_there = subst (λ n. at site_key n (put site_key emptier w.sites) ≡ Some emptier) key
        (at_put_same site_key emptier w.sites site (subst (λ n. at site_key n w.sites ≡ Some site) (sym key) found))

    cell_elsewhere : at site_key k (carries_head topology (put_away w) (Up node) (cell ∷ cells)).sites ≡ at site_key k w.sites
    cell_elsewhere =
        ap (λ o. at site_key k (controller_acts (with_queue_of (put_away w) (Up node) cells o) (site_at (with_queue_of (put_away w) (Up node) cells o) node) (λ a. controller.cell_comes a cell)).sites) found
        ∙ (ap (λ o. at site_key k (controller_acts up o (λ a. controller.cell_comes a cell)).sites) left_there
        ∙ (at_put_other site_key (record (with_queue_in site (Up node) cells) { controller = heard.controller }) k (put site_key (with_queue_in site (Up node) cells) w.sites)
        (λ e. other (sym key ∙ (sym (ap (λ (n : NodeId). n.0) (cell_adds (record { controller = site.controller; notes = (put_away w).notes; numbers = w.numbers }) cell).node) ∙ e)))
        ∙ at_put_other site_key (with_queue_in site (Up node) cells) k w.sites (λ e. other (sym key ∙ e))))

  pub elsewhere : (site : Site) → site_at w node ≡ Some site → at site_key k (next topology w (Carry (Up node))).sites ≡ at site_key k w.sites
  elsewhere site found = by (queue_at w (Up node))
    where
      by : (queue : List Cell) → at site_key k (carries_head topology (put_away w) (Up node) queue).sites ≡ at site_key k w.sites
      by [] = refl
      by (cell ∷ cells) = cell_elsewhere site found cell cells

module _ (topology : Topology) (w : World) (one far : LinkEnd) (message : Message) (said far_said : List Message) (apart : one.node.0 ≢ far.node.0)
    (agree : AgreeIn w one far (message ∷ said) far_said) (h : PortHears topology w far agree.shows.site.controller.address message) where
  abbrev source : Addr
  source = agree.shows.site.controller.address

  abbrev near_end : EndOfLink
  near_end = end_of agree.linked (message ∷ said)

  abbrev far_end : EndOfLink
  far_end = end_of agree.far_linked far_said

  abbrev linked_now : Linked
  linked_now = record h.linked { reassembly = nothing_taken }

  abbrev a : controllers.Acted
  a = with_reassembly (acting w h.site) (ForDefault h.linked) nothing_taken

  same_site : h.site ≡ agree.far_shows.site
  same_site = one_site h.site agree.far_shows.site (sym h.there ∙ agree.far_shows.there)

  same_linked : h.linked ≡ agree.far_linked
  same_linked = one_linked h.linked agree.far_linked (sym h.of_port ∙ (ap (λ (s : Site). linked_at s.controller far.port) same_site ∙ agree.far_shows.of_port))

  -- *Its work* is the end's
  abbrev work : Work
  work = hears h.linked.setup a.controller.desk (begins a linked_now) source message

  abbrev work_of_end : Work
  work_of_end = hearing a.controller.desk a.numbers.instances near_end.port.adjacency.own.address far_end message

  same_work : work ≡ work_of_end
  same_work = ap (λ (l : Linked). hears l.setup a.controller.desk (begins a l) source message) same_linked
      ∙ ap (λ (from : Addr). hearing a.controller.desk a.numbers.instances from far_end message) (sym agree.shows.address)

  on : HearsOn a.controller.desk a.numbers.instances far_end near_end message said
  on = hearing_keeps_agreement a.controller.desk a.numbers.instances far_end near_end message said (swapped agree.agreed) refl

  -- *The port*, found by its key
  own_key : port_key h.linked ≡ far.port.0
  own_key = at_key port_key far.port.0 h.site.controller.ports h.linked h.of_port

  found_now : linked_at a.controller h.linked.setup.port ≡ Some linked_now
  found_now = at_put_same port_key linked_now h.site.controller.ports h.linked (ap (λ k. at port_key k h.site.controller.ports) own_key ∙ h.of_port)

  abbrev linked_then : Linked
  linked_then = record linked_now { port = work.port }

  acted : at_port a h.linked.setup.port (λ setup desk v. hears setup desk v source message) ≡ with_work a linked_now work
  acted = ap (works a (λ setup desk v. hears setup desk v source message)) found_now
      ∙ ap (λ actions. fold (performs_in_estab h.linked.setup.port) (with_work a linked_now work) actions) (ap (λ (v : Work). v.actions) same_work ∙ on.quiet)

  abbrev site_then : Site
  site_then = record (with_queue_in h.site (Up far.node) (drop 1 (queue_at w (Up far.node)))) { controller = (with_work a linked_now work).controller }

  there_then : site_at (next topology w (Carry (Up far.node))) far.node ≡ Some site_then
  there_then = h.acts ∙ ap (λ (b : controllers.Acted). Some (record (with_queue_in h.site (Up far.node) (drop 1 (queue_at w (Up far.node)))) { controller = b.controller })) acted

  found_then : linked_at site_then.controller far.port ≡ Some linked_then
  found_then = ap (λ k. at port_key k site_then.controller.ports) (sym own_key) ∙ at_put_same port_key linked_then a.controller.ports linked_now found_now

  -- as an end it is the one that heard, and the party of its adjacency is as it was
  end_then : heard_by a.controller.desk a.numbers.instances near_end.port.adjacency.own.address far_end message ≡ end_of linked_then far_said
  end_then = λ i. record {
    setup = sym (ap (λ (l : Linked). l.setup) same_linked) i;
    port = sym (ap (λ (v : Work). v.port) same_work) i;
    said = (ap (λ actions. far_said ++ told_by actions) on.quiet ∙ append-nil far_said) i;
  }

  agreed_then : AreAgreed (end_of agree.linked said) (end_of linked_then far_said)
  agreed_then = subst (λ (e : EndOfLink). AreAgreed (end_of agree.linked said) e) end_then (swapped on.agreed)

  same_own : linked_then.port.adjacency.own ≡ agree.far_linked.port.adjacency.own
  same_own = one_peer linked_then.port.adjacency.own agree.far_linked.port.adjacency.own (sym agreed_then.met.one_knows ∙ agree.agreed.met.one_knows)

  pub agree_then : AgreeIn (next topology w (Carry (Up far.node))) one far said far_said
  agree_then = record {
    linked = agree.linked;
    far_linked = linked_then;
    shows = record {
      site = agree.shows.site;
      there = elsewhere topology w far.node one.node.0 (λ e. apart (sym e)) h.site h.there ∙ agree.shows.there;
      of_port = agree.shows.of_port;
      address = agree.shows.address;
    };
    far_shows = record {
      site = site_then;
      there = there_then;
      of_port = found_then;
      address = ap (λ (p : Peer). p.address) same_own ∙ (agree.far_shows.address ∙ ap (λ (s : Site). s.controller.address) (sym same_site));
    };
    agreed = agreed_then;
  }

pub hearings_keep : HearingsKeepAgreement
hearings_keep topology w one far message said far_said apart agree h = agree_then topology w one far message said far_said apart agree h
