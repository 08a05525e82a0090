-- a carry of a run that brings the controller at an end that binds a cell, and what it comes to

use Rattle.std.proofs.Common.{◌≡◌, ◌≢◌, ◌<◌, ◌&&◌, Bool, true, false, List, [], ◌∷◌, Some, refl, sym, ◌∙◌, ap, subst, zero, true≢false, arith}
use Rattle.world_model.specs.Words.{Addr, Policy, Up, IsLinkPort, Standing, is_estab, is_clearing, last_number, Linked, linked_at, port_key, Topology, World, Site, site_at, queue_at, next, IsTopology, IsNode, CountsAsItsFrame, past_of, Cell}
use Rattle.world_model.specs.Cells.{Taker}
use Rattle.world_model.specs.ifmp_wire.declared.message.Message.{Message}
use Rattle.world_model.specs.network_model.declared.link.LinkEnd.{LinkEnd}
use Rattle.world_model.specs.network_model.declared.event.Event.{Event}
use Rattle.world_model.specs.network_model.declared.event.Event.TheVariants.{Carry}
use Rattle.live_model.specs.Met.{HaveMet}
use Rattle.law_live_binding_beats.specs.law_port_facts.ordered_lists.Ordered.{Every}
use Rattle.law_live_binding_beats.proofs.law_port_facts.Keyed.{at_every}
use Rattle.law_live_binding_beats.specs.law_port_facts.Port.{IsShaped}
use Rattle.law_live_binding_beats.proofs.law_causes.Shown.{IsPeer, peer_back}
use Rattle.law_live_binding_beats.specs.law_run_facts.law_world_views.Between.{IsWorld, HasShapes, setups_of}
use Rattle.law_live_binding_beats.specs.law_run_facts.law_world_views.Kept.{Comes}
use Rattle.law_live_binding_beats.specs.law_run_facts.Nodes.{IsNodeOfRun}
use Rattle.law_live_binding_beats.specs.law_run_facts.Steps.{HasFront}
use Rattle.law_live_binding_beats.proofs.law_run_facts.Nodes.{runs_have_nodes}
use Rattle.law_live_binding_beats.proofs.law_run_facts.Steps.{runs_have_fronts}
use Rattle.law_live_binding_beats.proofs.law_control_places.Chains.{chains_are_their_frames}
use Rattle.law_live_binding_beats.specs.law_live_hearing.Law.{world_at, acting}
use Rattle.law_live_binding_beats.specs.law_live_links.Law.{EndOfLink, number_of}
use Rattle.law_live_binding_beats.specs.law_live_worlds.Law.{end_of}
use Rattle.law_live_binding_beats.specs.law_live_arrivals.Law.{PortHears}
use Rattle.law_live_binding_beats.specs.law_live_elsewhere.Law.{EndsNoFrame}
use Rattle.law_live_binding_beats.specs.law_live_orders.Law.{coming, IsOpenWay}
use Rattle.law_live_binding_beats.specs.law_live_orders.Messages.{StayMade}
use Rattle.law_live_binding_beats.specs.law_live_orders.Slots.{IsUnlost}
use Rattle.law_live_binding_beats.specs.law_live_control_links.Law.{IsCalmLink, IsSteady, IsTrueEvent}
use Rattle.law_live_binding_beats.proofs.law_live_control_links.Events.{carries_keep_calm}
use Rattle.law_live_binding_beats.proofs.law_live_control_links.Runs.{runs_are_steady}
use Rattle.law_live_binding_beats.specs.law_live_passed_by.Law.{BringsNone}
use Rattle.law_live_binding_beats.specs.law_live_unsaid.Law.{SendsByLabels}
use Rattle.law_live_binding_beats.specs.law_live_unsaid.Carries.{BringsNothing, HearsNothing}
use Rattle.law_live_binding_beats.proofs.law_live_unsaid.Unanswered.{sound_sends_by_labels}
use Rattle.law_live_binding_beats.proofs.law_live_unsaid.Carries.{carries_say_none}
use Rattle.law_live_binding_beats.specs.law_live_bindings.Law.{HasRoomFor}
use Rattle.law_live_binding_beats.specs.law_live_bound.Worlds.{StaysUp}
use Rattle.law_live_binding_beats.specs.Law.{BindByQueues, SaysIn, Does, ends_none, IsBroughtOn}
use Rattle.law_live_binding_beats.proofs.law_live_peace.Carries.{all_stay}
use Rattle.law_live_brought.specs.Law.{IsQuietNode, IsBranchOrJoin, AsksBranches, LosesNothing}
use Rattle.law_live_brought.specs.Carries.{LetsBind, MayBindOn}
use Rattle.std.specs.Prelude.{Contains}
use Rattle.law_live_brought.proofs.Whole.{is_last}

pub one_site : (x y : Site) → Some x ≡ Some y → x ≡ y
one_site x y e = cc

pub one_taker : (x y : Taker) → Some x ≡ Some y → x ≡ y
one_taker x y e = cc

pub one_linked : (x y : Linked) → Some x ≡ Some y → x ≡ y
one_linked x y e = cc

pub both_true : (a b : Bool) → a ≡ true → b ≡ true → (a && b) ≡ true
both_true true true e f = refl
both_true true false e f = absurd (cc f)
both_true false b e f = absurd (cc e)

every_both : {A : Type 0} (P Q : A → Type 0) (xs : List A) → Every P xs → Every Q xs → Every (λ x. P x × Q x) xs
every_both P Q [] p q = tt
every_both P Q (x ∷ xs) p q = ((p.0, q.0), every_both P Q xs p.1 q.1)

-- *A carry to the controller* at one end, in a run, where both ends bind, and all is so that is asked of the moment
pub record Brings (policy : Policy) (topology : Topology) (before : List Event) {one far : LinkEnd} (ends : BindByQueues (world_at policy topology before) one far) : Type 0 where
  pub comes : Comes policy topology before (Carry (Up one.node))
  pub world : IsWorld (past_of policy topology before)
  pub there : IsOpenWay topology (world_at policy topology before) one far
  pub back : IsOpenWay topology (world_at policy topology before) far one
  pub unlost : IsUnlost topology (world_at policy topology before) (Up one.node)
  pub same : LosesNothing topology (world_at policy topology before) one
  pub node : LetsBind topology (world_at policy topology before) one.node (Carry (Up one.node))
  pub may : MayBindOn (world_at policy topology before) one ends.bind.shows (end_of ends.bind.far_linked ends.far_said)

module _ {policy : Policy} {topology : Topology} {before : List Event} {one far : LinkEnd} {ends : BindByQueues (world_at policy topology before) one far}
    (moment : Brings policy topology before ends) where
  abbrev pub w : World
  w = world_at policy topology before

  abbrev pub v : World
  v = next topology w (Carry (Up one.node))

  abbrev pub site : Site
  site = ends.bind.shows.site

  abbrev pub linked : Linked
  linked = ends.bind.linked

  abbrev pub other : EndOfLink
  other = end_of ends.bind.far_linked ends.far_said

  abbrev pub own : Addr
  own = site.controller.address

  pub found : site_at w one.node ≡ Some site
  found = ends.bind.shows.there

  pub of_port : linked_at site.controller one.port ≡ Some linked
  of_port = ends.bind.shows.of_port

  pub is : IsTopology topology
  is = moment.comes.run.topology_is

  peer : IsPeer topology one far
  peer = peer_back topology is one far moment.there.linked

  pub link_port : IsLinkPort one.port
  link_port = peer.own

  pub within : IsNode topology one.node
  within = (peer_back topology is far one moment.back.linked).node

  pub apart : one.node.0 ≢ far.node.0
  apart e = peer.apart (sym e)

  front : HasFront policy topology before (Carry (Up one.node))
  front = runs_have_fronts policy topology before (Carry (Up one.node)) moment.comes

  pub counted : CountsAsItsFrame w (Carry (Up one.node))
  counted = chains_are_their_frames policy topology before (Carry (Up one.node)) moment.comes.tame

  pub of_run : IsNodeOfRun policy (past_of policy topology before) one.node site
  of_run = runs_have_nodes policy topology before moment.comes.addresses front.run one.node site found

  labels : SendsByLabels site.controller
  labels = sound_sends_by_labels (setups_of site.controller) site.controller of_run.conduct.sound

  steady : IsSteady topology w one.node × IsTrueEvent topology w (Carry (Up one.node))
  steady = runs_are_steady policy topology before (Carry (Up one.node)) moment.comes moment.world one.node

  -- *The node* goes on quietly, and stays up
  pub same_site : moment.node.link.site ≡ site
  same_site = one_site moment.node.link.site site (sym moment.node.link.found ∙ found)

  pub met : HaveMet site.controller.adjacency site.switch.adjacency
  met = subst (λ (s : Site). HaveMet s.controller.adjacency s.switch.adjacency) same_site moment.node.link.calm.met

  pub quiet : IsQuietNode (acting w site)
  quiet = record {
    up = ap is_estab met.one_is_up;
    none_waits = subst (λ (s : Site). s.controller.waiting ≡ []) same_site moment.node.none_waits;
    numbers = subst (λ (s : Site). Every (λ (l : Linked). number_of l.port < last_number) s.controller.ports) same_site moment.node.numbers;
  }

  pub left : number_of linked.port < last_number
  left = at_every port_key (λ (l : Linked). number_of l.port < last_number) one.port.0 site.controller.ports linked quiet.numbers of_port

  pub asks : Every (AsksBranches (setups_of site.controller)) site.controller.desk.standing
  asks = every_both (λ (s : Standing). IsBranchOrJoin s.request) (λ (s : Standing). IsShaped (setups_of site.controller) s.request) site.controller.desk.standing
      (subst (λ (s : Site). Every (λ (x : Standing). IsBranchOrJoin x.request) s.controller.desk.standing) same_site moment.node.asks)
      shapes.standing
    where
      shapes : HasShapes w one.node site
      shapes = moment.world.shapes one.node site found

  pub clear : is_clearing linked.port.adjacency.state ≡ false
  clear = ap is_clearing ends.bind.binding.met.one_is_up

  pub stays_up : StaysUp topology w one.node
  stays_up s now =
      let link : IsCalmLink v one.node = carries_keep_calm topology w one.node (Up one.node) moment.node.link steady.0 steady.1 moment.node.unspent moment.node.carries_out in
      subst (λ (x : Site). is_estab x.controller.adjacency.state ≡ true) (one_site link.site s (sym link.found ∙ now)) (ap is_estab link.calm.met.one_is_up)

  pub stay : StayMade w.notes.frames v.notes.frames (coming w far one)
  stay = all_stay w.notes.frames v.notes.frames (coming w far one) steady.1.stays

  -- *What it comes to*
  abbrev pub SaysNow : List Message → Type 0
  SaysNow messages = SaysIn topology w (Carry (Up one.node)) one own messages

  abbrev pub DoesNow : List Message → Type 0
  DoesNow messages = Does topology w one ends.bind.shows other messages

  pub record Outcome : Type 0 where
    pub messages : List Message
    pub says : SaysNow messages
    pub does : BringsNone w one (Up one.node) → DoesNow messages
    pub silent : (message : Message) (rest : List Message) → other.said ≡ message ∷ rest → PortHears topology w one other.port.adjacency.own.address message → messages ≡ []

  pub brought_by : Outcome → IsBroughtOn topology w one ends.bind.shows other
  brought_by o = record {
    hears = λ message rest are hears. record {
      room = (subst (Every (HasRoomFor site.controller.desk w.numbers.instances (end_of linked []))) are moment.may.room).0;
      up = stays_up;
      silent = subst SaysNow (o.silent message rest are hears) o.says;
    };
    does = λ none. record { messages = o.messages; does = o.does none; says = o.says };
  }

  pub quietly : SaysNow [] → (BringsNone w one (Up one.node) → DoesNow []) → Outcome
  quietly says does = record { messages = []; says = says; does = does; silent = λ message rest are hears. refl }

  -- *Where the port has nothing to say* to what comes, none is said
  pub unanswered_says_none : BringsNothing w one site (queue_at w (Up one.node)) → SaysNow []
  unanswered_says_none brings = record {
    put = carries_say_none topology w one (Up one.node) own link_port
        (λ again s now. subst (HearsNothing w one) (one_site site s (sym found ∙ now)) (record { labels = labels; brings = brings }));
    written = tt;
  }

  -- *No cell* waits
  pub no_cell : queue_at w (Up one.node) ≡ [] → Outcome
  no_cell queue = quietly (unanswered_says_none (subst (BringsNothing w one site) (sym queue) tt)) (λ none. ends_none (subst EndsNoFrame (sym queue) tt))

  -- or one that ends no frame
  module _ (cell : Cell) (cells : List Cell) (queue : queue_at w (Up one.node) ≡ cell ∷ cells) where
    pub marked : cell.mark.packet ≡ 0 → 0 < cell.mark.frame
    marked = moment.world.numbers.counted (Up one.node) cell (subst (λ (q : List Cell). Contains q cell) (sym queue) (zero, omega arith, refl))

    pub no_end : cell.header.last ≡ false → Outcome
    no_end part = quietly
        (unanswered_says_none (subst (BringsNothing w one site) (sym queue)
        (marked, λ taker payload ended. absurd (true≢false (sym (is_last topology w one.node site found cell cells queue payload ended.whole) ∙ part)))))
        (λ none. ends_none (subst EndsNoFrame (sym queue) part))
