-- what greets a port of a link in a run names it

use Rattle.std.proofs.Common.{◌≡◌, ◌≢◌, ℕ, ◌<◌, ◌^◌, ◌==◌, ◌&&◌, Bool, true, false, List, [], ◌∷◌, filter, map, Option, None, Some, refl, sym, ◌∙◌, ap, subst, arith, if◌then◌else◌}
use Rattle.std.proofs.lemmas.Bool.Decides.{nat_tests}
use Rattle.std.specs.Option.{option_map_or, unwrap_or}
use Rattle.world_model.specs.Words.{Addr, Up, Cell, Channel, Frame, HelloKind, Syn, Synack, Rstack, Ack, Hello, Peer, Said, Linked, Policy, Topology, World, Site, Way, IsWay, past_of, queue_in, queue_at, queue_of, control_port, default_home, same_channel}
use Rattle.world_model.specs.network_model.declared.link.LinkEnd.{LinkEnd}
use Rattle.world_model.specs.network_model.declared.event.Event.{Event}
use Rattle.world_model.specs.ifmp_wire.declared.message.Message.TheVariants.{Adjacency}
use Rattle.law_link_tables.specs.law_passing.ordered_lists.Ordered.{Every}
use Rattle.law_link_tables.specs.law_passing.telling_model.Passing.{source_of}
use Rattle.law_link_tables.specs.law_port_views.law_label_line.Cells.{Downstream, Upstream}
use Rattle.law_link_tables.specs.law_port_views.Link.{LinkLabel}
use Rattle.law_link_tables.specs.law_port_views.Heard.{is_own_hello}
use Rattle.law_link_tables.specs.law_shown_cells.Label.{OnControl}
use Rattle.law_link_tables.proofs.law_causes.Shown.{peer_back}
use Rattle.law_unused_labels.proofs.Links.{link_of, link_is}
use Rattle.law_link_tables.specs.law_run_facts.law_world_views.Between.{HasLabelLine}
use Rattle.law_link_tables.specs.law_live_meetings.Exchange.{ifmp, heard}
use Rattle.law_link_tables.specs.law_live_worlds.Law.{Shows}
use Rattle.law_link_tables.specs.law_live_carries.Law.{taken_at}
use Rattle.law_link_tables.specs.law_live_orders.Law.{is_last_on, last_marks, heard_at}
use Rattle.law_link_tables.specs.law_live_hearing.Law.{world_at}
use Rattle.law_link_tables.specs.law_live_waking_links.Hellos.{Greets, Greet, none, greets, passed, IsWritten}
use Rattle.law_link_tables.specs.law_live_waking_links.Law.{NamesIt}
use Rattle.law_link_names.specs.Law.{ComesAtEnd, GreetingsAreNamed}
use Rattle.law_link_names.proofs.Written.{as_read, payload_of_hello, is_read}
use Rattle.law_link_names.proofs.Shown.{IsKnown, all_known, known_is_own, taken_known}

-- *A greeting to an address* names it
one_address : (x y : Addr) → x.0 ≡ y.0 → x ≡ y
one_address x y e = λ i. record { 0 = e i }

same_number : (x y : ℕ) → (x == y) ≡ true → x ≡ y
same_number x y e = grind (arith, nat_tests)

front_true : (x y : Bool) → (x && y) ≡ true → x ≡ true
front_true true y e = refl
front_true false y e = absurd (cc e)

back_true : (x y : Bool) → (x && y) ≡ true → y ≡ true
back_true true y e = e
back_true false y e = absurd (cc e)

named_number : (receiver : Option Peer) → (unwrap_or receiver ifmp.unknown).address.0 ≡ option_map_or (λ peer. peer.address.0) receiver 0
named_number None = refl
named_number (Some peer) = refl

own_identity : (far : Addr) (hello : Hello) (kind : HelloKind) → kind ≢ Syn → is_own_hello far hello kind ≡ true → hello.identity.0 ≡ far.0
own_identity far hello Syn other e = absurd (other refl)
own_identity far hello Synack other e = same_number hello.identity.0 far.0 e
own_identity far hello Rstack other e = same_number hello.identity.0 far.0 (front_true (hello.identity.0 == far.0) (hello.next == 0) e)
own_identity far hello Ack other e = same_number hello.identity.0 far.0 e

module _ (link : LinkLabel) (frames : List Frame) (address : Addr) (linked : Linked) (own : linked.port.adjacency.own.address ≡ link.address Upstream) where
  abbrev channel : Channel
  channel = (default_home (link.port Upstream)).channel

  abbrev Known : Cell → Type 0
  Known cell = IsKnown (OnControl (link.port Upstream)) Downstream link frames cell

  -- *One greeting*
  names_it : (cell : Cell) (message : Said Peer) → Known cell → is_last_on channel cell ≡ true → Greets address frames cell.mark message → IsWritten message
      → NamesIt linked message
  names_it cell message known on g written other =
      let small : address.0 < 2 ^ 32 = subst (λ (x : Addr). x.0 < 2 ^ 32) g.sender written.0.1 in
      let own_hello : is_own_hello (link.address Upstream) (as_read g.next message) message.kind ≡ true =
      known_is_own (OnControl (link.port Upstream)) Downstream link frames cell (payload_of_hello address _) (record { source = address; message = Adjacency (as_read g.next message) })
      known (back_true cell.header.last (same_channel cell.header.channel channel) on) g.says (is_read address g.next message small written) in
      let number : (heard ifmp message).receiver.address.0 ≡ (link.address Upstream).0 =
      named_number message.receiver ∙ own_identity (link.address Upstream) (as_read g.next message) message.kind other own_hello in
      one_address (heard ifmp message).receiver.address (link.address Upstream) number ∙ sym own

  -- *All of a list*
  all_named : (cells : List Cell) → Every Known cells → (hears : List (Said Peer)) → Greet address frames (last_marks channel cells) hears → Every IsWritten hears
      → Every (NamesIt linked) hears
  all_named [] known [] none written = tt
  all_named [] known (_ ∷ _) greet written = elim greet [ ]
  all_named (cell ∷ cells) known hears greet written = by (is_last_on channel cell) refl greet (all_named cells known.1)
    where
      by : (b : Bool) → is_last_on channel cell ≡ b
          → Greet address frames (map (λ (c : Cell). c.mark) (if b then cell ∷ filter (is_last_on channel) cells else filter (is_last_on channel) cells)) hears
          → ((messages : List (Said Peer)) → Greet address frames (last_marks channel cells) messages → Every IsWritten messages → Every (NamesIt linked) messages)
          → Every (NamesIt linked) hears
      by true on g later = ends hears on g written
        where
          ends : (messages : List (Said Peer)) → is_last_on channel cell ≡ true → Greet address frames (cell.mark ∷ last_marks channel cells) messages → Every IsWritten messages
              → Every (NamesIt linked) messages
          ends (message ∷ messages) on (greets mark said is more) all = (names_it cell message known.0 on is all.0, later messages more all.1)
          ends messages on (passed mark is more) all = later messages more all
      by false on g later = later hears g written

abbrev way_of : (end peer : LinkEnd) → Way
way_of end peer = record { down = peer; up = end }

one_site : (x y : Site) → Some x ≡ Some y → x ≡ y
one_site x y e = cc e

-- *In a run*
module _ (policy : Policy) (topology : Topology) (before : List Event) (event : Event) (end peer : LinkEnd) (at : ComesAtEnd policy topology before event end peer) where
  abbrev w : World
  w = world_at policy topology before

  abbrev link : LinkLabel
  link = link_of topology (way_of end peer) 32

  on : IsWay topology (way_of end peer)
  on = record { downstream = at.peers; upstream = (peer_back topology at.comes.run.topology_is end peer at.peers).back }

  line : HasLabelLine (past_of policy topology before) link
  line = at.world.labels link (link_is topology at.comes.run.topology_is (way_of end peer) on 32 refl)

  abbrev there : Site
  there = line.shows.end Upstream

  abbrev Waits : Cell → Type 0
  Waits cell = IsKnown (OnControl end.port) Downstream link w.notes.frames cell

  queue_is : queue_at w (Up end.node) ≡ queue_of there.switch.crossbar control_port
  queue_is = ap (λ (o : Option Site). option_map_or (λ (s : Site). queue_in s (Up end.node)) o []) (line.shows.found Upstream)

  waits : Every Waits (queue_at w (Up end.node))
  waits = subst (Every Waits) (sym queue_is)
      (all_known (OnControl end.port) Downstream link w.notes.frames (queue_of there.switch.crossbar control_port) _ (line.shows.net.waiting Upstream))

  own_is : (linked : Linked) (shows : Shows w end linked) → linked.port.adjacency.own.address ≡ link.address Upstream
  own_is linked shows =
      let same_site : shows.site ≡ there = one_site shows.site there (sym shows.there ∙ line.shows.found Upstream) in
      shows.address ∙ (ap (λ (s : Site). s.controller.address) same_site ∙ (line.shows.net.end Upstream).address)

  are_named : (linked peer_linked : Linked) (shows : Shows w end linked) (peer_shows : Shows w peer peer_linked) (hears : List (Said Peer))
      → Greet peer_shows.site.controller.address w.notes.frames (heard_at w event end) hears → Every IsWritten hears → Every (NamesIt linked) hears
  are_named linked peer_linked shows peer_shows hears greet written =
      all_named link w.notes.frames peer_shows.site.controller.address linked (own_is linked shows)
      (taken_at w event (Up end.node)) (taken_known Waits w (source_of event) (Up end.node) waits) hears greet written

pub greetings_are_named : GreetingsAreNamed
greetings_are_named policy topology before event end peer at = are_named policy topology before event end peer at
