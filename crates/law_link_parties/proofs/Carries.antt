-- a carry in a run leaves a port its party, where frames leave it to it

use Rattle.std.proofs.Common.{◌≡◌, ◌≢◌, ℕ, ◌+◌, ◌/◌, ◌%◌, ◌^◌, ◌≤◌, ◌<◌, ◌==◌, ◌&&◌, Bool, true, false, List, [], ◌∷◌, ◌++◌, drop, length, map, flat_map, Option, None, Some, Result, Ok, refl, sym, ◌∙◌, ap, subst, arith, if◌then◌else◌}
use Rattle.std.specs.Prelude.{nat_lt}
use Rattle.std.specs.Int.{w32, to_be_bytes}
use Rattle.std.specs.Option.{option_map, option_map_or, option_and_then}
use Rattle.std.proofs.lemmas.Bool.Decides.{nat_tests}
use Rattle.world_model.specs.Words.{Up, Addr, Channel, Mark, Cell, Loss, Unbound, Peer, Party, Said, Side, HelloKind, Syn, Synack, Rstack, Ack, Hello, hello_of, ifmp_in, ifmp_of, ifmp_packet_of, ifmp_received, source_of, default_payload, default_unwrapped, payload_of, same_queue, EncapsFault, nothing_taken, default_home, same_channel, is_estab, received, last_number, labels_of, joins_of, joins_at, end_le, in_order, at, put, port_key, chains_with, Linked, linked_at, taker_of, ForGsmp, ForDefault, ForLabel, reassembly_of, with_reassembly, frame_holds, takes_cell, Reassembly, Topology, World, Site, site_at, queue_at, put_away, carries_head, next, IsRun}
use Rattle.world_model.specs.adjacency_table.Hello.{next_in}
use Rattle.world_model.specs.adjacency_table.declared.message.Answer.TheVariants.{Reset}
use Rattle.world_model.specs.Joins.{Join}
use Rattle.world_model.specs.Ways.{ok_of}
use Rattle.world_model.specs.ifmp_wire.Message.{octets_of as ifmp_octets, FitsMessage, with_checksum, with_names, names_of, op_code}
use Rattle.world_model.specs.ifmp_wire.Fields.{decoded as ifmp_decoded}
use Rattle.world_model.specs.ifmp_wire.declared.message.Message.TheVariants.{Adjacency}
use Rattle.world_model.specs.port_model.Port.{Port}
use Rattle.world_model.specs.frame_model.Reassembly.{Taken, taken}
use Rattle.world_model.specs.Controller.{Acted, free_slots, note}
use Rattle.world_model.specs.Cells.{Taker, ends_frame, cell_comes}
use Rattle.world_model.specs.network_model.declared.link.LinkEnd.{LinkEnd}
use Rattle.world_model.specs.network_model.declared.event.Event.TheVariants.{Carry}
use Rattle.law_link_met.specs.law_port_facts.ordered_lists.Ordered.{Every, InOrder}
use Rattle.law_link_met.proofs.law_port_facts.Keyed.{each_found, map_put}
use Rattle.law_link_met.proofs.law_run_facts.Takers.{OfTaker, taker_at_port}
use Rattle.law_link_met.proofs.law_run_facts.Steps.{runs_have_fronts}
use Rattle.law_link_met.specs.law_frame_readings.law_shown_cells.Label.{Told}
use Rattle.law_link_met.specs.law_frame_readings.Reading.{IsToldAs, IsHeardAs}
use Rattle.law_link_met.proofs.law_frame_readings.Packets.{is_heard}
use Rattle.law_link_met.proofs.law_frame_readings.law_wire.Packets.{unwrapped_again}
use Rattle.law_live_links.specs.Law.{number_of}
use Rattle.law_link_met.specs.law_live_meetings.Exchange.{ifmp, heard}
use Rattle.law_link_met.proofs.law_live_meetings.Names.{hellos_are_heard}
use Rattle.law_link_met.specs.law_live_worlds.Law.{Shows}
use Rattle.law_link_met.specs.law_live_hearing.Law.{world_at, acting}
use Rattle.law_link_met.proofs.law_live_hearing.Sites.{up_now, up_site}
use Rattle.law_link_met.specs.law_live_orders.Law.{is_last_on, heard_at}
use Rattle.law_link_met.proofs.law_live_orders.Hops.{taken_here}
use Rattle.law_link_met.proofs.law_live_orders.Marks.{marks_here}
use Rattle.law_link_met.specs.law_live_waking_links.Hellos.{GreetsNobody, Greet, none, greets, passed, FitsStored, IsWritten}
use Rattle.law_link_met.specs.law_live_tables.Law.{IsOrderly}
use Rattle.law_link_met.proofs.law_live_tables.Ticks.{runs_are_orderly}
use Rattle.law_link_met.specs.law_link_numbers.Law.{SparesIt, FramesKeepParties}
use Rattle.law_link_met.specs.law_link_numbers.Law as parties
use Rattle.law_link_met.specs.law_link_tables.Law.{step_at}
use Rattle.law_link_met.specs.law_link_tables.Events.{ComesInPeace, heard_answer}
use Rattle.live_model.specs.Links.{HasNumbers}
use Rattle.law_link_met.specs.law_link_woken.Given.{CarriesKeepTheirs}
use Rattle.law_link_parties.proofs.Cells.{Acts, acts, early_ends_none, is_home, IsThere, gathered_there}

-- *What is written* of a number are its last 32 bits
least_octets : (n : ℕ) → to_be_bytes w32 n ≡ to_be_bytes w32 (n % 4294967296)
least_octets n = four (fourth n) (third n) (second n) (first n)
  where
    four : {a b c d e f g h : ℕ} → a ≡ e → b ≡ f → c ≡ g → d ≡ h → (a ∷ b ∷ c ∷ d ∷ []) ≡ (e ∷ f ∷ g ∷ h ∷ [])
    four p q r s = λ i. p i ∷ q i ∷ r i ∷ s i ∷ []

    fourth : (n : ℕ) → n / 16777216 % 256 ≡ n % 4294967296 / 16777216 % 256
    fourth n = omega arith

    third : (n : ℕ) → n / 65536 % 256 ≡ n % 4294967296 / 65536 % 256
    third n = omega arith

    second : (n : ℕ) → n / 256 % 256 ≡ n % 4294967296 / 256 % 256
    second n = omega arith

    first : (n : ℕ) → n % 256 ≡ n % 4294967296 % 256
    first n = omega arith

below : (n : ℕ) → n % 4294967296 < 2 ^ 32
below n = omega arith

least_in : (kind : HelloKind) (next : ℕ) → to_be_bytes w32 (next_in kind next) ≡ to_be_bytes w32 (next_in kind (next % 4294967296))
least_in Syn next = refl
least_in Synack next = least_octets next
least_in Rstack next = refl
least_in Ack next = least_octets next

below_in : (kind : HelloKind) (next : ℕ) → next_in kind (next % 4294967296) < 2 ^ 32
below_in Syn next = omega arith
below_in Synack next = below next
below_in Rstack next = omega arith
below_in Ack next = below next

one_payload : (x y : List ℕ) → Some x ≡ Some y → x ≡ y
one_payload x y e = cc

one_packet : (x y : List ℕ) → ◌≡◌ {A = Result (List ℕ) EncapsFault} (Ok x) (Ok y) → x ≡ y
one_packet x y e = cc

-- *A greeting is read* as it was written
module _ (source : Addr) (next : ℕ) (message : Said Peer) (written : IsWritten message) (sender : message.sender.address ≡ source) where
  abbrev least : ℕ
  least = next % 4294967296

  abbrev read : Hello
  read = hello_of (next % 4294967296) message

  same_octets : ifmp_octets (Adjacency (hello_of next message)) ≡ ifmp_octets (Adjacency read)
  same_octets = ap (λ (rest : List ℕ). with_checksum (op_code (Adjacency (hello_of next message))) (with_names (names_of (Adjacency (hello_of next message))) rest)) (least_in message.kind next)

  names_fit : (o : Option Peer) → FitsStored o → (option_map_or (λ (peer : Peer). peer.instance.0) o 0 < 2 ^ 32) × (option_map_or (λ (peer : Peer). peer.address.0) o 0 < 2 ^ 32)
  names_fit None fits = (omega arith, omega arith)
  names_fit (Some peer) fits = fits

  fits : FitsMessage (Adjacency read)
  fits = ((written.0.0, (names_fit message.receiver written.1).0, (names_fit message.receiver written.1).1), below_in message.kind next)

  abbrev item : Told
  item = record { source = source; message = Adjacency (hello_of (next % 4294967296) message) }

  abbrev packet : List ℕ
  packet = ifmp_packet_of source (ifmp_octets (Adjacency (hello_of (next % 4294967296) message)))

  told : IsToldAs (record { packet = 0; frame = 0 }) (default_payload packet) item
  told = record {
    control = refl;
    source = subst (λ (from : Addr). from.0 < 2 ^ 32) sender written.0.1;
    in_range = tt;
    fits = fits;
    filled = refl;
  }

  heard_so : IsHeardAs packet item
  heard_so = is_heard (record { packet = 0; frame = 0 }) (default_payload packet) item told

  one_hello : (x y : Hello) → Some (Adjacency x) ≡ Some (Adjacency y) → x ≡ y
  one_hello x y e = cc

  module _ (payload there : List ℕ) (hello : Hello) (is : payload ≡ default_payload (ifmp_packet_of source (ifmp_octets (Adjacency (hello_of next message)))))
      (unwrapped : default_unwrapped payload ≡ Ok there) (reads : ifmp_of payload ≡ Some (Adjacency hello)) where
    is_read : payload ≡ default_payload packet
    is_read = is ∙ ap (λ (octets : List ℕ). default_payload (ifmp_packet_of source octets)) same_octets

    again : default_unwrapped payload ≡ Ok packet
    again = ap default_unwrapped is_read ∙ unwrapped_again packet

    packet_is : there ≡ packet
    packet_is = one_packet there packet (sym unwrapped ∙ again)

    in_it : ifmp_of payload ≡ Some (Adjacency read)
    in_it = ap (λ r. option_and_then ifmp_in (ok_of r)) again
        ∙ (ap (λ (b : Bool). if b then ok_of (ifmp_decoded (drop 20 packet)) else None) heard_so.control
        ∙ ap (λ r. ok_of r) heard_so.message)

    hello_is : hello ≡ read
    hello_is = one_hello hello read (sym reads ∙ in_it)

    pub read_so : (side : Side Peer) → ifmp_received side (source_of there) hello ≡ received ifmp.same side (heard ifmp message)
    read_so side = ap (λ (ps : List ℕ). ifmp_received side (source_of ps) hello) packet_is
        ∙ (ap (λ (from : Addr). ifmp_received side from hello) (heard_so.source ∙ sym sender)
        ∙ (ap (λ (h : Hello). ifmp_received side message.sender.address h) hello_is
        ∙ hellos_are_heard side message (next % 4294967296)))

both_true : (p q : Bool) → p ≡ true → q ≡ true → (p && q) ≡ true
both_true true q e h = h
both_true false q e h = absurd (cc e)

number_itself : (n : ℕ) → (n == n) ≡ true
number_itself n = grind (arith, nat_tests)

one_linked : (x y : Linked) → Some x ≡ Some y → x ≡ y
one_linked x y e = cc

one_site : (x y : Site) → Some x ≡ Some y → x ≡ y
one_site x y e = cc

-- *A chain that is gathered* leaves the switch's side and the joins
same_state : (a : Acted) (t : Taker) (r : Reassembly) → (with_reassembly a t r).controller.adjacency ≡ a.controller.adjacency
same_state a ForGsmp r = refl
same_state a (ForDefault q) r = refl
same_state a (ForLabel q label) r = refl

flat_of_map : {A B : Type 0} (f : A → List B) (xs : List A) → flat_map f xs ≡ flat_map (λ (ys : List B). ys) (map f xs)
flat_of_map f [] = refl
flat_of_map f (x ∷ xs) = ap (λ ys. f x ++ ys) (flat_of_map f xs)

in_place : (xs : List Linked) (q now : Linked) → at port_key (port_key q) xs ≡ Some q → port_key now ≡ port_key q → joins_at now ≡ joins_at q → flat_map joins_at (put port_key now xs) ≡ flat_map joins_at xs
in_place xs q now own key same = flat_of_map joins_at (put port_key now xs)
    ∙ (ap (λ (js : List (List Join)). flat_map (λ (ys : List Join). ys) js) (map_put port_key joins_at now xs q (ap (λ (k : ℕ). at port_key k xs) key ∙ own) same)
    ∙ sym (flat_of_map joins_at xs))

same_joins : (a : Acted) → InOrder (λ (x y : Linked). port_key x ≢ port_key y) a.controller.ports → (channel : Channel) (t : Taker) → taker_of a.controller channel ≡ Some t → (r : Reassembly)
    → joins_of (with_reassembly a t r).controller ≡ joins_of a.controller
same_joins a apart channel t takes r = by t (taker_at_port (λ (l : Linked). at port_key (port_key l) a.controller.ports ≡ Some l) a.controller channel t (each_found port_key a.controller.ports apart) takes)
  where
    by : (t : Taker) → OfTaker (λ (l : Linked). at port_key (port_key l) a.controller.ports ≡ Some l) t → joins_of (with_reassembly a t r).controller ≡ joins_of a.controller
    by ForGsmp own = refl
    by (ForDefault q) own = ap (λ (js : List Join). in_order (λ (x y : Join). end_le x.input y.input) js) (in_place a.controller.ports q (record q { reassembly = r }) own refl refl)
    by (ForLabel q label) own = ap (λ (js : List Join). in_order (λ (x y : Join). end_le x.input y.input) js)
        (in_place a.controller.ports q (record q { chains = chains_with q.chains label.number r }) own refl refl)

module _ (keep : FramesKeepParties) (topology : Topology) (w : World) (end : LinkEnd) (numbers : HasNumbers w end) (peace : ComesInPeace topology w end) (orderly : IsOrderly w end)
    (source : Addr) (hears : List (Said Peer)) (said : Greet source w.notes.frames (heard_at w (Carry (Up end.node)) end) hears) (written : Every IsWritten hears)
    (linked : Linked) (shows : Shows w end linked) (spares : heard_answer hears linked ≢ Reset) where
  abbrev site : Site
  site = shows.site

  abbrev v : World
  v = next topology w (Carry (Up end.node))

  abbrev home : Channel
  home = (default_home end.port).channel

  abbrev a : Acted
  a = acting w shows.site

  abbrev Keeps : Linked → Type 0
  Keeps now = now.port.adjacency.own ≡ linked.port.adjacency.own

  -- *A cell is brought*
  module _ (cell : Cell) (cells : List Cell) (queue : queue_at w (Up end.node) ≡ cell ∷ cells) where
    abbrev b : Acted
    b = cell_comes (acting w shows.site) cell

    abbrev now_site : Site
    now_site = up_now topology w end.node shows.site shows.there cell cells

    there : site_at v end.node ≡ Some now_site
    there = up_site topology w end.node shows.site shows.there cell cells queue

    as_it_was : (now was : Linked) → linked_at b.controller end.port ≡ Some was → was.port ≡ linked.port → linked_at b.controller end.port ≡ Some now → Keeps now
    as_it_was now was is same now_is = ap (λ (l : Linked). l.port.adjacency.own) (one_linked now was (sym now_is ∙ is)) ∙ ap (λ (p : Port). p.adjacency.own) same

    -- *It ends no chain*
    early : cell.header.last ≡ false → (now : Linked) → linked_at b.controller end.port ≡ Some now → Keeps now
    early e now now_is = by (taker_of site.controller cell.header.channel) refl
      where
        by : (o : Option Taker) → taker_of site.controller cell.header.channel ≡ o → Keeps now
        by None takes =
            let is : b ≡ note a (Loss cell.mark Unbound) = ap (λ (o : Option Taker). takes_cell a cell o) takes in
            as_it_was now linked (ap (λ (x : Acted). linked_at x.controller end.port) is ∙ shows.of_port) refl now_is
        by (Some t) takes =
            let r : Reassembly = reassembly_of site.controller t in
            let slot : Bool = nat_lt 0 (free_slots site.controller) in
            let u : Taken = taken a.notes slot r cell in
            let gathered : Acted = with_reassembly (record a { notes = u.notes }) t u.reassembly in
            let is : b ≡ gathered = ap (λ (o : Option Taker). takes_cell a cell o) takes ∙ ap (λ (cs : List Cell). ends_frame gathered t cs) (early_ends_none a.notes slot r cell e) in
            let i : IsThere end.port linked gathered = gathered_there (record a { notes = u.notes }) end.port linked shows.of_port (orderly.apart site shows.there) cell.header.channel t takes u.reassembly in
            as_it_was now i.now (ap (λ (x : Acted). linked_at x.controller end.port) is ∙ i.is) i.port_is now_is

    -- *A frame acts*
    module _ (last : cell.header.last ≡ true) where
      frame : Acts topology w end.node shows.site shows.there cell cells queue last peace.counts (peace.cell_unlost cell cells queue)
      frame = acts topology w end.node shows.site shows.there cell cells queue last peace.counts (peace.cell_unlost cell cells queue)

      queue_itself : same_queue (Up end.node) (Up end.node) ≡ true
      queue_itself = both_true (end.node.0 == end.node.0) true (number_itself end.node.0) refl

      -- *A greeting in it* is the one that is heard
      module _ (q : Linked) (takes : taker_of site.controller cell.header.channel ≡ Some (ForDefault q)) (own : q.setup.port.0 ≡ end.port.0)
          (payload : List ℕ) (made : payload_of w.notes.frames cell.mark ≡ Some payload) (there : List ℕ) (hello : Hello)
          (unwrapped : default_unwrapped payload ≡ Ok there) (reads : ifmp_of payload ≡ Some (Adjacency hello)) where
        on_home : is_last_on home cell ≡ true
        on_home = both_true cell.header.last (same_channel cell.header.channel home) last (is_home site.controller cell.header.channel q end.port takes own)

        is_head : heard_at w (Carry (Up end.node)) end ≡ cell.mark ∷ []
        is_head = taken_here topology w (Up end.node) (Up end.node) home (cell ∷ cells) queue_itself queue ∙ marks_here home cell [] on_home

        by_marks : (marks : List Mark) (ms : List (Said Peer)) → marks ≡ cell.mark ∷ [] → Greet source w.notes.frames marks ms → Every IsWritten ms → heard_answer ms linked ≢ Reset
            → (ifmp_received linked.port.adjacency (source_of there) hello).answer ≢ Reset
        by_marks [] ms e none each other = absurd (cc e)
        by_marks (mark ∷ marks) (message ∷ ms) e (greets m n is later) each other =
            let same : mark ≡ cell.mark = cc e in
            let here : payload_of w.notes.frames cell.mark ≡ Some (default_payload (ifmp_packet_of source (ifmp_octets (Adjacency (hello_of is.next message))))) =
            subst (λ (x : Mark). payload_of w.notes.frames x ≡ Some (default_payload (ifmp_packet_of source (ifmp_octets (Adjacency (hello_of is.next message)))))) same is.says in
            let as_read : ifmp_received linked.port.adjacency (source_of there) hello ≡ step_at linked message =
            read_so source is.next message each.0 is.sender payload there hello
            (one_payload payload (default_payload (ifmp_packet_of source (ifmp_octets (Adjacency (hello_of is.next message))))) (sym made ∙ here)) unwrapped reads linked.port.adjacency in
            λ r. other (ap (λ s. s.answer) (sym as_read) ∙ r)
        by_marks (mark ∷ marks) ms e (passed m is later) each other =
            let same : mark ≡ cell.mark = cc e in
            let n : GreetsNobody w.notes.frames cell.mark = subst (GreetsNobody w.notes.frames) same is in
            absurd (n.unread hello (ap ifmp_of (one_payload n.payload payload (sym n.made ∙ made)) ∙ reads))

        no_reset : (ifmp_received linked.port.adjacency (source_of there) hello).answer ≢ Reset
        no_reset = by_marks (heard_at w (Carry (Up end.node)) end) hears is_head said written spares

      module _ (t : Taker) (takes : taker_of site.controller cell.header.channel ≡ Some t) (payload : List ℕ) (made : payload_of w.notes.frames cell.mark ≡ Some payload)
          (acted : b ≡ frame_holds (with_reassembly (acting w shows.site) t nothing_taken) t cell.mark payload) where
        abbrev a0 : Acted
        a0 = with_reassembly (acting w shows.site) t nothing_taken

        i : IsThere end.port linked a0
        i = gathered_there a end.port linked shows.of_port (orderly.apart site shows.there) cell.header.channel t takes nothing_taken

        left : parties.HasNumbers end.port a0
        left l is = subst (λ (p : Port). number_of p + (length (labels_of p) + length (joins_of a0.controller)) + 2 ≤ last_number)
            (sym (ap (λ (x : Linked). x.port) (one_linked l i.now (sym is ∙ i.is)) ∙ i.port_is))
            (subst (λ js. number_of linked.port + (length (labels_of linked.port) + length js) + 2 ≤ last_number) (sym (same_joins a (orderly.apart site shows.there) cell.header.channel t takes nothing_taken))
            (numbers site.controller linked (ap (λ (o : Option Site). option_map (λ (s : Site). s.controller) o) shows.there) shows.of_port))

        spared : (x : Taker) → taker_of site.controller cell.header.channel ≡ Some x → SparesIt end.port i.now x payload
        spared ForGsmp takes_it = tt
        spared (ForDefault q) takes_it = λ own there hello unwrapped reads.
            subst (λ (p : Port). (ifmp_received p.adjacency (source_of there) hello).answer ≢ Reset) (sym i.port_is) (no_reset q takes_it own payload made there hello unwrapped reads)
        spared (ForLabel q label) takes_it = tt

        acts_so : (now : Linked) → linked_at b.controller end.port ≡ Some now → Keeps now
        acts_so now now_is = keep end.port a0 t cell.mark payload i.now i.is left (spared t takes)
            (ap (λ (s : Side Party). is_estab s.state) (same_state a t nothing_taken) ∙ peace.up site shows.there)
            (ap (λ (x : Acted). is_estab x.controller.adjacency.state) (sym acted) ∙ peace.up_then now_site there)
            now (ap (λ (x : Acted). linked_at x.controller end.port) (sym acted) ∙ now_is)
            ∙ ap (λ (p : Port). p.adjacency.own) i.port_is

    brought : (now : Linked) → linked_at b.controller end.port ≡ Some now → Keeps now
    brought now now_is = by cell.header.last refl
      where
        by : (x : Bool) → cell.header.last ≡ x → Keeps now
        by false e = early e now now_is
        by true e = (let f = frame e in acts_so e f.taker f.takes f.payload f.made f.acted now now_is)

  pub by_queue : (now : Linked) (after : Site) → site_at v end.node ≡ Some after → linked_at after.controller end.port ≡ Some now → Keeps now
  by_queue now after is of_port = by (queue_at w (Up end.node)) refl
    where
      by : (q : List Cell) → queue_at w (Up end.node) ≡ q → Keeps now
      by [] queue =
          let same : after ≡ site = one_site after site (sym is ∙ (ap (λ (q : List Cell). site_at (carries_head topology (put_away w) (Up end.node) q) end.node) queue ∙ shows.there)) in
          ap (λ (l : Linked). l.port.adjacency.own) (one_linked now linked (sym of_port ∙ (ap (λ (s : Site). linked_at s.controller end.port) same ∙ shows.of_port)))
      by (cell ∷ cells) queue =
          brought cell cells queue now
          (subst (λ (s : Site). linked_at s.controller end.port ≡ Some now) (one_site after (now_site cell cells queue) (sym is ∙ there cell cells queue)) of_port)

pub carries_keep_theirs : FramesKeepParties → CarriesKeepTheirs
carries_keep_theirs keep policy topology before end peer c numbers peace one peer_linked one_shows peer_shows hears said written linked now site own spares is of_port =
    let w : World = world_at policy topology before in
    let run : IsRun policy topology before = (runs_have_fronts policy topology before (Carry (Up end.node)) c.comes).run in
    let orderly : IsOrderly w end = runs_are_orderly policy topology before c.comes.addresses run c.world end in
    by_queue keep topology w end numbers peace orderly peer_shows.site.controller.address hears said written linked own spares now site is of_port
