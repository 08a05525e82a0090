-- what a carry brings the controller at an end of a link makes its port go by its table

use Rattle.std.proofs.Common.{◌≡◌, ◌≢◌, ℕ, ◌≤◌, ◌<◌, ◌==◌, ◌&&◌, Bool, true, false, true≢false, List, [], ◌∷◌, ◌++◌, append-nil, drop, Option, None, Some, refl, sym, ◌∙◌, ap, subst, arith, if◌then◌else◌}
use Rattle.std.proofs.lemmas.List.{append_cancel_left}
use Rattle.std.proofs.lemmas.Bool.Decides.{nat_tests}
use Rattle.world_model.specs.Words.{NodeId, PortNo, Down, Up, Addr, Channel, Mark, Cell, Journal, Loss, Unbound, Peer, Party, Said, Side, Answer, Quiet, hello_of, ifmp_of, ifmp_packet_of, default_payload, payload_of, same_queue, nothing_taken, default_channel, default_home, same_channel, is_estab, at, IsLinkPort, Grant, is_label_number, chains_with, carries_head, received, fresh, Step, Send, Open, Controller, Linked, port_key, linked_at, taker_of, taker_at, port_on, on_link, ForGsmp, ForDefault, ForLabel, reassembly_of, with_reassembly, frame_holds, takes_cell, hears, at_port, Reassembly, Topology, World, Site, site_at, queue_at, put_away, next}
use Rattle.world_model.specs.adjacency_table.declared.message.Answer.TheVariants.{Reset}
use Rattle.world_model.specs.ifmp_wire.Message.{octets_of as ifmp_octets}
use Rattle.world_model.specs.ifmp_wire.declared.message.Message.TheVariants.{Adjacency}
use Rattle.world_model.specs.port_model.Port.{Port}
use Rattle.world_model.specs.frame_model.Reassembly.{Taken, taken}
use Rattle.world_model.specs.Controller.{Acted, free_slots, note}
use Rattle.world_model.specs.Cells.{Taker, ends_frame, cell_comes}
use Rattle.world_model.specs.network_model.declared.link.LinkEnd.{LinkEnd}
use Rattle.world_model.specs.network_model.declared.event.Event.{Event}
use Rattle.world_model.specs.network_model.declared.event.Event.TheVariants.{Carry}
use Rattle.std.specs.Prelude.{nat_lt}
use Rattle.law_live_woken_links.specs.law_port_facts.ordered_lists.Ordered.{Every}
use Rattle.law_live_woken_links.proofs.law_port_facts.Keyed.{put_every, at_key}
use Rattle.law_live_woken_links.proofs.law_run_facts.Takers.{OfTaker, taker_at_port}
use Rattle.law_live_woken_links.specs.law_passing.Reached.{carried_to, owns}
use Rattle.law_live_woken_links.specs.law_passing.telling_model.Passing.{cells_put_at, left}
use Rattle.law_live_woken_links.proofs.law_passing.Worlds.{change_by_passing}
use Rattle.law_live_woken_links.specs.law_live_meetings.Exchange.{ifmp, heard, side_after, said_in}
use Rattle.law_live_messages.proofs.Told.{ports_hear}
use Rattle.law_live_woken_links.specs.law_live_worlds.Law.{Shows}
use Rattle.law_live_woken_links.specs.law_live_hearing.Law.{acting}
use Rattle.law_live_woken_links.proofs.law_live_hearing.Sites.{up_now, up_notes, up_site, queue_of_site}
use Rattle.law_live_woken_links.proofs.law_causes.Ends.{parts_of_control}
use Rattle.law_live_woken_links.specs.law_live_orders.Law.{is_last_on, last_marks, heard_at}
use Rattle.law_live_woken_links.proofs.law_live_orders.Hops.{numbers_apart, taken_here, unowned}
use Rattle.law_live_woken_links.proofs.law_live_orders.Marks.{channel_is, marks_here, marks_there}
use Rattle.law_live_woken_links.proofs.law_live_orders.Switches.{first, second}
use Rattle.law_live_unsaid.specs.Law.{SendsByLabels}
use Rattle.law_live_woken_links.specs.law_live_waking_links.Hellos.{Greets, GreetsNobody, Greet, none, greets, passed, IsWritten}
use Rattle.law_live_woken_links.specs.law_live_waking_links.Law.{NamesIt, LeavesEnd, TakesStep, IsLeftBy, TakesNone, Takes}
use Rattle.law_live_woken_links.specs.law_live_waking_links.Law as links
use Rattle.law_live_woken_links.proofs.law_live_waking_links.Hellos.{no_hellos}
use Rattle.law_live_woken_links.specs.law_live_tables.Law.{IsOrderly, KeepsItsParty}
use Rattle.law_link_tables.specs.Law.{IsLeft, stays, hears_else, is_cleared, began, IsStepped, by_table, begins, LeavesPort, IsKept, step_at, hears_greeting, TakesGreeting, GreetsNoPort}
use Rattle.law_link_tables.specs.Events.{IsFitCell, ComesInPeace, heard_answer, CarriesGoByTable}
use Rattle.law_link_tables.proofs.Greeted.{greetings_are_steps}
use Rattle.law_link_tables.proofs.Written.{Written, written}
use Rattle.law_link_tables.proofs.Frames.{others_leave}
use Rattle.law_link_tables.proofs.Cells.{Acts, acts, early_ends_none, is_home, IsThere, gathered_there}

-- *Who takes the cells* of a default channel
not_zero : (n : ℕ) → 1 ≤ n → (n == 0) ≡ false
not_zero n some = grind (arith, nat_tests, some)

default_taker : (c : Controller) (port : PortNo) (linked : Linked) → 1 ≤ port.0 → linked_at c port ≡ Some linked → taker_of c (default_home port).channel ≡ Some (ForDefault linked)
default_taker c port linked some found =
    let home : Channel = (default_home port).channel in
    let parts : ((port_on home).0 ≡ port.0) × (on_link home ≡ default_channel) = parts_of_control port default_channel (omega arith) in
    ap (λ (b : Bool). if (b && true) then Some ForGsmp else taker_at (linked_at c (port_on home)) (on_link home)) (not_zero home.vpi (omega (arith, some)))
    ∙ (ap (λ (k : ℕ). taker_at (at port_key k c.ports) (on_link home)) parts.0
    ∙ (ap (λ (o : Option Linked). taker_at o (on_link home)) found
    ∙ ap (λ (link : Channel). taker_at (Some linked) link) parts.1))

one_taker : (a b : Taker) → Some a ≡ Some b → a ≡ b
one_taker a b e = cc

one_payload : (x y : List ℕ) → Some x ≡ Some y → x ≡ y
one_payload x y e = cc

both_true : (p q : Bool) → p ≡ true → q ≡ true → (p && q) ≡ true
both_true true q e h = h
both_true false q e h = absurd (cc e)

number_itself : (n : ℕ) → (n == n) ≡ true
number_itself n = grind (arith, nat_tests)

-- *Grants are of labels* still
abbrev ByLabels : Linked → Type 0
ByLabels l = Every (λ (grant : Grant). is_label_number grant.label ≡ true) l.port.grants

still_by_labels : (a : Acted) → SendsByLabels a.controller → (channel : Channel) (t : Taker) → taker_of a.controller channel ≡ Some t → (r : Reassembly) → SendsByLabels (with_reassembly a t r).controller
still_by_labels a labels channel t takes r = by t (taker_at_port ByLabels a.controller channel t labels takes)
  where
    by : (t : Taker) → OfTaker ByLabels t → SendsByLabels (with_reassembly a t r).controller
    by ForGsmp is = labels
    by (ForDefault q) is = put_every port_key ByLabels (record q { reassembly = r }) a.controller.ports is labels
    by (ForLabel q label) is = put_every port_key ByLabels (record q { chains = chains_with q.chains label.number r }) a.controller.ports is labels

-- *A chain that is gathered* leaves the rest
module _ (a : Acted) (t : Taker) (r : Reassembly) where
  record Rest (b : Acted) : Type 0 where
    queue : b.controller.queue ≡ a.controller.queue
    address : b.controller.address ≡ a.controller.address
    up : b.controller.adjacency ≡ a.controller.adjacency
    notes : b.notes ≡ a.notes
    instances : b.numbers.instances ≡ a.numbers.instances

  rest : (t : Taker) → Rest (with_reassembly a t r)
  rest ForGsmp = record { queue = refl; address = refl; up = refl; notes = refl; instances = refl }
  rest (ForDefault q) = record { queue = refl; address = refl; up = refl; notes = refl; instances = refl }
  rest (ForLabel q label) = record { queue = refl; address = refl; up = refl; notes = refl; instances = refl }

module _ (topology : Topology) (w : World) (end peer : LinkEnd) (linked peer_linked : Linked) (shows : Shows w end linked) (peer_shows : Shows w peer peer_linked) (link : IsLinkPort end.port)
    (orderly : IsOrderly w end) (peace : ComesInPeace topology w end) where
  abbrev node : NodeId
  node = end.node

  abbrev site : Site
  site = shows.site

  abbrev event : Event
  event = Carry (Up end.node)

  abbrev v : World
  v = next topology w (Carry (Up end.node))

  abbrev home : Channel
  home = (default_home end.port).channel

  abbrev a : Acted
  a = acting w shows.site

  abbrev side : Side Peer
  side = linked.port.adjacency

  abbrev Hears : List (Said Peer) → Type 0
  Hears hears = Takes topology w (Carry (Up end.node)) end shows.site.controller.address linked.port.adjacency hears

  -- *A cell is brought*
  module _ (cell : Cell) (cells : List Cell) (queue : queue_at w (Up end.node) ≡ cell ∷ cells) where
    abbrev b : Acted
    b = cell_comes (acting w shows.site) cell

    abbrev now_site : Site
    now_site = up_now topology w end.node shows.site shows.there cell cells

    there : site_at v end.node ≡ Some now_site
    there = up_site topology w end.node shows.site shows.there cell cells queue

    notes : v.notes ≡ b.notes
    notes = up_notes topology w end.node shows.site shows.there cell cells queue

    still : left w (Carry (Up end.node)) (Down end.node) ≡ site.controller.queue
    still = ap (λ (x : Bool). if x then drop 1 (queue_at w (Down end.node)) else queue_at w (Down end.node)) (numbers_apart (Up end.node) (Down end.node) (λ e. absurd (omega (arith, e))))
        ∙ queue_of_site w end.node site (Down end.node) shows.there

    then_is : queue_at v (Down end.node) ≡ b.controller.queue
    then_is = queue_of_site v end.node now_site (Down end.node) there

    put_is : (later : List Cell) → b.controller.queue ≡ site.controller.queue ++ later → cells_put_at topology w (Carry (Up end.node)) (Down end.node) ≡ later
    put_is later is = append_cancel_left (left w (Carry (Up end.node)) (Down end.node)) (cells_put_at topology w (Carry (Up end.node)) (Down end.node)) later
        (sym (change_by_passing topology w (Carry (Up end.node)) (Down end.node)) ∙ (then_is ∙ (is ∙ ap (λ (q : List Cell). q ++ later) (sym still))))

    leaves : (now : Linked) → linked_at b.controller end.port ≡ Some now → (after : Side Peer) → now.port.adjacency ≡ after → (said : List (Said Peer)) → b.controller.address ≡ site.controller.address
        → (later : List Cell) → b.controller.queue ≡ site.controller.queue ++ later → Greet site.controller.address b.notes.frames (last_marks home later) said
        → LeavesEnd topology w (Carry (Up end.node)) end shows.site.controller.address after said
    leaves now is after has said address later grown said_so = record {
      linked = now;
      shows = record { site = now_site; there = there; of_port = is; address = peace.address now_site now there is };
      goes_by = address;
      has = has;
      says = subst (λ (cs : List Cell). Greet site.controller.address v.notes.frames (last_marks home cs) said) (sym (put_is later grown))
          (subst (λ (n : Journal). Greet site.controller.address n.frames (last_marks home later) said) (sym notes) said_so);
    }

    own_address : (now : Linked) → linked_at b.controller end.port ≡ Some now → now.port.adjacency.own ≡ side.own → b.controller.address ≡ site.controller.address
    own_address now is same = sym (peace.address now_site now there is) ∙ (ap (λ (p : Peer). p.address) same ∙ shows.address)

    -- *No greeting*: it is left as it is, but that it may hear its peer, or be cleared
    left_by : (after : Side Peer) → IsLeft w.numbers.instances side after → after.own ≡ side.own → IsLeftBy side after
    left_by _ stays same = links.stays
    left_by _ hears_else same = links.hears_else
    left_by _ is_cleared same = links.is_cleared
    left_by _ (began now more) same = absurd (too_low w.numbers.instances now.own.instance.0 side.own.instance.0 more (ap (λ (p : Peer). p.instance.0) same) (orderly.drawn linked shows))
      where
        too_low : (n k m : ℕ) → n < k → k ≡ m → m ≤ n → ⊥
        too_low n k m less same most = absurd (omega (arith, less, same, most))

    module _ (keeps : KeepsItsParty w v end (heard_answer [])) where
      kept_party : (now : Linked) → linked_at b.controller end.port ≡ Some now → now.port.adjacency.own ≡ side.own
      kept_party now is = keeps linked now now_site shows (λ e. cc e) there is

      takes_none : LeavesPort end.port a b (IsLeft w.numbers.instances side) [] → TakesNone topology w (Carry (Up end.node)) end shows.site.controller.address side
      takes_none l = record {
        after = l.now.port.adjacency;
        left_by = left_by l.now.port.adjacency l.side (kept_party l.now l.is);
        leaves = leaves l.now l.is l.now.port.adjacency refl [] (own_address l.now l.is (kept_party l.now l.is)) l.later l.queue l.greets;
      }

      -- nothing acts
      nothing : (now : Linked) → linked_at b.controller end.port ≡ Some now → now.port ≡ linked.port → b.controller.queue ≡ site.controller.queue
          → TakesNone topology w (Carry (Up end.node)) end shows.site.controller.address side
      nothing now is same grown = takes_none (record {
        now = now;
        is = is;
        side = subst (IsLeft w.numbers.instances side) (sym (ap (λ (p : Port). p.adjacency) same)) stays;
        later = [];
        queue = grown ∙ sym (append-nil site.controller.queue);
        greets = none;
      })

      early : cell.header.last ≡ false → TakesNone topology w (Carry (Up end.node)) end shows.site.controller.address side
      early e = by (taker_of site.controller cell.header.channel) refl
        where
          by : (o : Option Taker) → taker_of site.controller cell.header.channel ≡ o → TakesNone topology w (Carry (Up end.node)) end shows.site.controller.address side
          by None takes =
              let is : b ≡ note a (Loss cell.mark Unbound) = ap (λ (o : Option Taker). takes_cell a cell o) takes in
              nothing linked (ap (λ (x : Acted). linked_at x.controller end.port) is ∙ shows.of_port) refl (ap (λ (x : Acted). x.controller.queue) is)
          by (Some t) takes =
              let r : Reassembly = reassembly_of site.controller t in
              let slot : Bool = nat_lt 0 (free_slots site.controller) in
              let u : Taken = taken a.notes slot r cell in
              let gathered : Acted = with_reassembly (record a { notes = u.notes }) t u.reassembly in
              let is : b ≡ gathered = ap (λ (o : Option Taker). takes_cell a cell o) takes ∙ ap (λ (cs : List Cell). ends_frame gathered t cs) (early_ends_none a.notes slot r cell e) in
              let i : IsThere end.port linked gathered = gathered_there (record a { notes = u.notes }) end.port linked shows.of_port (orderly.apart site shows.there) cell.header.channel t takes u.reassembly in
              nothing i.now (ap (λ (x : Acted). linked_at x.controller end.port) is ∙ i.is) i.port_is
              (ap (λ (x : Acted). x.controller.queue) is ∙ (rest (record a { notes = u.notes }) t u.reassembly t).queue)

    -- *A frame acts*
    module _ (last : cell.header.last ≡ true) where
      frame : Acts topology w end.node shows.site shows.there cell cells queue last peace.counts (peace.cell_unlost cell cells queue)
      frame = acts topology w end.node shows.site shows.there cell cells queue last peace.counts (peace.cell_unlost cell cells queue)

      fit : IsFitCell w site cell
      fit = peace.fits site cell cells shows.there queue

      -- as the taker has it
      module _ (t : Taker) (takes : taker_of site.controller cell.header.channel ≡ Some t) (payload : List ℕ) (made : payload_of w.notes.frames cell.mark ≡ Some payload)
          (acted : b ≡ frame_holds (with_reassembly (acting w shows.site) t nothing_taken) t cell.mark payload) where
        abbrev a0 : Acted
        a0 = with_reassembly (acting w shows.site) t nothing_taken

        abbrev c : Acted
        c = frame_holds (with_reassembly (acting w shows.site) t nothing_taken) t cell.mark payload

        begun : Rest a t nothing_taken a0
        begun = rest a t nothing_taken t

        i : IsThere end.port linked a0
        i = gathered_there a end.port linked shows.of_port (orderly.apart site shows.there) cell.header.channel t takes nothing_taken

        kept : IsKept a0 c
        kept = record {
          up = ap (λ (s : Side Party). is_estab s.state) begun.up ∙ peace.up site shows.there;
          up_then = ap (λ (x : Acted). is_estab x.controller.adjacency.state) (sym acted) ∙ peace.up_then now_site there;
          unlost = ap (λ (x : Acted). x.notes.entries) (sym acted) ∙ (ap (λ (n : Journal). n.entries) (sym notes) ∙ (peace.unlost ∙ ap (λ (n : Journal). n.entries) (sym begun.notes)));
        }

        -- it greets nobody
        other : KeepsItsParty w v end (heard_answer []) → GreetsNoPort end.port t payload → TakesNone topology w (Carry (Up end.node)) end shows.site.controller.address side
        other keeps nobody =
            let l : LeavesPort end.port a0 c (IsLeft a0.numbers.instances i.now.port.adjacency) [] =
            others_leave end.port a0 t cell.mark payload i.now link (still_by_labels a (peace.labels site shows.there) cell.header.channel t takes nothing_taken) fit.marked i.is nobody kept in
            takes_none keeps (record {
              now = l.now;
              is = ap (λ (x : Acted). linked_at x.controller end.port) acted ∙ l.is;
              side = subst (λ (n : ℕ). IsLeft n side l.now.port.adjacency) begun.instances (subst (λ (s : Side Peer). IsLeft a0.numbers.instances s l.now.port.adjacency) (ap (λ (p : Port). p.adjacency) i.port_is) l.side);
              later = l.later;
              queue = ap (λ (x : Acted). x.controller.queue) acted ∙ (l.queue ∙ ap (λ (q : List Cell). q ++ l.later) begun.queue);
              greets = subst (λ (x : Acted). Greet site.controller.address x.notes.frames (last_marks home l.later) []) (sym acted)
                  (subst (λ (from : Addr). Greet from c.notes.frames (last_marks home l.later) []) begun.address l.greets);
            })

      -- *A greeting* on the port's own default channel
      module _ (takes : taker_of site.controller cell.header.channel ≡ Some (ForDefault linked)) (payload : List ℕ) (made : payload_of w.notes.frames cell.mark ≡ Some payload)
          (acted : b ≡ frame_holds (with_reassembly (acting w shows.site) (ForDefault linked) nothing_taken) (ForDefault linked) cell.mark payload)
          (message : Said Peer) (is_written : Written peer_shows.site.controller.address w.notes.frames cell.mark message) (names : NamesIt linked message)
          (keeps : KeepsItsParty w v end (heard_answer (message ∷ []))) where
        abbrev d0 : Acted
        d0 = with_reassembly (acting w shows.site) (ForDefault linked) nothing_taken

        abbrev source : Addr
        source = peer_shows.site.controller.address

        abbrev is : Greets peer_shows.site.controller.address w.notes.frames cell.mark message
        is = is_written.greets

        abbrev d : Acted
        d = hears_greeting (with_reassembly (acting w shows.site) (ForDefault linked) nothing_taken) end.port message is.next

        in_place : IsThere end.port linked d0
        in_place = gathered_there a end.port linked shows.of_port (orderly.apart site shows.there) cell.header.channel (ForDefault linked) takes nothing_taken

        port_is : linked.setup.port ≡ end.port
        port_is = λ j. record { 0 = at_key port_key end.port.0 site.controller.ports linked shows.of_port j }

        heard_is : frame_holds d0 (ForDefault linked) cell.mark payload ≡ d
        heard_is =
            ap (λ (x : List ℕ). frame_holds d0 (ForDefault linked) cell.mark x) (one_payload payload (default_payload (ifmp_packet_of source (ifmp_octets (Adjacency (hello_of is.next message))))) (sym made ∙ is.says))
            ∙ (ports_hear d0 linked cell.mark source (Adjacency (hello_of is.next message)) is_written.low tt is_written.fits
            ∙ (ap (λ (p : PortNo). at_port d0 p (λ setup desk x. hears setup desk x source (Adjacency (hello_of is.next message)))) port_is
            ∙ ap (λ (from : Addr). at_port d0 end.port (λ setup desk x. hears setup desk x from (Adjacency (hello_of is.next message)))) (sym is.sender)))

        whole : b ≡ d
        whole = acted ∙ heard_is

        taken_so : TakesGreeting end.port d0 d in_place.now message
        taken_so = greetings_are_steps end.port d0 in_place.now message is.next link in_place.is
            (ap (λ (p : Port). p.adjacency.own.address) in_place.port_is ∙ shows.address)
            (λ differs. names differs ∙ sym (ap (λ (p : Port). p.adjacency.own.address) in_place.port_is))
            (subst (IsKept d0) heard_is (kept (ForDefault linked) takes payload made acted))

        abbrev step : Step Peer
        step = step_at linked message

        step_is : step_at in_place.now message ≡ step_at linked message
        step_is = ap (λ (p : Port). received ifmp.same p.adjacency (heard ifmp message)) in_place.port_is

        l : LeavesPort end.port d0 d (IsStepped w.numbers.instances (step_at linked message)) (said_in (step_at linked message).answer)
        l = subst (λ (s : Step Peer). LeavesPort end.port d0 d (IsStepped w.numbers.instances s) (said_in s.answer)) step_is taken_so.leaves

        now_is : linked_at b.controller end.port ≡ Some l.now
        now_is = ap (λ (x : Acted). linked_at x.controller end.port) whole ∙ l.is

        record Stepped : Type 0 where
          drawn : Peer
          has : l.now.port.adjacency ≡ side_after (fresh ifmp.first drawn) (step_at linked message).answer (step_at linked message).side

        anew : (own : Peer) → w.numbers.instances < own.instance.0 → l.now.port.adjacency ≡ fresh ifmp.first own → (answer : Answer (Said Peer) Peer) → (step_at linked message).answer ≡ answer → Stepped
        anew own more e answer is_answer = by answer is_answer
          where
            kept_not : (step_at linked message).answer ≢ Reset → ⊥
            kept_not differs =
                let same : l.now.port.adjacency.own ≡ side.own = keeps linked l.now now_site shows differs there now_is in
                too_low w.numbers.instances own.instance.0 side.own.instance.0 more (ap (λ (p : Peer). p.instance.0) (sym (ap (λ (s : Side Peer). s.own) e) ∙ same)) (orderly.drawn linked shows)
              where
                too_low : (n k m : ℕ) → n < k → k ≡ m → m ≤ n → ⊥
                too_low n k m less same most = absurd (omega (arith, less, same, most))

            by : (answer : Answer (Said Peer) Peer) → (step_at linked message).answer ≡ answer → Stepped
            by Reset r = record { drawn = own; has = e ∙ sym (ap (λ (x : Answer (Said Peer) Peer). side_after (fresh ifmp.first own) x (step_at linked message).side) r) }
            by Quiet r = absurd (kept_not (λ x. cc (sym r ∙ x)))
            by (Send m) r = absurd (kept_not (λ x. cc (sym r ∙ x)))
            by (Open m key_of) r = absurd (kept_not (λ x. cc (sym r ∙ x)))

        stepped : (s : Side Peer) → l.now.port.adjacency ≡ s → IsStepped w.numbers.instances (step_at linked message) s → Stepped
        stepped _ e (by_table drawn) = record { drawn = drawn; has = e }
        stepped _ e (begins own more) = anew own more e (step_at linked message).answer refl

        takes_step : TakesStep topology w (Carry (Up end.node)) end shows.site.controller.address (step_at linked message)
        takes_step =
            let s : Stepped = stepped l.now.port.adjacency refl l.side in
            record {
              drawn = s.drawn;
              leaves = leaves l.now now_is (side_after (fresh ifmp.first s.drawn) step.answer step.side) s.has (said_in step.answer)
                  (ap (λ (x : Acted). x.controller.address) whole ∙ taken_so.address) l.later (ap (λ (x : Acted). x.controller.queue) whole ∙ l.queue)
                  (subst (λ (x : Acted). Greet site.controller.address x.notes.frames (last_marks home l.later) (said_in step.answer)) (sym whole) l.greets);
            }

    -- *What it hears*
    abbrev Kept : List (Said Peer) → Type 0
    Kept hears = KeepsItsParty w v end (heard_answer hears)

    queue_itself : same_queue (Up end.node) (Up end.node) ≡ true
    queue_itself = both_true (end.node.0 == end.node.0) true (number_itself end.node.0) refl

    heard_is_head : heard_at w (Carry (Up end.node)) end ≡ last_marks home (cell ∷ [])
    heard_is_head = taken_here topology w (Up end.node) (Up end.node) home (cell ∷ cells) queue_itself queue

    unheard : is_last_on home cell ≡ false → Kept [] → TakesNone topology w (Carry (Up end.node)) end shows.site.controller.address side
    unheard off keeps = by cell.header.last refl
      where
        by : (x : Bool) → cell.header.last ≡ x → TakesNone topology w (Carry (Up end.node)) end shows.site.controller.address side
        by false e = early keeps e
        by true e =
            let f = frame e in
            other e f.taker f.takes f.payload f.made f.acted keeps (nobody f.taker f.takes f.payload f.made)
          where
            nobody : (t : Taker) → taker_of site.controller cell.header.channel ≡ Some t → (payload : List ℕ) → payload_of w.notes.frames cell.mark ≡ Some payload → GreetsNoPort end.port t payload
            nobody ForGsmp takes payload made = tt
            nobody (ForDefault q) takes payload made = λ own hello read. true≢false (sym (both_true cell.header.last (same_channel cell.header.channel home) e
                (is_home site.controller cell.header.channel q end.port takes own)) ∙ off)
            nobody (ForLabel q label) takes payload made = (fit e).packets q label payload takes made

    module _ (on_home : is_last_on home cell ≡ true) where
      ends : cell.header.last ≡ true
      ends = first cell.header.last (same_channel cell.header.channel home) on_home

      own_taker : (t : Taker) → taker_of site.controller cell.header.channel ≡ Some t → t ≡ ForDefault linked
      own_taker t takes = one_taker t (ForDefault linked) (sym takes
          ∙ (ap (taker_of site.controller) (channel_is cell.header.channel home (second cell.header.last (same_channel cell.header.channel home) on_home))
          ∙ default_taker site.controller end.port linked link.0 shows.of_port))

      by_marks : (marks : List Mark) (hears : List (Said Peer)) → marks ≡ cell.mark ∷ [] → Greet peer_shows.site.controller.address w.notes.frames marks hears → Every IsWritten hears → Every (NamesIt linked) hears → Kept hears → Hears hears
      by_marks [] hears e none fits names keeps = absurd (cc e)
      by_marks (mark ∷ marks) (message ∷ hears) e (greets own said is later) fits names keeps =
          let same : mark ≡ cell.mark = cc e in
          let more : marks ≡ [] = cc e in
          let nothing_more : hears ≡ [] = no_hellos peer_shows.site.controller.address w.notes.frames marks hears later more in
          subst (λ (ms : List (Said Peer)). Kept (message ∷ ms) → Hears (message ∷ ms)) (sym nothing_more)
          (λ k. (let f = frame ends in
          let t : f.taker ≡ ForDefault linked = own_taker f.taker f.takes in
          takes_step ends (subst (λ (x : Taker). taker_of site.controller cell.header.channel ≡ Some x) t f.takes) f.payload f.made
          (subst (λ (x : Taker). b ≡ frame_holds (with_reassembly (acting w shows.site) x nothing_taken) x cell.mark f.payload) t f.acted)
          message (written peer_shows.site.controller.address w.notes.frames cell.mark message (subst (λ (m : Mark). Greets peer_shows.site.controller.address w.notes.frames m message) same is) fits.0) names.0 k)) keeps
      by_marks (mark ∷ marks) hears e (passed own is later) fits names keeps =
          let same : mark ≡ cell.mark = cc e in
          let more : marks ≡ [] = cc e in
          let nothing_more : hears ≡ [] = no_hellos peer_shows.site.controller.address w.notes.frames marks hears later more in
          subst (λ (ms : List (Said Peer)). Kept ms → Hears ms) (sym nothing_more)
          (λ k. (let f = frame ends in
          let t : f.taker ≡ ForDefault linked = own_taker f.taker f.takes in
          let n : GreetsNobody w.notes.frames cell.mark = subst (GreetsNobody w.notes.frames) same is in
          other ends f.taker f.takes f.payload f.made f.acted k
          (subst (λ (x : Taker). GreetsNoPort end.port x f.payload) (sym t)
          (λ same_port hello read. n.unread hello (ap ifmp_of (one_payload n.payload f.payload (sym n.made ∙ f.made)) ∙ read))))) keeps

    pub brought : (hears : List (Said Peer)) → Greet peer_shows.site.controller.address w.notes.frames (heard_at w (Carry (Up end.node)) end) hears → Every IsWritten hears → Every (NamesIt linked) hears → Kept hears → Hears hears
    brought hears said fits names keeps = by (is_last_on home cell) refl
      where
        by : (x : Bool) → is_last_on home cell ≡ x → Hears hears
        by true e = by_marks e (heard_at w (Carry (Up end.node)) end) hears (heard_is_head ∙ marks_here home cell [] e) said fits names keeps
        by false e =
            let none_heard : hears ≡ [] = no_hellos peer_shows.site.controller.address w.notes.frames (heard_at w (Carry (Up end.node)) end) hears said (heard_is_head ∙ marks_there home cell [] e) in
            subst (λ (ms : List (Said Peer)). Kept ms → Hears ms) (sym none_heard) (λ k. unheard e k) keeps

  -- *No cell waits*
  no_cell : queue_at w (Up end.node) ≡ [] → TakesNone topology w (Carry (Up end.node)) end shows.site.controller.address side
  no_cell queue = record {
    after = side;
    left_by = links.stays;
    leaves = record {
      linked = linked;
      shows = record {
        site = shows.site;
        there = ap (λ (q : List Cell). site_at (carries_head topology (put_away w) (Up end.node) q) end.node) queue ∙ shows.there;
        of_port = shows.of_port;
        address = shows.address;
      };
      goes_by = refl;
      has = refl;
      says = subst (λ (marks : List Mark). Greet shows.site.controller.address v.notes.frames marks [])
          (sym (unowned topology w (Carry (Up end.node)) (Down end.node) home (ap (λ (q : List Cell). owns (carried_to topology (Up end.node) q) (Down end.node)) queue))) none;
    };
  }

  pub by_queue : (hears : List (Said Peer)) → Greet peer_shows.site.controller.address w.notes.frames (heard_at w (Carry (Up end.node)) end) hears → Every IsWritten hears → Every (NamesIt linked) hears
      → KeepsItsParty w v end (heard_answer hears) → Hears hears
  by_queue hears said fits names keeps = by (queue_at w (Up end.node)) refl
    where
      itself : same_queue (Up end.node) (Up end.node) ≡ true
      itself = both_true (end.node.0 == end.node.0) true (number_itself end.node.0) refl

      by : (q : List Cell) → queue_at w (Up end.node) ≡ q → Hears hears
      by [] queue = subst Hears (sym (no_hellos peer_shows.site.controller.address w.notes.frames (heard_at w (Carry (Up end.node)) end) hears said
          (taken_here topology w (Up end.node) (Up end.node) home [] itself queue))) (no_cell queue)
      by (cell ∷ cells) queue = brought cell cells queue hears said fits names keeps

pub carries_go_by_table : CarriesGoByTable
carries_go_by_table topology w end peer linked peer_linked shows peer_shows hears link orderly peace said fits names keeps =
    by_queue topology w end peer linked peer_linked shows peer_shows link orderly peace hears said fits names keeps
