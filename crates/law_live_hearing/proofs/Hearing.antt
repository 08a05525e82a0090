-- a last cell that is carried to its receiver ends a frame that is heard, unless its mark is entered into the ledger

use Rattle.std.proofs.Common.{◌≡◌, ℕ, Bool, true, false, true≢false, List, [], ◌∷◌, ◌++◌, Option, None, Some, refl, sym, ◌∙◌, ap, if◌then◌else◌}
use Rattle.std.specs.Prelude.{bytes_eq, drop, nat_lt}
use Rattle.std.specs.Option.{option_map, option_map_or, option_and_then}
use Rattle.std.proofs.lemmas.Slice.Eq.{bytes_eq-Decides}
use Rattle.world_model.specs.Words.{NodeId, Down, Up, Channel, Mark, Cell, Chance, Unbound, Journal, noted, has_entry, is_frame, payload_of, last_mark, payload_in, tested_by, Reassembly, nothing_taken, control_port, gsmp_channel, Controller, taker_of, reassembly_of, same_channel, with_reassembly, takes_cell, is_gsmp, gsmp_cell, switched_cell, frame_read, Topology, World, Site, site_at, queue_at, with_queue_in, next, CountsAsItsFrame, OfController, OfSwitch, arrival, cell_for, has_slot, reassembly_at, taken_at}
use Rattle.world_model.specs.frame_model.Frame.{octets_of, tested, passed_test}
use Rattle.world_model.specs.frame_model.Reassembly.{Taken, taken}
use Rattle.world_model.specs.gsmp_wire.Fields.{decoded}
use Rattle.world_model.specs.Switch as switches
use Rattle.world_model.specs.Conduct as switch
use Rattle.world_model.specs.Controller as controllers
use Rattle.world_model.specs.Cells as controller
use Rattle.world_model.specs.Cells.{Taker, frame_holds}
use Rattle.world_model.specs.Stretches as stretches
use Rattle.world_model.specs.Stretches.{ended_at, controller_arrival, switch_arrival}
use Rattle.world_model.specs.network_model.declared.event.Event.TheVariants.{Carry}
use Rattle.law_live_frames.proofs.Breaking.{ended_whole}
use Rattle.law_live_frames.proofs.Coming.{last_is, same_itself, finish, quiet, fails, rest_notes, finish_there, quiet_there, fails_there}
use Rattle.law_live_hearing.specs.Law.{acting, Hears, acting_switch, SwitchHears}
use Rattle.law_live_hearing.proofs.Sites.{switching, up_notes, up_site, down_notes, down_site}
use Rattle.law_live_hearing.proofs.Switching.{last_entry}
use Rattle.law_live_hearing.proofs.Taking.{Passes, passes}

same_bytes : (xs : List ℕ) → bytes_eq xs xs ≡ true
same_bytes xs = (bytes_eq-Decides xs xs).1 refl

one_payload : (x y : List ℕ) → Some x ≡ Some y → x ≡ y
one_payload x y e = cc

-- a payload that was made under its mark last
is_made : (notes : Journal) (mark : Mark) (payload : List ℕ) → payload_of notes.frames mark ≡ Some payload → is_frame notes.frames mark payload ≡ true
is_made notes mark payload made = ap (λ o. option_map_or (λ kept. bytes_eq kept payload) o false) made ∙ same_bytes payload

-- *At a controller*
controller_ends : (b : controllers.Acted) (t : Taker) (chain : List Cell) (cell : Cell)
    → controller.ends_frame b t (chain ++ cell ∷ []) ≡ controller.after_test b t (last_mark (chain ++ cell ∷ [])) (tested b.notes (chain ++ cell ∷ []))
controller_ends b t [] cell = refl
controller_ends b t (x ∷ chain) cell = refl

module _ (topology : Topology) (v : World) (node : NodeId) (site : Site) (found : site_at v node ≡ Some site) (cell : Cell) (cells : List Cell)
    (queue : queue_at v (Up node) ≡ cell ∷ cells) (last : cell.header.last ≡ true) (payload : List ℕ) (made : payload_of v.notes.frames cell.mark ≡ Some payload)
    (counts : CountsAsItsFrame v (Carry (Up node))) (unlost : has_entry (next topology v (Carry (Up node))).notes.entries cell.mark ≡ false) where
  abbrev a : controllers.Acted
  a = acting v site

  abbrev of_channel : stretches.Reassembler
  of_channel = OfController node cell.header.channel

  unlost_here : has_entry (controller.cell_comes a cell).notes.entries cell.mark ≡ false
  unlost_here = ap (λ (n : Journal). has_entry n.entries cell.mark) (sym (up_notes topology v node site found cell cells queue)) ∙ unlost

  module _ (t : Taker) (taker : taker_of site.controller cell.header.channel ≡ Some t) where
    abbrev r : Reassembly
    r = reassembly_of site.controller t

    abbrev slot : Bool
    slot = nat_lt 0 (controllers.free_slots site.controller)

    unlost_taken : has_entry (finish a t (taken a.notes slot r cell)).entries cell.mark ≡ false
    unlost_taken = ap (λ o. has_entry (takes_cell a cell o).notes.entries cell.mark) (sym taker) ∙ unlost_here

    p : Passes a.notes r cell slot last (finish a t) (quiet a t) (fails a t cell) unlost_taken
    p = passes a.notes r cell slot last (finish a t) (quiet a t) (fails a t cell) unlost_taken

    comes : cell_for of_channel (arrival v (Carry (Up node))) ≡ Some cell
    comes = ap (λ q. cell_for of_channel (controller_arrival node q)) queue ∙ ap (λ (b : Bool). if b then Some cell else None) (same_itself of_channel)

    gathered : reassembly_at v of_channel ≡ Some r
    gathered = ap (λ (o : Option Site). option_and_then (λ (c : Controller). option_map (reassembly_of c) (taker_of c cell.header.channel)) (option_map (λ (s : Site). s.controller) o)) found
        ∙ ap (option_map (reassembly_of site.controller)) taker

    has_room : has_slot v of_channel ≡ true
    has_room = ap (λ (o : Option Site). option_map_or (λ (c : Controller). nat_lt 0 (controllers.free_slots c)) (option_map (λ (s : Site). s.controller) o) false) found ∙ p.slot_is

    ended : ended_at v (Carry (Up node)) of_channel ≡ r.chain ++ cell ∷ []
    ended = ap (λ o. option_map_or (λ (u : Taken). u.ended) (taken_at v of_channel o (cell_for of_channel (arrival v (Carry (Up node))))) []) gathered
        ∙ (ap (λ o. option_map_or (λ (u : Taken). u.ended) (taken_at v of_channel (Some r) o) []) comes
        ∙ (ap (λ (b : Bool). (taken v.notes b r cell).ended) has_room ∙ ended_whole v.notes r cell last p.going p.short))

    whole : payload_in (octets_of (ended_at v (Carry (Up node)) of_channel)) ≡ Some p.payload
    whole = ap (λ (cs : List Cell). payload_in (octets_of cs)) ended ∙ p.test

    own : last_mark (ended_at v (Carry (Up node)) of_channel) ≡ cell.mark
    own = ap last_mark ended ∙ last_is r.chain cell

    same : p.payload ≡ payload
    same = one_payload p.payload payload (sym (counts of_channel p.payload whole) ∙ (ap (payload_of v.notes.frames) own ∙ made))

    abbrev emptied : controllers.Acted
    emptied = with_reassembly a t (record r { chain = [] })

    made_there : is_frame emptied.notes.frames cell.mark payload ≡ true
    made_there = ap (λ (n : Journal). is_frame n.frames cell.mark payload) (rest_notes a t a (record r { chain = [] }) t) ∙ is_made a.notes cell.mark payload made

    acted : controller.cell_comes a cell ≡ frame_holds (with_reassembly a t nothing_taken) t cell.mark payload
    acted = ap (λ o. takes_cell a cell o) taker
        ∙ (ap (λ (u : Taken). controller.after_cell a t u) p.left
        ∙ (controller_ends emptied t r.chain cell
        ∙ (ap (λ o. controller.after_test emptied t (last_mark (r.chain ++ cell ∷ [])) (tested_by emptied.notes (r.chain ++ cell ∷ []) o)) p.test
        ∙ (ap (λ (m : Mark). frame_holds (record emptied { notes = passed_test emptied.notes m p.payload }) t m p.payload) (last_is r.chain cell)
        ∙ (ap (λ (x : List ℕ). frame_holds (record emptied { notes = passed_test emptied.notes cell.mark x }) t cell.mark x) same
        ∙ (ap (λ (b : Bool). frame_holds (record emptied { notes = if b then emptied.notes else noted emptied.notes (Chance cell.mark) }) t cell.mark payload) made_there
        ∙ ap (λ (x : Reassembly). frame_holds (with_reassembly a t x) t cell.mark payload) no_more))))))
      where
        no_more : record r { chain = [] } ≡ nothing_taken
        no_more = λ i. record { chain = []; is_skipping = p.going i }

    hears_by : Hears topology v node cell.header.channel cell.mark payload
    hears_by = record {
      site = site;
      found = found;
      taker = t;
      takes = taker;
      whole = whole ∙ ap (λ (x : List ℕ). Some x) same;
      own = own;
      acts = up_site topology v node site found cell cells queue
          ∙ (ap (λ (b : controllers.Acted). Some (record (with_queue_in site (Up node) cells) { controller = b.controller })) acted
          ∙ ap (λ (q : List Cell). Some (record (with_queue_in site (Up node) (drop 1 q)) { controller = (frame_holds (with_reassembly a t nothing_taken) t cell.mark payload).controller })) (sym queue));
    }

  by_taker : (o : Option Taker) → taker_of site.controller cell.header.channel ≡ o → Hears topology v node cell.header.channel cell.mark payload
  by_taker (Some t) taker = hears_by t taker
  by_taker None taker = absurd (true≢false (sym (ap (λ o. has_entry (takes_cell a cell o).notes.entries cell.mark) taker
      ∙ last_entry a.notes.entries (record { mark = cell.mark; cause = Unbound })) ∙ unlost_here))

  pub controller_hears : Hears topology v node cell.header.channel cell.mark payload
  controller_hears = by_taker (taker_of site.controller cell.header.channel) refl

-- *At a switch*
switch_ends : (b : switches.ActedSwitch) (chain : List Cell) (cell : Cell) → switch.ends_frame b (chain ++ cell ∷ []) ≡ switch.after_test b (tested b.notes (chain ++ cell ∷ []))
switch_ends b [] cell = refl
switch_ends b (x ∷ chain) cell = refl

module _ (topology : Topology) (v : World) (node : NodeId) (site : Site) (found : site_at v node ≡ Some site) (cell : Cell) (cells : List Cell)
    (queue : queue_at v (Down node) ≡ cell ∷ cells) (last : cell.header.last ≡ true) (on : cell.header.channel ≡ gsmp_channel) (payload : List ℕ)
    (made : payload_of v.notes.frames cell.mark ≡ Some payload) (counts : CountsAsItsFrame v (Carry (Down node)))
    (unlost : has_entry (next topology v (Carry (Down node))).notes.entries cell.mark ≡ false) where
  abbrev s : switches.ActedSwitch
  s = switching v site

  abbrev of_switch : stretches.Reassembler
  of_switch = OfSwitch node

  abbrev chained : Reassembly
  chained = site.switch.reassembly

  abbrev free : Bool
  free = nat_lt 0 (switches.free_slots site.switch)

  is_own : is_gsmp control_port cell.header.channel ≡ true
  is_own = ap (is_gsmp control_port) on

  unlost_gathered : has_entry (finish_there s (taken s.notes free chained cell)).entries cell.mark ≡ false
  unlost_gathered = ap (λ (b : Bool). has_entry (if b then gsmp_cell s cell else switched_cell s control_port cell).notes.entries cell.mark) (sym is_own)
      ∙ (ap (λ (n : Journal). has_entry n.entries cell.mark) (sym (down_notes topology v node site found cell cells queue)) ∙ unlost)

  q : Passes s.notes chained cell free last (finish_there s) (quiet_there s) (fails_there s cell) unlost_gathered
  q = passes s.notes chained cell free last (finish_there s) (quiet_there s) (fails_there s cell) unlost_gathered

  comes_there : cell_for of_switch (arrival v (Carry (Down node))) ≡ Some cell
  comes_there = ap (λ cs. cell_for of_switch (switch_arrival node cs)) queue
      ∙ (ap (λ (c : Channel). cell_for of_switch (if same_channel c gsmp_channel then Some (record { taker = OfSwitch node; cell = cell }) else None)) on
      ∙ ap (λ (b : Bool). if b then Some cell else None) (same_itself of_switch))

  ended_there : ended_at v (Carry (Down node)) of_switch ≡ chained.chain ++ cell ∷ []
  ended_there = ap (λ o. option_map_or (λ (u : Taken). u.ended) (taken_at v of_switch o (cell_for of_switch (arrival v (Carry (Down node))))) []) (ap (option_map (λ (x : Site). x.switch.reassembly)) found)
      ∙ (ap (λ o. option_map_or (λ (u : Taken). u.ended) (taken_at v of_switch (Some chained) o) []) comes_there
      ∙ (ap (λ (b : Bool). (taken v.notes b chained cell).ended)
      (ap (λ (o : Option Site). option_map_or (λ (x : Site). nat_lt 0 (switches.free_slots x.switch)) o false) found ∙ q.slot_is) ∙ ended_whole v.notes chained cell last q.going q.short))

  whole_there : payload_in (octets_of (ended_at v (Carry (Down node)) of_switch)) ≡ Some q.payload
  whole_there = ap (λ (cs : List Cell). payload_in (octets_of cs)) ended_there ∙ q.test

  own_there : last_mark (ended_at v (Carry (Down node)) of_switch) ≡ cell.mark
  own_there = ap last_mark ended_there ∙ last_is chained.chain cell

  same_there : q.payload ≡ payload
  same_there = one_payload q.payload payload (sym (counts of_switch q.payload whole_there) ∙ (ap (payload_of v.notes.frames) own_there ∙ made))

  abbrev emptied_there : switches.ActedSwitch
  emptied_there = record s { switch = record site.switch { reassembly = record chained { chain = [] } } }

  acted_there : switch.cell_comes s control_port cell ≡ frame_read (acting_switch v site) (decoded payload)
  acted_there = ap (λ (b : Bool). if b then gsmp_cell s cell else switched_cell s control_port cell) is_own
      ∙ (ap (λ (u : Taken). switch.after_cell s u) q.left
      ∙ (switch_ends emptied_there chained.chain cell
      ∙ (ap (λ o. switch.after_test emptied_there (tested_by emptied_there.notes (chained.chain ++ cell ∷ []) o)) q.test
      ∙ (ap (λ (m : Mark). frame_read (record emptied_there { notes = passed_test emptied_there.notes m q.payload }) (decoded q.payload)) (last_is chained.chain cell)
      ∙ (ap (λ (x : List ℕ). frame_read (record emptied_there { notes = passed_test emptied_there.notes cell.mark x }) (decoded x)) same_there
      ∙ (ap (λ (b : Bool). frame_read (record emptied_there { notes = if b then emptied_there.notes else noted emptied_there.notes (Chance cell.mark) }) (decoded payload)) (is_made s.notes cell.mark payload made)
      ∙ ap (λ (x : Reassembly). frame_read (record s { switch = record site.switch { reassembly = x } }) (decoded payload)) no_more))))))
    where
      no_more : record chained { chain = [] } ≡ nothing_taken
      no_more = λ i. record { chain = []; is_skipping = q.going i }

  pub switch_hears : SwitchHears topology v node cell.mark payload
  switch_hears = record {
    site = site;
    found = found;
    whole = whole_there ∙ ap (λ (x : List ℕ). Some x) same_there;
    own = own_there;
    acts = down_site topology v node site found cell cells queue
        ∙ (ap (λ (b : switches.ActedSwitch). Some (record (with_queue_in site (Down node) cells) { switch = b.switch })) acted_there
        ∙ ap (λ (cs : List Cell). Some (record (with_queue_in site (Down node) (drop 1 cs)) { switch = (frame_read (acting_switch v site) (decoded payload)).switch })) (sym queue));
  }
