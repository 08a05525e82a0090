-- a last cell that comes to a controller, of which the ledger has no entry, ends a frame that acts; and a chain is gathered in its port

use Rattle.std.proofs.Common.{◌≡◌, ◌≢◌, ℕ, ◌+◌, ◌*◌, ◌/◌, ◌%◌, ◌==◌, ◌&&◌, Bool, true, false, true≢false, List, [], ◌∷◌, ◌++◌, length, Option, None, Some, refl, sym, ◌∙◌, ap, subst, arith, if◌then◌else◌}
use Rattle.std.specs.Prelude.{bytes_eq, nat_lt, nat_le, not}
use Rattle.std.specs.Option.{option_map, option_map_or, option_and_then}
use Rattle.std.proofs.lemmas.Slice.Eq.{bytes_eq-Decides}
use Rattle.std.proofs.lemmas.Bool.Decides.{nat_tests}
use Rattle.world_model.specs.Words.{NodeId, PortNo, Up, Channel, Mark, Cell, Chance, Unbound, Journal, noted, has_entry, is_frame, payload_of, last_mark, payload_in, tested_by, Reassembly, nothing_taken, default_channel, default_home, Setup, Controller, Label, Linked, linked_at, port_key, at, put, with_linked, chains_with, label_number_of, is_bound, label_at, taker_of, taker_at, label_taker, port_on, on_link, ForGsmp, ForDefault, ForLabel, reassembly_of, same_channel, with_reassembly, takes_cell, Topology, World, Site, site_at, queue_at, next, OfController, reassembly_at, has_slot, arrival, cell_for, taken_at, CountsAsItsFrame}
use Rattle.world_model.specs.frame_model.Frame.{octets_of, tested, passed_test}
use Rattle.world_model.specs.frame_model.Reassembly.{Taken, taken, most_cells, passed_over, without_slot, too_long}
use Rattle.world_model.specs.Controller as controllers
use Rattle.world_model.specs.Controller.{Acted}
use Rattle.world_model.specs.Cells as controller
use Rattle.world_model.specs.Cells.{Taker, frame_holds, after_cell, ends_frame, cell_comes}
use Rattle.world_model.specs.Stretches as stretches
use Rattle.world_model.specs.Stretches.{ended_at, controller_arrival}
use Rattle.world_model.specs.network_model.declared.event.Event.TheVariants.{Carry}
use Rattle.law_link_met.specs.law_port_facts.ordered_lists.Ordered.{InOrder}
use Rattle.law_link_met.proofs.law_port_facts.Keyed.{by_eq, at_key, at_put_same, at_put_other, each_found}
use Rattle.law_link_met.proofs.law_run_facts.Takers.{OfTaker, taker_at_port}
use Rattle.law_link_met.proofs.law_live_frames.Breaking.{ended_whole}
use Rattle.law_link_met.proofs.law_live_frames.Coming.{last_is, same_itself, finish, quiet, fails, rest_notes}
use Rattle.law_link_met.specs.law_live_hearing.Law.{acting}
use Rattle.law_link_met.proofs.law_live_hearing.Sites.{up_notes}
use Rattle.law_link_met.proofs.law_live_hearing.Switching.{last_entry}
use Rattle.law_link_met.proofs.law_live_hearing.Taking.{Passes, passes}

same_bytes : (xs : List ℕ) → bytes_eq xs xs ≡ true
same_bytes xs = (bytes_eq-Decides xs xs).1 refl

-- a payload that was made under its mark last
is_made : (notes : Journal) (mark : Mark) (payload : List ℕ) → payload_of notes.frames mark ≡ Some payload → is_frame notes.frames mark payload ≡ true
is_made notes mark payload made = ap (λ o. option_map_or (λ kept. bytes_eq kept payload) o false) made ∙ same_bytes payload

controller_ends : (b : Acted) (t : Taker) (chain : List Cell) (cell : Cell)
    → controller.ends_frame b t (chain ++ cell ∷ []) ≡ controller.after_test b t (last_mark (chain ++ cell ∷ [])) (tested b.notes (chain ++ cell ∷ []))
controller_ends b t [] cell = refl
controller_ends b t (x ∷ chain) cell = refl

module _ (topology : Topology) (v : World) (node : NodeId) (site : Site) (found : site_at v node ≡ Some site) (cell : Cell) (cells : List Cell)
    (queue : queue_at v (Up node) ≡ cell ∷ cells) (last : cell.header.last ≡ true)
    (counts : CountsAsItsFrame v (Carry (Up node))) (unlost : has_entry (next topology v (Carry (Up node))).notes.entries cell.mark ≡ false) where
  abbrev a : Acted
  a = acting v site

  abbrev of_channel : stretches.Reassembler
  of_channel = OfController node cell.header.channel

  unlost_here : has_entry (controller.cell_comes a cell).notes.entries cell.mark ≡ false
  unlost_here = ap (λ (n : Journal). has_entry n.entries cell.mark) (sym (up_notes topology v node site found cell cells queue)) ∙ unlost

  -- *A frame acts*
  pub record Acts : Type 0 where
    pub taker : Taker
    pub takes : taker_of site.controller cell.header.channel ≡ Some taker
    pub payload : List ℕ
    pub made : payload_of v.notes.frames cell.mark ≡ Some payload
    pub acted : cell_comes (acting v site) cell ≡ frame_holds (with_reassembly (acting v site) taker nothing_taken) taker cell.mark payload

  module _ (t : Taker) (taker : taker_of site.controller cell.header.channel ≡ Some t) where
    abbrev r : Reassembly
    r = reassembly_of site.controller t

    abbrev slot : Bool
    slot = nat_lt 0 (controllers.free_slots site.controller)

    unlost_taken : has_entry (finish a t (taken a.notes slot r cell)).entries cell.mark ≡ false
    unlost_taken = ap (λ o. has_entry (takes_cell a cell o).notes.entries cell.mark) (sym taker) ∙ unlost_here

    p : Passes a.notes r cell slot last (finish a t) (quiet a t) (fails a t cell) unlost_taken
    p = passes a.notes r cell slot last (finish a t) (quiet a t) (fails a t cell) unlost_taken

    comes : cell_for of_channel (arrival v (Carry (Up node))) ≡ Some cell
    comes = ap (λ q. cell_for of_channel (controller_arrival node q)) queue ∙ ap (λ (b : Bool). if b then Some cell else None) (same_itself of_channel)

    gathered : reassembly_at v of_channel ≡ Some r
    gathered = ap (λ (o : Option Site). option_and_then (λ (c : Controller). option_map (reassembly_of c) (taker_of c cell.header.channel)) (option_map (λ (s : Site). s.controller) o)) found
        ∙ ap (option_map (reassembly_of site.controller)) taker

    has_room : has_slot v of_channel ≡ true
    has_room = ap (λ (o : Option Site). option_map_or (λ (c : Controller). nat_lt 0 (controllers.free_slots c)) (option_map (λ (s : Site). s.controller) o) false) found ∙ p.slot_is

    ended : ended_at v (Carry (Up node)) of_channel ≡ r.chain ++ cell ∷ []
    ended = ap (λ o. option_map_or (λ (u : Taken). u.ended) (taken_at v of_channel o (cell_for of_channel (arrival v (Carry (Up node))))) []) gathered
        ∙ (ap (λ o. option_map_or (λ (u : Taken). u.ended) (taken_at v of_channel (Some r) o) []) comes
        ∙ (ap (λ (b : Bool). (taken v.notes b r cell).ended) has_room ∙ ended_whole v.notes r cell last p.going p.short))

    whole : payload_in (octets_of (ended_at v (Carry (Up node)) of_channel)) ≡ Some p.payload
    whole = ap (λ (cs : List Cell). payload_in (octets_of cs)) ended ∙ p.test

    own : last_mark (ended_at v (Carry (Up node)) of_channel) ≡ cell.mark
    own = ap last_mark ended ∙ last_is r.chain cell

    made_so : payload_of v.notes.frames cell.mark ≡ Some p.payload
    made_so = subst (λ (m : Mark). payload_of v.notes.frames m ≡ Some p.payload) own (counts of_channel p.payload whole)

    abbrev emptied : Acted
    emptied = with_reassembly a t (record r { chain = [] })

    made_there : is_frame emptied.notes.frames cell.mark p.payload ≡ true
    made_there = ap (λ (n : Journal). is_frame n.frames cell.mark p.payload) (rest_notes a t a (record r { chain = [] }) t) ∙ is_made a.notes cell.mark p.payload made_so

    acted_so : cell_comes a cell ≡ frame_holds (with_reassembly a t nothing_taken) t cell.mark p.payload
    acted_so = ap (λ o. takes_cell a cell o) taker
        ∙ (ap (λ (u : Taken). controller.after_cell a t u) p.left
        ∙ (controller_ends emptied t r.chain cell
        ∙ (ap (λ o. controller.after_test emptied t (last_mark (r.chain ++ cell ∷ [])) (tested_by emptied.notes (r.chain ++ cell ∷ []) o)) p.test
        ∙ (ap (λ (m : Mark). frame_holds (record emptied { notes = passed_test emptied.notes m p.payload }) t m p.payload) (last_is r.chain cell)
        ∙ (ap (λ (b : Bool). frame_holds (record emptied { notes = if b then emptied.notes else noted emptied.notes (Chance cell.mark) }) t cell.mark p.payload) made_there
        ∙ ap (λ (x : Reassembly). frame_holds (with_reassembly a t x) t cell.mark p.payload) no_more)))))
      where
        no_more : record r { chain = [] } ≡ nothing_taken
        no_more = λ i. record { chain = []; is_skipping = p.going i }

    acts_by : Acts
    acts_by = record { taker = t; takes = taker; payload = p.payload; made = made_so; acted = acted_so }

  by_taker : (o : Option Taker) → taker_of site.controller cell.header.channel ≡ o → Acts
  by_taker (Some t) taker = acts_by t taker
  by_taker None taker = absurd (true≢false (sym (ap (λ o. has_entry (takes_cell a cell o).notes.entries cell.mark) taker
      ∙ last_entry a.notes.entries (record { mark = cell.mark; cause = Unbound })) ∙ unlost_here))

  pub acts : Acts
  acts = by_taker (taker_of site.controller cell.header.channel) refl

-- *Another cell* ends no chain
module _ (notes : Journal) (slot : Bool) (r : Reassembly) (cell : Cell) (early : cell.header.last ≡ false) where
  abbrev by_tests : (skips full long last : Bool) → Taken
  by_tests skips full long last =
      if skips then passed_over notes r cell
      else (if full then without_slot notes r cell
      else (if long then too_long notes r cell
      else (if last then record { reassembly = record r { chain = [] }; notes = notes; ended = r.chain ++ cell ∷ [] }
      else record { reassembly = record r { chain = r.chain ++ cell ∷ [] }; notes = notes; ended = [] })))

  pub early_ends_none : (taken notes slot r cell).ended ≡ []
  early_ends_none = ap (λ (b : Bool). (by_tests r.is_skipping (not slot) (nat_le most_cells (length r.chain)) b).ended) early ∙ by r.is_skipping (not slot) (nat_le most_cells (length r.chain))
    where
      by : (skips full long : Bool) → (by_tests skips full long false).ended ≡ []
      by true full long = refl
      by false true long = refl
      by false false true = refl
      by false false false = refl

-- *Whose channel it is*
one_default : (l q : Linked) → Some (ForDefault l) ≡ Some (ForDefault q) → l ≡ q
one_default l q e = cc

module _ (c : Controller) (channel : Channel) (q : Linked) where
  record OfDefault : Type 0 where
    number : (port_on channel).0 ≡ q.setup.port.0
    on : same_channel (on_link channel) default_channel ≡ true

  of_label : (l : Linked) (o : Option Label) → label_taker l o ≡ Some (ForDefault q) → ⊥
  of_label l None e = absurd (cc e)
  of_label l (Some label) e = by (is_bound label.state) e
    where
      by : (b : Bool) → (if b then Some (ForLabel l label) else None) ≡ Some (ForDefault q) → ⊥
      by true e = absurd (cc e)
      by false e = absurd (cc e)

  of_port : (o : Option Linked) → linked_at c (port_on channel) ≡ o → taker_at o (on_link channel) ≡ Some (ForDefault q) → OfDefault
  of_port None found e = absurd (cc e)
  of_port (Some l) found e = by (same_channel (on_link channel) default_channel) refl e
    where
      by : (b : Bool) → same_channel (on_link channel) default_channel ≡ b
          → (if b then Some (ForDefault l) else label_taker l (option_and_then (label_at l.port) (label_number_of (on_link channel)))) ≡ Some (ForDefault q) → OfDefault
      by true on e = record {
        number = sym (at_key port_key (port_on channel).0 c.ports l found) ∙ ap (λ (x : Linked). x.setup.port.0) (one_default l q e);
        on = on;
      }
      by false on e = absurd (of_label l (option_and_then (label_at l.port) (label_number_of (on_link channel))) e)

  of_default : taker_of c channel ≡ Some (ForDefault q) → OfDefault
  of_default e = by (same_channel channel default_channel) e
    where
      by : (b : Bool) → (if b then Some ForGsmp else taker_at (linked_at c (port_on channel)) (on_link channel)) ≡ Some (ForDefault q) → OfDefault
      by true e = absurd (cc e)
      by false e = of_port (linked_at c (port_on channel)) refl e

  pub is_home : (port : PortNo) → taker_of c channel ≡ Some (ForDefault q) → q.setup.port.0 ≡ port.0 → same_channel channel (default_home port).channel ≡ true
  is_home port e own = so channel.vpi channel.vci port.0 ((of_default e).number ∙ own) (of_default e).on
    where
      zero_is : (n : ℕ) → (n == 0) ≡ true → n ≡ 0
      zero_is n e = grind (arith, nat_tests)

      same_is : (m n : ℕ) → m ≡ n → (m == n) ≡ true
      same_is m n e = grind (arith, nat_tests)

      both : (x y : Bool) → x ≡ true → y ≡ true → (x && y) ≡ true
      both true y e f = f
      both false y e f = absurd (cc e)

      front : (x y : Bool) → (x && y) ≡ true → x ≡ true
      front true y e = refl
      front false y e = absurd (cc e)

      back : (x y : Bool) → (x && y) ≡ true → y ≡ true
      back true y e = e
      back false y e = absurd (cc e)

      so : (vpi vci p : ℕ) → vpi / 16 ≡ p → ((vpi % 16 == 0) && (vci == 15)) ≡ true → ((vpi == 16 * p + 0) && (vci == 15)) ≡ true
      so vpi vci p number on =
          let zero : vpi % 16 ≡ 0 = zero_is (vpi % 16) (front (vpi % 16 == 0) (vci == 15) on) in
          both (vpi == 16 * p + 0) (vci == 15) (same_is vpi (16 * p + 0) (omega (arith, number, zero))) (back (vpi % 16 == 0) (vci == 15) on)

-- *A chain is gathered*, and the port is there still, as it was
pub record IsThere (port : PortNo) (linked : Linked) (b : Acted) : Type 0 where
  pub now : Linked
  pub is : linked_at b.controller port ≡ Some now
  pub port_is : now.port ≡ linked.port
  pub setup : now.setup ≡ linked.setup

module _ (a : Acted) (port : PortNo) (linked : Linked) (found : linked_at a.controller port ≡ Some linked) where
  one : (x y : Linked) → Some x ≡ Some y → x ≡ y
  one x y e = cc

  put_there : (q now : Linked) → at port_key (port_key q) a.controller.ports ≡ Some q → now.port ≡ q.port → now.setup ≡ q.setup → IsThere port linked (with_linked a now)
  put_there q now own port_is setup = by_eq (port_key q) port.0
      (λ e t. (let is_it : q ≡ linked = one q linked (sym own ∙ (ap (λ k. at port_key k a.controller.ports) e ∙ found)) in record {
        now = now;
        is = subst (λ k. at port_key k (put port_key now a.controller.ports) ≡ Some now) (key ∙ e)
            (at_put_same port_key now a.controller.ports q (ap (λ k. at port_key k a.controller.ports) key ∙ own));
        port_is = port_is ∙ ap (λ (l : Linked). l.port) is_it;
        setup = setup ∙ ap (λ (l : Linked). l.setup) is_it;
      }))
      (λ differs t. record {
        now = linked;
        is = at_put_other port_key now port.0 a.controller.ports (λ e. differs (sym key ∙ e)) ∙ found;
        port_is = refl;
        setup = refl;
      })
    where
      key : port_key now ≡ port_key q
      key = ap (λ (s : Setup). s.port.0) setup

  pub gathered_there : InOrder (λ (x y : Linked). port_key x ≢ port_key y) a.controller.ports → (channel : Channel) (t : Taker) → taker_of a.controller channel ≡ Some t → (r : Reassembly) → IsThere port linked (with_reassembly a t r)
  gathered_there apart channel t takes r = by t (taker_at_port (λ (l : Linked). at port_key (port_key l) a.controller.ports ≡ Some l) a.controller channel t (each_found port_key a.controller.ports apart) takes)
    where
      by : (t : Taker) → OfTaker (λ (l : Linked). at port_key (port_key l) a.controller.ports ≡ Some l) t → IsThere port linked (with_reassembly a t r)
      by ForGsmp _ = record { now = linked; is = found; port_is = refl; setup = refl }
      by (ForDefault q) own = put_there q (record q { reassembly = r }) own refl refl
      by (ForLabel q label) own = put_there q (record q { chains = chains_with q.chains label.number r }) own refl refl
