-- a chain that a controller tests passes as the frame of its last cell, where the records have no chance

use Rattle.std.proofs.Common.{◌≡◌, ℕ, Bool, true, false, true≢false, not, List, [], ◌∷◌, ◌++◌, length, Option, None, Some, refl, sym, ◌∙◌, ap, subst, append-nil, if◌then◌else◌}
use Rattle.std.specs.Prelude.{◌+◌, ◌||◌, nat_le, nat_lt}
use Rattle.std.specs.List.{list_any}
use Rattle.std.specs.Option.{option_and_then}
use Rattle.law_branch_shapes.specs.world_model.Words.{Mark, label_number_of, GivenOut, Cell, IsLinkPort, Record, Chance, is_frame, Journal, noted, last_mark, payload_in, tested_by, Reassembly, most_cells, passed_over, without_slot, too_long, Setup, Label, is_bound, label_at, Linked, linked_at, chains_with, default_channel, setup_of, ForGsmp, ForDefault, ForLabel, port_on, on_link, same_channel, label_taker, taker_at, taker_of, reassembly_of, with_reassembly, frame_holds, takes_cell, Channel, is_wild, IsTame}
use Rattle.law_frame_readings.specs.ordered_lists.Ordered.{Every}
use Rattle.law_frame_readings.proofs.ordered_lists.Every.{every_all, every_mapped}
use Rattle.law_branch_shapes.specs.world_model.frame_model.Frame.{octets_of}
use Rattle.law_branch_shapes.specs.world_model.frame_model.Reassembly.{Taken, taken, cell_joined}
use Rattle.law_frame_readings.proofs.law_port_facts.Found.{by_number as label_there}
use Rattle.law_branch_shapes.specs.world_model.Controller.{Acted, free_slots}
use Rattle.law_branch_shapes.specs.world_model.Cells.{Taker, ends_frame, after_test, after_cell, cell_comes}
use Rattle.law_frame_readings.specs.law_controller_facts.Inputs.{takes_inputs}
use Rattle.law_frame_readings.specs.law_controller_facts.Sound.{Opening, opened_by, setups_by}
use Rattle.law_frame_readings.proofs.law_controller_facts.Laws.{always_sound, has_ports, moves_sound}
use Rattle.law_frame_readings.proofs.law_controller_facts.Moves.{Found, found_at_own, gathering, moves_to}
use Rattle.law_input_events.specs.law_controller.Law.{IsOpening}
use Rattle.law_input_events.proofs.law_controller.Laws.{always_holds}
use Rattle.law_input_events.proofs.law_controller.Whole.{Whole, chained_whole}
use Rattle.law_branch_shapes.specs.law_controller_bindings.Bindings.{noted_by_all}
use Rattle.law_frame_readings.proofs.law_controller_facts.Unmet.{ports_apart}
use Rattle.law_frame_readings.specs.law_controller_facts.Inputs.{Input}
use Rattle.law_branch_shapes.specs.world_model.controller_model.declared.range.PortRange.{PortRange}
use Rattle.law_branch_shapes.proofs.law_controller_bindings.Tied.{Tied, NoCut, Settled, anew_tied}
use Rattle.law_branch_shapes.proofs.law_controller_bindings.Events.{IsTiedTo, IsTakerOf, inputs_told, frame_bound, gathered_bound}
use Rattle.law_branch_shapes.proofs.law_controller_bindings.Laws.{opened_at, opened_new}
use Rattle.law_input_events.specs.law_input_steps.Hearing.{IsEnded, PassesTrue}

-- *A chance* stays among the records
wild_front : (xs ys : List Record) → list_any is_wild xs ≡ true → list_any is_wild (xs ++ ys) ≡ true
wild_front [] ys e = absurd (cc e)
wild_front (x ∷ xs) ys e = by (is_wild x) e (wild_front xs ys)
  where
    by : (b : Bool) → (b || list_any is_wild xs) ≡ true → (list_any is_wild xs ≡ true → list_any is_wild (xs ++ ys) ≡ true) → (b || list_any is_wild (xs ++ ys)) ≡ true
    by true e rest = refl
    by false e rest = rest e

wild_last : (xs : List Record) (mark : Mark) → list_any is_wild (xs ++ Chance mark ∷ []) ≡ true
wild_last [] mark = refl
wild_last (x ∷ xs) mark = by (is_wild x) (wild_last xs mark)
  where
    by : (b : Bool) → list_any is_wild (xs ++ Chance mark ∷ []) ≡ true → (b || list_any is_wild (xs ++ Chance mark ∷ [])) ≡ true
    by true e = refl
    by false e = e

module _ (o : Opening) (is : IsOpening o) where
  pub links : Every (λ (setup : Setup). IsLinkPort setup.port) (setups_by o)
  links = every_mapped (setup_of o.node o.address o.timers o.policy) (λ (setup : Setup). IsLinkPort setup.port) o.ranges is.links

  pub nodes : Every (λ (setup : Setup). setup.node ≡ o.node) (setups_by o)
  nodes = every_mapped (setup_of o.node o.address o.timers o.policy) (λ (setup : Setup). setup.node ≡ o.node) o.ranges (every_all (λ (range : PortRange). o.node ≡ o.node) o.ranges (λ range. refl))

  begun : IsTiedTo o.node [] (opened_by o)
  begun = record {
    tied = anew_tied o.node [] (opened_by o).controller.table NoCut (opened_by o).controller.ports (record {
      apart = ports_apart (setups_by o) (opened_by o) (has_ports (setups_by o) (opened_by o) (always_sound o [] is.differ));
      each = opened_new (setup_of o.node o.address o.timers o.policy) o.ranges (o.numbers.instances + 1);
    });
    here = record { own = refl; each = opened_at o.node (setup_of o.node o.address o.timers o.policy) o.ranges (o.numbers.instances + 1) (λ range. refl) };
  }

  always_tied : (inputs : List Input) → IsTiedTo o.node (noted_by_all (opened_by o) inputs) (takes_inputs (opened_by o) inputs)
  always_tied inputs = inputs_told o.node (setups_by o) links nodes inputs [] (opened_by o) (always_holds o [] is) begun

  module _ (inputs : List Input) (notes : Journal) (numbers : GivenOut) where
    abbrev earlier : List Record
    earlier = noted_by_all (opened_by o) inputs

    abbrev a : Acted
    a = record { controller = (takes_inputs (opened_by o) inputs).controller; notes = notes; numbers = numbers }

    abbrev Bound : List Record → Acted → Type 0
    Bound began = Settled o.node earlier began

    abbrev Takes : Taker → Type 0
    Takes taker = IsTakerOf o.node earlier notes.records (setups_by o) links nodes a taker

    -- whoever takes a cell is there
    taker_is : (channel : Channel) (taker : Taker) → taker_of a.controller channel ≡ Some taker → Takes taker
    taker_is channel taker e = by_gsmp (same_channel channel default_channel) e
      where
        by_number : (linked : Linked) → Found (setups_by o) a linked → (n : Option ℕ) (held : Option Label) → option_and_then (label_at linked.port) n ≡ held → label_taker linked held ≡ Some taker → Takes taker
        by_number linked found n None there e = absurd (cc e)
        by_number linked found None (Some label) there e = absurd (cc there)
        by_number linked found (Some n) (Some label) there e = by_state (is_bound label.state) refl e
          where
            by_state : (b : Bool) → is_bound label.state ≡ b → (if b then Some (ForLabel linked label) else None) ≡ Some taker → Takes taker
            by_state true bound e = (let same : ForLabel linked label ≡ taker = cc e in subst Takes same (record { found = found; there = label_there linked.port n label there; bound = bound }))
            by_state false bound e = absurd (cc e)

        by_default : (linked : Linked) → Found (setups_by o) a linked → (b : Bool) → (if b then Some (ForDefault linked) else label_taker linked (option_and_then (label_at linked.port) (label_number_of (on_link channel)))) ≡ Some taker → Takes taker
        by_default linked found true e = (let same : ForDefault linked ≡ taker = cc e in subst Takes same found)
        by_default linked found false e = by_number linked found (label_number_of (on_link channel)) (option_and_then (label_at linked.port) (label_number_of (on_link channel))) refl e

        by_found : (l : Option Linked) → linked_at a.controller (port_on channel) ≡ l → taker_at l (on_link channel) ≡ Some taker → Takes taker
        by_found None found e = absurd (cc e)
        by_found (Some linked) found e = by_default linked (found_at_own (setups_by o) a linked (port_on channel) found) (same_channel (on_link channel) default_channel) e

        by_gsmp : (b : Bool) → (if b then Some ForGsmp else taker_at (linked_at a.controller (port_on channel)) (on_link channel)) ≡ Some taker → Takes taker
        by_gsmp true e = (let same : ForGsmp ≡ taker = cc e in subst Takes same tt)
        by_gsmp false e = by_found (linked_at a.controller (port_on channel)) refl e

    -- *A chance* in the midst is left behind a frame
    module _ (taker : Taker) (there : Takes taker) (mark : Mark) (payload : List ℕ) (r : Reassembly) where
      abbrev wild_notes : Journal
      wild_notes = noted notes (Chance mark)

      abbrev c : Acted
      c = record a { notes = wild_notes }

      there_now : (t : Taker) → Takes t → IsTakerOf o.node earlier wild_notes.records (setups_by o) links nodes c t
      there_now ForGsmp t = tt
      there_now (ForDefault linked) t = t
      there_now (ForLabel linked label) t = record { found = t.found; there = t.there; bound = t.bound }

      whole : Whole (setups_by o) c
      whole = (let w : Whole (setups_by o) (takes_inputs (opened_by o) inputs) = always_holds o inputs is in record { sound = w.sound; order = w.order; fits = w.fits })

      with_whole : (t : Taker) → Takes t → Whole (setups_by o) (with_reassembly c t r)
      with_whole ForGsmp t = record { sound = moves_sound (setups_by o) c (with_reassembly c ForGsmp r) (moves_to (gathering c r)) whole.sound; order = whole.order; fits = whole.fits }
      with_whole (ForDefault linked) t = chained_whole (setups_by o) c linked (record linked { reassembly = r }) t refl refl whole
      with_whole (ForLabel linked label) t = chained_whole (setups_by o) c linked (record linked { chains = chains_with linked.chains label.number r }) t.found refl refl whole

      settled : Bound wild_notes.records c
      settled = (let k : IsTiedTo o.node earlier (takes_inputs (opened_by o) inputs) = always_tied inputs in record {
        new = [];
        is = record { same = sym (append-nil wild_notes.records); own = tt; here = k.here };
        tied = subst (λ (rs : List Record). Tied o.node rs a.controller.table NoCut a.controller.ports) (sym (append-nil earlier)) k.tied;
      })

      left_wild : (frame : Mark) → list_any is_wild (frame_holds (with_reassembly c taker r) taker frame payload).notes.records ≡ true
      left_wild frame =
          let done : Bound wild_notes.records (frame_holds (with_reassembly c taker r) taker frame payload) =
          frame_bound o.node earlier wild_notes.records (setups_by o) links nodes (with_reassembly c taker r) taker frame payload (with_whole taker there)
          (gathered_bound o.node earlier wild_notes.records (setups_by o) links nodes c taker r (there_now taker there) settled) in
          ap (list_any is_wild) done.is.same ∙ wild_front wild_notes.records done.new (wild_last notes.records mark)

    -- *A chain that ends*
    module _ (cell : Cell) (taker : Taker) (takes : taker_of a.controller cell.header.channel ≡ Some taker) (tame : IsTame (cell_comes a cell).notes.records)
        (ended : IsEnded (nat_lt 0 (free_slots a.controller)) (reassembly_of a.controller taker) cell) where
      abbrev r : Reassembly
      r = reassembly_of a.controller taker

      abbrev chain : List Cell
      chain = r.chain ++ cell ∷ []

      abbrev whole_chain : Taken
      whole_chain = record { reassembly = record r { chain = [] }; notes = notes; ended = chain }

      taken_is : taken notes (nat_lt 0 (free_slots a.controller)) r cell ≡ whole_chain
      taken_is = ap (λ (b : Bool). if b then passed_over notes r cell else (if not (nat_lt 0 (free_slots a.controller)) then without_slot notes r cell else (if nat_le most_cells (length r.chain) then too_long notes r cell else cell_joined notes r cell))) ended.listens
          ∙ ap (λ (b : Bool). if b then without_slot notes r cell else (if nat_le most_cells (length r.chain) then too_long notes r cell else cell_joined notes r cell)) ended.slot_is
          ∙ ap (λ (b : Bool). if b then too_long notes r cell else cell_joined notes r cell) ended.short
          ∙ ap (λ (b : Bool). if b then whole_chain else record { reassembly = record r { chain = r.chain ++ cell ∷ [] }; notes = notes; ended = [] }) ended.last

      abbrev b : Acted
      b = with_reassembly a taker (record r { chain = [] })

      ends_as : (front : List Cell) → ends_frame b taker (front ++ cell ∷ []) ≡ after_test b taker (last_mark (front ++ cell ∷ [])) (tested_by b.notes (front ++ cell ∷ []) (payload_in (octets_of (front ++ cell ∷ []))))
      ends_as [] = refl
      ends_as (x ∷ xs) = refl

      same_notes : (t : Taker) (x : Reassembly) → (with_reassembly a t x).notes ≡ notes
      same_notes ForGsmp x = refl
      same_notes (ForDefault linked) x = refl
      same_notes (ForLabel linked label) x = refl

      comes_is : cell_comes a cell ≡ after_test b taker (last_mark chain) (tested_by b.notes chain (payload_in (octets_of chain)))
      comes_is = ap (takes_cell a cell) takes ∙ ap (after_cell a taker) taken_is ∙ ends_as r.chain

      noted_so : (t : Taker) (x : Reassembly) (mark : Mark) → record (with_reassembly a t x) { notes = noted (with_reassembly a t x).notes (Chance mark) } ≡ with_reassembly (record a { notes = noted notes (Chance mark) }) t x
      noted_so ForGsmp x mark = refl
      noted_so (ForDefault linked) x mark = refl
      noted_so (ForLabel linked label) x mark = refl

      pub chain_true : PassesTrue notes.frames chain
      chain_true payload is = by_frame (is_frame notes.frames (last_mark chain) payload) refl
        where
          passes : cell_comes a cell ≡ frame_holds (record b { notes = if is_frame b.notes.frames (last_mark chain) payload then b.notes else noted b.notes (Chance (last_mark chain)) }) taker (last_mark chain) payload
          passes = comes_is ∙ ap (λ (o : Option (List ℕ)). after_test b taker (last_mark chain) (tested_by b.notes chain o)) is

          by_frame : (f : Bool) → is_frame notes.frames (last_mark chain) payload ≡ f → is_frame notes.frames (last_mark chain) payload ≡ true
          by_frame true e = e
          by_frame false e =
              let off : is_frame b.notes.frames (last_mark chain) payload ≡ false = ap (λ (j : Journal). is_frame j.frames (last_mark chain) payload) (same_notes taker (record r { chain = [] })) ∙ e in
              let noted_chance : cell_comes a cell ≡ frame_holds (with_reassembly (record a { notes = noted notes (Chance (last_mark chain)) }) taker (record r { chain = [] })) taker (last_mark chain) payload =
              passes ∙ ap (λ (t : Bool). frame_holds (record b { notes = if t then b.notes else noted b.notes (Chance (last_mark chain)) }) taker (last_mark chain) payload) off
              ∙ ap (λ (x : Acted). frame_holds x taker (last_mark chain) payload) (noted_so taker (record r { chain = [] }) (last_mark chain)) in
              absurd (true≢false (sym (left_wild taker (taker_is cell.header.channel taker takes) (last_mark chain) payload (record r { chain = [] }) (last_mark chain))
              ∙ (ap (λ (x : Acted). list_any is_wild x.notes.records) (sym noted_chance) ∙ tame)))
