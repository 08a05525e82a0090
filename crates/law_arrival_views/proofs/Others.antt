-- any cell comes to a controller at an end of the link: of the default channel of the link's port, or of another channel

use Rattle.std.proofs.Common.{◌≡◌, ◌≢◌, ℕ, ◌+◌, ◌*◌, ◌/◌, ◌%◌, Bool, true, false, List, [], ◌∷◌, ◌++◌, Option, None, Some, refl, sym, ◌∙◌, ap, subst, arith, length, if◌then◌else◌}
use Rattle.std.specs.Prelude.{not, nat_le, nat_lt}
use Rattle.std.specs.Option.{option_and_then}
use Rattle.std.proofs.lemmas.Bool.Decides.{nat_tests}
use Rattle.law_controller_views.specs.world_model.Words.{PortNo, Mark, Channel, label_number_of, Cell, Loss, Chance, PoolFull, Unbound, payload_of, is_frame, Journal, noted, Reassembly, marks_of, most_cells, broken, passed_over, without_slot, too_long, last_mark, payload_in, tested_by, Label, is_bound, label_at, Linked, port_key, linked_at, chains_with, default_channel, ForGsmp, ForDefault, ForLabel, port_on, on_link, same_channel, label_taker, taker_at, taker_of, reassembly_of, with_reassembly, frame_holds, takes_cell}
use Rattle.law_controller_views.specs.world_model.frame_model.Reassembly.{Taken, cell_joined}
use Rattle.law_controller_views.specs.world_model.frame_model.Frame.{octets_of, passed_test}
use Rattle.law_controller_views.proofs.law_port_facts.Keyed.{on_each, by_eq, at_key}
use Rattle.law_controller_views.specs.law_label_line.Cells.{Role, Downstream, Upstream}
use Rattle.law_controller_views.specs.law_label_line.Line.{Line}
use Rattle.law_controller_views.specs.world_model.Controller.{Acted, free_slots, note}
use Rattle.law_controller_views.specs.world_model.Cells.{Taker, after_test, after_cell, cell_comes}
use Rattle.law_controller_views.specs.law_port_views.Link.{LinkLabel}
use Rattle.law_controller_views.specs.law_shown_cells.Label.{OnControl, channel_at}
use Rattle.law_controller_views.proofs.law_shown_cells.Frames.{same_is}
use Rattle.law_controller_views.proofs.law_shown_cells.Tested.{broken_frames, frame_is, last_is}
use Rattle.law_controller_views.specs.Ends.{Pieces, Net, Goes, EndLeads, idle, asking, placed}
use Rattle.law_controller_views.specs.Lifted.{IsProper}
use Rattle.law_controller_views.specs.Queues.{awaited}
use Rattle.law_controller_views.proofs.Parts.{both, net_goes, goes_on, end_then, quiet_leads}
use Rattle.law_controller_views.proofs.Carried.{lost_net}
use Rattle.law_controller_views.proofs.Works.{port_is, quiet_same, quiet_put, quiet_note, relinked_leads}
use Rattle.law_arrival_views.specs.Cells.{PassesByRight, EndsFrame, IsDefault, ended_by, CanArrive}
use Rattle.law_arrival_views.proofs.Comes.{has_slot, ends_is, own_cell}

-- nothing is asked at either end
idle_net : (link : LinkLabel) (like : Type 0) (role : Role) (pieces : Pieces) (line : Line) → Net link like pieces (asking role []) line → Net link like pieces idle line
idle_net link like Downstream pieces line n = record { end = both _ (n.end Downstream) (n.end Upstream); waiting = n.waiting; output = n.output; unmade = n.unmade }
idle_net link like Upstream pieces line n = record { end = both _ (n.end Downstream) (n.end Upstream); waiting = n.waiting; output = n.output; unmade = n.unmade }

asked_net : (link : LinkLabel) (like : Type 0) (role : Role) (pieces : Pieces) (line : Line) → Net link like pieces idle line → Net link like pieces (asking role []) line
asked_net link like Downstream pieces line n = record { end = both _ (n.end Downstream) (n.end Upstream); waiting = n.waiting; output = n.output; unmade = n.unmade }
asked_net link like Upstream pieces line n = record { end = both _ (n.end Downstream) (n.end Upstream); waiting = n.waiting; output = n.output; unmade = n.unmade }

pub idle_goes : (link : LinkLabel) (like : Type 0) (role : Role) (pieces : Pieces) (line : Line) → Goes link like pieces (asking role []) line → Goes link like pieces idle line
idle_goes link like role pieces line g = record { moves = g.moves; after = g.after; is = g.is; net = idle_net link like role pieces g.after g.net }

pub asked_goes : (link : LinkLabel) (like : Type 0) (role : Role) (pieces : Pieces) (line : Line) → Goes link like pieces idle line → Goes link like pieces (asking role []) line
asked_goes link like role pieces line g = record { moves = g.moves; after = g.after; is = g.is; net = asked_net link like role pieces g.after g.net }

-- *Which channel* a cell of the control link is of
channel_of : (c : Channel) (q p : PortNo) → q.0 ≡ p.0 → port_on c ≡ q → same_channel (on_link c) default_channel ≡ true
    → c ≡ channel_at (OnControl p) default_channel
channel_of c q p same is e = λ i. record { vpi = vpi i; vci = vci i }
  where
    number : c.vpi / 16 ≡ p.0
    number = ap (λ (z : PortNo). z.0) is ∙ same

    link_is : on_link c ≡ default_channel
    link_is = same_is (on_link c) default_channel e

    vpi : c.vpi ≡ 16 * p.0 + 0
    vpi = omega (arith, number, ap (λ (z : Channel). z.vpi) link_is)

    vci : c.vci ≡ 15
    vci = ap (λ (z : Channel). z.vci) link_is

pub port_of_default : (c : Channel) (p : PortNo) → c ≡ channel_at (OnControl p) default_channel → (port_on c).0 ≡ p.0
port_of_default c p is = omega (arith, ap (λ (z : Channel). z.vpi) is)

pub default_on_link : (c : Channel) (p : PortNo) → c ≡ channel_at (OnControl p) default_channel → same_channel (on_link c) default_channel ≡ true
default_on_link c p is =
    let vpi : c.vpi % 16 ≡ 0 = omega (arith, ap (λ (z : Channel). z.vpi) is) in
    let vci : c.vci ≡ 15 = ap (λ (z : Channel). z.vci) is in
    grind (arith, nat_tests, vpi, vci)

-- the taker of a channel is found at its port, which isn't the link's but for a label's channel
pub data IsAway (link : LinkLabel) (role : Role) (a : Acted) : Taker → Type 0 where
  gsmp : IsAway link role a ForGsmp
  default_away : (linked : Linked) (q : PortNo) → linked_at a.controller q ≡ Some linked → q.0 ≢ (link.port role).0 → IsAway link role a (ForDefault linked)
  label : (linked : Linked) (q : PortNo) (x : Label) → linked_at a.controller q ≡ Some linked → IsAway link role a (ForLabel linked x)

module _ (link : LinkLabel) (proper : IsProper link) (like : Type 0) (role : Role) where
  abbrev To : Acted → Acted → Type 0
  To a b = EndLeads link like role a [] b []

  noted_leads : (a : Acted) (notes : Journal) → notes.frames ≡ a.notes.frames → To a (record a { notes = notes })
  noted_leads a notes same = quiet_leads link like role a (record a { notes = notes }) [] (quiet_same link proper like role a (record a { notes = notes }) same (omega arith) refl refl refl refl)

  -- its chain is another
  rechained : (a : Acted) (taker : Taker) (notes : Journal) (r : Reassembly) → IsAway link role a taker → notes.frames ≡ a.notes.frames
      → To a (with_reassembly (record a { notes = notes }) taker r)
  rechained a ForGsmp notes r gsmp same = quiet_leads link like role a (with_reassembly (record a { notes = notes }) ForGsmp r) []
      (quiet_same link proper like role a (with_reassembly (record a { notes = notes }) ForGsmp r) same (omega arith) refl refl refl refl)
  rechained a (ForDefault linked) notes r (default_away x q found n) same = quiet_leads link like role a (with_reassembly (record a { notes = notes }) (ForDefault linked) r) []
      (quiet_put link proper like role a (record linked { reassembly = r }) notes a.numbers.instances same (omega arith)
      (λ e. n (sym (at_key port_key q.0 a.controller.ports linked found) ∙ e)))
  rechained a (ForLabel linked x) notes r (label y q z found) same = relinked_leads link proper like role a q linked (record linked { chains = chains_with linked.chains x.number r }) notes []
      found refl refl refl same

  module _ (a : Acted) (taker : Taker) (c : Cell) (away : IsAway link role a taker) (passes : EndsFrame a (reassembly_of a.controller taker) c → PassesByRight a ((reassembly_of a.controller taker).chain ++ c ∷ []))
      (holds : EndsFrame a (reassembly_of a.controller taker) c → (payload : List ℕ) → payload_of a.notes.frames c.mark ≡ Some payload → EndLeads link like role (ended_by a taker) [] (frame_holds (ended_by a taker) taker c.mark payload) []) where
    chain_then : (b : Acted) → To (ended_by a taker) b → To a b
    chain_then b leads = end_then link like role a (ended_by a taker) b [] [] [] (rechained a taker a.notes (record (reassembly_of a.controller taker) { chain = [] }) away refl) leads

    tested_leads : EndsFrame a (reassembly_of a.controller taker) c → (o : Option (List ℕ)) → payload_in (octets_of ((reassembly_of a.controller taker).chain ++ c ∷ [])) ≡ o → (notes : Journal) → notes ≡ a.notes
        → To a (after_test (ended_by a taker) taker (last_mark ((reassembly_of a.controller taker).chain ++ c ∷ [])) (tested_by notes ((reassembly_of a.controller taker).chain ++ c ∷ []) o))
    tested_leads whole None e notes same =
        let marks : List Mark = marks_of ((reassembly_of a.controller taker).chain ++ c ∷ []) in
        subst (λ (j : Journal). To a (record (ended_by a taker) { notes = broken j marks })) (sym same)
        (end_then link like role a (record a { notes = broken a.notes marks }) (record (ended_by a taker) { notes = broken a.notes marks }) [] [] []
        (noted_leads a (broken a.notes marks) (broken_frames marks a.notes)) (moved_notes taker marks away))
      where
        moved_notes : (t : Taker) (ms : List Mark) → IsAway link role a t
            → To (record a { notes = broken a.notes ms }) (record (with_reassembly a t (record (reassembly_of a.controller taker) { chain = [] })) { notes = broken a.notes ms })
        moved_notes ForGsmp ms gsmp = rechained (record a { notes = broken a.notes ms }) ForGsmp (broken a.notes ms) (record (reassembly_of a.controller taker) { chain = [] }) gsmp refl
        moved_notes (ForDefault linked) ms (default_away x q found n) = rechained (record a { notes = broken a.notes ms }) (ForDefault linked) (broken a.notes ms)
            (record (reassembly_of a.controller taker) { chain = [] }) (default_away linked q found n) refl
        moved_notes (ForLabel linked y) ms (label x q z found) = rechained (record a { notes = broken a.notes ms }) (ForLabel linked y) (broken a.notes ms)
            (record (reassembly_of a.controller taker) { chain = [] }) (label linked q y found) refl
    tested_leads whole (Some payload) e notes same =
        let chain : List Cell = (reassembly_of a.controller taker).chain ++ c ∷ [] in
        let right : is_frame a.notes.frames (last_mark chain) payload ≡ true = passes whole payload e in
        let mark : last_mark chain ≡ c.mark = last_is (reassembly_of a.controller taker).chain c in
        let kept : passed_test notes (last_mark chain) payload ≡ a.notes = ap (λ (j : Journal). passed_test j (last_mark chain) payload) same
        ∙ ap (λ (t : Bool). if t then a.notes else noted a.notes (Chance (last_mark chain))) right in
        let made : payload_of a.notes.frames c.mark ≡ Some payload = ap (payload_of a.notes.frames) (sym mark) ∙ frame_is a.notes.frames (last_mark chain) payload right in
        subst (λ (j : Journal). To a (frame_holds (record (ended_by a taker) { notes = j }) taker (last_mark chain) payload)) (sym kept)
        (subst (λ (m : Mark). To a (frame_holds (record (ended_by a taker) { notes = a.notes }) taker m payload)) (sym mark)
        (subst (λ (b : Acted). To a (frame_holds b taker c.mark payload)) (sym (same_notes taker)) (chain_then (frame_holds (ended_by a taker) taker c.mark payload) (holds whole payload made))))
      where
        same_notes : (t : Taker) → record (with_reassembly a t (record (reassembly_of a.controller taker) { chain = [] })) { notes = a.notes }
            ≡ with_reassembly a t (record (reassembly_of a.controller taker) { chain = [] })
        same_notes ForGsmp = refl
        same_notes (ForDefault linked) = refl
        same_notes (ForLabel linked x) = refl

    notes_are : (t : Taker) (r : Reassembly) → (with_reassembly a t r).notes ≡ a.notes
    notes_are ForGsmp r = refl
    notes_are (ForDefault linked) r = refl
    notes_are (ForLabel linked x) r = refl

    abbrev joined_as : Bool → Taken
    joined_as last =
        if last then record { reassembly = record (reassembly_of a.controller taker) { chain = [] }; notes = a.notes; ended = (reassembly_of a.controller taker).chain ++ c ∷ [] }
        else record { reassembly = record (reassembly_of a.controller taker) { chain = (reassembly_of a.controller taker).chain ++ c ∷ [] }; notes = a.notes; ended = [] }

    joined_leads : (c.header.last ≡ true → EndsFrame a (reassembly_of a.controller taker) c) → (last : Bool) → c.header.last ≡ last → To a (after_cell a taker (joined_as last))
    joined_leads whole false is = rechained a taker a.notes (record (reassembly_of a.controller taker) { chain = (reassembly_of a.controller taker).chain ++ c ∷ [] }) away refl
    joined_leads whole true is = subst (To a) (sym (ends_is (ended_by a taker) taker (reassembly_of a.controller taker).chain c))
        (tested_leads (whole is) (payload_in (octets_of ((reassembly_of a.controller taker).chain ++ c ∷ []))) refl (ended_by a taker).notes
        (notes_are taker (record (reassembly_of a.controller taker) { chain = [] })))

    pub other_cell : To a (takes_cell a c (Some taker))
    other_cell =
        let r : Reassembly = reassembly_of a.controller taker in
        let slot : Bool = nat_lt 0 (free_slots a.controller) in
        let to : Taken → Type 0 = λ t. To a (after_cell a taker t) in
        on_each to r.is_skipping (passed_over a.notes r c) (if not slot then without_slot a.notes r c else (if nat_le most_cells (length r.chain) then too_long a.notes r c else cell_joined a.notes r c))
        (λ e. rechained a taker (broken a.notes (c.mark ∷ [])) (passed_over a.notes r c).reassembly away (broken_frames (c.mark ∷ []) a.notes))
        (λ e. on_each to (not slot) (without_slot a.notes r c) (if nat_le most_cells (length r.chain) then too_long a.notes r c else cell_joined a.notes r c)
        (λ f. rechained a taker (without_slot a.notes r c).notes (without_slot a.notes r c).reassembly away (broken_frames (marks_of r.chain) (noted a.notes (Loss c.mark PoolFull))))
        (λ f. on_each to (nat_le most_cells (length r.chain)) (too_long a.notes r c) (cell_joined a.notes r c)
        (λ g. rechained a taker (too_long a.notes r c).notes (too_long a.notes r c).reassembly away (broken_frames (marks_of (r.chain ++ c ∷ [])) a.notes))
        (λ g. joined_leads (λ last. record { last = last; gathers = e; slot = has_slot slot f; short = g }) c.header.last refl)))

  -- *Any cell*
  module _ (pieces : Pieces) (a : Acted) (c : Cell) (ws : List Cell) (line : Line) (front : pieces.waiting role ≡ c ∷ ws)
      (net : Net link like (placed role pieces a) (asking role []) line) (can : CanArrive link like role a c) where
    abbrev Arrived : Acted → Type 0
    Arrived b = Goes link like (placed role (awaited role pieces ws) b) (asking role []) line

    -- where it isn't of the link's default channel it is given up, and what the controller does leads on
    lost_then : (b : Acted) → To a b → Arrived b
    lost_then b leads = goes_on link like (placed role (awaited role pieces ws) a) (placed role (awaited role pieces ws) b) (asking role []) (asking role []) line
        (asked_goes link like role (placed role (awaited role pieces ws) a) line (lost_net link like role (placed role pieces a) line c ws front (idle_net link like role (placed role pieces a) line net)))
        (λ z n. net_goes link like role (awaited role pieces ws) a b [] [] z leads n)

    nobody : Arrived (takes_cell a c None)
    nobody = lost_then (note a (Loss c.mark Unbound)) (quiet_leads link like role a (note a (Loss c.mark Unbound)) [] (quiet_note link proper like role a (Loss c.mark Unbound)))

    taker_comes : (taker : Taker) → taker_of a.controller c.header.channel ≡ Some taker → IsAway link role a taker → (IsDefault link role c → ⊥) → Arrived (takes_cell a c (Some taker))
    taker_comes taker is away not_own = lost_then (takes_cell a c (Some taker))
        (other_cell a taker c away (can.passes taker is) (λ whole payload made. can.holds taker payload is not_own whole made))

    not_gsmp : same_channel c.header.channel default_channel ≡ true → IsDefault link role c → ⊥
    not_gsmp e is = absurd (omega (arith, proper.above role, port_of_default c.header.channel (link.port role) is, ap (λ (z : Channel). z.vpi) (same_is c.header.channel default_channel e)))

    label_comes : (linked : Linked) → linked_at a.controller (port_on c.header.channel) ≡ Some linked → (o : Option Label) → taker_of a.controller c.header.channel ≡ label_taker linked o
        → (IsDefault link role c → ⊥) → Arrived (takes_cell a c (label_taker linked o))
    label_comes linked found None is not_own = nobody
    label_comes linked found (Some x) is not_own = on_each (λ (o : Option Taker). Arrived (takes_cell a c o)) (is_bound x.state) (Some (ForLabel linked x)) None
        (λ t. taker_comes (ForLabel linked x) (is ∙ ap (λ (t : Bool). if t then Some (ForLabel linked x) else None) t) (label linked (port_on c.header.channel) x found) not_own)
        (λ t. nobody)

    linked_comes : (o : Option Linked) → linked_at a.controller (port_on c.header.channel) ≡ o → taker_of a.controller c.header.channel ≡ taker_at o (on_link c.header.channel)
        → Arrived (takes_cell a c (taker_at o (on_link c.header.channel)))
    linked_comes None found is = nobody
    linked_comes (Some linked) found is = on_each (λ (o : Option Taker). Arrived (takes_cell a c o)) (same_channel (on_link c.header.channel) default_channel) (Some (ForDefault linked))
        (label_taker linked (option_and_then (label_at linked.port) (label_number_of (on_link c.header.channel))))
        (λ t. by_eq (port_on c.header.channel).0 (link.port role).0
        (λ same u.
        let here : IsDefault link role c = channel_of c.header.channel (port_on c.header.channel) (link.port role) same refl t in
        let there : linked_at a.controller (link.port role) ≡ Some linked = subst (λ (q : PortNo). linked_at a.controller q ≡ Some linked) (port_is (port_on c.header.channel) (link.port role) same) found in
        own_cell link proper like role pieces a linked c ws line there front net here (can.own linked there here))
        (λ differ u. taker_comes (ForDefault linked)
        (is ∙ ap (λ (b : Bool). if b then Some (ForDefault linked) else label_taker linked (option_and_then (label_at linked.port) (label_number_of (on_link c.header.channel)))) t)
        (default_away linked (port_on c.header.channel) found differ) (λ own. differ (port_of_default c.header.channel (link.port role) own))))
        (λ t. label_comes linked found (option_and_then (label_at linked.port) (label_number_of (on_link c.header.channel)))
        (is ∙ ap (λ (b : Bool). if b then Some (ForDefault linked) else label_taker linked (option_and_then (label_at linked.port) (label_number_of (on_link c.header.channel)))) t)
        (λ own. not_label t own))
      where
        not_label : same_channel (on_link c.header.channel) default_channel ≡ false → IsDefault link role c → ⊥
        not_label t own = (let is_default : same_channel (on_link c.header.channel) default_channel ≡ true = default_on_link c.header.channel (link.port role) own in absurd (cc (t, is_default)))

    pub cell_net : Arrived (cell_comes a c)
    cell_net = on_each (λ (o : Option Taker). Arrived (takes_cell a c o)) (same_channel c.header.channel default_channel) (Some ForGsmp)
        (taker_at (linked_at a.controller (port_on c.header.channel)) (on_link c.header.channel))
        (λ t. taker_comes ForGsmp
        (ap (λ (b : Bool). if b then Some ForGsmp else taker_at (linked_at a.controller (port_on c.header.channel)) (on_link c.header.channel)) t) gsmp (not_gsmp t))
        (λ t. linked_comes (linked_at a.controller (port_on c.header.channel)) refl
        (ap (λ (b : Bool). if b then Some ForGsmp else taker_at (linked_at a.controller (port_on c.header.channel)) (on_link c.header.channel)) t))
