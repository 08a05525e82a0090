-- no frame is sent by a grant that has ended or is leaving

use Rattle.std.proofs.Common.{◌≡◌, ℕ, ◌≤◌, ◌<◌, Bool, true, false, List, [], ◌∷◌, ◌++◌, length, refl, sym, ◌∙◌, ap, subst, arith, append_assoc, append-nil}
use Rattle.std.specs.Prelude.{◌+◌, ◌*◌, ◌/◌, ◌%◌, ◌&&◌, ◌==◌, nat_lt, nat_le}
use Rattle.std.specs.List.{range_with_len}
use Rattle.std.proofs.lemmas.Bool.Decides.{nat_tests}
use Rattle.law_controller.specs.world_model.Words.{PortNo, Channel, Mark, is_label_number, label_number_of, Cell, frame_cells, Setup, is_in_range, control_end, Grant, is_leaving, is_by_controller, New, Refreshed, IsLeaving, GrantsFull, Acceptance, acceptance, Linked, same_channel, ForDefault, port_on}
use Rattle.law_controller.proofs.world_model.net_types.Labels.{number_of_channel-label_channel_of}
use Rattle.law_rule_walks.specs.aal5_frames.Frame.{cells_with, cell_of, pdu_of}
use Rattle.law_controller.specs.ordered_lists.Ordered.{Every}
use Rattle.law_controller.proofs.ordered_lists.Every.{every_all, every_join, every_mapped}
use Rattle.law_controller.specs.world_model.port_model.Grants.{OutOfRange, Taken as TakenBy}
use Rattle.law_controller.specs.law_port_facts.Port.{IsGrant, IsPort}
use Rattle.law_controller.proofs.law_port_facts.Rules.{and_second, and_first}
use Rattle.law_controller.specs.world_model.Controller.{Acted}
use Rattle.law_controller.specs.law_controller_facts.Inputs.{Input, CellComes, PacketEnters, Ticks, Restarts, ChangeComes, FrameIsForged, CellLeaves, Meanwhile, takes_input, takes_inputs}
use Rattle.law_controller.specs.law_controller_facts.Sound.{IsSound, IsLinkedPort, opened_by, setups_by}
use Rattle.law_controller.proofs.law_controller_facts.Laws.{has_ports, always_sound}
use Rattle.law_controller.proofs.law_controller_facts.Moves.{found_port}
use Rattle.law_lifetimes.specs.Expiry.{Accepts, anew, again, Sets}
use Rattle.law_lifetimes.specs.Aging.{NotSet}
use Rattle.law_lifetimes.specs.Law.{SendsNoMore}
use Rattle.law_lifetimes.specs.Expiry.{stays_queued, SendsNone, IsConduct}
use Rattle.law_lifetimes.proofs.Grants.{IsFate, accepted_new, accepted_again, in_range_label}
use Rattle.law_lifetimes.proofs.Performing.{Fits as FitsIn}
use Rattle.law_lifetimes.proofs.Joining.{K as KIn, kept as kept_in, by_controller_lives}
use Rattle.law_lifetimes.proofs.Events.{taker_belongs, cell_comes_fits, enters_fits, ticks_fits, restarts_fits, changes_fits}
use Rattle.law_lifetimes.proofs.Ticking.{Short, KShort, FitsShort}
use Rattle.law_lifetimes.proofs.Ending.{counted_sound, none_left}

-- *Channels*: a label's number tells its channel, and so does its port
parts : (a b c : Bool) → (a && (b && c)) ≡ true → (a ≡ true) × (b ≡ true)
parts true true c e = (refl, refl)
parts true false c e = absurd (cc e)
parts false b c e = absurd (cc e)

below_16 : (n : ℕ) → is_label_number n ≡ true → n / 1024 < 16
below_16 n e = less (n / 1024) (parts (nat_lt (n / 1024) 16) (nat_le 32 (n % 1024)) (nat_lt (n % 1024) 1024) e).0
  where
    less : (k : ℕ) → nat_lt k 16 ≡ true → k < 16
    less k t = grind (arith, nat_tests)

above_31 : (n : ℕ) → is_label_number n ≡ true → 32 ≤ n % 1024
above_31 n e = more (n % 1024) (parts (nat_lt (n / 1024) 16) (nat_le 32 (n % 1024)) (nat_lt (n % 1024) 1024) e).1
  where
    more : (k : ℕ) → nat_le 32 k ≡ true → 32 ≤ k
    more k t = grind (arith, nat_tests)

equal : (m n : ℕ) → (m == n) ≡ true → m ≡ n
equal m n e = grind (arith, nat_tests)

-- two labels' channels on the control link are one only where both ports and both labels are
one_end : (q p : PortNo) (m l : ℕ) → is_label_number m ≡ true → is_label_number l ≡ true → same_channel (control_end q m).channel (control_end p l).channel ≡ true → (q.0 ≡ p.0) × (m ≡ l)
one_end q p m l is_m is_l e =
    let vpi : 16 * q.0 + m / 1024 ≡ 16 * p.0 + l / 1024 = equal (16 * q.0 + m / 1024) (16 * p.0 + l / 1024) (and_first (16 * q.0 + m / 1024 == 16 * p.0 + l / 1024) (m % 1024 == l % 1024) e) in
    let vci : m % 1024 ≡ l % 1024 = equal (m % 1024) (l % 1024) (and_second (16 * q.0 + m / 1024 == 16 * p.0 + l / 1024) (m % 1024 == l % 1024) e) in
    let high : m / 1024 ≡ l / 1024 = same_low q.0 p.0 (m / 1024) (l / 1024) (below_16 m is_m) (below_16 l is_l) vpi in
    (same_high q.0 p.0 (m / 1024) (l / 1024) (below_16 m is_m) (below_16 l is_l) vpi, sym (number_of_channel-label_channel_of m) ∙ ap (λ k. k * 1024 + m % 1024) high ∙ ap (λ k. l / 1024 * 1024 + k) vci ∙ number_of_channel-label_channel_of l)
  where
    same_low : (q p a b : ℕ) → a < 16 → b < 16 → 16 * q + a ≡ 16 * p + b → a ≡ b
    same_low q p a b x y e = omega (arith, x, y, e)

    same_high : (q p a b : ℕ) → a < 16 → b < 16 → 16 * q + a ≡ 16 * p + b → q ≡ p
    same_high q p a b x y e = omega (arith, x, y, e)

-- the cells of a frame are on its channel
on_channel : (channel : Channel) (mark : Mark) (payload : List ℕ) (other : Channel) → same_channel channel other ≡ false → Every (λ (cell : Cell). same_channel cell.header.channel other ≡ false) (frame_cells channel mark payload)
unfolding cells_with
on_channel channel mark payload other apart = every_mapped (cell_of channel mark (pdu_of payload)) (λ (cell : Cell). same_channel cell.header.channel other ≡ false) (range_with_len 0 (length (pdu_of payload) / 48))
    (every_all (λ k. same_channel (cell_of channel mark (pdu_of payload) k).header.channel other ≡ false) (range_with_len 0 (length (pdu_of payload) / 48)) (λ k. apart))

module _ (port : PortNo) (label : ℕ) (is_label : is_label_number label ≡ true) (before : List Cell) where
  abbrev pub mine : Channel
  mine = (control_end port label).channel

  -- *A grant that has ended or is leaving*
  abbrev pub Gone : ℕ → Grant → Type 0
  Gone q grant = (is_label_number grant.label ≡ true) × (q ≡ port.0 → grant.label ≡ label → is_leaving grant.state ≡ true)

  differs : (b : Bool) → b ≡ true → b ≡ false → ⊥
  differs b t f = absurd (cc (sym t ∙ f))

  gone_fate : IsFate port.0 label Gone
  gone_fate = record {
    leaves = λ q grant state leaving h. (h.0, λ here is. leaving);
    moves = λ q grant state up h. (h.0, λ here is. absurd (differs (is_leaving grant.state) (h.1 here is) up));
    shortens = λ q grant lifetime less h. h;
    begins = λ q new flow lifetime number other. (number, λ here is. absurd (other here is));
    renews = λ q grant lifetime other h. h;
  }

  -- *What joins the queue*
  abbrev pub Sent : List Cell → Type 0
  Sent queue = SendsNone mine before queue

  more_sent : (queue : List Cell) (channel : Channel) (mark : Mark) (payload : List ℕ) → same_channel channel mine ≡ false → Sent queue → Sent (queue ++ frame_cells channel mark payload)
  more_sent queue channel mark payload apart h = record {
    sent = h.sent ++ frame_cells channel mark payload;
    joined = ap (λ (cells : List Cell). cells ++ frame_cells channel mark payload) h.joined ∙ append_assoc before h.sent (frame_cells channel mark payload);
    others = every_join (λ (cell : Cell). same_channel cell.header.channel mine ≡ false) h.sent (frame_cells channel mark payload) h.others (on_channel channel mark payload mine apart);
  }

  by_test : (b : Bool) → (b ≡ true → ⊥) → b ≡ false
  by_test true never = absurd (never refl)
  by_test false never = refl

  no_default : (k : ℕ) → k ≡ 15 → 32 ≤ label % 1024 → k ≡ label % 1024 → ⊥
  no_default k a b c = omega (arith, a, b, c)

  default_sent : (queue : List Cell) (channel : Channel) (mark : Mark) (payload : List ℕ) → channel.vci ≡ 15 → Sent queue → Sent (queue ++ frame_cells channel mark payload)
  default_sent queue channel mark payload default h = more_sent queue channel mark payload
      (by_test (same_channel channel mine) (λ e. no_default channel.vci default (above_31 label is_label) (equal channel.vci (label % 1024) (and_second (channel.vpi == mine.vpi) (channel.vci == label % 1024) e)))) h

  grant_sent : (queue : List Cell) (q : PortNo) (grant : Grant) (mark : Mark) (payload : List ℕ) → Gone q.0 grant → is_by_controller grant.state ≡ true → Sent queue → Sent (queue ++ frame_cells (control_end q grant.label).channel mark payload)
  grant_sent queue q grant mark payload gone used h = more_sent queue (control_end q grant.label).channel mark payload
      (by_test (same_channel (control_end q grant.label).channel mine)
      (λ e. (let both = one_end q port grant.label label gone.0 is_label e in differs (is_leaving grant.state) (gone.1 both.0 both.1) (by_controller_lives grant.state used)))) h

  abbrev FitsGone : Acted → Type 0
  FitsGone a = FitsIn (KIn port.0 label Gone Sent gone_fate default_sent) Sent (kept_in port.0 label Gone Sent gone_fate default_sent) a

  -- where nothing is left of its lifetime
  all_gone : (setups : List Setup) (x : Linked) → IsLinkedPort setups x → KShort port label 0 x.setup x.port → Every (Gone x.setup.port.0) x.port.grants
  all_gone setups x fits short = by_each x.port.grants fits.grants short
    where
      never : (k : ℕ) → 1 ≤ k → k ≤ 0 → ⊥
      never k more none = omega (arith, more, none)

      by_state : (grant : Grant) → IsGrant setups x.setup grant → Short port.0 label 0 x.setup.port.0 grant → x.setup.port.0 ≡ port.0 → grant.label ≡ label → (b : Bool) → is_leaving grant.state ≡ b → is_leaving grant.state ≡ true
      by_state grant fits short here is true e = e
      by_state grant fits short here is false e = absurd (never grant.lifetime (fits.lives e) (short here is e))

      by_each : (grants : List Grant) → Every (IsGrant setups x.setup) grants → Every (Short port.0 label 0 x.setup.port.0) grants → Every (Gone x.setup.port.0) grants
      by_each [] fits short = tt
      by_each (grant ∷ grants) fits short = ((in_range_label x.setup grant.label fits.0.in_range, λ here is. by_state grant fits.0 short.0 here is (is_leaving grant.state) refl), by_each grants fits.1 short.1)

  ports_gone : (setups : List Setup) (ports : List Linked) → Every (IsLinkedPort setups) ports → Every (λ (x : Linked). KShort port label 0 x.setup x.port) ports → Every (λ (x : Linked). Every (Gone x.setup.port.0) x.port.grants) ports
  ports_gone setups [] fits short = tt
  ports_gone setups (x ∷ ports) fits short = (all_gone setups x fits.0 short.0, ports_gone setups ports fits.1 short.1)

  starts_gone : (setups : List Setup) (a : Acted) → IsSound setups a.controller → FitsShort port label 0 a → Sent a.controller.queue → FitsGone a
  starts_gone setups a s h sent = record { ports = ports_gone setups a.controller.ports s.ports.each h.ports; queue = sent }

  pub input_sent : (setups : List Setup) (a : Acted) (input : Input) → IsSound setups a.controller → FitsShort port label 0 a → IsConduct input → NotSet a port label input → stays_queued input a.controller.queue ≡ before → Sent (takes_input a input).controller.queue
  input_sent setups a (CellComes cell) s h conduct unset is = (cell_comes_fits port label Gone Sent gone_fate default_sent grant_sent a cell unset (starts_gone setups a s h (at_first a.controller.queue is))).queue
    where
      at_first : (queue : List Cell) → queue ≡ before → Sent queue
      at_first queue is = record { sent = []; joined = is ∙ sym (append-nil before); others = tt }
  input_sent setups a (PacketEnters number octets) s h conduct unset is = (enters_fits port label Gone Sent gone_fate default_sent grant_sent a number octets (starts_gone setups a s h (record { sent = []; joined = is ∙ sym (append-nil before); others = tt }))).queue
  input_sent setups a Ticks s h conduct unset is = (ticks_fits port label Gone Sent gone_fate default_sent grant_sent a (starts_gone setups a s h (record { sent = []; joined = is ∙ sym (append-nil before); others = tt }))).queue
  input_sent setups a Restarts s h conduct unset is = (restarts_fits port label Gone Sent gone_fate default_sent grant_sent a (starts_gone setups a s h (record { sent = []; joined = is ∙ sym (append-nil before); others = tt }))).queue
  input_sent setups a (ChangeComes change) s h conduct unset is = (changes_fits port label Gone Sent gone_fate default_sent grant_sent a change (starts_gone setups a s h (record { sent = []; joined = is ∙ sym (append-nil before); others = tt }))).queue
  input_sent setups a (FrameIsForged channel mark payload) s h conduct unset is = absurd conduct
  input_sent setups a CellLeaves s h conduct unset is = record { sent = []; joined = is ∙ sym (append-nil before); others = tt }
  input_sent setups a (Meanwhile notes numbers) s h conduct unset is = record { sent = []; joined = is ∙ sym (append-nil before); others = tt }

-- a label whose lifetime was set is one
set_label : (setups : List Setup) (a : Acted) (input : Input) (port : PortNo) (label lifetime : ℕ) → IsSound setups a.controller → Sets a input port label lifetime → is_label_number label ≡ true
set_label setups a input port label lifetime s sets = in_range_label sets.linked.setup label (by_accept (acceptance sets.linked.setup sets.linked.port.grants sets.channel sets.flow) refl sets.accepted)
  where
    fits : IsPort setups sets.linked.setup sets.linked.port
    fits = found_port setups a sets.linked (port_on sets.heard.cell.header.channel) (has_ports setups a s) (taker_belongs a.controller sets.heard.cell.header.channel (ForDefault sets.linked) sets.heard.channel)

    by_accept : (acc : Acceptance) → acceptance sets.linked.setup sets.linked.port.grants sets.channel sets.flow ≡ acc → Accepts a.controller label acc → is_in_range sets.linked.setup label ≡ true
    by_accept (New new) e (anew room) = accepted_new sets.linked.setup sets.linked.port.grants sets.flow (label_number_of sets.channel) label e
    by_accept (Refreshed old) e (again grant is) = subst (λ k. is_in_range sets.linked.setup k ≡ true) is
        (accepted_again (IsGrant setups sets.linked.setup) sets.linked.setup sets.linked.port.grants sets.flow (label_number_of sets.channel) grant fits.grants e).in_range
    by_accept OutOfRange e none = elim none [ ]
    by_accept TakenBy e none = elim none [ ]
    by_accept IsLeaving e none = elim none [ ]
    by_accept GrantsFull e none = elim none [ ]

pub sends_no_more : SendsNoMore
sends_no_more o port label lifetime a ticks is counted passed input conduct unset =
    input_sent port label (set_label (setups_by o) (takes_inputs (opened_by o) counted.before) counted.setting port label lifetime (always_sound o counted.before is.differ) counted.sets)
    (stays_queued input a.controller.queue) (setups_by o) a input (counted_sound o port label lifetime a ticks is counted) (none_left o port label lifetime a ticks is counted passed) conduct unset refl
