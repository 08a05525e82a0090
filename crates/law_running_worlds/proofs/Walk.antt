-- what a controller does keeps the widths of its numbers, and each frame that it makes is a packet's or a message's: the
-- smallest things that are done

use Rattle.std.proofs.Common.{◌≡◌, ℕ, ◌<◌, List, [], ◌∷◌, Some, refl, sym, ap, subst, arith, fold}
use Rattle.std.specs.Prelude.{◌^◌}
use Rattle.law_branch_shapes.specs.world_model.Words.{Channel, End, PortNo, Mark, Addr, next_control, with_control, ifmp_packet_of, default_payload, InRange, FitsMessage, FitsRows, Frame, Record, at, Desk, Setup, Work, Linked, port_key, linked_at, default_channel, default_home, sends_control, says_gsmp, says_ifmp, withdraws_input, begins, with_work, cuts_label, resets_gsmp, node_resets, Side, Party, IsLinkPort}
use Rattle.law_branch_shapes.specs.world_model.ifmp_wire.declared.message.Message.{Message as IfmpMessage}
use Rattle.law_branch_shapes.specs.world_model.ifmp_wire.Message.{octets_of as ifmp_octets}
use Rattle.law_branch_shapes.specs.world_model.gsmp_wire.Layout.{octets_of as gsmp_octets}
use Rattle.law_branch_shapes.specs.world_model.gsmp_wire.declared.message.Message.{Message}
use Rattle.law_frame_readings.specs.ordered_lists.Ordered.{Every}
use Rattle.law_frame_readings.specs.law_port_facts.Port.{setup_port, IsRanged}
use Rattle.law_frame_readings.proofs.law_port_facts.Keyed.{at_key, at_every, put_every}
use Rattle.law_frame_readings.specs.law_port_widths.Widths.{FitsSetup, FitsWork}
use Rattle.law_branch_shapes.specs.world_model.Controller.{Acted, note}
use Rattle.law_branch_shapes.specs.world_model.Sending.{sends}
use Rattle.law_frame_readings.specs.law_controller_facts.Sound.{IsSound}
use Rattle.law_frame_readings.specs.law_controller_facts.Said.{HasFlowsAt, HasFlowingPorts, IsAtWork}
use Rattle.law_frame_readings.proofs.law_controller_facts.Moves.{Move, noting, taking_notes, sending, sending_control, asking, withdrawing, answering, meeting, ending_meeting, turning, placing, clearing, gathering, chaining, routing, popping, Moves, stays as rests, moves_to, further, moves_keep, moves_ports, HasPorts, found_setup, begun}
use Rattle.law_frame_readings.proofs.law_controller_facts.Performing.{cuts_label_goes, node_resets_goes}
use Rattle.law_frame_readings.proofs.law_controller_facts.Laws.{has_ports, moves_sound}
use Rattle.law_frame_readings.proofs.law_controller_facts.Flows.{moves_flow}
use Rattle.law_frame_readings.proofs.law_controller_facts.Numbers.{moves_never_fall}
use Rattle.law_frame_readings.proofs.law_controller_views.Sends.{sent_cases}
use Rattle.law_frame_readings.proofs.law_controller_lifts.Kept.{Of, Each, Goes, cuts_goes, node_resets_goes as node_keeps}
use Rattle.law_frame_readings.proofs.law_controller_lifts.Ready.{Fits, fits_closed}
use Rattle.law_frame_readings.proofs.law_controller_lifts.Unspent.{Unspent, unspent_closed}
use Rattle.law_frame_readings.specs.law_world_views.Made.{IsMadeAs, told, said, AreMade}
use Rattle.law_frame_readings.specs.law_world_views.Ready.{FitsSide}
use Rattle.law_running_worlds.proofs.Making.{made_more}
use Rattle.law_input_events.proofs.law_input_premises.Written.{IsWritten}
use Rattle.law_running_worlds.proofs.Still.{IsStill, cuts_still, node_still}

-- *Its address* stays
module _ (setups : List Setup) (k : Addr) where
  abbrev Has : Acted → Type 0
  Has a = a.controller.address ≡ k

  move_address : (a b : Acted) → Move setups a b → Has a → Has b
  move_address a b (noting x item) h = h
  move_address a b (taking_notes x notes) h = h
  move_address a b (sending x channel mark payload) h = sent_cases Has x channel mark payload h h
  move_address a b (sending_control x channel payload) h = sent_cases Has (record x { numbers = with_control x.numbers }) channel (next_control x.numbers) payload h h
  move_address a b (asking x request estab room shaped) h = h
  move_address a b (withdrawing x input) h = h
  move_address a b (answering x answer) h = h
  move_address a b (meeting x) h = h
  move_address a b (ending_meeting x estab) h = h
  move_address a b (turning x step turn) h = h
  move_address a b (placing x linked w found worked) h = h
  move_address a b (clearing x linked found may) h = h
  move_address a b (gathering x r) h = h
  move_address a b (chaining x linked after found same port) h = h
  move_address a b (routing x table waiting is_begun changes) h = h
  move_address a b (popping x queue) h = h

  pub moves_address : (a b : Acted) → Moves setups a b → Has a → Has b
  moves_address a b m h = moves_keep setups Has move_address (λ x e. e) m h

module _ (setups : List Setup) where
  -- *What all moves keep*
  pub record Base (a : Acted) : Type 0 where
    pub sound : IsSound setups a.controller
    pub flows : HasFlowingPorts setups a.controller
    pub ranged : Every IsRanged setups
    pub links : Every (λ (setup : Setup). IsLinkPort setup.port) setups
    pub address : a.controller.address.0 < 2 ^ 32

  pub base_moves : (a b : Acted) → Moves setups a b → Base a → Base b
  base_moves a b m h = record {
    sound = moves_sound setups a b m h.sound;
    flows = moves_flow setups a b m h.flows;
    ranged = h.ranged;
    links = h.links;
    address = subst (λ (x : Addr). x.0 < 2 ^ 32) (sym (moves_address setups a.controller.address a b m refl)) h.address;
  }

  -- *What is kept where all that is heard fits*
  pub record Carried (a : Acted) : Type 0 where
    pub wide : Each Fits a
    pub rows : FitsRows a.controller.desk.rows
    pub side : FitsSide a.controller.adjacency
    pub made : AreMade a.notes.frames

  -- one controller leads to another, where the instances given out fit; and its ports' numbers stay unspent
  pub record Loose (a b : Acted) : Type 0 where
    pub moves : Moves setups a b
    pub carried : b.numbers.instances < 2 ^ 32 → Base a → Carried a → Carried b

  pub record To (a b : Acted) : Type 0 where
    pub moves : Moves setups a b
    pub carried : b.numbers.instances < 2 ^ 32 → Base a → Carried a → Carried b
    pub unspent : b.numbers.instances < 2 ^ 32 → IsSound setups a.controller → Each Unspent a → Each Unspent b

  pub loosely : {a b : Acted} → To a b → Loose a b
  loosely h = record { moves = h.moves; carried = h.carried }

  pub stays : (a : Acted) → To a a
  stays a = record { moves = rests a; carried = λ small base c. c; unspent = λ small sound u. u }

  pub fewer : (b c : Acted) → Moves setups b c → c.numbers.instances < 2 ^ 32 → b.numbers.instances < 2 ^ 32
  fewer b c m small = omega (arith, small, (moves_never_fall setups b c m).instances)

  pub goes_on : {a b c : Acted} → HasPorts setups a → To a b → (HasPorts setups b → To b c) → To a c
  goes_on {a} {b} {c} h m n =
      let k : To b c = n (moves_ports setups m.moves h) in
      record {
        moves = further m.moves k.moves;
        carried = λ small base x. k.carried small (base_moves a b m.moves base) (m.carried (fewer b c k.moves small) base x);
        unspent = λ small sound u. k.unspent small (moves_sound setups a b m.moves sound) (m.unspent (fewer b c k.moves small) sound u);
      }

  pub goes_loose : {a b c : Acted} → HasPorts setups a → Loose a b → (HasPorts setups b → Loose b c) → Loose a c
  goes_loose {a} {b} {c} h m n =
      let k : Loose b c = n (moves_ports setups m.moves h) in
      record {
        moves = further m.moves k.moves;
        carried = λ small base x. k.carried small (base_moves a b m.moves base) (m.carried (fewer b c k.moves small) base x);
      }

  pub to_fold : {A : Type 0} (Q : A → Type 0) (f : Acted → A → Acted) → ((a : Acted) (x : A) → HasPorts setups a → Q x → To a (f a x)) → (xs : List A) → Every Q xs
      → (a : Acted) → HasPorts setups a → To a (fold f a xs)
  to_fold Q f each [] all a h = stays a
  to_fold Q f each (x ∷ xs) all a h = goes_on h (each a x h all.0) (λ k. to_fold Q f each xs all.1 (f a x) k)

  pub loose_fold : {A : Type 0} (f : Acted → A → Acted) → ((a : Acted) (x : A) → HasPorts setups a → Loose a (f a x)) → (xs : List A) → (a : Acted) → HasPorts setups a → Loose a (fold f a xs)
  loose_fold f each [] a h = loosely (stays a)
  loose_fold f each (x ∷ xs) a h = goes_loose h (each a x h) (λ k. loose_fold f each xs (f a x) k)

  -- *Nothing is sent*
  pub still_carried : (a b : Acted) → b.controller.adjacency ≡ a.controller.adjacency → b.controller.desk.rows ≡ a.controller.desk.rows → b.notes.frames ≡ a.notes.frames → Each Fits b → Carried a → Carried b
  still_carried a b side rows frames wide c = record {
    wide = wide;
    rows = subst FitsRows (sym rows) c.rows;
    side = subst (λ (x : Side Party). FitsSide x) (sym side) c.side;
    made = subst (λ (x : List Frame). AreMade x) (sym frames) c.made;
  }

  pub still_to : (a b : Acted) → Moves setups a b → IsStill a b → Goes Fits a b → Goes Unspent a b → To a b
  still_to a b moves s g u = record {
    moves = moves;
    carried = λ small base c. still_carried a b s.adjacency (λ i. (s.desk i).rows) s.frames (g.keeps small c.wide) c;
    unspent = λ small sound x. u.keeps small x;
  }

  -- the ports, and how many instances were given out, stay; so do the side, the records of ports and the frames
  pub alike_to : (a b : Acted) → Moves setups a b → b.controller.ports ≡ a.controller.ports → b.controller.adjacency ≡ a.controller.adjacency → b.controller.desk.rows ≡ a.controller.desk.rows
      → b.notes.frames ≡ a.notes.frames → To a b
  alike_to a b moves ports side rows frames = record {
    moves = moves;
    carried = λ small base c. still_carried a b side rows frames (subst (Every (Of Fits)) (sym ports) c.wide) c;
    unspent = λ small sound u. subst (Every (Of Unspent)) (sym ports) u;
  }

  pub note_to : (a : Acted) (item : Record) → To a (note a item)
  note_to a item = alike_to a (note a item) (moves_to (noting a item)) refl refl refl refl

  pub cuts_to : (port : PortNo) (a : Acted) (label : ℕ) → To a (cuts_label port a label)
  cuts_to port a label = still_to a (cuts_label port a label) (cuts_label_goes setups port a label) (cuts_still a label (linked_at a.controller port))
      (cuts_goes Fits fits_closed a port label) (cuts_goes Unspent unspent_closed a port label)

  pub withdraws_to : (a : Acted) (input : End) → To a (withdraws_input a input)
  withdraws_to a input = alike_to a (withdraws_input a input) (moves_to (withdrawing a input)) refl refl refl refl

  -- *Node reset*: the adjacency has the next instance
  pub node_to : (a : Acted) → HasPorts setups a → To a (node_resets a)
  node_to a h = record {
    moves = node_resets_goes setups a h;
    carried = λ small base c. record {
      wide = (node_keeps Fits fits_closed a).keeps small c.wide;
      rows = subst FitsRows (sym (ap (λ (d : Desk). d.rows) (node_still a).desk)) c.rows;
      side = subst (λ (x : Side Party). FitsSide x) (sym (node_still a).adjacency) (fresh small c);
      made = subst (λ (x : List Frame). AreMade x) (sym (node_still a).frames) c.made;
    };
    unspent = λ small sound u. (node_keeps Unspent unspent_closed a).keeps small u;
  }
    where
      fresh : (node_resets a).numbers.instances < 2 ^ 32 → Carried a → FitsSide (resets_gsmp a).controller.adjacency
      fresh small c = record {
        own = record { name = λ i z less. c.side.own.name i z less; name_length = c.side.own.name_length; port = c.side.own.port; instance = omega (arith, small, (node_still a).instances) };
        stored = tt;
      }

  -- *A frame is made*
  pub sends_to : (a : Acted) (channel : Channel) (mark : Mark) (payload : List ℕ) → (Base a → Carried a → IsMadeAs mark payload) → To a (sends a channel mark payload)
  sends_to a channel mark payload it = record {
    moves = moves_to (sending a channel mark payload);
    carried = λ small base c. (let all = made_more a.notes.frames mark payload c.made (it base c) in
        sent_cases Carried a channel mark payload (record { wide = c.wide; rows = c.rows; side = c.side; made = all }) (record { wide = c.wide; rows = c.rows; side = c.side; made = all }));
    unspent = λ small sound u. sent_cases (Each Unspent) a channel mark payload u u;
  }

  pub control_to : (a : Acted) (channel : Channel) (payload : List ℕ) → (Base a → Carried a → IsMadeAs (next_control a.numbers) payload) → To a (sends_control a channel payload)
  control_to a channel payload it =
      let b : Acted = record a { numbers = with_control a.numbers } in
      let mark : Mark = next_control a.numbers in
      record {
        moves = moves_to (sending_control a channel payload);
        carried = λ small base c. (let all = made_more a.notes.frames mark payload c.made (it base c) in
            sent_cases Carried b channel mark payload (record { wide = c.wide; rows = c.rows; side = c.side; made = all }) (record { wide = c.wide; rows = c.rows; side = c.side; made = all }));
        unspent = λ small sound u. sent_cases (Each Unspent) b channel mark payload u u;
      }

  pub says_gsmp_to : (a : Acted) (message : Message) → (Base a → Carried a → IsWritten message) → To a (says_gsmp a message)
  says_gsmp_to a message it = control_to a default_channel (gsmp_octets message) (λ base c. (let w = it base c in said refl message w.0 w.1 refl))

  pub says_ifmp_to : (port : PortNo) (a : Acted) (message : IfmpMessage) → InRange message → FitsMessage message → To a (says_ifmp port a message)
  says_ifmp_to port a message range fits = control_to a (default_home port).channel (default_payload (ifmp_packet_of a.controller.address (ifmp_octets message)))
      (λ base c. told refl a.controller.address message base.address range fits refl)

  -- *A port at work* is put back
  pub worked_carried : (a : Acted) (linked : Linked) (w : Work) → Carried a → FitsSetup linked.setup → FitsWork w → Carried (with_work a linked w)
  worked_carried a linked w c fixed fits = record {
    wide = put_every port_key (Of Fits) (record linked { port = w.port }) a.controller.ports (fixed, fits.port) c.wide;
    rows = c.rows;
    side = c.side;
    made = c.made;
  }

  pub fits_at : (a : Acted) (q : PortNo) (linked : Linked) → Carried a → linked_at a.controller q ≡ Some linked → Fits linked.setup linked.port
  fits_at a q linked c found = at_every port_key (Of Fits) q.0 a.controller.ports linked c.wide found

  pub begins_fit : (a : Acted) (q : PortNo) (linked : Linked) → Carried a → linked_at a.controller q ≡ Some linked → FitsWork (begins a linked)
  begins_fit a q linked c found = record { port = (fits_at a q linked c found).1; said = tt }

  setup_there : (a : Acted) (q : PortNo) (linked : Linked) → IsSound setups a.controller → linked_at a.controller q ≡ Some linked → at setup_port linked.setup.port.0 setups ≡ Some linked.setup
  setup_there a q linked sound found =
      let there : at setup_port q.0 setups ≡ Some linked.setup = found_setup setups a linked q (has_ports setups a sound) found in
      subst (λ (n : ℕ). at setup_port n setups ≡ Some linked.setup) (sym (at_key setup_port q.0 setups linked.setup there)) there

  pub begins_work : (a : Acted) (q : PortNo) (linked : Linked) → Base a → linked_at a.controller q ≡ Some linked → IsAtWork setups linked.setup (begins a linked)
  begins_work a q linked base found = record {
    linked = setup_there a q linked base.sound found;
    ranged = at_every setup_port IsRanged linked.setup.port.0 setups linked.setup base.ranged (setup_there a q linked base.sound found);
    kept = begun setups a linked q (has_ports setups a base.sound) found;
    flows = at_every port_key HasFlowsAt q.0 a.controller.ports linked base.flows found;
    live = refl;
    said = tt;
  }
