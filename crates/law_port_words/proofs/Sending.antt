-- what a controller sends and notes in an event: cells for the switch are those of messages of its ports, or of no port's
-- default channel

use Rattle.std.proofs.Common.{◌≡◌, ◌≢◌, ℕ, ◌<◌, ◌≤◌, Bool, true, false, List, [], ◌∷◌, ◌++◌, length, Option, None, Some, refl, sym, ◌∙◌, ap, subst, arith, if◌then◌else◌, fold}
use Rattle.std.specs.Prelude.{◌+◌, ◌*◌, ◌/◌, ◌&&◌, nat_eq, Contains}
use Rattle.std.specs.Option.{option_or}
use Rattle.std.specs.List.{range_with_len}
use Rattle.std.proofs.lemmas.Bool.Decides.{nat_tests}
use Rattle.std.proofs.lemmas.List.Elements.{Contains-append_left}
use Rattle.law_controller_bindings.specs.world_model.Words.{PortNo, NodeId, Channel, Mark, Instance, next_control, with_control, label_channel_of, Cell, FlowId, Redirect, Frame, Record, Delivered, Dropped, Refused, Loss, Chance, Forged, Bad, Opened, Closed, Bind, Free, Part, Routes, PoolFull, payload_of, Journal, noted, frame_cells, cut, nothing_taken, Linked, port_key, linked_at, with_linked, chain_of, chains_with, default_channel, default_home, same_channel, sends_control, says_gsmp, says_ifmp, cuts_of, cuts_label, cuts_default_of, cuts_default, last_bound, bound_by}
use Rattle.law_lifetimes.specs.aal5_frames.Frame.{cell_of, cells_with, pdu_of}
use Rattle.law_controller_bindings.specs.world_model.gsmp_wire.Layout.{octets_of as gsmp_octets}
use Rattle.law_controller_bindings.specs.world_model.gsmp_wire.declared.message.Message.{Message as GsmpMessage}
use Rattle.law_controller_bindings.specs.world_model.ifmp_wire.declared.message.Message.{Message as IfmpMessage}
use Rattle.law_controller_bindings.specs.world_model.ifmp_wire.declared.message.Message.TheVariants as ifmp
use Rattle.law_controller_bindings.specs.world_model.link_model.declared.record.Record.TheVariants.{Join}
use Rattle.law_controller_bindings.specs.ordered_lists.Ordered.{Every}
use Rattle.law_controller_bindings.proofs.ordered_lists.Every.{every_join, every_map, every_mapped, every_all}
use Rattle.law_controller_bindings.proofs.law_port_facts.Keyed.{at_every, put_every, every_more}
use Rattle.law_controller_bindings.specs.world_model.Controller.{Acted, note}
use Rattle.law_controller_bindings.specs.world_model.Sending.{sends}
use Rattle.law_controller_bindings.specs.Bindings.{site}
use Rattle.law_controller_bindings.proofs.Lasts.{BindNothing, Grows, cut_grows}
use Rattle.law_world_views.specs.law_controller_views.Lifted.{payload_by}
use Rattle.law_world_views.proofs.law_controller_views.Sends.{sent_cases}
use Rattle.law_world_views.proofs.law_shown_cells.Made.{made_is, made_elsewhere}
use Rattle.law_world_views.proofs.law_shown_cells.Tested.{cut_frames}
use Rattle.law_port_words.specs.Words.{Terms, DisownsNone, IsMade, of_gsmp, of_port, IsOfHeld, IsWord, IsFrameOf, IsSent, waited, of_packet, away, said, bound, IsNoted, IsSteadyAt, IsSteadily}

-- *What is noted and binds nothing*
nat_same : (n : ℕ) → nat_eq n n ≡ true
nat_same n = grind (arith, nat_tests)

or_some : (o : Option FlowId) (flow : FlowId) → option_or o (Some flow) ≡ None → ⊥
or_some None flow e = absurd (cc e)
or_some (Some x) flow e = absurd (cc e)

or_first : (o p : Option FlowId) → option_or o p ≡ None → o ≡ None
or_first None p e = refl
or_first (Some x) p e = absurd (cc e)

own_bound : (node : NodeId) (port : PortNo) (label : ℕ) (flow : FlowId) → bound_by (site node port) label (Bind node port label flow) ≡ Some flow
own_bound node port label flow = ap (λ (b : Bool). if b then Some flow else None)
    (ap (λ (b : Bool). b && (nat_eq port.0 port.0 && nat_eq label label)) (nat_same node.0) ∙ ap (λ (b : Bool). b && nat_eq label label) (nat_same port.0) ∙ nat_same label)

quiet_head : (node : NodeId) (port : PortNo) (label : ℕ) (flow : FlowId) (items : List Record) → BindNothing (Bind node port label flow ∷ items) → ⊥
quiet_head node port label flow items quiet = or_some (last_bound items (site node port) label) flow (subst (λ o. option_or (last_bound items (site node port) label) o ≡ None) (own_bound node port label flow) (quiet (site node port) label))

module _ (t : Terms) where
  quiet_noted : (items : List Record) → BindNothing items → Every (IsNoted t) items
  quiet_noted [] quiet = tt
  quiet_noted (Bind node port label flow ∷ items) quiet = absurd (quiet_head node port label flow items quiet)
  quiet_noted (Delivered node packet octets ∷ items) quiet = (tt, quiet_noted items (λ end label. or_first _ _ (quiet end label)))
  quiet_noted (Dropped node packet cause ∷ items) quiet = (tt, quiet_noted items (λ end label. or_first _ _ (quiet end label)))
  quiet_noted (Refused node packet name ∷ items) quiet = (tt, quiet_noted items (λ end label. or_first _ _ (quiet end label)))
  quiet_noted (Loss mark cause ∷ items) quiet = (tt, quiet_noted items (λ end label. or_first _ _ (quiet end label)))
  quiet_noted (Chance mark ∷ items) quiet = (tt, quiet_noted items (λ end label. or_first _ _ (quiet end label)))
  quiet_noted (Forged place ∷ items) quiet = (tt, quiet_noted items (λ end label. or_first _ _ (quiet end label)))
  quiet_noted (Bad node layer name ∷ items) quiet = (tt, quiet_noted items (λ end label. or_first _ _ (quiet end label)))
  quiet_noted (Opened node port ∷ items) quiet = (tt, quiet_noted items (λ end label. or_first _ _ (quiet end label)))
  quiet_noted (Closed node port ∷ items) quiet = (tt, quiet_noted items (λ end label. or_first _ _ (quiet end label)))
  quiet_noted (Free node port label ∷ items) quiet = (tt, quiet_noted items (λ end label. or_first _ _ (quiet end label)))
  quiet_noted (Join node port label to_port to_label ∷ items) quiet = (tt, quiet_noted items (λ end label. or_first _ _ (quiet end label)))
  quiet_noted (Part node port label ∷ items) quiet = (tt, quiet_noted items (λ end label. or_first _ _ (quiet end label)))
  quiet_noted (Routes node number ∷ items) quiet = (tt, quiet_noted items (λ end label. or_first _ _ (quiet end label)))

  -- *A cell that was sent stays so*, while records are noted and frames are made
  frame_later : (frames later : List Frame) (controls more : ℕ) (cell : Cell) (port : PortNo) (message : IfmpMessage) → controls ≤ more
      → ((mark : Mark) (payload : List ℕ) → mark.packet ≡ 0 → mark.frame ≤ controls → payload_of frames mark ≡ Some payload → payload_of later mark ≡ Some payload)
      → IsFrameOf t frames controls cell port message → IsFrameOf t later more cell port message
  frame_later frames later controls more cell port message less kept f = record {
    channel = f.channel;
    control = f.control;
    drawn = omega (arith, less, f.drawn);
    made = kept cell.mark _ f.control f.drawn f.made;
  }

  sent_later : (records now : List Record) (frames later : List Frame) (controls more : ℕ) (cell : Cell) → ((item : Record) → Contains records item → Contains now item) → controls ≤ more
      → ((mark : Mark) (payload : List ℕ) → mark.packet ≡ 0 → mark.frame ≤ controls → payload_of frames mark ≡ Some payload → payload_of later mark ≡ Some payload)
      → IsSent t records frames controls cell → IsSent t now later more cell
  sent_later records now frames later controls more cell grows less kept (waited w) = waited w
  sent_later records now frames later controls more cell grows less kept (of_packet n) = of_packet n
  sent_later records now frames later controls more cell grows less kept (away a) = away a
  sent_later records now frames later controls more cell grows less kept (said port message f word) = said port message (frame_later frames later controls more cell port message less kept f) word
  sent_later records now frames later controls more cell grows less kept (bound port sender peer number lifetime label flow f own has) =
      bound port sender peer number lifetime label flow (frame_later frames later controls more cell port _ less kept f) own (grows (Bind t.node port label flow) has)

  -- *Notes*
  pub notes_h : (a : Acted) (notes : Journal) (more : List Record) → notes.frames ≡ a.notes.frames → notes.records ≡ a.notes.records ++ more → Every (IsNoted t) more
      → IsSteadily t a → IsSteadily t (record a { notes = notes })
  notes_h a notes more frames records noted h = record {
    address = h.address;
    ports = h.ports;
    cells = every_map (IsSent t a.notes.records a.notes.frames a.numbers.controls) (IsSent t notes.records notes.frames a.numbers.controls) a.controller.queue
        (λ cell sent. sent_later a.notes.records notes.records a.notes.frames notes.frames a.numbers.controls a.numbers.controls cell
        (λ item has. subst (λ (rs : List Record). Contains rs item) (sym records) (Contains-append_left a.notes.records more item has)) (omega arith)
        (λ mark payload control drawn e. ap (λ (fs : List Frame). payload_of fs mark) frames ∙ e) sent) h.cells;
    records = subst (Every (IsNoted t)) (sym records) (every_join (IsNoted t) a.notes.records more h.records noted);
    frames = subst (Every (IsMade t.framed t.refused t.address)) (sym frames) h.frames;
  }

  pub note_h : (a : Acted) (item : Record) → IsNoted t item → IsSteadily t a → IsSteadily t (note a item)
  note_h a item noted h = notes_h a _ (item ∷ []) refl refl (noted, tt) h

  pub grows_h : {Here : NodeId → Type 0} (a : Acted) (notes : Journal) → notes.frames ≡ a.notes.frames → Grows Here a.notes.records notes.records → IsSteadily t a → IsSteadily t (record a { notes = notes })
  grows_h a notes frames grows h = notes_h a notes grows.more frames grows.is (quiet_noted grows.more grows.quiet) h

  -- *Frames*: all cells of one are on its channel, under its mark
  frame_all : (P : Cell → Type 0) (channel : Channel) (mark : Mark) (payload : List ℕ) → ((cell : Cell) → cell.header.channel ≡ channel → cell.mark ≡ mark → P cell) → Every P (frame_cells channel mark payload)
  unfolding cells_with
  frame_all P channel mark payload each = every_mapped (cell_of channel mark (pdu_of payload)) P (range_with_len 0 (length (pdu_of payload) / 48))
      (every_all (λ k. P (cell_of channel mark (pdu_of payload) k)) (range_with_len 0 (length (pdu_of payload) / 48)) (λ k. each (cell_of channel mark (pdu_of payload) k) refl refl))

  abbrev pub with_frame : List Frame → Mark → List ℕ → List Frame
  with_frame frames mark payload = frames ++ record { mark = mark; payload = payload } ∷ []

  abbrev MayMake : Mark → List ℕ → Type 0
  MayMake mark payload = IsMade t.framed t.refused t.address (record { mark = mark; payload = payload })

  -- under the next control mark
  pub control_h : (a : Acted) (channel : Channel) (payload : List ℕ) → MayMake (next_control a.numbers) payload
      → ((cell : Cell) → cell.header.channel ≡ channel → cell.mark ≡ next_control a.numbers → IsSent t a.notes.records (with_frame a.notes.frames (next_control a.numbers) payload) (a.numbers.controls + 1) cell)
      → IsSteadily t a → IsSteadily t (sends_control a channel payload)
  control_h a channel payload made new h = sent_cases (IsSteadily t) b channel mark payload
      (record {
        address = h.address;
        ports = h.ports;
        cells = every_join (IsSent t a.notes.records frames (a.numbers.controls + 1)) a.controller.queue (frame_cells channel mark payload) (later a.notes.records (λ item has. has))
            (frame_all (IsSent t a.notes.records frames (a.numbers.controls + 1)) channel mark payload new);
        records = h.records;
        frames = made_all;
      })
      (record {
        address = h.address;
        ports = h.ports;
        cells = later (a.notes.records ++ Loss mark PoolFull ∷ []) (λ item has. Contains-append_left a.notes.records (Loss mark PoolFull ∷ []) item has);
        records = every_join (IsNoted t) a.notes.records (Loss mark PoolFull ∷ []) h.records (tt, tt);
        frames = made_all;
      })
    where
      mark : Mark
      mark = next_control a.numbers

      b : Acted
      b = record a { numbers = with_control a.numbers }

      frames : List Frame
      frames = with_frame a.notes.frames mark payload

      made_all : Every (IsMade t.framed t.refused t.address) frames
      made_all = every_more (IsMade t.framed t.refused t.address) a.notes.frames (record { mark = mark; payload = payload }) h.frames made

      other : (m : Mark) → m.frame ≤ a.numbers.controls → mark ≢ m
      other m drawn e = absurd (omega (arith, drawn, ap (λ (x : Mark). x.frame) e))

      later : (records : List Record) → ((item : Record) → Contains a.notes.records item → Contains records item) → Every (IsSent t records frames (a.numbers.controls + 1)) a.controller.queue
      later records grows = every_map (IsSent t a.notes.records a.notes.frames a.numbers.controls) (IsSent t records frames (a.numbers.controls + 1)) a.controller.queue
          (λ cell sent. sent_later a.notes.records records a.notes.frames frames a.numbers.controls (a.numbers.controls + 1) cell grows (omega arith)
          (λ m p control drawn e. made_elsewhere a.notes.frames mark m payload (other m drawn) ∙ e) sent) h.cells

  -- a packet's
  pub packet_h : (a : Acted) (channel : Channel) (mark : Mark) (payload : List ℕ) → mark.packet ≢ 0 → MayMake mark payload → IsSteadily t a → IsSteadily t (sends a channel mark payload)
  packet_h a channel mark payload packet made h = sent_cases (IsSteadily t) a channel mark payload
      (record {
        address = h.address;
        ports = h.ports;
        cells = every_join (IsSent t a.notes.records frames a.numbers.controls) a.controller.queue (frame_cells channel mark payload) (later a.notes.records (λ item has. has))
            (frame_all (IsSent t a.notes.records frames a.numbers.controls) channel mark payload (λ cell on under. of_packet (λ e. packet (ap (λ (m : Mark). m.packet) (sym under) ∙ e))));
        records = h.records;
        frames = made_all;
      })
      (record {
        address = h.address;
        ports = h.ports;
        cells = later (a.notes.records ++ Loss mark PoolFull ∷ []) (λ item has. Contains-append_left a.notes.records (Loss mark PoolFull ∷ []) item has);
        records = every_join (IsNoted t) a.notes.records (Loss mark PoolFull ∷ []) h.records (tt, tt);
        frames = made_all;
      })
    where
      frames : List Frame
      frames = with_frame a.notes.frames mark payload

      made_all : Every (IsMade t.framed t.refused t.address) frames
      made_all = every_more (IsMade t.framed t.refused t.address) a.notes.frames (record { mark = mark; payload = payload }) h.frames made

      later : (records : List Record) → ((item : Record) → Contains a.notes.records item → Contains records item) → Every (IsSent t records frames a.numbers.controls) a.controller.queue
      later records grows = every_map (IsSent t a.notes.records a.notes.frames a.numbers.controls) (IsSent t records frames a.numbers.controls) a.controller.queue
          (λ cell sent. sent_later a.notes.records records a.notes.frames frames a.numbers.controls a.numbers.controls cell grows (omega arith)
          (λ m p control drawn e. made_elsewhere a.notes.frames mark m payload (λ same. packet (ap (λ (x : Mark). x.packet) same ∙ control)) ∙ e) sent) h.cells

  -- of GSMP
  gsmp_away : (cell : Cell) → cell.header.channel ≡ default_channel → (port : PortNo) → 0 < port.0 → same_channel cell.header.channel (default_home port).channel ≡ false
  gsmp_away cell on port above = ap (λ (c : Channel). same_channel c (default_home port).channel) on ∙ ap (λ b. b && true) (differs port.0 above)
    where
      differs : (n : ℕ) → 0 < n → nat_eq 0 (16 * n + 0) ≡ false
      differs n above = grind (arith, nat_tests, above)

  pub gsmp_h : (a : Acted) (message : GsmpMessage) → IsSteadily t a → IsSteadily t (says_gsmp a message)
  gsmp_h a message h = control_h a default_channel (gsmp_octets message) (of_gsmp message refl) (λ cell on under. away (gsmp_away cell on)) h

  -- of IFMP
  said_frame : (a : Acted) (port : PortNo) (message : IfmpMessage) → IsSteadily t a → (cell : Cell) → cell.header.channel ≡ (default_home port).channel → cell.mark ≡ next_control a.numbers
      → IsFrameOf t (with_frame a.notes.frames (next_control a.numbers) (payload_by a.controller.address message)) (a.numbers.controls + 1) cell port message
  said_frame a port message h cell on under = record {
    channel = on;
    control = ap (λ (m : Mark). m.packet) under;
    drawn = omega (arith, ap (λ (m : Mark). m.frame) under);
    made = ap (payload_of (with_frame a.notes.frames (next_control a.numbers) (payload_by a.controller.address message))) under
        ∙ (made_is a.notes.frames (next_control a.numbers) (payload_by a.controller.address message) ∙ ap (λ (address : _). Some (payload_by address message)) h.address.0);
  }

  disowns_none : (port : PortNo) (message : IfmpMessage) → IsOfHeld t port message → DisownsNone t.refused message
  disowns_none port (ifmp.Error sender peer number code channel) held = held
  disowns_none port (ifmp.Adjacency hello) held = tt
  disowns_none port (ifmp.Redirect sender peer number lifetime channel flow) held = tt
  disowns_none port (ifmp.Reclaim sender peer number channel flow) held = tt
  disowns_none port (ifmp.ReclaimAck sender peer number channel flow) held = tt
  disowns_none port (ifmp.LabelRange sender peer number least greatest) held = tt

  may_say : (a : Acted) (message : IfmpMessage) → DisownsNone t.refused message → IsSteadily t a → MayMake (next_control a.numbers) (payload_by a.controller.address message)
  may_say a message none h = of_port message none (ap (λ (address : _). payload_by address message) h.address.0)

  pub ifmp_h : (a : Acted) (port : PortNo) (message : IfmpMessage) → IsWord t port message → IsSteadily t a → IsSteadily t (says_ifmp port a message)
  ifmp_h a port message word h = control_h a (default_home port).channel (payload_by a.controller.address message) (may_say a message (disowns_none port message word.held) h)
      (λ cell on under. said port message (said_frame a port message h cell on under) word) h

  -- the REDIRECT of a label whose binding was recorded
  pub bound_h : (a : Acted) (port : PortNo) (sender peer : Instance) (number lifetime label : ℕ) (flow : FlowId) → t.told port sender.0 → Contains a.notes.records (Bind t.node port label flow)
      → IsSteadily t a → IsSteadily t (says_ifmp port a (Redirect sender peer number lifetime (label_channel_of label) flow))
  bound_h a port sender peer number lifetime label flow told has h = control_h a (default_home port).channel (payload_by a.controller.address (Redirect sender peer number lifetime (label_channel_of label) flow))
      (may_say a (Redirect sender peer number lifetime (label_channel_of label) flow) tt h)
      (λ cell on under. bound port sender peer number lifetime label flow (said_frame a port (Redirect sender peer number lifetime (label_channel_of label) flow) h cell on under) told has) h

  -- *A port is put in its place*
  pub put_h : (a : Acted) (after : Linked) → IsSteadyAt t after → IsSteadily t a → IsSteadily t (with_linked a after)
  put_h a after k h = record { address = h.address; ports = put_every port_key (IsSteadyAt t) after a.controller.ports k h.ports; cells = h.cells; records = h.records; frames = h.frames }

  pub found_h : (a : Acted) (port : PortNo) (linked : Linked) → linked_at a.controller port ≡ Some linked → IsSteadily t a → IsSteadyAt t linked
  found_h a port linked found h = at_every port_key (IsSteadyAt t) port.0 a.controller.ports linked h.ports found

  pub fold_h : {A : Type 0} (f : Acted → A → Acted) → ((a : Acted) (x : A) → IsSteadily t a → IsSteadily t (f a x)) → (xs : List A) (a : Acted) → IsSteadily t a → IsSteadily t (fold f a xs)
  fold_h f each [] a h = h
  fold_h f each (x ∷ xs) a h = fold_h f each xs (f a x) (each a x h)

  cut_h : (a : Acted) (label : ℕ) (o : Option Linked) → ((linked : Linked) → o ≡ Some linked → IsSteadyAt t linked) → IsSteadily t a → IsSteadily t (cuts_of a label o)
  cut_h a label None there h = h
  cut_h a label (Some linked) there h =
      let notes : Journal = cut a.notes (chain_of linked.chains label) in
      put_h (record a { notes = notes }) (record linked { chains = chains_with linked.chains label nothing_taken }) (there linked refl)
      (grows_h {Here = λ node. ⊥} a notes (cut_frames a.notes (chain_of linked.chains label)) (cut_grows a.notes (chain_of linked.chains label)) h)

  pub cuts_h : (port : PortNo) (a : Acted) (label : ℕ) → IsSteadily t a → IsSteadily t (cuts_label port a label)
  cuts_h port a label h = cut_h a label (linked_at a.controller port) (λ linked found. found_h a port linked found h) h

  cut_default_h : (a : Acted) (o : Option Linked) → ((linked : Linked) → o ≡ Some linked → IsSteadyAt t linked) → IsSteadily t a → IsSteadily t (cuts_default_of a o)
  cut_default_h a None there h = h
  cut_default_h a (Some linked) there h =
      let notes : Journal = cut a.notes linked.reassembly in
      put_h (record a { notes = notes }) (record linked { reassembly = nothing_taken }) ((there linked refl).0, tt)
      (grows_h {Here = λ node. ⊥} a notes (cut_frames a.notes linked.reassembly) (cut_grows a.notes linked.reassembly) h)

  pub cuts_default_h : (a : Acted) (port : PortNo) → IsSteadily t a → IsSteadily t (cuts_default a port)
  cuts_default_h a port h = cut_default_h a (linked_at a.controller port) (λ linked found. found_h a port linked found h) h
