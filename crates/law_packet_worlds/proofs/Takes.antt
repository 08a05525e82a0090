-- a controller takes a cell

use Rattle.std.proofs.Common.{◌≡◌, ℕ, ◌==◌, ◌&&◌, Bool, true, false, List, [], ◌∷◌, ◌++◌, Option, None, Some, refl, sym, ◌∙◌, ap, subst, arith, if◌then◌else◌, ◌⊎◌, inl, inr}
use Rattle.std.specs.Prelude.{drop, ◌/◌, ◌%◌, Result, Ok}
use Rattle.std.specs.List.{list_any}
use Rattle.std.proofs.lemmas.Bool.Decides.{nat_tests}
use Rattle.law_arrival_views.specs.world_model.Words.{NodeId, PortNo, Down, Up, Addr, Channel, Mark, number_of_channel, protocol_of, ifmp_packet_of, PacketFault, Cell, FlowId, default_payload, default_unwrapped, unwrapped, EncapsFault, Record, Bad, Loss, Chance, Broken, is_frame, payload_of, has_entry, Journal, noted, packet_refusal, broken, tested, Label, is_bound, label_at, Linked, default_channel, control_protocol, forwards_packet, ForGsmp, ForDefault, ForLabel, port_on, on_link, same_channel, label_holds, ifmp_holds, counted_at, packet_holds, default_holds, frame_holds, last_bound, is_wild, IsTame}
use Rattle.law_arrival_views.specs.world_model.ipv4_packet.Packet.{first_fault}
use Rattle.law_arrival_views.specs.world_model.ifmp_wire.declared.message.Message.{Message}
use Rattle.law_arrival_views.specs.world_model.ifmp_wire.Fields.{decoded as ifmp_decoded}
use Rattle.law_arrival_views.specs.world_model.ifmp_wire.Message.{octets_of as ifmp_octets}
use Rattle.law_arrival_views.specs.world_model.gsmp_wire.Fields.{decoded as gsmp_decoded}
use Rattle.law_arrival_views.specs.world_model.link_model.declared.record.Layer.TheVariants as layers
use Rattle.law_arrival_views.specs.world_model.frame_model.Frame.{passed_test}
use Rattle.law_packet_worlds.proofs.Lists.{none_front, any_back}
use Rattle.law_arrival_views.proofs.law_wire.Packets.{protocol_is}
use Rattle.law_arrival_views.specs.world_model.Controller.{Acted}
use Rattle.law_arrival_views.specs.world_model.Cells.{Taker, opened_frame, after_test, ends_frame}
use Rattle.law_arrival_views.specs.law_controller_views.Lifted.{payload_by}
use Rattle.law_arrival_views.specs.world_model.network_model.declared.link.LinkEnd.{LinkEnd}
use Rattle.law_arrival_views.specs.world_model.Topology.{peer_of}
use Rattle.law_run_facts.specs.law_world_views.Marks.{heading_at, own_end, HasCome, IsNewest, Means, early, control, local, plain, labelled}
use Rattle.law_packet_worlds.proofs.Walk.{Kept, used_kept, counted_kept, ifmp_holds_kept, gsmp_holds_kept}
use Rattle.law_packet_worlds.proofs.Records.{routes_has, opened_has}
use Rattle.law_packet_worlds.proofs.Hops as laws
use Rattle.law_packet_worlds.proofs.Cut.{one}
use Rattle.law_packet_worlds.proofs.Meant.{in_frames}
use Rattle.law_packet_worlds.proofs.Good.{Turn, IsTurn, IsGood, nothing, good_hand}
use Rattle.law_packet_worlds.proofs.Frames.{one_none}
use Rattle.law_packet_worlds.proofs.Headings.{own_is}
use Rattle.law_packet_worlds.proofs.Sends.{now_of, IsReady, good_routes}
use Rattle.law_packet_worlds.proofs.Quietly.{BindsNone, NoBind, push_none, fate_none, AllowsDefault, AreFew, few_kept, both_kept, good_kept, IsQuiet, may_quiet, bind_quiet, IsSilent, may_silent, none_kept}
use Rattle.law_packet_worlds.proofs.Bound.{and_parts}
use Rattle.law_arrival_views.proofs.law_shown_cells.Tested.{last_is}
use Rattle.law_arrival_views.proofs.law_port_facts.Keyed.{on_each}

-- broken frames bind nothing
pub broken_none : (notes : Journal) (marks : List Mark) → BindsNone notes.records → BindsNone (broken notes marks).records
broken_none notes [] h = h
broken_none notes (mark ∷ marks) h =
    on_each (λ (first : Journal). BindsNone (broken first marks).records) (has_entry notes.entries mark) notes (noted notes (Loss mark Broken))
    (λ e. broken_none notes marks h) (λ e. broken_none (noted notes (Loss mark Broken)) marks (push_none notes.records (Loss mark Broken) refl h))

-- *Records grow*
pub record Grows (first records : List Record) : Type 0 where
  pub more : List Record
  pub is : records ≡ first ++ more

append_assoc : (xs ys zs : List Record) → (xs ++ ys) ++ zs ≡ xs ++ (ys ++ zs)
append_assoc [] ys zs = refl
append_assoc (x ∷ xs) ys zs = ap (λ l. x ∷ l) (append_assoc xs ys zs)

append_none : (xs : List Record) → xs ≡ xs ++ []
append_none [] = refl
append_none (x ∷ xs) = ap (λ l. x ∷ l) (append_none xs)

pub opened_grows : (a : Acted) (taker : Taker) (mark : Mark) (o : Option (List ℕ)) → Grows a.notes.records (opened_frame a taker mark o).notes.records
opened_grows a taker mark o =
    opened_has (Grows a.notes.records) (λ item. Unit {0}) (λ item fate bind. tt)
    (λ items item q h. record { more = h.more ++ item ∷ []; is = ap (λ l. l ++ item ∷ []) h.is ∙ append_assoc a.notes.records h.more (item ∷ []) })
    (λ item fate. tt) (λ node port label flow. tt) a taker mark o (record { more = []; is = append_none a.notes.records })

-- *A chain that ended* has a last cell
pub chain_ended : (a : Acted) (taker : Taker) (cells : List Cell) (cell : Cell)
    → ends_frame a taker (cells ++ cell ∷ []) ≡ after_test a taker cell.mark (tested a.notes (cells ++ cell ∷ []))
chain_ended a taker [] cell = refl
chain_ended a taker (first ∷ cells) cell =
    ap (λ (mark : Mark). after_test a taker mark (tested a.notes (first ∷ cells ++ cell ∷ []))) (last_is (first ∷ cells) cell)

-- and one that passes and leaves no chance is what was made
pub fair : (notes : Journal) (mark : Mark) (payload : List ℕ) (records : List Record) → Grows (passed_test notes mark payload).records records → IsTame records → is_frame notes.frames mark payload ≡ true
fair notes mark payload records grows tame =
    let first : list_any is_wild (passed_test notes mark payload).records ≡ false =
    none_front is_wild (passed_test notes mark payload).records grows.more (subst (λ (items : List Record). list_any is_wild items ≡ false) grows.is tame) in
    elim (is_frame notes.frames mark payload) as (λ b. list_any is_wild (if b then notes else noted notes (Chance mark)).records ≡ false → b ≡ true) [
      | true ↦ λ e. refl
      | false ↦ λ e. (let clash : false ≡ true = sym e ∙ any_back is_wild notes.records (Chance mark ∷ []) refl in absurd (cc clash))
    ] first

-- *What is known of the labels of a controller*: the flow of one that is bound is the one bound last
abbrev pub HasLabels : Turn → NodeId → Linked → Type 0
HasLabels t node linked = (number : ℕ) (label : Label) → label_at linked.port number ≡ Some label → is_bound label.state ≡ true
    → last_bound t.base.records (record { node = node; port = linked.setup.port }) number ≡ Some label.flow

-- *What an event leaves*: a good world, and no label was bound, or cells were put on default channels alone
pub record Leaves (t : Turn) (P : Cell → Type 0) (a : Acted) : Type 0 where
  pub good : IsGood t nothing (now_of a)
  pub binds : BindsNone a.notes.records ⊎ AreFew P a

some_payload : (a b : List ℕ) (o : Option (List ℕ)) → o ≡ Some a → o ≡ Some b → a ≡ b
some_payload a b o e f = let both : Some a ≡ Some b = sym e ∙ f in cc

pub some_flow : (a b : FlowId) (o : Option FlowId) → o ≡ Some a → o ≡ Some b → a ≡ b
some_flow a b o e f = let both : Some a ≡ Some b = sym e ∙ f in cc

not_both : (b : Bool) → b ≡ true → b ≡ false → ⊥
not_both b e f = (let clash : true ≡ false = sym e ∙ f in cc clash)

and_false : (a b : Bool) → b ≡ true → a && b ≡ false → a ≡ false
and_false true b e f = sym e ∙ f
and_false false b e f = refl

module _ (t : Turn) (turn : IsTurn t) (node : NodeId) (here : t.place ≡ Down node) (apart : peer_of t.base.topology node (record { 0 = 0 }) ≡ None) (P : Cell → Type 0) (others : AllowsDefault P) where
  -- the quiet part: with messages and bindings, and without bindings
  abbrev Loud : Acted → Type 0
  Loud a = IsGood t nothing (now_of a) × AreFew P a

  loud_kept : Kept IsQuiet Loud
  loud_kept = both_kept IsQuiet (λ a. IsGood t nothing (now_of a)) (AreFew P) (good_kept t node here apart nothing IsQuiet (λ item q. q)) (few_kept P others IsQuiet)

  abbrev Soft : Acted → Type 0
  Soft a = IsGood t nothing (now_of a) × BindsNone a.notes.records

  soft_kept : Kept IsSilent Soft
  soft_kept = both_kept IsSilent (λ a. IsGood t nothing (now_of a)) (λ a. BindsNone a.notes.records) (good_kept t node here apart nothing IsSilent (λ item q. q.0)) none_kept

  loudly : (a : Acted) → Loud a → Leaves t P a
  loudly a h = record { good = h.0; binds = inr h.1 }

  softly : (a : Acted) → Soft a → Leaves t P a
  softly a h = record { good = h.0; binds = inl h.1 }

  routed_none : (a : Acted) (mark : Mark) (packet : List ℕ) → BindsNone a.notes.records → BindsNone (forwards_packet a mark packet).notes.records
  routed_none a mark packet h = routes_has BindsNone NoBind (λ item fate bind. bind) (λ items item q k. push_none items item q k) fate_none a mark packet h

  -- *A frame that passed, by its channel*
  module _ (a : Acted) (own : a.controller.node ≡ node) (mark : Mark) (payload : List ℕ) (is : payload_of a.notes.frames mark ≡ Some payload)
      (good : IsGood t (one mark.packet) (now_of a)) (none : BindsNone a.notes.records) (few : AreFew P a) where
    idle : mark.packet ≡ 0 → Loud a
    idle zero = (good_hand t (one mark.packet) nothing (now_of a) (λ k some. ap (λ p. one p k) zero ∙ one_none k some) good, few)

    gsmp_leaves : mark.packet ≡ 0 → Leaves t P (frame_holds a ForGsmp mark payload)
    gsmp_leaves zero = loudly (frame_holds a ForGsmp mark payload) (gsmp_holds_kept IsQuiet may_quiet Loud loud_kept bind_quiet a (gsmp_decoded payload) (idle zero))

    -- a packet
    module _ (ready : IsReady t a) where
      stands_here : (packet : List ℕ) (far : LinkEnd) → far.node ≡ node → HasCome (in_frames t.base a.notes.frames) mark.packet far.node packet
          → HasCome (in_frames t.base a.notes.frames) mark.packet a.controller.node packet
      stands_here packet far same come = subst (λ (n : NodeId). HasCome (in_frames t.base a.notes.frames) mark.packet n packet) (same ∙ sym own) come

      plain_leaves : (port : PortNo) (packet : List ℕ) (far : LinkEnd) → far.node ≡ node → default_payload packet ≡ payload → HasCome (in_frames t.base a.notes.frames) mark.packet far.node packet
          → IsNewest a.notes.frames mark → Leaves t P (default_holds a port mark (default_unwrapped payload))
      plain_leaves port packet far same filled come newest =
          let parts = laws.accepted_parts packet come.fit.accepted in
          let opened : default_unwrapped payload ≡ Ok packet = ap default_unwrapped (sym filled) ∙ laws.unwrapped_plain packet in
          let sent : Soft (forwards_packet a mark packet) = (good_routes t turn a mark packet ready (stands_here packet far same come) newest good, routed_none a mark packet none) in
          let counted : Soft (counted_at (forwards_packet a mark packet) port packet) = counted_kept IsSilent may_silent Soft soft_kept (forwards_packet a mark packet) port packet sent in
          subst (λ (r : Result (List ℕ) EncapsFault). Leaves t P (default_holds a port mark r)) (sym opened)
          (subst (λ (o : Option PacketFault). Leaves t P (packet_holds a port mark packet o)) (sym parts.0)
          (subst (λ (b : Bool). Leaves t P (if b then ifmp_holds a port packet (ifmp_decoded (drop 20 packet)) else counted_at (forwards_packet a mark packet) port packet)) (sym parts.1)
          (softly (counted_at (forwards_packet a mark packet) port packet) counted)))

      label_leaves : (linked : Linked) (label : Label) (packet : List ℕ) (far : LinkEnd) → far.node ≡ node → unwrapped label.flow payload ≡ Ok packet
          → HasCome (in_frames t.base a.notes.frames) mark.packet far.node packet → IsNewest a.notes.frames mark → Leaves t P (frame_holds a (ForLabel linked label) mark payload)
      label_leaves linked label packet far same opened come newest =
          let sent : Soft (forwards_packet a mark packet) = (good_routes t turn a mark packet ready (stands_here packet far same come) newest good, routed_none a mark packet none) in
          subst (λ (r : Result (List ℕ) EncapsFault). Leaves t P (label_holds a linked label mark r)) (sym opened)
          (softly (label_holds a linked label mark (Ok packet)) (used_kept IsSilent may_silent Soft soft_kept (forwards_packet a mark packet) linked.setup.port label.number sent))

    -- a message of IFMP
    told_leaves : (port : PortNo) (source : Addr) (message : Message) → payload_by source message ≡ payload → mark.packet ≡ 0 → Leaves t P (default_holds a port mark (default_unwrapped payload))
    told_leaves port source message filled zero =
        let packet : List ℕ = ifmp_packet_of source (ifmp_octets message) in
        let opened : default_unwrapped payload ≡ Ok packet = ap default_unwrapped (sym filled) ∙ laws.unwrapped_plain packet in
        let control_is : (protocol_of packet == control_protocol) ≡ true = ap (λ n. n == control_protocol) (protocol_is source (ifmp_octets message)) in
        subst (λ (r : Result (List ℕ) EncapsFault). Leaves t P (default_holds a port mark r)) (sym opened) (by_fault packet control_is (first_fault packet))
      where
        by_fault : (packet : List ℕ) → (protocol_of packet == control_protocol) ≡ true → (o : Option PacketFault) → Leaves t P (packet_holds a port mark packet o)
        by_fault packet control_is (Some fault) = loudly (packet_holds a port mark packet (Some fault)) (loud_kept.noted a (Bad a.controller.node layers.Packet (packet_refusal fault)) refl (idle zero))
        by_fault packet control_is None =
            subst (λ (b : Bool). Leaves t P (if b then ifmp_holds a port packet (ifmp_decoded (drop 20 packet)) else counted_at (forwards_packet a mark packet) port packet)) (sym control_is)
            (loudly (ifmp_holds a port packet (ifmp_decoded (drop 20 packet))) (ifmp_holds_kept IsQuiet may_quiet Loud loud_kept bind_quiet a port packet (drop 20 packet) (ifmp_decoded (drop 20 packet)) refl (idle zero)))

    -- what it means decides
    pub holds_default : (channel : Channel) (linked : Linked) → IsReady t a → same_channel channel default_channel ≡ false → same_channel (on_link channel) default_channel ≡ true
        → Means (in_frames t.base a.notes.frames) (heading_at t.base.topology (Up node) channel) true mark → Leaves t P (frame_holds a (ForDefault linked) mark payload)
    holds_default channel linked ready other default (early d e not_zero) = absurd (cc e)
    holds_default channel linked ready other default (control d z source message made_is) =
        told_leaves linked.setup.port source message (some_payload (payload_by source message) payload (payload_of a.notes.frames mark) made_is is) z
    holds_default channel linked ready other default (local d none_there z) = absurd (no_end channel other default none_there)
      where
        no_end : (channel : Channel) → same_channel channel default_channel ≡ false → same_channel (on_link channel) default_channel ≡ true → own_end node (port_on channel) ≡ None → ⊥
        no_end channel other default none_there =
            let parts = and_parts (channel.vpi % 16 == 0) (channel.vci == 15) default in
            let path : (channel.vpi == 0) ≡ false = and_false (channel.vpi == 0) (channel.vci == 15) parts.1 other in
            let rest : channel.vpi % 16 ≡ 0 = grind (arith, nat_tests, parts.0) in
            let some : (channel.vpi / 16 == 0) ≡ false = grind (arith, nat_tests, path, rest) in
            let there : own_end node (port_on channel) ≡ Some (record { node = node; port = port_on channel }) = ap (λ (b : Bool). if b then None else Some (record { node = node; port = port_on channel })) some in
            let clash : None ≡ Some (record { node = node; port = port_on channel }) = sym none_there ∙ there in
            cc clash
    holds_default channel linked ready other default (plain d e far led packet made_is come newest) =
        plain_leaves ready linked.setup.port packet far (ap (λ (f : LinkEnd). f.node) (sym (own_is node (port_on channel) far led)))
        (some_payload (default_payload packet) payload (payload_of a.notes.frames mark) made_is is) come newest
    holds_default channel linked ready other default (labelled d far led flow bound kept packet made_is carried come newest) = absurd (not_both _ default d)

    pub holds_label : (channel : Channel) (linked : Linked) (label : Label) → IsReady t a → same_channel (on_link channel) default_channel ≡ false
        → last_bound t.base.records (record { node = node; port = port_on channel }) (number_of_channel (on_link channel)) ≡ Some label.flow
        → Means (in_frames t.base a.notes.frames) (heading_at t.base.topology (Up node) channel) true mark → Leaves t P (frame_holds a (ForLabel linked label) mark payload)
    holds_label channel linked label ready other bound_is (early d e not_zero) = absurd (cc e)
    holds_label channel linked label ready other bound_is (control d z source message made_is) = absurd (not_both _ d other)
    holds_label channel linked label ready other bound_is (local d none_there z) = absurd (not_both _ d other)
    holds_label channel linked label ready other bound_is (plain d e far led packet made_is come newest) = absurd (not_both _ d other)
    holds_label channel linked label ready other bound_is (labelled d far led flow bound kept packet made_is carried come newest) =
        let there : record { node = node; port = port_on channel } ≡ far = own_is node (port_on channel) far led in
        let same : flow ≡ label.flow = some_flow flow label.flow (last_bound t.base.records far (number_of_channel (on_link channel))) bound
        (ap (λ (f : LinkEnd). last_bound t.base.records f (number_of_channel (on_link channel))) (sym there) ∙ bound_is) in
        let filled : kept ≡ payload = some_payload kept payload (payload_of a.notes.frames mark) made_is is in
        label_leaves ready linked label packet far (ap (λ (f : LinkEnd). f.node) (sym there))
        (ap (λ (f : FlowId). unwrapped f payload) (sym same) ∙ (ap (unwrapped flow) (sym filled) ∙ laws.opens flow packet kept carried)) come (newest refl)

    pub holds_gsmp : (channel : Channel) → same_channel channel default_channel ≡ true → Means (in_frames t.base a.notes.frames) (heading_at t.base.topology (Up node) channel) true mark
        → Leaves t P (frame_holds a ForGsmp mark payload)
    holds_gsmp channel own_channel (early d e not_zero) = absurd (cc e)
    holds_gsmp channel own_channel (control d z source message made_is) = gsmp_leaves z
    holds_gsmp channel own_channel (local d none_there z) = gsmp_leaves z
    holds_gsmp channel own_channel (plain d e far led packet made_is come newest) = absurd (no_far channel own_channel far led)
      where
        no_far : (channel : Channel) → same_channel channel default_channel ≡ true → (far : LinkEnd) → own_end node (port_on channel) ≡ Some far → ⊥
        no_far channel own_channel far led =
            let parts = and_parts (channel.vpi == 0) (channel.vci == 15) own_channel in
            let path : channel.vpi ≡ 0 = grind (arith, nat_tests, parts.0) in
            let zero_port : channel.vpi / 16 ≡ 0 = omega (arith, path) in
            let clash : None ≡ Some far = ap (λ (n : ℕ). own_end node (record { 0 = n })) (sym zero_port) ∙ led in
            cc clash
    holds_gsmp channel own_channel (labelled d far led flow bound kept packet made_is carried come newest) =
        (let parts = and_parts (channel.vpi == 0) (channel.vci == 15) own_channel in
        let path : channel.vpi ≡ 0 = grind (arith, nat_tests, parts.0) in
        let zero_path : channel.vpi % 16 ≡ 0 = omega (arith, path) in
        let first : (channel.vpi % 16 == 0) ≡ true = grind (arith, nat_tests, zero_path) in
        let both : same_channel (on_link channel) default_channel ≡ true = rw (first, parts.1) refl in
        absurd (not_both _ both d))
