-- what is known of the cells between two ends before and behind an event, and of records

use Rattle.std.proofs.Common.{◌≡◌, ◌≢◌, ℕ, zero, suc, Bool, true, false, List, [], ◌∷◌, ◌++◌, length, Option, None, Some, refl, sym, ◌∙◌, ap, subst, arith, if◌then◌else◌}
use Rattle.std.specs.Prelude.{Contains, ◌&&◌, ◌==◌, slice_get}
use Rattle.std.specs.Option.{option_map, option_map_or, option_and_then, option_or}
use Rattle.std.proofs.lemmas.Bool.Decides.{nat_tests}
use Rattle.world_model.specs.Words.{Place, Down, Up, Out, Mark, label_channel_of, Cell, FlowId, Frame, Record, Bind, payload_of, Controller, Linked, linked_at, default_channel, same_channel, World, Site, site_at, queue_at, queue_in, place_node, linked_end, chain_at, ifmp_of, ifmp_under, Past, frames_of, last_bound, bound_by}
use Rattle.world_model.specs.ifmp_wire.declared.message.Message.{Message}
use Rattle.world_model.specs.link_model.declared.record.Record.TheVariants as kinds
use Rattle.law_frame_readings.specs.ordered_lists.Ordered.{Every}
use Rattle.law_label_line.specs.Cells as lines
use Rattle.law_label_line.specs.Cells.{Role}
use Rattle.world_model.specs.network_model.declared.link.LinkEnd.{LinkEnd}
use Rattle.law_frame_readings.specs.law_port_views.Link.{LinkLabel, other}
use Rattle.law_frame_readings.specs.law_shown_cells.Seen.{Nothing, Unknown, hidden, word, Extends}
use Rattle.law_frame_readings.specs.law_shown_cells.Label.{seen_payload, Where, OnLink, OnControl, ShowsCells, seen, on_label, channel_at}
use Rattle.law_frame_readings.specs.law_world_views.Shown.{end_of, WorldShows}
use Rattle.law_frame_readings.specs.law_world_views.Pairs.{IsLike}
use Rattle.law_frame_readings.specs.law_world_views.Between.{IsWorld, IsLinkLabel}
use Rattle.law_unused_labels.proofs.Seen.{every_contained}
use Rattle.law_told_worlds.proofs.Ways.{OnWay, in_chain, in_up, in_out, in_down}

-- *A frame* that was made under a mark
pub record IsKnown (frames : List Frame) (mark : Mark) : Type 0 where
  pub payload : List ℕ
  pub made : payload_of frames mark ≡ Some payload

-- what a list shows of cells of a default channel is known
module _ (place : Where) (by : Role) (link : LinkLabel) (frames : List Frame) where
  abbrev IsSeen : Cell → Type 0
  IsSeen c = seen place by link frames c ≢ Unknown

  seen_all : (cells : List Cell) (words : List lines.Cell) → ShowsCells place by link frames cells words → Every IsSeen cells
  seen_all [] words shows = tt
  seen_all (cell ∷ cells) words (hidden e more) = ((λ f. cc (sym e ∙ f)), seen_all cells words more)
  seen_all (cell ∷ cells) (w ∷ words) (word e more) = ((λ f. cc (sym e ∙ f)), seen_all cells words more)

  known_in : (cells : List Cell) (words : List lines.Cell) → ShowsCells place by link frames cells words → (c : Cell) → Contains cells c → same_channel c.header.channel (channel_at place default_channel) ≡ true → IsKnown frames c.mark
  known_in cells words shows c has on = by_payload (payload_of frames c.mark) refl
    where
      by_payload : (o : Option (List ℕ)) → payload_of frames c.mark ≡ o → IsKnown frames c.mark
      by_payload None e = absurd (every_contained IsSeen cells c (seen_all cells words shows) has
          (ap (λ (b : Bool). if b then seen_payload by link c.header.last (payload_of frames c.mark) else (if same_channel c.header.channel (channel_at place (label_channel_of link.label)) then on_label by else Nothing)) on
          ∙ ap (seen_payload by link c.header.last) e))
      by_payload (Some payload) e = record { payload = payload; made = e }

module _ (past : Past) (world : IsWorld past) (link : LinkLabel) (of : IsLinkLabel past.topology link) where
  abbrev w : World
  w = past.now

  abbrev s : WorldShows link (IsLike past.now link) past.now (world.labels link of).line
  s = (world.labels link of).shows

  linked_is : (role : Role) → linked_end past.now (end_of role link) ≡ Some (s.net.end role).linked
  linked_is role = ap (λ (o : Option Site). option_and_then (λ (c : Controller). linked_at c (link.port role)) (option_map (λ site. site.controller) o)) (s.found role) ∙ (s.net.end role).found

  in_site : (role : Role) (place : Place) (c : Cell) → place_node place ≡ link.node role → Contains (queue_at past.now place) c → Contains (queue_in (s.end role) place) c
  in_site role place c node has = subst (λ (o : Option Site). Contains (option_map_or (λ site. queue_in site place) o []) c) (ap (site_at past.now) node ∙ s.found role) has

  known_chain : (role : Role) (c : Cell) → Contains (chain_at past.now (end_of role link)) c → IsKnown (frames_of past) c.mark
  known_chain role c has = known_in (OnControl (link.port role)) (other role) link (frames_of past) _ _ (s.net.end role).taken c
      (subst (λ (o : Option Linked). Contains (option_map_or (λ linked. linked.reassembly.chain) o []) c) (linked_is role) has) (world.numbers.taken (end_of role link) c has).0

  known_out : (role : Role) (c : Cell) → Contains (queue_at past.now (Out (link.node role) (link.port role))) c → same_channel c.header.channel default_channel ≡ true → IsKnown (frames_of past) c.mark
  known_out role c has on = known_in OnLink role link (frames_of past) _ _ (s.net.output role) c (in_site role (Out (link.node role) (link.port role)) c refl has) on

  pub known_way : (from to : Role) (c : Cell) → OnWay past.now (end_of from link) (end_of to link) c → IsKnown (frames_of past) c.mark
  known_way from to c (in_chain has) = known_chain to c has
  known_way from to c (in_up has on) = known_in (OnControl (link.port to)) (other to) link (frames_of past) _ _ (s.net.waiting to) c (in_site to (Up (link.node to)) c refl has) on
  known_way from to c (in_out has on) = known_out from c has on
  known_way from to c (in_down has on) = known_in (OnControl (link.port from)) from link (frames_of past) _ _ (s.net.end from).queue c (in_site from (Down (link.node from)) c refl has) on

-- so it says behind an event what it said before
pub said_before : (old new : List Frame) → Extends old new → (mark other : Mark) → mark ≡ other → IsKnown old mark → (message : Message) → ifmp_under new other ≡ Some message → ifmp_under old mark ≡ Some message
said_before old new kept mark other same known message says =
    ap (option_and_then ifmp_of) known.made ∙ (sym (ap (option_and_then ifmp_of) (kept.kept mark known.payload known.made)) ∙ (ap (ifmp_under new) same ∙ says))

-- *Worlds of a past*
pub get_front : {A : Type 0} (xs ys : List A) (k : ℕ) (x : A) → slice_get xs k ≡ Some x → slice_get (xs ++ ys) k ≡ Some x
get_front [] ys k x e = absurd (cc e)
get_front (z ∷ xs) ys zero x e = e
get_front (z ∷ xs) ys (suc k) x e = get_front xs ys k x e

pub get_last : {A : Type 0} (xs : List A) (y : A) (k : ℕ) → length xs ≡ k → slice_get (xs ++ y ∷ []) k ≡ Some y
get_last [] y zero e = refl
get_last [] y (suc k) e = absurd (cc e)
get_last (z ∷ xs) y zero e = absurd (cc e)
get_last (z ∷ xs) y (suc k) e = get_last xs y k (omega (arith, e))

-- *A binding* among records
module _ (end : LinkEnd) (number : ℕ) where
  bound_is : (item : Record) (flow : FlowId) → bound_by end number item ≡ Some flow → item ≡ Bind end.node end.port number flow
  bound_is (kinds.Bind node port vci bound) flow e = by ((node.0 == end.node.0) && ((port.0 == end.port.0) && (vci == number))) refl e
    where
      by : (b : Bool) → ((node.0 == end.node.0) && ((port.0 == end.port.0) && (vci == number))) ≡ b → (if b then Some bound else None) ≡ Some flow → Bind node port vci bound ≡ Bind end.node end.port number flow
      by true t f = (let n : node.0 ≡ end.node.0 = grind (arith, nat_tests, t) in
          let p : port.0 ≡ end.port.0 = grind (arith, nat_tests, t) in
          let k : vci ≡ number = grind (arith, nat_tests, t) in
          let same : bound ≡ flow = cc f in
          ap (λ (x : ℕ). Bind (record { 0 = x }) port vci bound) n ∙ (ap (λ (x : ℕ). Bind end.node (record { 0 = x }) vci bound) p ∙ (ap (λ (x : ℕ). Bind end.node end.port x bound) k ∙ ap (λ (x : FlowId). Bind end.node end.port number x) same)))
      by false t f = absurd (cc f)
  bound_is (kinds.Delivered node packet octets) flow e = absurd (cc e)
  bound_is (kinds.Dropped node packet cause) flow e = absurd (cc e)
  bound_is (kinds.Refused node packet name) flow e = absurd (cc e)
  bound_is (kinds.Loss mark cause) flow e = absurd (cc e)
  bound_is (kinds.Chance mark) flow e = absurd (cc e)
  bound_is (kinds.Forged place) flow e = absurd (cc e)
  bound_is (kinds.Bad node layer name) flow e = absurd (cc e)
  bound_is (kinds.Opened node port) flow e = absurd (cc e)
  bound_is (kinds.Closed node port) flow e = absurd (cc e)
  bound_is (kinds.Free node port label) flow e = absurd (cc e)
  bound_is (kinds.Join node port label to_port to_label) flow e = absurd (cc e)
  bound_is (kinds.Part node port label) flow e = absurd (cc e)
  bound_is (kinds.Routes node count) flow e = absurd (cc e)

  pub last_among : (items : List Record) (flow : FlowId) → last_bound items end number ≡ Some flow → Contains items (Bind end.node end.port number flow)
  last_among [] flow e = absurd (cc e)
  last_among (item ∷ items) flow e = by (last_bound items end number) refl e (last_among items)
    where
      by : (o : Option FlowId) → last_bound items end number ≡ o → option_or o (bound_by end number item) ≡ Some flow → ((f : FlowId) → last_bound items end number ≡ Some f → Contains items (Bind end.node end.port number f))
          → Contains (item ∷ items) (Bind end.node end.port number flow)
      by None is f later = (zero, omega arith, bound_is item flow f)
      by (Some other) is f later = (let h : Contains items (Bind end.node end.port number flow) = later flow (is ∙ f) in (suc h.0, omega (arith, h.1), h.2))

  self_bound : (flow : FlowId) → bound_by end number (Bind end.node end.port number flow) ≡ Some flow
  self_bound flow = (let t : ((end.node.0 == end.node.0) && ((end.port.0 == end.port.0) && (number == number))) ≡ true = grind (arith, nat_tests) in ap (λ (b : Bool). if b then Some flow else None) t)

  -- where one is, some is last
  pub none_among : (items : List Record) (flow : FlowId) → last_bound items end number ≡ None → Contains items (Bind end.node end.port number flow) → ⊥
  none_among [] flow e has = omega (arith, has.1)
  none_among (item ∷ items) flow e (zero, less, is) = by (last_bound items end number) e
    where
      own : bound_by end number item ≡ Some flow
      own = ap (bound_by end number) is ∙ self_bound flow

      by : (o : Option FlowId) → option_or o (bound_by end number item) ≡ None → ⊥
      by None f = cc (sym own ∙ f)
      by (Some other) f = cc f
  none_among (item ∷ items) flow e (suc k, less, is) = none_among items flow (first (last_bound items end number) e) (k, omega (arith, less), is)
    where
      first : (o : Option FlowId) → option_or o (bound_by end number item) ≡ None → o ≡ None
      first None f = refl
      first (Some other) f = absurd (cc f)
